-- The faults of the layers below as the code carries them on, and the numbers of a table by their places.
use Rattle.std.specs.Prelude.{ℕ, List, [], get_or}
use Rattle.st_decimal.specs.declared.number.Dec.{Dec}
use Rattle.st_leaps.specs.declared.fault.LeapFault.{LeapFault}
use Rattle.st_leaps.specs.declared.fault.LeapFault.TheVariants as leap
use Rattle.st_ticks.specs.declared.fault.FaceFault.{FaceFault}
use Rattle.st_ticks.specs.declared.fault.FaceFault.TheVariants as face
use Rattle.st_ticks.specs.declared.variable.ClockVar.{ClockVar}
use Rattle.st_ticks.specs.declared.variable.ClockVar.TheVariants.{DataType, TimeSystem, NFields, Moduli, Offsets, Delim, Start, End, Coefficients}
use Rattle.st_tables.specs.declared.fault.TableFault.{TableFault}
use Rattle.st_tables.specs.declared.fault.TableFault.TheVariants.{Leaps, Clock, OutOfMemory}

-- want of memory is never carried inside another fault
abbrev pub fault_of_leaps : LeapFault → TableFault
fault_of_leaps leap.OutOfMemory = OutOfMemory
fault_of_leaps fault = Leaps fault

abbrev pub fault_of_face : FaceFault → TableFault
fault_of_face (face.Bad fault) = Clock fault
fault_of_face face.OutOfMemory = OutOfMemory

-- the numbers of the variable at a place
abbrev pub list_at : List (List Dec) → ℕ → List Dec
list_at numbers i = get_or numbers i []

abbrev pub place_of : ClockVar → ℕ
place_of DataType = 0
place_of TimeSystem = 1
place_of NFields = 2
place_of Moduli = 3
place_of Offsets = 4
place_of Delim = 5
place_of Start = 6
place_of End = 7
place_of Coefficients = 8

-- the numbers of a clock's variables
abbrev pub clock_numbers : List (List Dec) → ClockVar → List Dec
clock_numbers numbers var = list_at numbers (place_of var)
