-- The tables that the loaded kernels give: each is a table, or the first refusal. It depends on the values of the table's own
-- variables alone.
use Rattle.std.specs.Prelude.{◌≡◌, ℕ, List, ◌++◌, Result, Ok, Err}
use Rattle.st_decimal.specs.declared.number.Dec.{Dec}
use Rattle.st_leaps.specs.Faults.{IsFirstFault}
use Rattle.st_leaps.specs.Numbers.{IsTableOf}
use Rattle.st_leaps.specs.declared.pair.LeapPair.{LeapPair}
use Rattle.st_scales.specs.Constants.{GiveConstants}
use Rattle.st_scales.specs.declared.deltet.Deltet.{Deltet as Constants}
use Rattle.st_rules.specs.Rules.{AreKept, IsFirstBroken}
use Rattle.st_ticks.specs.Variables as face
use Rattle.st_ticks.specs.declared.variable.ClockFault.{ClockFault}
use Rattle.st_ticks.specs.declared.variable.ClockVar.{ClockVar}
use Rattle.st_ticks.specs.declared.variable.ClockVar.TheVariants.{DataType, TimeSystem, NFields, Moduli, Offsets, Delim, Start, End, Coefficients}
use Rattle.st_ticks.specs.declared.variable.Var.{Var}
use Rattle.st_ticks.specs.declared.variable.Var.TheVariants as var
use Rattle.st_clock.specs.Clock as clock
use Rattle.st_clock.specs.Parts as parts
use Rattle.st_tables.specs.declared.fault.TableFault.{TableFault}
use Rattle.st_tables.specs.declared.fault.TableFault.TheVariants.{NoVariable, WrongKind, Leaps, Deltet, Clock, OutOfMemory}
use Rattle.st_tables.specs.Variables.{Loaded, leap_vars, constant_vars, clock_vars, numbers_of, rules_of_all, Keeps}

-- what the loaded kernels give as a table of these variables: the first of them that is absent or of the wrong kind; else what
-- is made of their numbers. Want of memory may come at any time
abbrev pub TableGives : {A : Type 0} → Loaded → List Var → (Result A TableFault → Type 0) → Result A TableFault → Type 0
TableGives loaded vars Made (Err OutOfMemory) = Unit {0}
TableGives loaded vars Made (Err (NoVariable v)) = IsFirstBroken (Keeps loaded) (rules_of_all vars) (NoVariable v)
TableGives loaded vars Made (Err (WrongKind v)) = IsFirstBroken (Keeps loaded) (rules_of_all vars) (WrongKind v)
TableGives loaded vars Made answer = AreKept (Keeps loaded) (rules_of_all vars) × Made answer

-- what is made of the numbers of DELTET/DELTA_AT: the table of leap seconds, or their first fault
abbrev pub LeapsMade : List Dec → Result (List LeapPair) TableFault → Type 0
LeapsMade numbers (Ok pairs) = IsTableOf numbers pairs
LeapsMade numbers (Err (Leaps fault)) = IsFirstFault numbers fault
LeapsMade numbers (Err fault) = ⊥

abbrev pub LeapsGive : Loaded → Result (List LeapPair) TableFault → Type 0
LeapsGive loaded answer = TableGives loaded leap_vars (LeapsMade (numbers_of loaded var.DeltaAt)) answer

-- what is made of the numbers of DELTET/DELTA_T_A, DELTET/K, DELTET/EB and DELTET/M: the constants, or their first fault
abbrev pub ConstantsMade : List Dec → List Dec → List Dec → List Dec → Result Constants TableFault → Type 0
ConstantsMade delta_ta k eb m (Ok constants) = GiveConstants delta_ta k eb m (Ok constants)
ConstantsMade delta_ta k eb m (Err (Deltet fault)) = GiveConstants delta_ta k eb m (Err fault)
ConstantsMade delta_ta k eb m (Err fault) = ⊥

abbrev pub ConstantsGive : Loaded → Result Constants TableFault → Type 0
ConstantsGive loaded answer =
    TableGives loaded constant_vars
    (ConstantsMade (numbers_of loaded var.DeltaTa) (numbers_of loaded var.K) (numbers_of loaded var.Eb) (numbers_of loaded var.M)) answer

-- the numbers of the six variables of a clock from which its face is made
abbrev pub face_numbers : (ClockVar → List Dec) → face.Numbers
face_numbers numbers = record {
  n_fields = numbers NFields;
  moduli = numbers Moduli;
  offsets = numbers Offsets;
  delim = numbers Delim;
  starts = numbers Start;
  ends = numbers End;
}

-- what each fault of a clock's variables says is not so; and all of them, in the order of the variables
abbrev pub KeepsOfClock : (ClockVar → List Dec) → ClockFault → Type 0
KeepsOfClock numbers fault =
    face.Keeps (face_numbers numbers) fault × parts.Keeps (numbers DataType) (numbers TimeSystem) (numbers Coefficients) fault

abbrev pub clock_rules : List ClockFault
clock_rules = parts.system_rules ++ (face.face_rules ++ parts.record_rules)

-- what is made of the numbers of a clock's variables: the clock, or their first fault
abbrev pub ClockMade : (ClockVar → List Dec) → Result clock.Clock TableFault → Type 0
ClockMade numbers (Ok c) =
    face.MakesFace (face_numbers numbers) (Ok c.face)
    × parts.GivesClock c.face (numbers DataType) (numbers TimeSystem) (numbers Coefficients) (Ok c)
ClockMade numbers (Err (Clock fault)) = IsFirstBroken (KeepsOfClock numbers) clock_rules fault
ClockMade numbers (Err fault) = ⊥

-- the clock of id -n
abbrev pub ClockGives : ℕ → Loaded → Result clock.Clock TableFault → Type 0
ClockGives n loaded answer = TableGives loaded (clock_vars n) (ClockMade (λ v. numbers_of loaded (var.Clock v n))) answer

-- two answers are one, where memory was not refused to either
abbrev pub Agree : {A : Type 0} → Result A TableFault → Result A TableFault → Type 0
Agree (Err OutOfMemory) b = Unit {0}
Agree a (Err OutOfMemory) = Unit {0}
Agree a b = a ≡ b
