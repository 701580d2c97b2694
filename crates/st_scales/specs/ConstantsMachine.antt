-- The rules of one variable's numbers, with the range as the code passes it.
use Rattle.std.specs.Prelude.{◌≡◌, ℤ, ◌≤ℤ◌, List, length, All}
use Rattle.st_decimal.specs.declared.number.Dec.{Dec}
use Rattle.st_scales.specs.declared.fault.DeltetFault.{DeltetFault}
use Rattle.st_scales.specs.declared.fault.DeltetFault.TheVariants.{Count, NotUnits, Range}
use Rattle.st_scales.specs.Constants.{IsUnits, variable_of, numbers_of, Keeps}

abbrev pub KeepsOne : ℤ → ℤ → List Dec → DeltetFault → Type 0
KeepsOne low high numbers (Count v) = length numbers ≡ 1
KeepsOne low high numbers (NotUnits v) = All (λ d. (u : ℤ) × IsUnits d u) numbers
KeepsOne low high numbers (Range v) = All (λ d. (u : ℤ) → IsUnits d u → (low ≤ℤ u) × (u ≤ℤ high)) numbers

-- the rules of the two numbers of DELTET/M, which need no other variable
abbrev pub KeepsM : List Dec → DeltetFault → Type 0
KeepsM numbers rule = Keeps (numbers_of numbers numbers numbers numbers (variable_of rule)) rule
