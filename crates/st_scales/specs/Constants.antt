-- The constants of a leapseconds kernel, by the numbers of its variables DELTET/DELTA_T_A, DELTET/K, DELTET/EB and
-- DELTET/M, and the first fault of numbers that are none. The ranges are this project's own.
use Rattle.std.specs.Prelude.{◌≡◌, ℕ, ◌*◌, ◌^◌, ℤ, pos, neg_ℤ, ◌+ℤ◌, ◌≤ℤ◌, List, [], ◌∷◌, ◌++◌, length, take, drop, All, Result, Ok, Err, ◌⊎◌}
use Rattle.st_decimal.specs.declared.number.Dec.{Dec}
use Rattle.st_decimal.specs.Scaling.{IsTimesTen}
use Rattle.st_scales.specs.declared.deltet.Deltet.{Deltet}
use Rattle.st_scales.specs.declared.fault.DeltetVar.{DeltetVar}
use Rattle.st_scales.specs.declared.fault.DeltetVar.TheVariants.{DeltaTa, K, Eb, M, M0, M1}
use Rattle.st_scales.specs.declared.fault.DeltetFault.{DeltetFault}
use Rattle.st_scales.specs.declared.fault.DeltetFault.TheVariants.{Count, NotUnits, Range}

-- u is the number in units of 10^-18, however large
abbrev pub IsUnits : Dec → ℤ → Type 0
IsUnits d u = IsTimesTen d.digits (d.tens +ℤ pos 18) u

-- the numbers are one number, which is u in units
abbrev pub IsOne : List Dec → ℤ → Type 0
IsOne numbers u = (d : Dec) × (numbers ≡ d ∷ []) × IsUnits d u

abbrev pub AreTwo : List Dec → ℤ → ℤ → Type 0
AreTwo numbers u v = (d : Dec) × (e : Dec) × (numbers ≡ d ∷ e ∷ []) × IsUnits d u × IsUnits e v

-- the constants are what the numbers spell; their ranges stand in their type
pub record AreConstants (delta_ta k eb m : List Dec) (c : Deltet) : Type 0 where
  pub is_delta_ta : IsOne delta_ta c.delta_ta
  pub is_k : IsOne k c.k
  pub is_eb : IsOne eb c.orbit.eb
  pub are_m : AreTwo m c.orbit.m0 c.orbit.m1

-- how many numbers a variable has, and the range of each, in units
abbrev pub count_of : DeltetVar → ℕ
count_of DeltaTa = 1
count_of K = 1
count_of Eb = 1
count_of M = 2
count_of M0 = 1
count_of M1 = 1

abbrev pub IsInRange : DeltetVar → ℤ → Type 0
IsInRange DeltaTa u = (neg_ℤ (pos (100 * 10 ^ 18)) ≤ℤ u) × (u ≤ℤ pos (100 * 10 ^ 18))
IsInRange K u = (pos 0 ≤ℤ u) × (u ≤ℤ pos (2 * 10 ^ 15))
IsInRange Eb u = (pos 0 ≤ℤ u) × (u ≤ℤ pos (2 * 10 ^ 16))
IsInRange M u = Unit {0}
IsInRange M0 u = (neg_ℤ (pos (10 ^ 19)) ≤ℤ u) × (u ≤ℤ pos (10 ^ 19))
IsInRange M1 u = (pos 0 ≤ℤ u) × (u ≤ℤ pos (4 * 10 ^ 11))

-- The rule of a variable's numbers whose breach is the fault.
abbrev pub Keeps : List Dec → DeltetFault → Type 0
Keeps numbers (Count v) = length numbers ≡ count_of v
Keeps numbers (NotUnits v) = All (λ d. (u : ℤ) × IsUnits d u) numbers
Keeps numbers (Range v) = All (λ d. (u : ℤ) → IsUnits d u → IsInRange v u) numbers

-- a variable's numbers among those of all four
abbrev pub numbers_of : List Dec → List Dec → List Dec → List Dec → DeltetVar → List Dec
numbers_of delta_ta k eb m DeltaTa = delta_ta
numbers_of delta_ta k eb m K = k
numbers_of delta_ta k eb m Eb = eb
numbers_of delta_ta k eb m M = m
numbers_of delta_ta k eb m M0 = take 1 m
numbers_of delta_ta k eb m M1 = drop 1 m

abbrev pub variable_of : DeltetFault → DeltetVar
variable_of (Count v) = v
variable_of (NotUnits v) = v
variable_of (Range v) = v

-- The rules in their order: those of one number, and those of the two of DELTET/M, for both of which one reason is tested
-- before the next.
abbrev pub rules_of_one : DeltetVar → List DeltetFault
rules_of_one v = Count v ∷ NotUnits v ∷ Range v ∷ []

abbrev pub rules_of_m : List DeltetFault
rules_of_m = Count M ∷ NotUnits M0 ∷ NotUnits M1 ∷ Range M0 ∷ Range M1 ∷ []

abbrev pub rules : List DeltetFault
rules = rules_of_one DeltaTa ++ (rules_of_one K ++ (rules_of_one Eb ++ rules_of_m))

-- of these rules this one is broken, and those before it are kept
abbrev pub IsFirstBroken : (DeltetFault → Type 0) → List DeltetFault → DeltetFault → Type 0
IsFirstBroken Kept [] fault = ⊥
IsFirstBroken Kept (rule ∷ more) fault = ((fault ≡ rule) × (Kept rule → ⊥)) ⊎ (Kept rule × IsFirstBroken Kept more fault)

-- what the numbers of the four variables give: constants, or the first fault
abbrev pub GiveConstants : List Dec → List Dec → List Dec → List Dec → Result Deltet DeltetFault → Type 0
GiveConstants delta_ta k eb m (Ok c) = AreConstants delta_ta k eb m c
GiveConstants delta_ta k eb m (Err fault) =
    IsFirstBroken (λ rule. Keeps (numbers_of delta_ta k eb m (variable_of rule)) rule) rules fault
