-- What the code has found out on its way through the numbers of a table.
use Rattle.std.specs.Prelude.{◌≡◌, ◌≢◌, ℕ, ◌+◌, ◌*◌, ◌%◌, ◌≤◌, ℤ, pos, ◌-ℤ◌, ◌≤ℤ◌, ◌<ℤ◌, unsigned_abs, List, slice_get, Some, Result, Ok, Err}
use Rattle.st_decimal.specs.declared.number.Dec.{Dec}
use Rattle.st_leaps.specs.Numbers.{IsCount, IsMidnight, HasCount, HasDay}
use Rattle.st_leaps.specs.Table.{IsStep, Rise}
use Rattle.st_leaps.specs.declared.fault.LeapFault.{LeapFault}
use Rattle.st_leaps.specs.declared.fault.LeapFault.TheVariants.{NotWhole, NotMidnight, NotRising, BadStep}
use Rattle.st_leaps.specs.declared.pair.LeapPair.{LeapPair}

-- so many numbers may be a table
pub record HasLength (n : ℕ) : Type 0 where
  pub some : 1 ≤ n
  pub even : n % 2 ≡ 0
  pub few : n ≤ 2 * 1000

-- the first numbers are these pairs, which keep the rules
pub record AreSpelled (numbers : List Dec) (pairs : List LeapPair) : Type 0 where
  pub counts : (k : ℕ) (p : LeapPair)
      → slice_get pairs k ≡ Some p → HasCount numbers (k + 1) p.count
  pub days : (k : ℕ) (p : LeapPair)
      → slice_get pairs k ≡ Some p → HasDay numbers (k + 1) p.day
  pub rise : Rise pairs

-- what a count and a date give as pair n
abbrev pub PairGives : Dec → Dec → ℕ → Result LeapPair LeapFault → Type 0
PairGives count date n (Ok p) = IsCount count p.count × IsMidnight date p.day
PairGives count date n (Err (NotWhole m)) = (m ≡ n) × ((c : ℕ) → IsCount count c → ⊥)
PairGives count date n (Err (NotMidnight m)) =
    (m ≡ n) × ((c : ℕ) × IsCount count c) × ((day : ℤ) → IsMidnight date day → ⊥)
PairGives count date n (Err fault) = ⊥

-- what a pair and the one before it give
abbrev pub StepGives : LeapPair → LeapPair → ℕ → Result (Unit {0}) LeapFault → Type 0
StepGives p q n (Ok done) = IsStep p q
StepGives p q n (Err (NotRising m)) = (m ≡ n) × (q.day ≤ℤ p.day)
StepGives p q n (Err (BadStep m)) =
    (m ≡ n) × (p.day <ℤ q.day) × (unsigned_abs (pos q.count -ℤ pos p.count) ≢ 1)
StepGives p q n (Err fault) = ⊥
