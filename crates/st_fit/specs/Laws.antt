-- Laws of a fit, each the contract of an empty function of `laws`.
use Rattle.std.specs.Prelude.{◌≡◌, ℕ, ◌^◌, ◌<◌, ◌≤◌, pos, ◌≤ℤ◌, ◌<ℤ◌, List, length, Some}
use Rattle.std.specs.List.{slice_get}
use Rattle.st_fraction.specs.Fraction.{units, IsNear}
use Rattle.st_fit.specs.declared.pair.Pair.{Pair}
use Rattle.st_fit.specs.declared.pair.Record.{Record}
use Rattle.st_fit.specs.declared.pair.Terms.{Terms}
use Rattle.st_fit.specs.Fit.{line_time, AreRising, IsGood, IsFit}

-- the pair at which a record starts
abbrev pub start_of : Record → Pair
start_of r = record { ticks = r.ticks; time = r.time }

-- r is the last record that starts at the tick k or before it
pub record IsInForceAt (k : ℕ) (records : List Record) (r : Record) : Type 0 where
  pub place : ℕ
  pub here : slice_get records place ≡ Some r
  pub started : r.ticks ≤ k
  pub none_later : (j : ℕ) (s : Record) → place < j → slice_get records j ≡ Some s → s.ticks ≤ k → ⊥

-- the record in force at the pair's tick passes within the tolerance of the pair
pub record IsPassed (t : Terms) (records : List Record) (p : Pair) : Type 0 where
  pub by : Record
  pub in_force : IsInForceAt p.ticks records by
  pub near : IsNear (line_time t.tpm (start_of by) by.rate p.ticks) (units p.time) (units t.tolerance)

-- the records make a clock: each starts at a pair, its rate is from 1 to 10^23 units, and ticks and times rise
pub record AreClockRecords (pairs : List Pair) (records : List Record) : Type 0 where
  pub some : 0 < length pairs → 0 < length records
  pub starts : (i : ℕ) (r : Record) → slice_get records i ≡ Some r → (j : ℕ) × slice_get pairs j ≡ Some (start_of r)
  pub rates : (i : ℕ) (r : Record) → slice_get records i ≡ Some r → (pos 1 ≤ℤ r.rate) × (r.rate ≤ℤ pos (10 ^ 23))
  pub rising : (i j : ℕ) (r s : Record) → i < j → slice_get records i ≡ Some r → slice_get records j ≡ Some s
      → (r.ticks < s.ticks) × (r.time <ℤ s.time)

-- what is fitted: rising pairs, a clock with ticks in a count, a tolerance that isn't below 0
pub record CanBeFitted (t : Terms) (pairs : List Pair) : Type 0 where
  pub some : 0 < t.tpm
  pub tolerance : pos 0 ≤ℤ t.tolerance
  pub rising : AreRising pairs

-- pairs have one fit
abbrev pub FitIsOne : Type 0
FitIsOne = (t : Terms) (pairs : List Pair) (a b : List Record) → IsFit t pairs a → IsFit t pairs b → a ≡ b

-- and each list of pairs has one
abbrev pub FitIsFound : Type 0
FitIsFound = (t : Terms) (pairs : List Pair) → CanBeFitted t pairs → (records : List Record) × IsFit t pairs records

-- a fit passes within the tolerance of each pair
abbrev pub FitPasses : Type 0
FitPasses =
    (t : Terms) (pairs : List Pair) (records : List Record) → CanBeFitted t pairs → IsFit t pairs records
    → (i : ℕ) (p : Pair) → slice_get pairs i ≡ Some p → IsPassed t records p

-- its records make a clock
abbrev pub FitIsClock : Type 0
FitIsClock =
    (t : Terms) (pairs : List Pair) (records : List Record) → CanBeFitted t pairs → IsFit t pairs records → AreClockRecords pairs records

-- no good cutting has fewer runs than it has records
abbrev pub FitIsFewest : Type 0
FitIsFewest =
    (t : Terms) (pairs : List Pair) (records : List Record) (others : List ℕ) → IsFit t pairs records → IsGood t pairs others
    → length records ≤ length others
