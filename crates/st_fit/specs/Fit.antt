-- The fewest records that pass within a tolerance of pairs of ticks and times. A record, after NAIF's SCLK Required
-- Reading, type 1, gives a tick, a time, and a rate from there on; how pairs are cut into records is this project's own.
use Rattle.std.specs.Prelude.{◌≡◌, ℕ, ◌^◌, ◌<◌, ◌≤◌, ◌⊎◌, ℤ, pos, ◌+ℤ◌, ◌-ℤ◌, ◌≤ℤ◌, ◌<ℤ◌, unsigned_abs, List, [], ◌∷◌, length, take, drop, Some}
use Rattle.std.specs.List.{slice_get}
use Rattle.st_fraction.specs.Fraction.{Fraction, over, units, ◌+ᶠ◌, ◌*ᶠ◌, IsNear}
use Rattle.st_fraction.specs.Floor.{IsFloor}
use Rattle.st_fit.specs.declared.pair.Pair.{Pair}
use Rattle.st_fit.specs.declared.pair.Record.{Record}
use Rattle.st_fit.specs.declared.pair.Terms.{Terms}

abbrev pub terms : ℕ → ℤ → Terms
terms tpm tolerance = record { tpm = tpm; tolerance = tolerance }

-- the time of the tick k on the line through the pair `start`: T + R (k - S) / tpm
abbrev pub line_time : ℕ → Pair → ℤ → ℕ → Fraction
line_time tpm start rate k = units start.time +ᶠ units rate *ᶠ over (pos k -ℤ pos start.ticks) tpm

-- that line passes within the tolerance of the pair p
abbrev pub Passes : Terms → Pair → ℤ → Pair → Type 0
Passes t start rate p = IsNear (line_time t.tpm start rate p.ticks) (units p.time) (units t.tolerance)

-- the rate fits the run: it lies from 1 to 10^23 units, and the line through the first pair passes each pair
pub record IsRate (t : Terms) (run : List Pair) (rate : ℤ) : Type 0 where
  pub from : pos 1 ≤ℤ rate
  pub to : rate ≤ℤ pos (10 ^ 23)
  pub passes : (i : ℕ) (start p : Pair) → slice_get run 0 ≡ Some start → slice_get run i ≡ Some p → Passes t start rate p

-- the first l pairs are a run: there is a rate that fits them
pub record IsRun (t : Terms) (pairs : List Pair) (l : ℕ) : Type 0 where
  pub some : 0 < l
  pub within : l ≤ length pairs
  pub rate : ℤ
  pub fits : IsRate t (take l pairs) rate

-- a cutting of the pairs, told by the lengths of its parts, is good where each part is a run
abbrev pub IsGood : Terms → List Pair → List ℕ → Type 0
IsGood t pairs [] = pairs ≡ []
IsGood t pairs (l ∷ lengths) = IsRun t pairs l × IsGood t (drop l pairs) lengths

-- lists of lengths compared from the first one on
abbrev pub IsNoGreater : List ℕ → List ℕ → Type 0
IsNoGreater [] lengths = Unit {0}
IsNoGreater (k ∷ others) [] = ⊥
IsNoGreater (k ∷ others) (l ∷ lengths) = (k < l) ⊎ ((k ≡ l) × IsNoGreater others lengths)

-- the good cutting with the fewest runs, and of those the one with the greatest list of lengths
pub record IsBest (t : Terms) (pairs : List Pair) (lengths : List ℕ) : Type 0 where
  pub good : IsGood t pairs lengths
  pub fewest : (others : List ℕ) → IsGood t pairs others → length lengths ≤ length others
  pub greatest : (others : List ℕ) → IsGood t pairs others → length others ≡ length lengths → IsNoGreater others lengths

-- the rate of a run of two or more pairs: the floor of the mean of the least and the greatest rate that fit
pub record IsMiddle (t : Terms) (run : List Pair) (rate : ℤ) : Type 0 where
  pub least : ℤ
  pub greatest : ℤ
  pub least_fits : IsRate t run least
  pub greatest_fits : IsRate t run greatest
  pub least_is : (other : ℤ) → IsRate t run other → least ≤ℤ other
  pub greatest_is : (other : ℤ) → IsRate t run other → other ≤ℤ greatest
  pub middle : IsFloor (over (least +ℤ greatest) 2) rate

-- a run's rate, after a record with the rate `before`: that one for a run of one pair, else the middle one
pub record IsRateOf (t : Terms) (before : ℤ) (run : List Pair) (rate : ℤ) : Type 0 where
  pub alone : length run ≡ 1 → rate ≡ before
  pub more : 1 < length run → IsMiddle t run rate

-- the record of a run has the tick and the time of its first pair, and its rate
pub record IsRecordOf (t : Terms) (before : ℤ) (run : List Pair) (r : Record) : Type 0 where
  pub start : Pair
  pub starts : slice_get run 0 ≡ Some start
  pub ticks : r.ticks ≡ start.ticks
  pub time : r.time ≡ start.time
  pub rate : IsRateOf t before run r.rate

-- a record for each run of the cutting
abbrev pub AreRecords : Terms → ℤ → List Pair → List ℕ → List Record → Type 0
AreRecords t before pairs [] [] = Unit {0}
AreRecords t before pairs [] (r ∷ records) = ⊥
AreRecords t before pairs (l ∷ lengths) [] = ⊥
AreRecords t before pairs (l ∷ lengths) (r ∷ records) = IsRecordOf t before (take l pairs) r × AreRecords t r.rate (drop l pairs) lengths records

-- the fit: the records of the best cutting. Where the first run is one pair, its rate is one second for each count
pub record IsFit (t : Terms) (pairs : List Pair) (records : List Record) : Type 0 where
  pub lengths : List ℕ
  pub best : IsBest t pairs lengths
  pub written : AreRecords t (pos (10 ^ 18)) pairs lengths records

-- ticks and times rise strictly
abbrev pub AreRising : List Pair → Type 0
AreRising pairs =
    (i j : ℕ) (p q : Pair) → i < j → slice_get pairs i ≡ Some p → slice_get pairs j ≡ Some q
    → (p.ticks < q.ticks) × (p.time <ℤ q.time)

-- what is fitted: at most 10^9 ticks in a count, a tolerance of at most 10 s, times of at most 10^10 s
pub record AreSmallTerms (t : Terms) : Type 0 where
  pub some : 0 < t.tpm
  pub tpm : t.tpm ≤ 10 ^ 9
  pub tolerance_from : pos 0 ≤ℤ t.tolerance
  pub tolerance_to : t.tolerance ≤ℤ pos (10 ^ 19)

abbrev pub AreSmall : List Pair → Type 0
AreSmall pairs = (i : ℕ) (p : Pair) → slice_get pairs i ≡ Some p → unsigned_abs p.time ≤ 10 ^ 28
