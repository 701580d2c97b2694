-- Tables of leap seconds, by the header of NAIF's leapseconds kernels and Time Required Reading:
-- from its date on, TAI is a pair's count of seconds ahead of UTC. That a count may be one less than
-- the one before, so that a second is removed, is this project's reading; so are the limits.
use Rattle.std.specs.Prelude.{◌≡◌, ℕ, ◌+◌, ◌≤◌, ℤ, pos, ◌-ℤ◌, ◌<ℤ◌, int_le, unsigned_abs, List, [], ◌∷◌, length, slice_get, reverse, find, Option, Some, None}
use Rattle.std.specs.List.{All}
use Rattle.st_dates.specs.AtDate.{moment}
use Rattle.st_dates.specs.Range.{IsInRange as IsTimeInRange}
use Rattle.st_leaps.specs.declared.pair.LeapPair.{LeapPair}

-- the counts and the dates that a table may have
abbrev pub IsCountInRange : ℕ → Type 0
IsCountInRange count = count ≤ 1000

abbrev pub IsDayInRange : ℤ → Type 0
IsDayInRange day = IsTimeInRange (moment day 0)

pub record IsInRange (p : LeapPair) : Type 0 where
  pub count : IsCountInRange p.count
  pub day : IsDayInRange p.day

-- from a pair to the next: the date is later, and the count one more or one less
pub record IsStep (p q : LeapPair) : Type 0 where
  pub later : p.day <ℤ q.day
  pub step : unsigned_abs (pos q.count -ℤ pos p.count) ≡ 1

abbrev pub Rise : List LeapPair → Type 0
Rise pairs =
    (k : ℕ) (p q : LeapPair) → slice_get pairs k ≡ Some p → slice_get pairs (k + 1) ≡ Some q
    → IsStep p q

pub record IsLeapTable (pairs : List LeapPair) : Type 0 where
  pub some : 1 ≤ length pairs
  pub few : length pairs ≤ 1000
  pub in_range : All IsInRange pairs
  pub rise : Rise pairs

-- the count before the first pair: the first count less one
abbrev pub count_before : List LeapPair → ℤ
count_before [] = pos 0
count_before (p ∷ pairs) = pos p.count -ℤ pos 1

-- the last pair whose date is at most a day
abbrev pub last_pair : List LeapPair → ℤ → Option LeapPair
last_pair pairs day = find (λ p. int_le p.day day) (reverse pairs)

-- the count of a pair, or another where there is none
abbrev pub count_or : ℤ → Option LeapPair → ℤ
count_or otherwise None = otherwise
count_or otherwise (Some p) = pos p.count

-- TAI minus UTC on a day, in seconds
unfoldable pub count_on : List LeapPair → ℤ → ℤ
count_on pairs day = count_or (count_before pairs) (last_pair pairs day)
