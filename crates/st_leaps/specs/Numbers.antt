-- Numbers that are the counts and the dates of leap second pairs in turn, as DELTET/DELTA_AT of a
-- leapseconds kernel has them. Pairs are numbered from 1.
use Rattle.std.specs.Prelude.{◌≡◌, ℕ, ◌+◌, ◌*◌, ℤ, pos, List, length, slice_get, Some}
use Rattle.st_dates.specs.AtDate.{moment}
use Rattle.st_decimal.specs.Scaling.{IsUnits18, IsWhole}
use Rattle.st_decimal.specs.declared.number.Dec.{Dec}
use Rattle.st_leaps.specs.Table.{IsCountInRange, IsDayInRange, IsLeapTable}
use Rattle.st_leaps.specs.declared.pair.LeapPair.{LeapPair}

-- the number is whole, and a count that a table may have
pub record IsCount (number : Dec) (count : ℕ) : Type 0 where
  pub whole : IsWhole number (pos count)
  pub in_range : IsCountInRange count

-- the number, in seconds, is the midnight at which a day begins, and the day one that a table may
-- have
pub record IsMidnight (number : Dec) (day : ℤ) : Type 0 where
  pub units : IsUnits18 number (moment day 0)
  pub in_range : IsDayInRange day

-- pair n has this count: two numbers stand before it for each earlier pair
pub record HasCount (numbers : List Dec) (n count : ℕ) : Type 0 where
  pub earlier : ℕ
  pub nth : n ≡ earlier + 1
  pub number : Dec
  pub stands : slice_get numbers (2 * earlier) ≡ Some number
  pub is : IsCount number count

-- pair n has this date, after its count
pub record HasDay (numbers : List Dec) (n : ℕ) (day : ℤ) : Type 0 where
  pub earlier : ℕ
  pub nth : n ≡ earlier + 1
  pub number : Dec
  pub stands : slice_get numbers (2 * earlier + 1) ≡ Some number
  pub is : IsMidnight number day

-- the numbers are the table: two for each pair, its count and its date
pub record IsTableOf (numbers : List Dec) (pairs : List LeapPair) : Type 0 where
  pub two_each : length numbers ≡ 2 * length pairs
  pub counts : (k : ℕ) (p : LeapPair)
      → slice_get pairs k ≡ Some p → HasCount numbers (k + 1) p.count
  pub days : (k : ℕ) (p : LeapPair)
      → slice_get pairs k ≡ Some p → HasDay numbers (k + 1) p.day
  pub is_table : IsLeapTable pairs
