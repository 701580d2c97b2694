-- The parts of a day: its date, the place in its year and its weekday. Sources: the Gregorian
-- calendar; 2000-01-01 was a Saturday.
use Rattle.std.specs.Prelude.{◌≡◌, ℕ, ◌+◌, ◌-◌, ℤ, pos, ◌+ℤ◌, ◌≤ℤ◌, unsigned_abs}
use Rattle.std.specs.Int.{int_rem_euclid}
use Rattle.st_dates.specs.Calendar.{IsCalendarDay, day_number, days_of_months}
use Rattle.st_dates.specs.declared.civil.Civil.{Civil}

-- the place of a date in its year, from 1
abbrev pub day_of_year : ℕ → ℕ → ℕ → ℕ
day_of_year y m d = days_of_months y (m - 1) + d

-- the weekday of a day number, from 0 for Sunday: day 0 was a Saturday, which is 6
abbrev pub weekday_of : ℤ → ℤ
weekday_of n = int_rem_euclid (n +ℤ pos 6) (pos 7)

-- these are the parts of the day with number n
pub record IsCivil (n : ℤ) (c : Civil) : Type 0 where
  pub year_from : pos 0 ≤ℤ c.year
  pub date : IsCalendarDay (unsigned_abs c.year) c.month c.day
  pub number : day_number (unsigned_abs c.year) c.month c.day ≡ n
  pub place : c.doy ≡ day_of_year (unsigned_abs c.year) c.month c.day
  pub weekday : pos c.weekday ≡ weekday_of n
