-- The Gregorian calendar, by the lengths of its years and months. Source: the calendar as decreed
-- in 1582, carried back before that year. Days are counted from 2000-01-01, the day of the epoch
-- J2000 of NAIF's Time Required Reading.
use Rattle.std.specs.Prelude.{ℕ, zero, suc, ◌+◌, ◌-◌, ◌%◌, ◌≤◌, Bool, not, ◌&&◌, ◌||◌, ◌==◌, if◌then◌else◌, ℤ, pos, ◌+ℤ◌, ◌-ℤ◌}

-- every fourth year is a leap year, but of the centuries only every fourth
abbrev pub is_leap : ℕ → Bool
is_leap y = ((y % 4 == 0) && not (y % 100 == 0)) || (y % 400 == 0)

abbrev pub year_length : ℕ → ℕ
year_length y = if is_leap y then 366 else 365

-- thirty days have September, April, June and November
abbrev pub month_length : ℕ → ℕ → ℕ
month_length y m =
    if m == 2 then (if is_leap y then 29 else 28)
    else (if (m == 4) || (m == 6) || (m == 9) || (m == 11) then 30 else 31)

-- the days of the years from 0 to the one before y
unfoldable pub days_before_year : ℕ → ℕ
days_before_year zero = 0
days_before_year (suc y) = days_before_year y + year_length y

-- the days of the year's first n months
unfoldable pub days_of_months : ℕ → ℕ → ℕ
days_of_months y zero = 0
days_of_months y (suc n) = days_of_months y n + month_length y (suc n)

-- the calendar has this day: month 1 to 12, and a day of that month
pub record IsCalendarDay (y m d : ℕ) : Type 0 where
  pub month_from : 1 ≤ m
  pub month_to : m ≤ 12
  pub day_from : 1 ≤ d
  pub day_to : d ≤ month_length y m

-- the days from 2000-01-01 to a year's first day
abbrev pub year_start : ℕ → ℤ
year_start y = pos (days_before_year y) -ℤ pos (days_before_year 2000)

-- the day number of a date: the days from 2000-01-01 to it
abbrev pub day_number : ℕ → ℕ → ℕ → ℤ
day_number y m d =
    pos (days_before_year y + days_of_months y (m - 1) + (d - 1)) -ℤ pos (days_before_year 2000)

-- the year has a day at this place, from 1
pub record IsDayOfYear (y place : ℕ) : Type 0 where
  pub from : 1 ≤ place
  pub to : place ≤ year_length y

-- the day number of the day at a place of a year
abbrev pub number_in_year : ℕ → ℕ → ℤ
number_in_year y place = year_start y +ℤ pos (place - 1)
