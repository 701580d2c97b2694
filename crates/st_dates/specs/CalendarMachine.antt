-- The calendar as a computation: whether it has a day, and which number the day has.
use Rattle.std.specs.Prelude.{ℕ, Bool, ◌&&◌, nat_le, ℤ, Option, Some, None, if◌then◌else◌}
use Rattle.st_dates.specs.Calendar.{year_length, month_length, day_number, number_in_year}

abbrev pub is_calendar_day : ℕ → ℕ → ℕ → Bool
is_calendar_day y m d = (nat_le 1 m && nat_le m 12) && (nat_le 1 d && nat_le d (month_length y m))

unfoldable pub calendar_day : ℕ → ℕ → ℕ → Option ℤ
calendar_day y m d = if is_calendar_day y m d then Some (day_number y m d) else None

abbrev pub is_day_of_year : ℕ → ℕ → Bool
is_day_of_year y place = nat_le 1 place && nat_le place (year_length y)

unfoldable pub day_in_year : ℕ → ℕ → Option ℤ
day_in_year y place = if is_day_of_year y place then Some (number_in_year y place) else None
