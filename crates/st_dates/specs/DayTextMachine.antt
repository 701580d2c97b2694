-- How the day of a date is read: the form is known from the digits before and after the first `-`.
use Rattle.std.specs.Prelude.{ℕ, Bool, not, ◌≤◌, ◌==◌, List, length, ℤ, Option, Some, None, if◌then◌else◌}
use Rattle.st_text.specs.Bytes.{number_of}
use Rattle.st_dates.specs.CalendarMachine.{calendar_day, day_in_year}
use Rattle.st_dates.specs.NamesMachine.{month_named}
use Rattle.st_text.specs.Scan.{◌>>=◌, leading, behind, leading_digits, past_digits, after, is_digit_run}
use Rattle.st_dates.specs.declared.day_text.CalendarDate.{CalendarDate}
use Rattle.st_dates.specs.declared.day_text.CalendarDate.TheVariants.{OfMonth, OfYear}

-- the year was written by four digits
abbrev pub HasFourDigits : CalendarDate → Type 0
HasFourDigits (OfMonth year month day) = year ≤ 9999
HasFourDigits (OfYear year place) = year ≤ 9999

-- a byte that isn't `-`
abbrev pub is_no_dash : ℕ → Bool
is_no_dash b = not (b == 45)

-- a month's name and the dash after it, and the rest
unfoldable pub month_of_name : List ℕ → Option (ℕ × List ℕ)
month_of_name text =
    month_named (leading is_no_dash text)
    >>= λ m. after 45 (behind is_no_dash text)
    >>= λ rest. Some (m, rest)

-- the digits of the day of a month, and the rest
unfoldable pub with_day : ℕ → ℕ → List ℕ → Option (CalendarDate × List ℕ)
with_day y m text =
    if is_digit_run 1 2 (leading_digits text)
    then Some (OfMonth y m (number_of (leading_digits text)), past_digits text)
    else None

-- the digits of the year after a day and a month, and the rest
unfoldable pub with_year : ℕ → ℕ → List ℕ → Option (CalendarDate × List ℕ)
with_year m d text =
    if length (leading_digits text) == 4
    then Some (OfMonth (number_of (leading_digits text)) m d, past_digits text)
    else None

-- what follows a year and its dash
unfoldable pub year_first : ℕ → List ℕ → Option (CalendarDate × List ℕ)
year_first y text =
    if length (leading_digits text) == 0 then (month_of_name text >>= λ p. with_day y p.0 p.1)
    else (if length (leading_digits text) == 3 then Some (OfYear y (number_of (leading_digits text)), past_digits text)
    else (if is_digit_run 1 2 (leading_digits text)
    then (after 45 (past_digits text) >>= λ t. with_day y (number_of (leading_digits text)) t)
    else None))

-- what follows a day and its dash
unfoldable pub month_next : ℕ → List ℕ → Option (CalendarDate × List ℕ)
month_next d text = month_of_name text >>= λ p. with_year p.0 d p.1

-- the day with which a text begins, and the rest
unfoldable pub day_of_text : List ℕ → Option (CalendarDate × List ℕ)
day_of_text text =
    if length (leading_digits text) == 4
    then (after 45 (past_digits text) >>= λ t. year_first (number_of (leading_digits text)) t)
    else (if is_digit_run 1 2 (leading_digits text)
    then (after 45 (past_digits text) >>= λ t. month_next (number_of (leading_digits text)) t)
    else None)

-- the day number of a date that was read, where the calendar has the day
unfoldable pub number_in : CalendarDate → Option ℤ
number_in (OfMonth y m d) = calendar_day y m d
number_in (OfYear y place) = day_in_year y place
