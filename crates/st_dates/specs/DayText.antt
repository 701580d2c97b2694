-- The day of a date as it is written. Source: Time Required Reading, of whose forms four are taken:
-- a year of four digits with a month's number, its name, or the place of the day in its year.
use Rattle.std.specs.Prelude.{◌≡◌, ℕ, false, List, [], ◌∷◌, ◌++◌, ℤ}
use Rattle.std.specs.Char.{is_ascii_digit}
use Rattle.st_text.specs.Ascii.{dash}
use Rattle.st_text.specs.Bytes.{number_of}
use Rattle.st_text.specs.Scan.{IsDigitRun}
use Rattle.st_dates.specs.Calendar.{IsCalendarDay, IsDayOfYear, day_number, number_in_year}
use Rattle.st_dates.specs.Names.{NamesMonth}
use Rattle.st_dates.specs.declared.day_text.CalendarDate.{CalendarDate}
use Rattle.st_dates.specs.declared.day_text.CalendarDate.TheVariants.{OfMonth, OfYear}

-- the parts of a day as they stand in the text, one case for each form
pub data DayText : Type 0 where
  -- YYYY-MM-DD: year, month, day
  numeric : List ℕ → List ℕ → List ℕ → DayText
  -- YYYY-MON-D: year, a month's name, day
  named : List ℕ → List ℕ → List ℕ → DayText
  -- D-MON-YYYY: day, a month's name, year
  day_first : List ℕ → List ℕ → List ℕ → DayText
  -- YYYY-DOY: year, place in the year
  of_year : List ℕ → List ℕ → DayText

-- the whole text of a day
abbrev pub day_spelling : DayText → List ℕ
day_spelling (numeric year month day) = year ++ (dash ∷ (month ++ (dash ∷ day)))
day_spelling (named year name day) = year ++ (dash ∷ (name ++ (dash ∷ day)))
day_spelling (day_first day name year) = day ++ (dash ∷ (name ++ (dash ∷ year)))
day_spelling (of_year year place) = year ++ (dash ∷ place)

-- the text is some month's name
abbrev pub IsMonthName : List ℕ → Type 0
IsMonthName name = (m : ℕ) × NamesMonth name m

-- what each part must be
abbrev pub AreDayParts : DayText → Type 0
AreDayParts (numeric year month day) = IsDigitRun 4 4 year × IsDigitRun 1 2 month × IsDigitRun 1 2 day
AreDayParts (named year name day) = IsDigitRun 4 4 year × IsMonthName name × IsDigitRun 1 2 day
AreDayParts (day_first day name year) = IsDigitRun 1 2 day × IsMonthName name × IsDigitRun 4 4 year
AreDayParts (of_year year place) = IsDigitRun 4 4 year × IsDigitRun 3 3 place

-- the calendar has this date, and n is its day number
abbrev pub IsDateOf : ℕ → ℕ → ℕ → ℤ → Type 0
IsDateOf y m d n = IsCalendarDay y m d × (n ≡ day_number y m d)

-- the calendar has the written day, and n is its day number
abbrev pub IsDayOf : DayText → ℤ → Type 0
IsDayOf (numeric year month day) n = IsDateOf (number_of year) (number_of month) (number_of day) n
IsDayOf (named year name day) n =
    (m : ℕ) × NamesMonth name m × IsDateOf (number_of year) m (number_of day) n
IsDayOf (day_first day name year) n =
    (m : ℕ) × NamesMonth name m × IsDateOf (number_of year) m (number_of day) n
IsDayOf (of_year year place) n =
    IsDayOfYear (number_of year) (number_of place)
    × (n ≡ number_in_year (number_of year) (number_of place))

-- the date that a written day names, whether the calendar has it or not
abbrev pub NamesDate : DayText → CalendarDate → Type 0
NamesDate (numeric year month day) date =
    date ≡ OfMonth (number_of year) (number_of month) (number_of day)
NamesDate (named year name day) date =
    (m : ℕ) × NamesMonth name m × (date ≡ OfMonth (number_of year) m (number_of day))
NamesDate (day_first day name year) date =
    (m : ℕ) × NamesMonth name m × (date ≡ OfMonth (number_of year) m (number_of day))
NamesDate (of_year year place) date = date ≡ OfYear (number_of year) (number_of place)

-- the text begins with a day, which names this date, and this follows it
abbrev pub BeginsWithDay : List ℕ → CalendarDate → List ℕ → Type 0
BeginsWithDay text date rest =
    (day : DayText) × AreDayParts day × (text ≡ day_spelling day ++ rest) × NamesDate day date

abbrev pub BeginsNoDigit : List ℕ → Type 0
BeginsNoDigit [] = Unit {0}
BeginsNoDigit (b ∷ t) = is_ascii_digit b ≡ false

-- the calendar has the date, and n is its day number
abbrev pub IsDayNumber : CalendarDate → ℤ → Type 0
IsDayNumber (OfMonth y m d) n = IsDateOf y m d n
IsDayNumber (OfYear y place) n = IsDayOfYear y place × (n ≡ number_in_year y place)
