-- The text of a cell: the picture with what its marks print. Source: Time Required Reading, on time pictures;
-- the two digits of `AP` are this project's own.
use Rattle.std.specs.Prelude.{◌≡◌, ℕ, ◌+◌, ◌-◌, ◌*◌, ◌/◌, ◌%◌, ◌^◌, ◌<◌, ◌≤◌, ◌⊎◌, nat_lt, ℤ, pos, unsigned_abs, List, [], ◌∷◌, ◌++◌, take, codes, if◌then◌else◌}
use Rattle.std.specs.List.{flat_map}
use Rattle.st_text.specs.Bytes.{padded}
use Rattle.st_decimal.specs.Fixed.{decimals, fixed}
use Rattle.st_dates.specs.Civil.{IsCivil}
use Rattle.st_dates.specs.Names.{lowered, name_of_month, name_of_weekday}
use Rattle.st_picture.specs.declared.cell.Cell.{Cell}
use Rattle.st_picture.specs.declared.cell.Cell.TheVariants as cells
use Rattle.st_picture.specs.declared.mark.Case.{Case}
use Rattle.st_picture.specs.declared.mark.Case.TheVariants.{Upper, Capital, Lower}
use Rattle.st_picture.specs.declared.mark.Mark.{Mark}
use Rattle.st_picture.specs.declared.mark.Mark.TheVariants.{Year, Month, MonthShort, MonthName, DayOfMonth, DayOfYear, WeekdayShort, WeekdayName, Hour, HourOfHalf, Minute, Second, HalfUpper, HalfLower, Seconds, JulianDate, Scale, Round, Truncate}
use Rattle.st_picture.specs.declared.mark.Piece.{Piece}
use Rattle.st_picture.specs.declared.mark.Piece.TheVariants.{Marked, Plain}
use Rattle.st_picture.specs.declared.shown.Shown.{Shown}

-- what has passed of a day, in hours, minutes and units of a second; from 86,400 s on it is still 23:59, with seconds from
-- 60 on
pub record IsTimeOfDay (of_day : ℤ) (s : Shown) : Type 0 where
  pub sum : of_day ≡ pos ((s.hour * 3_600 + s.minute * 60) * 10 ^ 18 + s.second)
  pub hours : s.hour ≤ 23
  pub minutes : s.minute ≤ 59
  pub within : (s.second < 60 * 10 ^ 18) ⊎ ((s.hour ≡ 23) × (s.minute ≡ 59))

-- what a cell has is shown; the marks of a picture ask for no more than its cells have
abbrev pub Shows : Cell → Shown → Type 0
Shows (cells.Count n) s = s.count ≡ n
Shows (cells.Day day of_day) s = IsCivil day s.civil × IsTimeOfDay of_day s
Shows (cells.Month year month) s = (s.civil.year ≡ year) × (s.civil.month ≡ month)
Shows (cells.Year year) s = s.civil.year ≡ year

-- a name in these letters
abbrev pub in_case : Case → List ℕ → List ℕ
in_case Upper name = name
in_case Capital [] = []
in_case Capital (letter ∷ more) = letter ∷ lowered more
in_case Lower name = lowered name

-- seconds with two digits, and with as many decimals
abbrev pub seconds_text : ℕ → ℕ → List ℕ
seconds_text n places = padded 2 (n / 10 ^ 18) ++ decimals places (n % 10 ^ 18 / 10 ^ (18 - places))

-- what a mark prints
abbrev pub mark_text : Shown → Mark → List ℕ
mark_text s Year = padded 4 (unsigned_abs s.civil.year)
mark_text s Month = padded 2 s.civil.month
mark_text s (MonthShort letters) = in_case letters (take 3 (name_of_month s.civil.month))
mark_text s (MonthName letters) = in_case letters (name_of_month s.civil.month)
mark_text s DayOfMonth = padded 2 s.civil.day
mark_text s DayOfYear = padded 3 s.civil.doy
mark_text s (WeekdayShort letters) = in_case letters (take 3 (name_of_weekday s.civil.weekday))
mark_text s (WeekdayName letters) = in_case letters (name_of_weekday s.civil.weekday)
mark_text s Hour = padded 2 s.hour
mark_text s HourOfHalf = padded 2 ((s.hour + 11) % 12 + 1)
mark_text s Minute = padded 2 s.minute
mark_text s (Second places) = seconds_text s.second places
mark_text s HalfUpper = if nat_lt s.hour 12 then codes "A.M." else codes "P.M."
mark_text s HalfLower = if nat_lt s.hour 12 then codes "a.m." else codes "p.m."
mark_text s (Seconds places) = fixed s.count places
mark_text s (JulianDate places) = fixed s.count places
mark_text s (Scale system) = []
mark_text s Round = []
mark_text s Truncate = []

abbrev pub shown_text : Shown → Piece → List ℕ
shown_text s (Marked mark) = mark_text s mark
shown_text s (Plain b) = b ∷ []

-- the text of a cell
pub record IsTextOf (pieces : List Piece) (cell : Cell) (text : List ℕ) : Type 0 where
  pub shown : Shown
  pub shows : Shows cell shown
  pub whole : text ≡ flat_map (shown_text shown) pieces
