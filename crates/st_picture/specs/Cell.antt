-- Cells of the time line: what is printed of a time is a function of its cell. A cell is truncated downwards, before J2000
-- too. Source: Time Required Reading, on time pictures, which truncate unless they ask for rounding.
use Rattle.std.specs.Prelude.{◌≡◌, ◌⊎◌, ℕ, ◌-◌, ◌*◌, ◌^◌, ◌≤◌, ℤ, pos, neg_ℤ, ◌+ℤ◌, ◌*ℤ◌, ◌≤ℤ◌, ◌<ℤ◌, int_le, Bool, true, false, Option, Some, None, unsigned_abs, if◌then◌else◌, ⊤}
use Rattle.st_fraction.specs.Fraction.{Fraction, ◌≤ᶠ◌, ◌<ᶠ◌, over, whole, units, ◌+ᶠ◌, ◌*ᶠ◌}
use Rattle.st_fraction.specs.Floor.{IsFloor}
use Rattle.st_dates.specs.Calendar.{IsCalendarDay, day_number}
use Rattle.st_dates.specs.declared.system.System.{System}
use Rattle.st_dates.specs.declared.system.System.TheVariants as systems
use Rattle.st_leaps.specs.Label.{Stamp, IsLabelOf, even_days}
use Rattle.st_leaps.specs.OfTable.{count_of}
use Rattle.st_leaps.specs.declared.table.LeapTable.{LeapTable}
use Rattle.st_picture.specs.Picture.{Picture}
use Rattle.st_picture.specs.declared.cell.Cell.{Cell}
use Rattle.st_picture.specs.declared.cell.Cell.TheVariants as cells
use Rattle.st_picture.specs.declared.unit.LeastUnit.{LeastUnit}
use Rattle.st_picture.specs.declared.unit.LeastUnit.TheVariants.{Second, Minute, Hour, Day, Month, Year, Count, Julian}

infix 50 ◌≤ᶜ◌
-- the days of a scale: UTC's by a table of leap seconds, else days of 86,400 s
abbrev pub days_of : Option LeapTable → ℤ → ℤ
days_of None = even_days
days_of (Some table) = count_of table

-- the table that tells the days of a system
abbrev pub leaps_for : System → Option LeapTable → Option LeapTable
leaps_for systems.Utc leaps = leaps
leaps_for systems.Tai leaps = None
leaps_for systems.Tt leaps = None
leaps_for systems.Tdb leaps = None
leaps_for systems.Sclk leaps = None

abbrev pub second_step : ℕ
second_step = 10 ^ 18

abbrev pub minute_step : ℕ
minute_step = 60 * 10 ^ 18

abbrev pub hour_step : ℕ
hour_step = 3_600 * 10 ^ 18

-- z units: the greatest multiple of the step that is at most a second of a day
pub record IsTruncated (step : ℕ) (second : Fraction) (z : ℤ) : Type 0 where
  pub times : ℤ
  pub multiple : z ≡ times *ℤ pos step
  pub from : units z ≤ᶠ second
  pub to : second <ᶠ units (z +ℤ pos step)

-- at most the cap: what comes after 86,400 s of a day is still 23:59
abbrev pub capped : ℤ → ℤ → ℤ
capped cap z = if int_le z cap then z else cap

-- the day is one of the year's month
pub record IsOfMonth (day year : ℤ) (month : ℕ) : Type 0 where
  pub year_from : pos 0 ≤ℤ year
  pub of_month : ℕ
  pub date : IsCalendarDay (unsigned_abs year) month of_month
  pub number : day_number (unsigned_abs year) month of_month ≡ day

-- the cell of a label, where the unit is told by labels
abbrev pub IsCellOfLabel : LeastUnit → Stamp → Cell → Type 0
IsCellOfLabel (Second places) label cell = (z : ℤ) × IsTruncated (10 ^ (18 - places)) label.second z × (cell ≡ cells.Day label.day z)
IsCellOfLabel Minute label cell =
    (z : ℤ) × IsTruncated minute_step label.second z × (cell ≡ cells.Day label.day (capped (pos (86_340 * second_step)) z))
IsCellOfLabel Hour label cell =
    (z : ℤ) × IsTruncated hour_step label.second z × (cell ≡ cells.Day label.day (capped (pos (82_800 * second_step)) z))
IsCellOfLabel Day label cell = cell ≡ cells.Day label.day (pos 0)
IsCellOfLabel Month label cell = (year : ℤ) × (month : ℕ) × IsOfMonth label.day year month × (cell ≡ cells.Month year month)
IsCellOfLabel Year label cell = (year : ℤ) × (month : ℕ) × IsOfMonth label.day year month × (cell ≡ cells.Year year)
IsCellOfLabel (Count places) label cell = ⊥
IsCellOfLabel (Julian places) label cell = ⊥

pub record HasLabelCell (unit : LeastUnit) (count : ℤ → ℤ) (w : Fraction) (cell : Cell) : Type 0 where
  pub label : Stamp
  pub is_label : IsLabelOf count w label
  pub is_cell : IsCellOfLabel unit label cell

-- a value times as many tens
abbrev pub times_tens : Fraction → ℕ → Fraction
times_tens w places = w *ᶠ whole (pos (10 ^ places))

-- the Julian date of a value: 2451545 at 2000-01-01 12:00:00, and 86,400 s a day
abbrev pub julian_date : Fraction → Fraction
julian_date w = whole (pos 2_451_545) +ᶠ w *ᶠ over (pos 1) 86_400

-- the cell of a value, taken downwards
abbrev pub IsTruncatedCell : LeastUnit → (ℤ → ℤ) → Fraction → Cell → Type 0
IsTruncatedCell (Count places) count w cell = (q : ℤ) × IsFloor (times_tens w places) q × (cell ≡ cells.Count q)
IsTruncatedCell (Julian places) count w cell = (q : ℤ) × IsFloor (times_tens (julian_date w) places) q × (cell ≡ cells.Count q)
IsTruncatedCell (Second places) count w cell = HasLabelCell (Second places) count w cell
IsTruncatedCell Minute count w cell = HasLabelCell Minute count w cell
IsTruncatedCell Hour count w cell = HasLabelCell Hour count w cell
IsTruncatedCell Day count w cell = HasLabelCell Day count w cell
IsTruncatedCell Month count w cell = HasLabelCell Month count w cell
IsTruncatedCell Year count w cell = HasLabelCell Year count w cell

-- half of the unit, in seconds; a month and a year are never halved
abbrev pub half_unit : LeastUnit → Fraction
half_unit (Second places) = over (pos 1) (2 * 10 ^ places)
half_unit (Count places) = over (pos 1) (2 * 10 ^ places)
half_unit (Julian places) = over (pos 86_400) (2 * 10 ^ places)
half_unit Minute = whole (pos 30)
half_unit Hour = whole (pos 1_800)
half_unit Day = whole (pos 43_200)
half_unit Month = whole (pos 0)
half_unit Year = whole (pos 0)

-- what is truncated: the value, and half of the unit where times are rounded
abbrev pub to_truncate : LeastUnit → Bool → Fraction → Fraction
to_truncate unit true v = v +ᶠ half_unit unit
to_truncate unit false v = v

abbrev pub IsCell : LeastUnit → Bool → (ℤ → ℤ) → Fraction → Cell → Type 0
IsCell unit rounds count v cell = IsTruncatedCell unit count (to_truncate unit rounds v) cell

-- the cell of a value by a picture; for UTC the value is TAI, and its days are told by the table
abbrev pub IsCellOf : Picture → Option LeapTable → Fraction → Cell → Type 0
IsCellOf picture leaps v cell = IsCell picture.unit picture.rounds (days_of (leaps_for picture.system leaps)) v cell

-- the form of a unit's cells: a number, a day and what has passed of it, a month, or a year
abbrev pub IsOfUnit : LeastUnit → Cell → Type 0
IsOfUnit (Count places) (cells.Count n) = ⊤
IsOfUnit (Julian places) (cells.Count n) = ⊤
IsOfUnit (Second places) (cells.Day day of_day) = ⊤
IsOfUnit Minute (cells.Day day of_day) = ⊤
IsOfUnit Hour (cells.Day day of_day) = ⊤
IsOfUnit Day (cells.Day day of_day) = ⊤
IsOfUnit Month (cells.Month year month) = ⊤
IsOfUnit Year (cells.Year year) = ⊤
IsOfUnit unit cell = ⊥

-- the order of cells of one picture: of numbers, or of the calendar
abbrev pub ◌≤ᶜ◌ : Cell → Cell → Type 0
(cells.Count a) ≤ᶜ (cells.Count b) = a ≤ℤ b
(cells.Day a s) ≤ᶜ (cells.Day b t) = (a <ℤ b) ⊎ ((a ≡ b) × (s ≤ℤ t))
(cells.Month a m) ≤ᶜ (cells.Month b n) = (a <ℤ b) ⊎ ((a ≡ b) × (m ≤ n))
(cells.Year a) ≤ᶜ (cells.Year b) = a ≤ℤ b
a ≤ᶜ b = ⊥

-- the decimals of a unit
abbrev pub unit_places : LeastUnit → ℕ
unit_places (Second places) = places
unit_places (Count places) = places
unit_places (Julian places) = places
unit_places unit = 0

-- the units of pictures have at most nine decimals
pub record IsUnit (unit : LeastUnit) : Type 0 where
  pub few : unit_places unit ≤ 9

-- a value that calls take: at most 6,311,393,600 s in magnitude, in units of 10^-18 s
abbrev pub IsPrintable : ℤ → Type 0
IsPrintable v =
    (neg_ℤ (pos 6_311_393_600_000_000_000_000_000_000) ≤ℤ v)
    × (v ≤ℤ pos 6_311_393_600_000_000_000_000_000_000)
