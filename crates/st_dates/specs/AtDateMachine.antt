-- How a date after an `@` is read: its day, the time after it, and then the calendar and the
-- range.
use Rattle.std.specs.Prelude.{ℕ, Bool, ◌&&◌, List, ℤ, int_le, Option, Some, None, Result, Ok, Err, if◌then◌else◌}
use Rattle.st_dates.specs.AtDate.{moment}
use Rattle.st_dates.specs.DayTextMachine.{day_of_text, number_in}
use Rattle.st_text.specs.Scan.{◌>>=◌}
use Rattle.st_dates.specs.TimeTextMachine.{time_of_text}
use Rattle.st_dates.specs.declared.day_text.CalendarDate.{CalendarDate}
use Rattle.st_dates.specs.declared.fault.DateFault.{DateFault}
use Rattle.st_dates.specs.declared.fault.DateFault.TheVariants.{Form, NoSuchDay, OutOfRange}
use Rattle.st_dates.specs.declared.label.TheConstants.{FIRST, LAST}

-- the date that a text spells, and the units of its day
unfoldable pub parts_of : List ℕ → Option (CalendarDate × ℕ)
parts_of text = day_of_text text >>= λ p. time_of_text p.1 >>= λ units. Some (p.0, units)

-- whether a formal count is in the range of times
abbrev pub is_in_range : ℤ → Bool
is_in_range z = int_le FIRST z && int_le z LAST

abbrev pub ranged : ℤ → Result ℤ DateFault
ranged z = if is_in_range z then Ok z else Err OutOfRange

abbrev pub counted : Option ℤ → ℕ → Result ℤ DateFault
counted None units = Err NoSuchDay
counted (Some n) units = ranged (moment n units)

abbrev pub dated : Option (CalendarDate × ℕ) → Result ℤ DateFault
dated None = Err Form
dated (Some p) = counted (number_in p.0) p.1

-- what reading the text after an `@` answers
unfoldable pub at_date_of : List ℕ → Result ℤ DateFault
at_date_of text = dated (parts_of text)
