-- Texts of each form, cut by computation.
use Rattle.std.proofs.Common.{◌≡◌, Some, None, ◌*◌, ◌^◌, refl}
use Rattle.std.specs.Prelude.{codes}
use Rattle.st_dates.specs.AtDateMachine.{parts_of}
use Rattle.st_dates.specs.DayTextMachine.{month_of_name, with_day, with_year, year_first, month_next, day_of_text}
use Rattle.st_dates.specs.NamesMachine.{month_from}
use Rattle.st_text.specs.Scan.{leading, behind, after, is_digit_run}
use Rattle.st_dates.specs.TimeTextMachine.{field, decimal_units, seconds_of, clock_of, past_slash, past_mark, time_of_text}
use Rattle.st_dates.specs.declared.day_text.CalendarDate.TheVariants.{OfMonth, OfYear}

record Texts : Type 0 where
  numeric : parts_of (codes "1972-7-01//23:59") ≡ Some (OfMonth 1972 7 1, 86_340 * 10 ^ 18)
  named : parts_of (codes "2017-Jan-1") ≡ Some (OfMonth 2017 1 1, 0)
  day_first : parts_of (codes "29-FEBRUARY-2000T1:2:3") ≡ Some (OfMonth 2000 2 29, 3_723 * 10 ^ 18)
  of_year : parts_of (codes "2000-366-0:00:00.5") ≡ Some (OfYear 2000 366, 5 * 10 ^ 17)
  late_hour : parts_of (codes "2000-1-1T24:00") ≡ None

texts : Texts
unfolding parts_of month_of_name with_day with_year year_first month_next day_of_text month_from leading behind after is_digit_run field decimal_units seconds_of clock_of past_slash past_mark time_of_text
texts = record { numeric = refl; named = refl; day_first = refl; of_year = refl; late_hour = refl }
