-- A text of each form, cut by computation, and one that the definitions spell.
use Rattle.std.proofs.Common.{◌≡◌, ◌*◌, ◌^◌, inr, refl, arith, Some, None, ℕ, pos, neg_ℤ}
use Rattle.std.specs.Prelude.{codes}
use Rattle.st_text.specs.Scan.{leading, behind, after, IsDigitRun, is_digit_run}
use Rattle.st_dates.specs.DayTextMachine.{month_of_name, with_day, with_year, month_next, day_of_text}
use Rattle.st_dates.specs.DayTextMachine.{year_first as dashed_year_first}
use Rattle.st_dates.specs.NamesMachine.{month_from}
use Rattle.st_dates.specs.TimeText.{midnight}
use Rattle.st_dates.specs.TimeTextMachine.{field, decimal_units, seconds_of, clock_of}
use Rattle.st_dates.specs.declared.clock.TimeOfDay.{TimeOfDay}
use Rattle.st_dates.specs.declared.day_text.CalendarDate.TheVariants.{OfMonth, OfYear}
use Rattle.st_dates.specs.declared.system.System.TheVariants.{Utc, Tt}
use Rattle.st_forms.specs.DateForm.{IsGap, name_day_year}
use Rattle.st_forms.specs.DateMachine.{named_month, year_first, day_first, slashed, month_first, date_of_text}
use Rattle.st_forms.specs.NumberMachine.{number_of_text}
use Rattle.st_forms.specs.Reading.{calendar, Spells}
use Rattle.st_forms.specs.ReadingMachine.{past_sign, seconds_of_text, julian_days, julian_of_text, dated_of_text, reading_of}
use Rattle.st_forms.specs.Scale.{unnamed}
use Rattle.st_forms.specs.TailMachine.{system_named, scale_of_text, timed, spaced, tail_of_text}
use Rattle.st_forms.specs.WordMachine.{run, past_gap}
use Rattle.st_forms.specs.declared.form.Form.TheVariants.{Any}
use Rattle.st_forms.specs.declared.reading.Reading.TheVariants.{Dated, Julian, Plain}

abbrev at : ℕ → ℕ → TimeOfDay
at minute units = record { minute = minute; units = units }

record Texts : Type 0 where
  comma : reading_of (codes "DEC 18, 1996 12:28:28") ≡ Some (Dated (OfMonth 1996 12 18) (at 748 (28 * 10 ^ 18)) None)
  no_blank_behind : reading_of (codes "dec 18,1996") ≡ Some (Dated (OfMonth 1996 12 18) (at 0 0) None)
  place : reading_of (codes "1996-353T12:28:28.5") ≡ Some (Dated (OfYear 1996 353) (at 748 (285 * 10 ^ 17)) None)
  slashes : reading_of (codes "12/18/1996 12:28 UTC") ≡ Some (Dated (OfMonth 1996 12 18) (at 748 0) (Some Utc))
  year_blanks : reading_of (codes "1996 DEC  18") ≡ Some (Dated (OfMonth 1996 12 18) (at 0 0) None)
  day_blanks : reading_of (codes "18 December 1996 tdt") ≡ Some (Dated (OfMonth 1996 12 18) (at 0 0) (Some Tt))
  dashes : reading_of (codes "18-DEC-1996T23:59:60") ≡ Some (Dated (OfMonth 1996 12 18) (at 1439 (60 * 10 ^ 18)) None)
  numbers : reading_of (codes "1996-2-30") ≡ Some (Dated (OfMonth 1996 2 30) (at 0 0) None)
  julian_date : reading_of (codes "JD 2451545.5") ≡ Some (Julian (pos (43_200 * 10 ^ 18)) None)
  seconds : reading_of (codes "-0.5") ≡ Some (Plain (neg_ℤ (pos (5 * 10 ^ 17))))
  far : reading_of (codes "999999999999") ≡ Some (Plain (pos (10 ^ 29)))
  late_hour : reading_of (codes "1996-353T24:00") ≡ None
  mixed : reading_of (codes "1996-DEC 18") ≡ None
  joined_mark : reading_of (codes "JD2451545") ≡ None

texts : Texts
unfolding reading_of seconds_of_text past_sign julian_of_text julian_days dated_of_text date_of_text named_month year_first day_first slashed month_first run past_gap tail_of_text spaced timed scale_of_text system_named number_of_text day_of_text dashed_year_first month_next month_of_name with_day with_year month_from field decimal_units seconds_of clock_of leading behind after is_digit_run
texts = record {
  comma = refl;
  no_blank_behind = refl;
  place = refl;
  slashes = refl;
  year_blanks = refl;
  day_blanks = refl;
  dashes = refl;
  numbers = refl;
  julian_date = refl;
  seconds = refl;
  far = refl;
  late_hour = refl;
  mixed = refl;
  joined_mark = refl;
}

two_digits : IsDigitRun 1 2 (codes "18")
two_digits = record { digits = refl; at_least = omega arith; at_most = omega arith }

four_digits : IsDigitRun 4 4 (codes "1996")
four_digits = record { digits = refl; at_least = omega arith; at_most = omega arith }

blank : IsGap (codes " ")
blank = record { some = omega arith; blanks = refl }

-- the blanks at its ends are no part of the text
spelled : Spells Utc Any (codes "  Dec 18, 1996 ") (calendar (name_day_year (codes "Dec") (codes " ") (codes "18") (codes " ") (codes "1996")) midnight unnamed)
spelled = record {
  parts = (((four_digits, (12, record { month_from = omega arith; month_to = omega arith; letters = inr refl }), two_digits), (blank, refl)), tt, tt);
  whole = refl;
  taken = λ e. absurd (cc);
}
