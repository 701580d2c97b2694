-- A day that is written by the numbers of its year, month and day is read as that day.
use Rattle.std.proofs.Common.{◌≡◌, ℕ, ◌^◌, ◌<◌, ◌≤◌, ℤ, append-nil, Ok, refl, sym, subst, arith}
use Rattle.std.proofs.lemmas.Bool.Decides.{nat_tests}
use Rattle.std.specs.Prelude.{unsigned_abs}
use Rattle.st_text.specs.Bytes.{number_of, padded}
use Rattle.st_text.specs.Scan.{IsDigitRun}
use Rattle.st_text.proofs.Spelled.{are_digits-padded, length-padded, number_of-padded}
use Rattle.st_dates.specs.AtDate.{ReadsAtDate, Written, moment}
use Rattle.st_dates.specs.Calendar.{IsCalendarDay, day_number, month_length}
use Rattle.st_dates.specs.Civil.{IsCivil}
use Rattle.st_dates.specs.DayText.{DayText, IsDateOf}
use Rattle.st_dates.specs.Range.{IsInRange}
use Rattle.st_dates.specs.TimeText.{TimeText}
use Rattle.st_dates.specs.WrittenDate.{date_text}
use Rattle.st_dates.specs.declared.civil.Civil.{Civil}

run_of : (width n : ℕ) (low : ℕ) → n < 10 ^ width → low ≤ width → IsDigitRun low width (padded width n)
run_of width n low small at_least = record {
  digits = are_digits-padded width n;
  at_least = omega (arith, length-padded width n small, at_least);
  at_most = omega (arith, length-padded width n small);
}

month_short : (y m : ℕ) → month_length y m ≤ 31
month_short y m = grind (arith, nat_tests)

abbrev written : Civil → Written
written c = record { day = DayText.numeric (padded 4 (unsigned_abs c.year)) (padded 2 c.month) (padded 2 c.day); time = TimeText.midnight }

-- the numbers of the text are those of the date
same_date : (y m d p q r : ℕ) (n : ℤ) → p ≡ y → q ≡ m → r ≡ d → IsCalendarDay y m d → day_number y m d ≡ n → IsDateOf p q r n
same_date y m d p q r n year month day has is =
    subst (λ (a : ℕ). IsDateOf a q r n) (sym year)
    (subst (λ (b : ℕ). IsDateOf y b r n) (sym month) (subst (λ (e : ℕ). IsDateOf y m e n) (sym day) (has, sym is)))

pub date-reads : (n : ℤ) (c : Civil) → IsCivil n c → unsigned_abs c.year < 10_000 → IsInRange (moment n 0) → ReadsAtDate (date_text c) (Ok (moment n 0))
date-reads n c is small within =
    let year : ℕ = unsigned_abs c.year in
    let month : c.month < 10 ^ 2 = omega (arith, is.date.month_to) in
    let day : c.day < 10 ^ 2 = omega (arith, is.date.day_to, month_short year c.month) in (
      written c,
      record {
        day_parts = (run_of 4 year 4 small (omega arith), run_of 2 c.month 1 month (omega arith), run_of 2 c.day 1 day (omega arith));
        time_parts = tt;
        whole = sym (append-nil (date_text c));
      },
      (
        n,
        same_date year c.month c.day (number_of (padded 4 year)) (number_of (padded 2 c.month)) (number_of (padded 2 c.day)) n
            (number_of-padded 4 year) (number_of-padded 2 c.month) (number_of-padded 2 c.day) is.date is.number,
        refl,
      ),
      within,
    )
