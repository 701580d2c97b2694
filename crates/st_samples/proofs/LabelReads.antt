-- The label of each sample is read.
use Rattle.std.proofs.Common.{◌≡◌, ℕ, ◌*◌, ◌/◌, ◌%◌, ◌^◌, ◌<◌, ◌≤◌, true, inl, refl, sym, ap, ◌∙◌, subst, arith, ℤ, pos, ◌≤ℤ◌, List, ◌∷◌, ◌++◌, unsigned_abs}
use Rattle.std.specs.Prelude.{codes}
use Rattle.std.specs.List.{list_all}
use Rattle.std.proofs.lemmas.Int.{ints}
use Rattle.std.proofs.lemmas.List.{append-nil}
use Rattle.st_text.specs.Bytes.{padded}
use Rattle.st_text.specs.Lines.{trimmed}
use Rattle.st_text.proofs.Spelled.{number_of-padded, are_digits-padded}
use Rattle.st_dates.specs.Civil.{IsCivil}
use Rattle.st_dates.specs.DayText.{IsDayOf}
use Rattle.st_dates.specs.Label.{formal, IsPlainLabel}
use Rattle.st_dates.specs.Names.{AreSameLetters}
use Rattle.st_dates.specs.Range.{IsInRange}
use Rattle.st_dates.specs.TimeText.{Clock, decimals, IsField, AreClockParts, after_mark, minute_of, second_units, time_units}
use Rattle.st_dates.specs.declared.civil.Civil.{Civil}
use Rattle.st_dates.specs.declared.label.Label.{Label}
use Rattle.st_forms.specs.DateForm.{DateText, year_month_day, AreDateParts, day_text}
use Rattle.st_forms.specs.Reading.{calendar, spelling, IsLabelOf}
use Rattle.st_forms.specs.Scale.{unnamed}
use Rattle.st_forms.specs.WordMachine.{is_no_blank}
use Rattle.st_forms.proofs.Tails.{digits_blankless, blankless_both}
use Rattle.st_samples.specs.Laws.{LabelsAreRead}
use Rattle.st_samples.specs.SampleLine.{count_of, date_text, clock_text, label_text}
use Rattle.st_samples.proofs.DateParts.{year_few, month_few}
use Rattle.st_samples.proofs.ReadLaws.{digits_are, in_range, kept, milliseconds_are}

-- the date and the time of day as they are written
abbrev date_of : Civil → DateText
date_of c = year_month_day (padded 4 (unsigned_abs c.year)) (padded 2 c.month) (padded 2 c.day)

abbrev clock_of : ℕ → Clock
clock_of passed = decimals (padded 2 (passed / 3_600_000)) (padded 2 (passed / 60_000 % 60)) (padded 2 (passed / 1_000 % 60)) (padded 3 (passed % 1_000))

date_parts : (c : Civil) (day : ℤ) → IsCivil day c → day ≤ℤ pos 24_856 → AreDateParts (date_of c)
date_parts c day h to =
    let year = year_few (unsigned_abs c.year) c.month c.day day h.number to in (
      (
        digits_are 4 4 4 (unsigned_abs c.year) year (omega arith) (omega arith),
        digits_are 1 2 2 c.month (omega (arith, h.date.month_to)) (omega arith) (omega arith),
        digits_are 1 2 2 c.day (omega (arith, h.date.day_to, month_few (unsigned_abs c.year) c.month)) (omega arith) (omega arith),
      ),
      tt,
    )

date_is : (c : Civil) (day : ℤ) → IsCivil day c → IsDayOf (day_text (date_of c)) day
date_is c day h =
    rw (number_of-padded 4 (unsigned_abs c.year), number_of-padded 2 c.month, number_of-padded 2 c.day) (h.date, sym h.number)

field_is : (last n : ℕ) → n ≤ last → last < 100 → IsField last (padded 2 n)
field_is last n le few = record { digits = digits_are 1 2 2 n (omega arith) (omega arith) (omega arith); within = omega (arith, number_of-padded 2 n) }

clock_parts : (passed : ℕ) → passed < 86_400_000 → AreClockParts 60 (clock_of passed)
clock_parts passed few = (
  field_is 23 (passed / 3_600_000) (omega arith) (omega arith),
  field_is 59 (passed / 60_000 % 60) (omega arith) (omega arith),
  field_is 60 (passed / 1_000 % 60) (omega arith) (omega arith),
  digits_are 1 12 3 (passed % 1_000) (omega arith) (omega arith) (omega arith),
)

-- the minute of the day, and what has passed of it
minute_is : (passed : ℕ) → minute_of (clock_of passed) ≡ passed / 60_000
minute_is passed = omega (arith, number_of-padded 2 (passed / 3_600_000), number_of-padded 2 (passed / 60_000 % 60))

second_is : (passed : ℕ) → second_units (clock_of passed) ≡ passed % 60_000 * 10 ^ 15
second_is passed =
    let second = ap (λ (k : ℕ). k * 10 ^ 18) (number_of-padded 2 (passed / 1_000 % 60)) in
    omega (arith, second, milliseconds_are (passed % 1_000) (omega arith))

time_is : (passed : ℕ) → time_units (after_mark (codes "T") (clock_of passed)) ≡ passed * 10 ^ 15
time_is passed =
    let minutes = ap (λ (k : ℕ). k * (60 * 10 ^ 18)) (minute_is passed) in
    omega (arith, minutes, second_is passed)

whole_is : (c : Civil) (passed : ℕ) → label_text c passed ≡ spelling (calendar (date_of c) (after_mark (codes "T") (clock_of passed)) unnamed)
whole_is c passed = ap (λ (t : List ℕ). date_text c ++ t) (sym (append-nil {A = ℕ} (84 ∷ clock_text passed)))

blankless : (c : Civil) (passed : ℕ) → list_all is_no_blank (label_text c passed) ≡ true
blankless c passed =
    blankless_both (date_text c) (84 ∷ clock_text passed)
    (blankless_both (padded 4 (unsigned_abs c.year)) _ (digits 4 (unsigned_abs c.year))
    (blankless_both (padded 2 c.month) (45 ∷ padded 2 c.day) (digits 2 c.month) (digits 2 c.day)))
    (blankless_both (padded 2 (passed / 3_600_000)) _ (digits 2 (passed / 3_600_000))
    (blankless_both (padded 2 (passed / 60_000 % 60)) _ (digits 2 (passed / 60_000 % 60))
    (blankless_both (padded 2 (passed / 1_000 % 60)) (46 ∷ padded 3 (passed % 1_000)) (digits 2 (passed / 1_000 % 60)) (digits 3 (passed % 1_000)))))
  where
    digits : (width n : ℕ) → list_all is_no_blank (padded width n) ≡ true
    digits width n = digits_blankless (padded width n) (are_digits-padded width n)

-- what a plain label with the count of a sample can be
passed_few : (label : Label) (passed : ℕ) → label.of_day ≡ pos (passed * 10 ^ 15) → IsPlainLabel label → passed < 86_400_000
passed_few label passed e plain = omega (arith, ints, e, plain.to)

day_last : (x : ℕ) (label : Label) → IsPlainLabel label → formal label ≡ count_of x → label.day ≤ℤ pos 24_856
day_last x label plain e = omega (arith, ints, e, plain.from)

pub labels_are_read : LabelsAreRead
labels_are_read x line system form no_seconds h =
    let civil = h.text.civil in
    let passed = h.text.passed in
    let time = after_mark (codes "T") (clock_of passed) in
    let last = day_last x h.label h.plain h.counts in
    let few = passed_few h.label passed h.text.time h.plain in
    let label : IsLabelOf (date_of civil) time h.label =
    (date_is civil h.label.day h.text.date, h.text.time ∙ ap pos (sym (time_is passed))) in
    let whole : trimmed line ≡ spelling (calendar (date_of civil) time unnamed) =
    ap trimmed h.text.whole ∙ kept (label_text civil passed) (blankless civil passed) ∙ whole_is civil passed in (
      h.label,
      h.plain,
      h.counts,
      (
        calendar (date_of civil) time unnamed,
        record {
          parts = (date_parts civil h.label.day h.text.date last, (inl same_t, clock_parts passed few), tt);
          whole = whole;
          taken = no_seconds;
        },
        tt,
        (formal h.label, (h.label, label, refl), subst IsInRange (sym h.counts) (in_range x)),
        (label, λ no. omega (arith, second_is passed, no.0)),
      ),
    )
  where
    same_t : AreSameLetters (codes "T") (codes "T")
    same_t = refl
