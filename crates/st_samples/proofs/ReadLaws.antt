-- The lines of samples are read.
use Rattle.std.proofs.Common.{◌≡◌, ℕ, ◌+◌, ◌-◌, ◌*◌, ◌^◌, ◌<◌, ◌≤◌, true, inl, refl, sym, ap, ◌∙◌, arith, pos, List, [], ◌∷◌, length, length-append, Some}
use Rattle.std.proofs.lemmas.List.{length-replicate, length-map}
use Rattle.std.specs.List.{list_all}
use Rattle.std.proofs.lemmas.Grind.{common_steps}
use Rattle.std.proofs.lemmas.Int.{ints}
use Rattle.st_text.specs.Bytes.{padded, decimal_digits, number_of}
use Rattle.st_text.specs.Lines.{skip_blanks, without_end_blanks, trimmed}
use Rattle.st_text.specs.Scan.{IsDigitRun}
use Rattle.st_text.proofs.Logic.{and-left, and-right}
use Rattle.st_text.proofs.Spelled.{number_of-padded, length-padded, are_digits-padded}
use Rattle.st_dates.specs.Decimals.{units_of_decimals}
use Rattle.st_dates.specs.Range.{IsInRange}
use Rattle.st_forms.specs.WordMachine.{is_no_blank}
use Rattle.st_forms.specs.NumberForm.{NumberText, number_units}
use Rattle.st_forms.specs.Reading.{plain}
use Rattle.st_forms.proofs.Tails.{digits_blankless, blankless_both}
use Rattle.st_samples.specs.Generator.{seconds, milliseconds}
use Rattle.st_samples.specs.Laws.{SecondsAreRead}
use Rattle.st_samples.specs.SampleLine.{count_of, seconds_text}

-- a text without blanks has none at its ends
all_kept : (t : List ℕ) → list_all is_no_blank t ≡ true → without_end_blanks t ≡ t
all_kept [] h = refl
all_kept (b ∷ t) h = grind (arith, common_steps, all_kept t (and-right (is_no_blank b) (list_all is_no_blank t) h), and-left (is_no_blank b) (list_all is_no_blank t) h)

none_skipped : (t : List ℕ) → list_all is_no_blank t ≡ true → skip_blanks t ≡ t
none_skipped [] h = refl
none_skipped (b ∷ t) h = grind (arith, common_steps, and-left (is_no_blank b) (list_all is_no_blank t) h)

pub kept : (t : List ℕ) → list_all is_no_blank t ≡ true → trimmed t ≡ t
kept t h = ap without_end_blanks (none_skipped t h) ∙ all_kept t h

-- digits of a number that is written in so many
pub digits_are : (low high width n : ℕ) → n < 10 ^ width → low ≤ width → width ≤ high → IsDigitRun low high (padded width n)
digits_are low high width n few from to = record {
  digits = are_digits-padded width n;
  at_least = omega (arith, length-padded width n few);
  at_most = omega (arith, length-padded width n few);
}

-- three decimals of a second
pub milliseconds_are : (n : ℕ) → n < 1_000 → units_of_decimals (padded 3 n) ≡ n * 10 ^ 15
milliseconds_are n few =
    ap (λ (k : ℕ). number_of (padded 3 n) * 10 ^ (18 - k)) (length-padded 3 n few) ∙ ap (λ (k : ℕ). k * 10 ^ 15) (number_of-padded 3 n)

pub in_range : (x : ℕ) → IsInRange (count_of x)
in_range x = (omega (arith, ints), omega (arith, ints))

some_digit : (n : ℕ) → 1 ≤ length (decimal_digits n)
some_digit n = simp (length-append, length-replicate, length-map) (omega arith)

abbrev written : ℕ → NumberText
written x = record { whole = decimal_digits (seconds x); decimals = Some (padded 3 (milliseconds x)) }

written_units : (x : ℕ) → number_units (written x) ≡ seconds x * 10 ^ 18 + milliseconds x * 10 ^ 15
written_units x = omega (arith, ap (λ (k : ℕ). k * 10 ^ 18) (number_of-padded 1 (seconds x)), milliseconds_are (milliseconds x) (omega arith))

seconds_blankless : (x : ℕ) → list_all is_no_blank (seconds_text x) ≡ true
seconds_blankless x =
    blankless_both (decimal_digits (seconds x)) (46 ∷ padded 3 (milliseconds x))
    (digits_blankless (decimal_digits (seconds x)) (are_digits-padded 1 (seconds x)))
    (digits_blankless (padded 3 (milliseconds x)) (are_digits-padded 3 (milliseconds x)))

pub seconds_are_read : SecondsAreRead
seconds_are_read x system form no_utc no_calendar =
    let value : count_of x ≡ pos (number_units (written x)) = ap pos (sym (written_units x)) in (
      plain [] (written x),
      record {
        parts = (
          inl refl,
          record {
            digits = are_digits-padded 1 (seconds x);
            some = some_digit (seconds x);
            decimals = digits_are 1 12 3 (milliseconds x) (omega arith) (omega arith) (omega arith);
          },
        );
        whole = kept (seconds_text x) (seconds_blankless x);
        taken = (no_calendar, no_utc);
      },
      tt,
      (count_of x, value, in_range x),
      value,
    )
