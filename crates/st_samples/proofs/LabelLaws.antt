-- A sample's label has one text.
use Rattle.std.proofs.Common.{◌≡◌, ℕ, ◌*◌, ◌^◌, ℤ, pos, ◌≤ℤ◌, FitsSigned, to_z, of_z, to_z-of_z, w32, List, Result, Ok, Err, sym, ap, ◌∙◌, subst, arith}
use Rattle.std.specs.Prelude.{IfOk}
use Rattle.std.proofs.lemmas.Int.{ints}
use Rattle.st_dates.specs.Civil.{IsCivil}
use Rattle.st_dates.specs.Label.{formal, IsPlainLabel}
use Rattle.st_dates.specs.declared.civil.Civil.{Civil}
use Rattle.st_dates.specs.declared.label.Label.{Label}
use Rattle.st_dates.proofs.CivilLaws.{one_civil}
use Rattle.st_samples.specs.SampleLine.{count_of, label_text, IsLabelText, IsLabelLine}

same_count : (p q : ℕ) → pos (p * 10 ^ 15) ≡ pos (q * 10 ^ 15) → p ≡ q
same_count p q e = let counts : p * 10 ^ 15 ≡ q * 10 ^ 15 = cc in omega arith

pub one_text : (label : Label) (a b : List ℕ) → IsLabelText label a → IsLabelText label b → a ≡ b
one_text label a b h k =
    h.whole
    ∙ ap (λ (c : Civil). label_text c h.passed) (one_civil label.day h.civil k.civil h.date k.date)
    ∙ ap (λ (p : ℕ). label_text k.civil p) (same_count h.passed k.passed (sym h.time ∙ k.time))
    ∙ sym k.whole

-- its day is a number of 32 bits
pub same_day : (day : ℤ) → pos 0 ≤ℤ day → day ≤ℤ pos 24_856 → to_z w32 (of_z w32 day) ≡ day
same_day day from to = let fits : FitsSigned w32 day = omega (arith, ints) in to_z-of_z fits

pub its_date : (day : ℤ) (civil : Civil) → pos 0 ≤ℤ day → day ≤ℤ pos 24_856 → IsCivil (to_z w32 (of_z w32 day)) civil → IsCivil day civil
its_date day civil from to = subst (λ (d : ℤ). IsCivil d civil) (same_day day from to)

-- what is made of the label and its date is the line
pub line_is : {E : Type 0} (r : Result (List ℕ) E) (x passed : ℕ) (label : Label) (civil : Civil) → IsPlainLabel label → formal label ≡ count_of x
    → label.of_day ≡ pos (passed * 10 ^ 15) → IsCivil label.day civil → IfOk r (λ line. line ≡ label_text civil passed) → IfOk r (IsLabelLine x)
line_is (Ok line) x passed label civil plain counts time date whole = record {
  label = label;
  plain = plain;
  counts = counts;
  text = record { civil = civil; passed = passed; date = date; time = time; whole = whole };
}
line_is (Err e) x passed label civil plain counts time date whole = whole

pub line_only : {E : Type 0} (r : Result (List ℕ) E) (x passed : ℕ) (label : Label) (civil : Civil)
    → ((other : Label) → IsPlainLabel other → formal other ≡ count_of x → label ≡ other)
    → label.of_day ≡ pos (passed * 10 ^ 15) → IsCivil label.day civil → IfOk r (λ line. line ≡ label_text civil passed)
    → (text : List ℕ) → IsLabelLine x text → IfOk r (λ line. line ≡ text)
line_only (Ok line) x passed label civil one time date whole text h =
    one_text label line text
    (record { civil = civil; passed = passed; date = date; time = time; whole = whole })
    (subst (λ (l : Label). IsLabelText l text) (sym (one h.label h.plain h.counts)) h.text)
line_only (Err e) x passed label civil one time date whole text h = whole
