-- Runs of digits, words and blanks are cut off a text in one way.
use Rattle.std.proofs.Common.{◌≡◌, ℕ, true, false, ◌≤◌, ◌<◌, ◌==◌, inl, inr, refl, sym, ap, ◌∙◌, arith, List, [], ◌∷◌, ◌++◌, length, Some, None}
use Rattle.std.proofs.lemmas.Bool.{cases_Bool}
use Rattle.std.proofs.lemmas.Bool.Decides.{nat_tests}
use Rattle.std.proofs.lemmas.Option.{same_Some}
use Rattle.std.specs.Char.{is_ascii_digit}
use Rattle.std.specs.List.{list_all}
use Rattle.st_text.specs.Bytes.{is_blank, are_blanks, are_digits, number_of}
use Rattle.st_text.specs.Lines.{skip_blanks}
use Rattle.st_text.specs.Scan.{leading_digits, past_digits, after, IsDigitRun, is_digit_run}
use Rattle.st_text.proofs.Logic.{and-left, and-right}
use Rattle.st_text.proofs.Runs.{Stops, leading-take, behind-drop, rest, joined, leading-fail, leading-at, behind-at, digits_at, past_at, digits_test, digits_tested}
use Rattle.st_dates.proofs.NameLaws.{is_letter}
use Rattle.st_forms.specs.DateForm.{IsGap}
use Rattle.st_forms.specs.WordMachine.{run, is_no_blank, word, past_word, past_gap}

-- what the code keeps of a word
pub ruleset cut = (leading-take, behind-drop, rest)

-- a run of digits is read before a text that begins with none
pub run_at : (low high : ℕ) (digits rest : List ℕ) → IsDigitRun low high digits → Stops is_ascii_digit rest → run low high (digits ++ rest) ≡ Some (number_of digits, rest)
unfolding run
run_at low high digits rest h s =
    rw (digits_at low high digits rest h s, past_at low high digits rest h s, digits_test low high digits h) refl

pub record RunCut (low high : ℕ) (text : List ℕ) (p : ℕ × List ℕ) : Type 0 where
  pub digits : List ℕ
  pub is_run : IsDigitRun low high digits
  pub whole : text ≡ digits ++ p.1
  pub number : p.0 ≡ number_of digits

pub run_cut : (low high : ℕ) (text : List ℕ) (p : ℕ × List ℕ) → run low high text ≡ Some p → RunCut low high text p
unfolding run
run_cut low high text p e =
    elim (cases_Bool (is_digit_run low high (leading_digits text))) [
      | inl h ↦
          let same : ◌≡◌ {A = ℕ × List ℕ} (number_of (leading_digits text), past_digits text) p = same_Some (number_of (leading_digits text), past_digits text) p (rw h at e) in
          record {
            digits = leading_digits text;
            is_run = digits_tested low high (leading_digits text) h;
            whole = sym (joined is_ascii_digit text) ∙ ap (λ (q : ℕ × List ℕ). leading_digits text ++ q.1) same;
            number = ap (λ (q : ℕ × List ℕ). q.0) (sym same);
          }
      | inr h ↦ absurd (let no = rw h at e in cc)
    ]

run_none : (low high : ℕ) (text : List ℕ) → (IsDigitRun low high (leading_digits text) → ⊥) → run low high text ≡ None
unfolding run
run_none low high text h =
    elim (cases_Bool (is_digit_run low high (leading_digits text))) [
      | inl t ↦ absurd (h (digits_tested low high (leading_digits text) t))
      | inr f ↦ rw f refl
    ]

too_few : (low n m : ℕ) → low ≤ n → n ≡ m → m < low → ⊥
too_few low n m h e k = absurd (omega arith)

-- a run of fewer digits than are wanted isn't read, and least of all none
pub run_fewer : (low high a b : ℕ) (digits rest : List ℕ) → IsDigitRun a b digits → Stops is_ascii_digit rest → b < low → run low high (digits ++ rest) ≡ None
run_fewer low high a b digits rest h s less =
    run_none low high (digits ++ rest)
    (λ k. too_few low (length (leading_digits (digits ++ rest))) (length digits) k.at_least (ap (λ (t : List ℕ). length t) (digits_at a b digits rest h s)) (omega (arith, h.at_most)))

pub run_more : (low high a b : ℕ) (digits rest : List ℕ) → IsDigitRun a b digits → Stops is_ascii_digit rest → high < a → run low high (digits ++ rest) ≡ None
run_more low high a b digits rest h s more =
    run_none low high (digits ++ rest)
    (λ k. let e = ap (λ (t : List ℕ). length t) (digits_at a b digits rest h s) in absurd (omega (arith, e, k.at_most, h.at_least)))

pub run_no_digit : (low high : ℕ) (text : List ℕ) → 1 ≤ low → Stops is_ascii_digit text → run low high text ≡ None
run_no_digit low high text some s =
    run_none low high text
    (λ k. too_few low (length (leading_digits text)) 0 k.at_least (ap (λ (t : List ℕ). length t) (leading-fail is_ascii_digit text s)) some)

-- blanks that are skipped
skip_at : (blanks rest : List ℕ) → are_blanks blanks ≡ true → Stops is_blank rest → skip_blanks (blanks ++ rest) ≡ rest
skip_at [] [] h s = refl
skip_at [] (b ∷ t) h s = rw s refl
skip_at (b ∷ blanks) rest h s =
    rw (and-left (is_blank b) (are_blanks blanks) h) (skip_at blanks rest (and-right (is_blank b) (are_blanks blanks) h) s)

pub skipped : (blanks rest : List ℕ) → are_blanks blanks ≡ true → Stops is_blank rest → skip_blanks (blanks ++ rest) ≡ rest
skipped blanks rest h s = skip_at blanks rest h s

pub record SkipCut (text rest : List ℕ) : Type 0 where
  pub blanks : List ℕ
  pub are : are_blanks blanks ≡ true
  pub whole : text ≡ blanks ++ rest

longer : (b : ℕ) (t rest : List ℕ) → is_blank b ≡ true → SkipCut t rest → SkipCut (b ∷ t) rest
longer b t rest h c = record {
  blanks = b ∷ c.blanks;
  are = rw h c.are;
  whole = ap (λ (u : List ℕ). b ∷ u) c.whole;
}

pub skip_cut : (text : List ℕ) → SkipCut text (skip_blanks text)
skip_cut [] = record { blanks = []; are = refl; whole = refl }
skip_cut (b ∷ t) =
    let P : List ℕ → Type 0 = λ r. SkipCut (b ∷ t) r in
    elim (cases_Bool (is_blank b)) [
      | inl h ↦ rw h (longer b t (skip_blanks t) h (skip_cut t))
      | inr h ↦ rw h (record { blanks = []; are = refl; whole = refl })
    ]

-- a gap is read before a text that begins with no blank
pub gap_at : (gap rest : List ℕ) → IsGap gap → Stops is_blank rest → past_gap (gap ++ rest) ≡ Some rest
unfolding past_gap
gap_at [] rest h s = absurd (let n : 1 ≤ 0 = h.some in omega arith)
gap_at (b ∷ gap) rest h s =
    rw (and-left (is_blank b) (are_blanks gap) h.blanks) (ap Some (skip_at gap rest (and-right (is_blank b) (are_blanks gap) h.blanks) s))

pub gap_none : (text : List ℕ) → Stops is_blank text → past_gap text ≡ None
unfolding past_gap
gap_none [] s = refl
gap_none (b ∷ t) s = rw s refl

pub record GapCut (text rest : List ℕ) : Type 0 where
  pub gap : List ℕ
  pub is_gap : IsGap gap
  pub whole : text ≡ gap ++ rest

with_first : (b : ℕ) (t rest : List ℕ) → is_blank b ≡ true → SkipCut t rest → GapCut (b ∷ t) rest
with_first b t rest h c = record {
  gap = b ∷ c.blanks;
  is_gap = record { some = omega arith; blanks = rw h c.are };
  whole = ap (λ (u : List ℕ). b ∷ u) c.whole;
}

pub gap_cut : (text rest : List ℕ) → past_gap text ≡ Some rest → GapCut text rest
unfolding past_gap
gap_cut [] rest e = absurd (cc)
gap_cut (b ∷ t) rest e =
    elim (cases_Bool (is_blank b)) [
      | inl h ↦
          let same : skip_blanks t ≡ rest = same_Some (skip_blanks t) rest (rw h at e) in
          with_first b t rest h (rw same at (skip_cut t))
      | inr h ↦ absurd (let no = rw h at e in cc)
    ]

-- bytes of each kind
pub digit_no_blank : (b : ℕ) → is_ascii_digit b ≡ true → is_blank b ≡ false
digit_no_blank b h = grind (arith, nat_tests)

pub letter_no_blank : (b : ℕ) → is_letter b ≡ true → is_blank b ≡ false
letter_no_blank b h = grind (arith, nat_tests)

pub letter_no_digit : (b : ℕ) → is_letter b ≡ true → is_ascii_digit b ≡ false
letter_no_digit b h = grind (arith, nat_tests)

pub blank_no_digit : (b : ℕ) → is_blank b ≡ true → is_ascii_digit b ≡ false
blank_no_digit b h = grind (arith, nat_tests)

pub no_blank : (b : ℕ) → is_blank b ≡ false → is_no_blank b ≡ true
no_blank b h = rw h refl

-- a run of digits begins with no blank
pub digits_first : (low high : ℕ) (digits rest : List ℕ) → IsDigitRun low high digits → 1 ≤ low → Stops is_blank (digits ++ rest)
digits_first low high [] rest h some = absurd (let n : low ≤ 0 = h.at_least in omega arith)
digits_first low high (b ∷ t) rest h some = digit_no_blank b (and-left (is_ascii_digit b) (are_digits t) h.digits)

-- a gap begins with a blank
pub gap_no_digit : (gap rest : List ℕ) → IsGap gap → Stops is_ascii_digit (gap ++ rest)
gap_no_digit [] rest h = absurd (let n : 1 ≤ 0 = h.some in omega arith)
gap_no_digit (b ∷ gap) rest h = blank_no_digit b (and-left (is_blank b) (are_blanks gap) h.blanks)

blank_ends : (b : ℕ) → is_blank b ≡ true → is_no_blank b ≡ false
blank_ends b h = rw h refl

pub gap_ends : (gap rest : List ℕ) → IsGap gap → Stops is_no_blank (gap ++ rest)
gap_ends [] rest h = absurd (let n : 1 ≤ 0 = h.some in omega arith)
gap_ends (b ∷ gap) rest h = blank_ends b (and-left (is_blank b) (are_blanks gap) h.blanks)

other_byte : (b byte : ℕ) → is_blank b ≡ true → is_blank byte ≡ false → (b == byte) ≡ false
other_byte b byte h differs = grind (arith, nat_tests)

-- where a gap begins, no other byte does
pub gap_other : (byte : ℕ) (gap rest : List ℕ) → is_blank byte ≡ false → IsGap gap → after byte (gap ++ rest) ≡ None
unfolding after
gap_other byte [] rest differs h = absurd (let n : 1 ≤ 0 = h.some in omega arith)
gap_other byte (b ∷ gap) rest differs h =
    let here = and-left (is_blank b) (are_blanks gap) h.blanks in
    let other : (b == byte) ≡ false = other_byte b byte here differs in
    rw other refl

-- a word, and what follows it, before a blank or the end
pub word_at : (w rest : List ℕ) → list_all is_no_blank w ≡ true → Stops is_no_blank rest → word (w ++ rest) ≡ w
word_at w rest h s = leading-at is_no_blank w rest h s

pub past_word_at : (w rest : List ℕ) → list_all is_no_blank w ≡ true → Stops is_no_blank rest → past_word (w ++ rest) ≡ rest
past_word_at w rest h s = behind-at is_no_blank w rest h s

pub word_joined : (text : List ℕ) → text ≡ word text ++ past_word text
word_joined text = sym (joined is_no_blank text)
