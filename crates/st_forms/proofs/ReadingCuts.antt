-- What was read is spelled by the text.
use Rattle.std.proofs.Common.{◌≡◌, ℕ, Bool, true, false, ◌||◌, ◌==◌, inl, inr, refl, sym, ap, ◌∙◌, subst, arith, List, [], ◌∷◌, ◌++◌, Option, Some}
use Rattle.std.specs.Prelude.{codes}
use Rattle.std.proofs.lemmas.Bool.{cases_Bool, or_cases, eqb-true}
use Rattle.std.proofs.lemmas.Bool.Decides.{nat_tests}
use Rattle.std.proofs.lemmas.Option.{same_Some}
use Rattle.std.specs.Option.{option_or}
use Rattle.st_text.specs.Scan.{◌>>=◌}
use Rattle.st_text.proofs.Logic.{bound}
use Rattle.st_dates.specs.Names.{AreSameLetters}
use Rattle.st_dates.specs.declared.clock.TimeOfDay.{TimeOfDay}
use Rattle.st_dates.specs.declared.day_text.CalendarDate.{CalendarDate}
use Rattle.st_dates.specs.declared.system.System.{System}
use Rattle.st_decimal.specs.Value.{is_minus, signed}
use Rattle.st_forms.specs.DateForm.{date_spelling}
use Rattle.st_forms.specs.DateMachine.{date_of_text}
use Rattle.st_forms.specs.NumberForm.{NumberText, number_spelling, AreNumberParts}
use Rattle.st_forms.specs.NumberMachine.{number_of_text}
use Rattle.st_forms.specs.Reading.{Written, calendar, julian, plain, spelling, IsSign, AreParts, julian_instant}
use Rattle.st_forms.specs.ReadingMachine.{past_sign, seconds_of_text, julian_days, julian_of_text, dated_of_text, reading_of}
use Rattle.st_forms.specs.Scale.{ScaleText, scale_spelling, AreScaleParts}
use Rattle.st_forms.specs.TailMachine.{Tail, is_word, scale_of_text, tail_of_text}
use Rattle.st_forms.specs.WordMachine.{word, past_word, past_gap}
use Rattle.st_forms.specs.declared.reading.Reading.{Reading}
use Rattle.st_forms.specs.declared.reading.Reading.TheVariants.{Dated, Julian, Plain}
use Rattle.st_forms.proofs.Choices.{either_of}
use Rattle.st_forms.proofs.Cutting.{GapCut, gap_cut, word_joined}
use Rattle.st_forms.proofs.DateCuts.{DateCut, date_cut}
use Rattle.st_forms.proofs.Numbers.{read_units, NumberCut, number_cut}
use Rattle.st_forms.proofs.ReadingForms.{IsReadingOf}
use Rattle.st_forms.proofs.Tails.{NamesScale, scale_cut, TailCut, tail_cut, word_passes}

-- what a text was that was read to a time
pub record ReadingCut (text : List ℕ) (r : Reading) : Type 0 where
  pub written : Written
  pub parts : AreParts written
  pub whole : text ≡ spelling written
  pub is : IsReadingOf written r

-- plain seconds: the sign, where there is one
record SignCut (text : List ℕ) : Type 0 where
  sign : List ℕ
  is_sign : IsSign sign
  whole : text ≡ sign ++ past_sign text
  minus : is_minus text ≡ is_minus sign

no_minus : (b : ℕ) → ((b == 43) || (b == 45)) ≡ false → (b == 45) ≡ false
no_minus b h = grind (arith, nat_tests)

one_byte : (b c : ℕ) → (b == c) ≡ true → b ∷ [] ≡ c ∷ []
one_byte b c h = ap (λ (x : ℕ). x ∷ []) (eqb-true b c h)

sign_of : (b : ℕ) → ((b == 43) || (b == 45)) ≡ true → IsSign (b ∷ [])
sign_of b h =
    elim (or_cases (b == 43) (b == 45) h) [
      | inl e ↦ inr (inl (one_byte b 43 e))
      | inr e ↦ inr (inr (one_byte b 45 e))
    ]

sign_cut : (text : List ℕ) → SignCut text
unfolding past_sign
sign_cut [] = record { sign = []; is_sign = inl refl; whole = refl; minus = refl }
sign_cut (b ∷ t) =
    elim (cases_Bool ((b == 43) || (b == 45))) [
      | inl h ↦ record { sign = b ∷ []; is_sign = sign_of b h; whole = rw h refl; minus = refl }
      | inr h ↦ record { sign = []; is_sign = inl refl; whole = rw h refl; minus = no_minus b h }
    ]

plain_of : (text : List ℕ) (n : ℕ) → NumberCut (past_sign text) n → ReadingCut text (Plain (signed (is_minus text) n))
plain_of text n c =
    let s = sign_cut text in
    record {
      written = plain s.sign c.number;
      parts = (s.is_sign, c.parts);
      whole = s.whole ∙ ap (λ (v : List ℕ). s.sign ++ v) c.whole;
      is = ap (λ (b : Bool). signed b n) s.minus ∙ ap (λ (m : ℕ). signed (is_minus s.sign) m) c.same;
    }

seconds_cut : (text : List ℕ) (r : Reading) → seconds_of_text text ≡ Some r → ReadingCut text r
unfolding seconds_of_text
seconds_cut text r e =
    let last : ℕ → Option Reading = λ n. Some (Plain (signed (is_minus text) n)) in
    let a = bound (number_of_text (past_sign text)) last r e in
    subst (λ (q : Reading). ReadingCut text q) (same_Some (Plain (signed (is_minus text) a.0)) r a.2)
    (plain_of text a.0 (number_cut (past_sign text) a.0 a.1))

-- a Julian date
record DaysCut (text : List ℕ) (r : Reading) : Type 0 where
  days : NumberText
  days_parts : AreNumberParts days
  scale : ScaleText
  scale_parts : AreScaleParts scale
  whole : text ≡ number_spelling days ++ scale_spelling scale
  system : Option System
  same : r ≡ Julian (julian_instant (read_units days)) system
  names : NamesScale scale system

two_glued : (text a b c d : List ℕ) → text ≡ a ++ b → a ≡ c → b ≡ d → text ≡ c ++ d
two_glued text a b c d e f g = e ∙ ap (λ (v : List ℕ). v ++ b) f ∙ ap (λ (v : List ℕ). c ++ v) g

days_cut : (text : List ℕ) (r : Reading) → julian_days text ≡ Some r → DaysCut text r
unfolding julian_days
days_cut text r e =
    let last : ℕ → Option System → Option Reading = λ n s. Some (Julian (julian_instant n) s) in
    let next : ℕ → Option Reading = λ n. scale_of_text (past_word text) >>= λ s. Some (Julian (julian_instant n) s) in
    let a = bound (number_of_text (word text)) next r e in
    let b = bound (scale_of_text (past_word text)) (last a.0) r a.2 in
    let n = number_cut (word text) a.0 a.1 in
    let s = scale_cut (past_word text) b.0 b.1 in
    record {
      days = n.number;
      days_parts = n.parts;
      scale = s.scale;
      scale_parts = s.parts;
      whole = two_glued text (word text) (past_word text) (number_spelling n.number) (scale_spelling s.scale) (word_joined text) n.whole s.whole;
      system = b.0;
      same = sym (same_Some (Julian (julian_instant a.0) b.0) r b.2) ∙ ap (λ (m : ℕ). Julian (julian_instant m) b.0) n.same;
      names = s.names;
    }

julian_from : (text u : List ℕ) (r : Reading) → AreSameLetters (word text) (codes "JD") → GapCut (past_word text) u → DaysCut u r → ReadingCut text r
julian_from text u r h g c =
    let w = julian (word text) g.gap c.days c.scale in
    let P : Reading → Type 0 = λ q. IsReadingOf w q in
    record {
      written = w;
      parts = (h, g.is_gap, c.days_parts, c.scale_parts);
      whole = word_joined text ∙ ap (λ (v : List ℕ). word text ++ v) (g.whole ∙ ap (λ (v : List ℕ). g.gap ++ v) c.whole);
      is = subst P (sym c.same) (refl, c.names);
    }

julian_cut : (text : List ℕ) (r : Reading) → julian_of_text text ≡ Some r → ReadingCut text r
unfolding julian_of_text
julian_cut text r e =
    elim (cases_Bool (is_word (word text) (codes "JD"))) [
      | inl h ↦
          let next : List ℕ → Option Reading = λ u. julian_days u in
          let a = bound (past_gap (past_word text)) next r (rw h at e) in
          julian_from text a.0 r (word_passes (word text) (codes "JD") h) (gap_cut (past_word text) a.0 a.1) (days_cut a.0 r a.2)
      | inr h ↦ absurd (let none = rw h at e in cc)
    ]

-- a calendar date
dated_from : (text rest : List ℕ) (d : CalendarDate) (t : TimeOfDay) (o : Option System) → DateCut text (d, rest) → TailCut rest (t, o) → ReadingCut text (Dated d t o)
dated_from text rest d t o c k = record {
  written = calendar c.date k.written k.scale;
  parts = (c.parts, k.time_parts, k.scale_parts);
  whole = c.whole ∙ ap (λ (v : List ℕ). date_spelling c.date ++ v) k.whole;
  is = (c.names, k.same, k.names);
}

dated_cut : (text : List ℕ) (r : Reading) → dated_of_text text ≡ Some r → ReadingCut text r
unfolding dated_of_text
dated_cut text r e =
    let last : CalendarDate → Tail → Option Reading = λ d t. Some (Dated d t.0 t.1) in
    let next : CalendarDate × List ℕ → Option Reading = λ d. tail_of_text d.1 >>= λ t. Some (Dated d.0 t.0 t.1) in
    let a = bound (date_of_text text) next r e in
    let b = bound (tail_of_text a.0.1) (last a.0.0) r a.2 in
    subst (λ (q : Reading). ReadingCut text q) (same_Some (Dated a.0.0 b.0.0 b.0.1) r b.2)
    (dated_from text a.0.1 a.0.0 b.0.0 b.0.1 (date_cut text a.0 a.1) (tail_cut a.0.1 b.0 b.1))

pub reading_cut : (text : List ℕ) (r : Reading) → reading_of text ≡ Some r → ReadingCut text r
unfolding reading_of
reading_cut text r e =
    elim (either_of (seconds_of_text text) (option_or (julian_of_text text) (dated_of_text text)) r e) [
      | inl h ↦ seconds_cut text r h
      | inr e ↦ elim (either_of (julian_of_text text) (dated_of_text text) r e) [
        | inl h ↦ julian_cut text r h
        | inr h ↦ dated_cut text r h
      ]
    ]
