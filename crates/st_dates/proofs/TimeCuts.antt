-- A text that was read to a time is one of its forms.
use Rattle.std.proofs.Common.{◌≡◌, ℕ, true, ◌==◌, ◌||◌, ◌+◌, ◌*◌, ◌^◌, inl, inr, refl, sym, ap, ◌∙◌, arith, List, [], ◌∷◌, ◌++◌, Option, Some}
use Rattle.std.proofs.lemmas.Bool.{cases_Bool, or_cases}
use Rattle.std.proofs.lemmas.Bool.Decides.{nat_tests}
use Rattle.std.specs.Prelude.{codes}
use Rattle.st_text.specs.Scan.{◌>>=◌}
use Rattle.st_dates.specs.TimeText.{minute_of, second_units, IsMark, TimeText, midnight, after_mark, time_spelling, AreTimeParts, time_units}
use Rattle.st_dates.specs.TimeTextMachine.{clock_of, past_slash, past_mark, time_of_text, day_units}
use Rattle.st_dates.specs.declared.clock.TimeOfDay.{TimeOfDay}
use Rattle.std.proofs.lemmas.Option.{same_Some}
use Rattle.st_text.proofs.Logic.{bound}
use Rattle.st_dates.proofs.ClockCuts.{clock_cut}

same_byte : (a b : ℕ) → (a == b) ≡ true → a ≡ b
same_byte a b h = grind (arith, nat_tests)

same_cons : (a b : ℕ) (t : List ℕ) → a ≡ b → a ∷ t ≡ b ∷ t
same_cons a b t e = ap (λ (x : ℕ). x ∷ t) e

record MarkCut (text rest : List ℕ) : Type 0 where
  mark : List ℕ
  is_mark : IsMark mark
  whole : text ≡ mark ++ rest

slash_cut : (t rest : List ℕ) → past_slash t ≡ rest → MarkCut (47 ∷ t) rest
unfolding past_slash
slash_cut [] rest e = record { mark = codes "/"; is_mark = inl refl; whole = ap (λ (v : List ℕ). 47 ∷ v) e }
slash_cut (b ∷ t) rest e =
    elim (cases_Bool (b == 47)) [
      | inl h ↦ record {
        mark = codes "//";
        is_mark = inr (inl refl);
        whole = ap (λ (v : List ℕ). 47 ∷ v) (same_cons b 47 t (same_byte b 47 h) ∙ ap (λ (v : List ℕ). 47 ∷ v) (rw h at e));
      }
      | inr h ↦ record { mark = codes "/"; is_mark = inl refl; whole = ap (λ (v : List ℕ). 47 ∷ v) (rw h at e) }
    ]

behind_mark : (b : ℕ) (t rest mark : List ℕ) (c : ℕ) → mark ≡ c ∷ [] → IsMark mark → (b == c) ≡ true → t ≡ rest → MarkCut (b ∷ t) rest
behind_mark b t rest mark c m is h e = record {
  mark = mark;
  is_mark = is;
  whole = same_cons b c t (same_byte b c h) ∙ ap (λ (v : List ℕ). c ∷ v) e ∙ ap (λ (v : List ℕ). v ++ rest) (sym m);
}

byte_cut : (b : ℕ) (t rest : List ℕ) → past_mark (b ∷ t) ≡ Some rest → MarkCut (b ∷ t) rest
unfolding past_mark
byte_cut b t rest e =
    elim (cases_Bool (b == 47)) [
      | inl h ↦
          let c = slash_cut t rest (same_Some (past_slash t) rest (rw h at e)) in
          record { mark = c.mark; is_mark = c.is_mark; whole = same_cons b 47 t (same_byte b 47 h) ∙ c.whole }
      | inr other ↦
          let e1 = rw other at e in
          elim (cases_Bool ((b == 84) || (b == 116) || (b == 45))) [
            | inl h ↦
                let same : t ≡ rest = same_Some t rest (rw h at e1) in
                elim (or_cases ((b == 84) || (b == 116)) (b == 45) h) [
                  | inl k ↦ elim (or_cases (b == 84) (b == 116) k) [
                    | inl x ↦ behind_mark b t rest (codes "T") 84 refl (inr (inr (inl refl))) x same
                    | inr x ↦ behind_mark b t rest (codes "t") 116 refl (inr (inr (inr (inl refl)))) x same
                  ]
                  | inr x ↦ behind_mark b t rest (codes "-") 45 refl (inr (inr (inr (inr refl)))) x same
                ]
            | inr h ↦ absurd (let no = rw h at e1 in cc)
          ]
    ]

-- what a text was that was read to a time
pub record TimeCut (text : List ℕ) (u : ℕ) : Type 0 where
  pub time : TimeText
  pub parts : AreTimeParts time
  pub whole : text ≡ time_spelling time
  pub units : u ≡ time_units time

time_none : time_of_text [] ≡ Some 0
unfolding time_of_text
time_none = refl

same_units : (u : TimeOfDay) (minute units : ℕ) → u.minute ≡ minute → u.units ≡ units → day_units u ≡ minute * (60 * 10 ^ 18) + units
same_units u minute units e f = rw (e, f) refl

mark_then : (b : ℕ) (t : List ℕ) (u : ℕ) → time_of_text (b ∷ t) ≡ Some u → TimeCut (b ∷ t) u
unfolding time_of_text
mark_then b t u e =
    let next : List ℕ → Option ℕ = λ v. clock_of 59 v >>= λ time. Some (day_units time) in
    let last : TimeOfDay → Option ℕ = λ time. Some (day_units time) in
    let a = bound (past_mark (b ∷ t)) next u e in
    let d = bound (clock_of 59 a.0) last u a.2 in
    let m = byte_cut b t a.0 a.1 in
    let c = clock_cut 59 a.0 d.0 d.1 in
    record {
      time = after_mark m.mark c.clock;
      parts = (m.is_mark, c.parts);
      whole = m.whole ∙ ap (λ (v : List ℕ). m.mark ++ v) c.whole;
      units = sym (same_Some (day_units d.0) u d.2) ∙ same_units d.0 (minute_of c.clock) (second_units c.clock) c.minute_is c.units_are;
    }

pub time_cut : (text : List ℕ) (u : ℕ) → time_of_text text ≡ Some u → TimeCut text u
time_cut [] u e = record { time = midnight; parts = tt; whole = refl; units = same_Some u 0 (sym e ∙ time_none) }
time_cut (b ∷ t) u e = mark_then b t u e
