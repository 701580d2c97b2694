-- A time is read from a text exactly where the text is one of its forms.
use Rattle.std.proofs.Common.{◌≡◌, ℕ, true, false, ◌==◌, ◌≤◌, inl, inr, refl, sym, ap, ◌∙◌, subst, arith, List, [], ◌∷◌, ◌++◌, Some, None}
use Rattle.std.proofs.lemmas.Bool.Decides.{nat_tests}
use Rattle.std.specs.Char.{is_ascii_digit}
use Rattle.st_text.specs.Bytes.{are_digits}
use Rattle.st_text.specs.Scan.{IsDigitRun}
use Rattle.st_dates.specs.TimeText.{Clock, minutes, seconds, decimals, clock_spelling, AreClockParts, minute_of, second_units, IsMark, TimeText, midnight, after_mark, time_spelling, AreTimeParts, time_units}
use Rattle.st_dates.specs.TimeTextMachine.{clock_of, past_slash, past_mark, time_of_text, day_units}
use Rattle.st_dates.specs.declared.clock.TimeOfDay.{TimeOfDay}
use Rattle.st_dates.proofs.ClockForms.{time, clock_read}
use Rattle.st_text.proofs.Logic.{and-left}
use Rattle.st_text.proofs.Runs.{Stops}

no_slash : (b : ℕ) → is_ascii_digit b ≡ true → (b == 47) ≡ false
no_slash b h = grind (arith, nat_tests)

digit_first : (text rest : List ℕ) → IsDigitRun 1 2 text → past_slash (text ++ rest) ≡ text ++ rest
unfolding past_slash
digit_first [] rest h = absurd (let n : 1 ≤ 0 = h.at_least in omega arith)
digit_first (b ∷ t) rest h = rw (no_slash b (and-left (is_ascii_digit b) (are_digits t) h.digits)) refl

clock_first : (c : Clock) → AreClockParts 59 c → past_slash (clock_spelling c) ≡ clock_spelling c
clock_first (minutes h m) k = digit_first h (58 ∷ m) k.0.digits
clock_first (seconds h m s) k = digit_first h (58 ∷ (m ++ (58 ∷ s))) k.0.digits
clock_first (decimals h m s f) k = digit_first h (58 ∷ (m ++ (58 ∷ (s ++ (46 ∷ f))))) k.0.digits

slash : (t : List ℕ) → past_mark (47 ∷ t) ≡ Some (past_slash t)
unfolding past_mark
slash t = refl

slashes : (t : List ℕ) → past_mark (47 ∷ 47 ∷ t) ≡ Some t
unfolding past_mark past_slash
slashes t = refl

letter : (t : List ℕ) → (past_mark (84 ∷ t) ≡ Some t) × (past_mark (116 ∷ t) ≡ Some t) × (past_mark (45 ∷ t) ≡ Some t)
unfolding past_mark
letter t = (refl, refl, refl)

mark_read : (mark t : List ℕ) → IsMark mark → past_slash t ≡ t → past_mark (mark ++ t) ≡ Some t
mark_read mark t h same =
    let P : List ℕ → Type 0 = λ m. past_mark (m ++ t) ≡ Some t in
    elim h [
      | inl e ↦ subst P (sym e) (slash t ∙ ap Some same)
      | inr h ↦ elim h [
        | inl e ↦ subst P (sym e) (slashes t)
        | inr h ↦ elim h [
          | inl e ↦ subst P (sym e) (letter t).0
          | inr h ↦ elim h [
            | inl e ↦ subst P (sym e) (letter t).1
            | inr e ↦ subst P (sym e) (letter t).2
          ]
        ]
      ]
    ]

no_mark_end : past_mark [] ≡ None
unfolding past_mark
no_mark_end = refl

time_then : (t c : List ℕ) (u : TimeOfDay) → past_mark t ≡ Some c → clock_of 59 c ≡ Some u → time_of_text t ≡ Some (day_units u)
unfolding time_of_text
time_then [] c u e f = absurd (let n = no_mark_end in cc)
time_then (b ∷ t) c u e f = rw (e, f) refl

time_none : time_of_text [] ≡ Some 0
unfolding time_of_text
time_none = refl

-- a spelled time is read
pub time_read : (w : TimeText) → AreTimeParts w → time_of_text (time_spelling w) ≡ Some (time_units w)
time_read midnight h = time_none
time_read (after_mark mark clock) h =
    time_then (mark ++ clock_spelling clock) (clock_spelling clock) (time (minute_of clock) (second_units clock)) (mark_read mark (clock_spelling clock) h.0 (clock_first clock h.1)) (clock_read 59 clock h.1)

-- what stands after a day begins with no digit
pub time_stops : (w : TimeText) → AreTimeParts w → Stops is_ascii_digit (time_spelling w)
time_stops midnight h = tt
time_stops (after_mark mark clock) h =
    let P : List ℕ → Type 0 = λ m. Stops is_ascii_digit (m ++ clock_spelling clock) in
    elim h.0 [
      | inl e ↦ subst P (sym e) refl
      | inr h ↦ elim h [
        | inl e ↦ subst P (sym e) refl
        | inr h ↦ elim h [
          | inl e ↦ subst P (sym e) refl
          | inr h ↦ elim h [
            | inl e ↦ subst P (sym e) refl
            | inr e ↦ subst P (sym e) refl
          ]
        ]
      ]
    ]
