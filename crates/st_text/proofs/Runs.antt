-- A text is cut where a test first fails: in one way only.
use Rattle.std.proofs.Common.{◌≡◌, ℕ, Bool, true, false, ◌-◌, ◌≤◌, ◌&&◌, ◌==◌, inl, inr, refl, ap, arith, ◌∙◌, List, [], ◌∷◌, ◌++◌, length, take, drop, Some, nat_le, eq-eqb, one-add}
use Rattle.std.proofs.lemmas.Bool.{cases_Bool, eqb-true}
use Rattle.std.proofs.lemmas.Bool.Decides.{nat_tests}
use Rattle.std.proofs.lemmas.List.{take_rest}
use Rattle.std.proofs.lemmas.Option.{same_Some}
use Rattle.std.specs.Char.{is_ascii_digit}
use Rattle.std.specs.List.{list_all, prefix_len}
use Rattle.st_text.specs.Bytes.{are_digits}
use Rattle.st_text.specs.Scan.{leading, behind, leading_digits, past_digits, after, IsDigitRun, is_digit_run}
use Rattle.st_text.proofs.Logic.{and-left, and-right}

-- a text that has no byte or whose first byte fails
abbrev pub Stops : (ℕ → Bool) → List ℕ → Type 0
Stops p [] = Unit {0}
Stops p (b ∷ t) = p b ≡ false

pub leading-pass : (p : ℕ → Bool) (b : ℕ) (t : List ℕ) → p b ≡ true → leading p (b ∷ t) ≡ b ∷ leading p t
unfolding leading
leading-pass p b t h = rw h refl

pub leading-fail : (p : ℕ → Bool) (t : List ℕ) → Stops p t → leading p t ≡ []
unfolding leading
leading-fail p [] h = refl
leading-fail p (b ∷ t) h = rw h refl

pub behind-pass : (p : ℕ → Bool) (b : ℕ) (t : List ℕ) → p b ≡ true → behind p (b ∷ t) ≡ behind p t
unfolding behind
behind-pass p b t h = rw h refl

pub behind-fail : (p : ℕ → Bool) (t : List ℕ) → Stops p t → behind p t ≡ t
unfolding behind
behind-fail p [] h = refl
behind-fail p (b ∷ t) h = rw h refl

same_cons : (b : ℕ) (s t : List ℕ) → s ≡ t → b ∷ s ≡ b ∷ t
same_cons b s t e = ap (λ (u : List ℕ). b ∷ u) e

pub joined : (p : ℕ → Bool) (t : List ℕ) → leading p t ++ behind p t ≡ t
unfolding leading behind
joined p [] = refl
joined p (b ∷ t) =
    elim (cases_Bool (p b)) [
      | inl h ↦ rw h (same_cons b (leading p t ++ behind p t) t (joined p t))
      | inr h ↦ rw h refl
    ]

pub leading_passes : (p : ℕ → Bool) (t : List ℕ) → list_all p (leading p t) ≡ true
unfolding leading
leading_passes p [] = refl
leading_passes p (b ∷ t) =
    elim (cases_Bool (p b)) [
      | inl h ↦ rw (h, h) (leading_passes p t)
      | inr h ↦ rw h refl
    ]

pub behind_stops : (p : ℕ → Bool) (t : List ℕ) → Stops p (behind p t)
unfolding behind
behind_stops p [] = tt
behind_stops p (b ∷ t) =
    elim (cases_Bool (p b)) [
      | inl h ↦ rw h (behind_stops p t)
      | inr h ↦ rw h h
    ]

-- the cut stands after a run that passes, before a text that stops
pub leading-at : (p : ℕ → Bool) (a r : List ℕ) → list_all p a ≡ true → Stops p r → leading p (a ++ r) ≡ a
leading-at p [] r h s = leading-fail p r s
leading-at p (b ∷ a) r h s =
    leading-pass p b (a ++ r) (and-left (p b) (list_all p a) h)
    ∙ same_cons b (leading p (a ++ r)) a (leading-at p a r (and-right (p b) (list_all p a) h) s)

pub behind-at : (p : ℕ → Bool) (a r : List ℕ) → list_all p a ≡ true → Stops p r → behind p (a ++ r) ≡ r
behind-at p [] r h s = behind-fail p r s
behind-at p (b ∷ a) r h s =
    behind-pass p b (a ++ r) (and-left (p b) (list_all p a) h)
    ∙ behind-at p a r (and-right (p b) (list_all p a) h) s

-- the same by the length of the run
pub leading-take : (p : ℕ → Bool) (t : List ℕ) → take (prefix_len p t) t ≡ leading p t
unfolding leading
leading-take p [] = refl
leading-take p (b ∷ t) =
    elim (cases_Bool (p b)) [
      | inl h ↦ rw (h, one-add) (same_cons b (take (prefix_len p t) t) (leading p t) (leading-take p t))
      | inr h ↦ rw h refl
    ]

pub behind-drop : (p : ℕ → Bool) (t : List ℕ) → drop (prefix_len p t) t ≡ behind p t
unfolding behind
behind-drop p [] = refl
behind-drop p (b ∷ t) =
    elim (cases_Bool (p b)) [
      | inl h ↦ rw (h, one-add) (behind-drop p t)
      | inr h ↦ rw h refl
    ]

-- what the code keeps after a cut
pub rest : (t : List ℕ) (n : ℕ) → take (length t - n) (drop n t) ≡ drop n t
rest t n = take_rest t n

pub ruleset cut = (leading-take, behind-drop, leading_passes, rest)

-- the test of a run of digits
length_test : (low high n : ℕ) → low ≤ n → n ≤ high → (nat_le low n && nat_le n high) ≡ true
length_test low high n h k = grind (arith, nat_tests)

length_tested : (low high n : ℕ) → (nat_le low n && nat_le n high) ≡ true → (low ≤ n) × (n ≤ high)
length_tested low high n h = grind (arith, nat_tests)

pub digits_test : (low high : ℕ) (text : List ℕ) → IsDigitRun low high text → is_digit_run low high text ≡ true
unfolding is_digit_run
digits_test low high text h = rw (h.digits, length_test low high (length text) h.at_least h.at_most) refl

pub digits_tested : (low high : ℕ) (text : List ℕ) → is_digit_run low high text ≡ true → IsDigitRun low high text
unfolding is_digit_run
digits_tested low high text h =
    let all = and-left (are_digits text) (nat_le low (length text) && nat_le (length text) high) h in
    let n = length_tested low high (length text) (and-right (are_digits text) (nat_le low (length text) && nat_le (length text) high) h) in
    record { digits = all; at_least = n.0; at_most = n.1 }

-- the digits of a run, before a text that begins with none
pub digits_at : (low high : ℕ) (text rest : List ℕ) → IsDigitRun low high text → Stops is_ascii_digit rest → leading_digits (text ++ rest) ≡ text
digits_at low high text rest h s = leading-at is_ascii_digit text rest h.digits s

pub past_at : (low high : ℕ) (text rest : List ℕ) → IsDigitRun low high text → Stops is_ascii_digit rest → past_digits (text ++ rest) ≡ rest
past_at low high text rest h s = behind-at is_ascii_digit text rest h.digits s

-- what is after a byte
pub after_byte : (byte : ℕ) (t : List ℕ) → after byte (byte ∷ t) ≡ Some t
unfolding after
after_byte byte t = rw (eq-eqb byte byte refl) refl

same_head : (a b : ℕ) (t u : List ℕ) → a ≡ b → t ≡ u → a ∷ t ≡ b ∷ u
same_head a b t u e f = cc

pub after_is : (byte : ℕ) (t u : List ℕ) → after byte t ≡ Some u → t ≡ byte ∷ u
unfolding after
after_is byte [] u e = absurd (cc)
after_is byte (b ∷ t) u e =
    elim (cases_Bool (b == byte)) [
      | inl h ↦ same_head b byte t u (eqb-true b byte h) (same_Some t u (rw h at e))
      | inr h ↦ absurd (let none = rw h at e in cc)
    ]
