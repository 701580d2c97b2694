-- The fields of a text, one after the other.
use Rattle.std.proofs.Common.{◌≡◌, ℕ, zero, suc, ◌+◌, ◌<◌, ◌≤◌, true, false, ◌==◌, inl, inr, refl, sym, ap, ◌∙◌, arith, Option, Some, None, List, [], ◌∷◌, ◌++◌, length, append_assoc, length-append}
use Rattle.std.proofs.lemmas.Bool.{cases_Bool}
use Rattle.std.proofs.lemmas.Bool.Decides.{nat_tests}
use Rattle.std.specs.Char.{is_ascii_digit}
use Rattle.st_text.specs.Bytes.{is_blank, are_blanks}
use Rattle.st_text.specs.Lines.{skip_blanks}
use Rattle.st_text.specs.Scan.{leading, leading_digits, past_digits}
use Rattle.st_text.proofs.Runs.{joined}
use Rattle.st_ticks.specs.ClockText.{is_mark}
use Rattle.st_ticks.specs.TextMachine.{past_mark, past_gap, past_separator, Next, stop, last, more, next_before, next_of, onto, runs_from, runs_of, runs}

-- fields before those that are read
abbrev pub ahead : List (List ℕ) → Option (List (List ℕ)) → Option (List (List ℕ))
ahead done None = None
ahead done (Some fields) = Some (done ++ fields)

pub skip_shorter : (t : List ℕ) → length (skip_blanks t) ≤ length t
skip_shorter [] = omega arith
skip_shorter (b ∷ t) =
    elim (cases_Bool (is_blank b)) [ inl h ↦ rw h (omega (arith, skip_shorter t)) | inr h ↦ rw h (omega arith) ]

mark_shorter : (t u : List ℕ) → past_mark t ≡ Some u → length u < length t
unfolding past_mark
mark_shorter [] u e = absurd (cc)
mark_shorter (b ∷ t) u e =
    elim (cases_Bool (is_mark b)) [
      | inl h ↦ let same : Some (skip_blanks t) ≡ Some u = rw h at e in
          let is : skip_blanks t ≡ u = cc in
          omega (arith, skip_shorter t, ap (λ (x : List ℕ). length x) is)
      | inr h ↦ absurd (let none : None ≡ Some u = rw h at e in cc)
    ]

gap_shorter : (t u : List ℕ) → past_gap t ≡ Some u → length u < length t
unfolding past_gap
gap_shorter [] u e = absurd (cc)
gap_shorter (b ∷ t) u e =
    elim (cases_Bool (is_blank b)) [
      | inl h ↦ let same : Some (skip_blanks t) ≡ Some u = rw h at e in
          let is : skip_blanks t ≡ u = cc in
          omega (arith, skip_shorter t, ap (λ (x : List ℕ). length x) is)
      | inr h ↦ absurd (let none : None ≡ Some u = rw h at e in cc)
    ]

-- the two ways to go past a separator
pub data Past (t u : List ℕ) : Type 0 where
  by_mark : past_mark (skip_blanks t) ≡ Some u → Past t u
  by_gap : past_mark (skip_blanks t) ≡ None → past_gap t ≡ Some u → Past t u

separator_at : (t u : List ℕ) (o : Option (List ℕ)) → past_mark (skip_blanks t) ≡ o
    → (elim o as (λ _. Option (List ℕ)) [ Some rest ↦ Some rest | None ↦ past_gap t ]) ≡ Some u → Past t u
separator_at t u None e h = by_gap e h
separator_at t u (Some rest) e h = by_mark (e ∙ h)

pub separator_is : (t u : List ℕ) → past_separator t ≡ Some u → Past t u
unfolding past_separator
separator_is t u e = separator_at t u (past_mark (skip_blanks t)) refl e

past_shorter : (t u : List ℕ) → Past t u → length u < length t
past_shorter t u (by_mark e) = omega (arith, mark_shorter (skip_blanks t) u e, skip_shorter t)
past_shorter t u (by_gap n e) = gap_shorter t u e

pub separator_shorter : (t u : List ℕ) → past_separator t ≡ Some u → length u < length t
separator_shorter t u e = past_shorter t u (separator_is t u e)

-- what the next field is, by its three tests
pub record IsLast (t d : List ℕ) : Type 0 where
  pub some : 0 < length d
  pub field : d ≡ leading_digits t
  pub blanks : are_blanks (past_digits t) ≡ true

pub record IsMore (t d u : List ℕ) : Type 0 where
  pub some : 0 < length d
  pub field : d ≡ leading_digits t
  pub no_blanks : are_blanks (past_digits t) ≡ false
  pub rest : past_separator (past_digits t) ≡ Some u

some_digits : (d : List ℕ) → (length d == 0) ≡ false → 0 < length d
some_digits d h = grind (arith, nat_tests)

no_digits : (n : ℕ) → 0 < n → (n == 0) ≡ false
no_digits n h = grind (arith, nat_tests)

pub next_last : (t d : List ℕ) → IsLast t d → next_of t ≡ last d
unfolding next_of
next_last t d h =
    let some : (length (leading_digits t) == 0) ≡ false = rw h.field at (no_digits (length d) h.some) in
    rw (some, h.blanks, h.field) refl

pub next_more : (t d u : List ℕ) → IsMore t d u → next_of t ≡ more d u
unfolding next_of
next_more t d u h =
    let some : (length (leading_digits t) == 0) ≡ false = rw h.field at (no_digits (length d) h.some) in
    rw (some, h.no_blanks, h.rest, h.field) refl

pub next_stop : (t : List ℕ) → length (leading_digits t) ≡ 0 → next_of t ≡ stop
unfolding next_of
next_stop t h = rw h refl

pub next_unseparated : (t : List ℕ) → are_blanks (past_digits t) ≡ false → past_separator (past_digits t) ≡ None → next_of t ≡ stop
unfolding next_of
next_unseparated t h e =
    elim (cases_Bool (length (leading_digits t) == 0)) [ inl z ↦ rw z refl | inr z ↦ rw (z, h, e) refl ]

last_at : (t d f : List ℕ) (o : Option (List ℕ)) → next_before f o ≡ last d → ⊥
last_at t d f None e = cc
last_at t d f (Some u) e = cc

same_last : (f d : List ℕ) → last f ≡ last d → d ≡ f
same_last f d e = cc

pub is_last : (t d : List ℕ) → next_of t ≡ last d → IsLast t d
unfolding next_of
is_last t d e =
    elim (cases_Bool (length (leading_digits t) == 0)) [
      | inl z ↦ absurd (let no : stop ≡ last d = rw z at e in cc)
      | inr z ↦ elim (cases_Bool (are_blanks (past_digits t))) [
        | inl h ↦
            let same = same_last (leading_digits t) d (rw (z, h) at e) in
            record { some = rw (sym same) at (some_digits (leading_digits t) z); field = same; blanks = h }
        | inr h ↦ absurd (last_at t d (leading_digits t) (past_separator (past_digits t)) (rw (z, h) at e))
      ]
    ]

more_at : (f d u : List ℕ) (o : Option (List ℕ)) → next_before f o ≡ more d u → (d ≡ f) × (o ≡ Some u)
more_at f d u None e = absurd (cc)
more_at f d u (Some v) e = (cc, cc)

pub is_more : (t d u : List ℕ) → next_of t ≡ more d u → IsMore t d u
unfolding next_of
is_more t d u e =
    elim (cases_Bool (length (leading_digits t) == 0)) [
      | inl z ↦ absurd (let no : stop ≡ more d u = rw z at e in cc)
      | inr z ↦ elim (cases_Bool (are_blanks (past_digits t))) [
        | inl h ↦ absurd (let no : last (leading_digits t) ≡ more d u = rw (z, h) at e in cc)
        | inr h ↦
            let same = more_at (leading_digits t) d u (past_separator (past_digits t)) (rw (z, h) at e) in
            record { some = rw (sym same.0) at (some_digits (leading_digits t) z); field = same.0; no_blanks = h; rest = same.1 }
      ]
    ]

past_digits_shorter : (t : List ℕ) → length (leading_digits t) + length (past_digits t) ≡ length t
past_digits_shorter t = sym (length-append (leading_digits t) (past_digits t)) ∙ ap (λ (x : List ℕ). length x) (joined is_ascii_digit t)

pub more_shorter : (t d u : List ℕ) → IsMore t d u → length u < length t
more_shorter t d u h = omega (arith, separator_shorter (past_digits t) u h.rest, past_digits_shorter t)

-- as many turns as bytes are enough
enough_at : (m n : ℕ) (t : List ℕ) (x : Next) → ((u : List ℕ) → length u < length t → runs_of m u ≡ runs_of n u) → next_of t ≡ x
    → runs_from (runs_of m) x ≡ runs_from (runs_of n) x
enough_at m n t stop same e = refl
enough_at m n t (last d) same e = refl
enough_at m n t (more d u) same e = ap (onto d) (same u (more_shorter t d u (is_more t d u e)))

nothing_next : next_of [] ≡ stop
unfolding next_of leading
nothing_next = refl

nothing_from : (read : List ℕ → Option (List (List ℕ))) (x : Next) → x ≡ stop → None ≡ runs_from read x
nothing_from read stop e = refl
nothing_from read (last d) e = absurd (cc)
nothing_from read (more d u) e = absurd (cc)

pub enough : (m n : ℕ) (t : List ℕ) → length t ≤ m → length t ≤ n → runs_of m t ≡ runs_of n t
unfolding runs_of
enough zero zero t a b = refl
enough zero (suc n) [] a b = nothing_from (runs_of n) (next_of []) nothing_next
enough (suc m) zero [] a b = sym (nothing_from (runs_of m) (next_of []) nothing_next)
enough zero (suc n) (x ∷ t) a b = absurd (omega arith)
enough (suc m) zero (x ∷ t) a b = absurd (omega arith)
enough (suc m) (suc n) t a b = enough_at m n t (next_of t) (λ u l. enough m n u (omega arith) (omega arith)) refl

turned_at : (n : ℕ) (t : List ℕ) (x : Next) → ((u : List ℕ) → length u < length t → runs_of n u ≡ runs u) → next_of t ≡ x
    → runs_from (runs_of n) x ≡ runs_from runs x
turned_at n t stop same e = refl
turned_at n t (last d) same e = refl
turned_at n t (more d u) same e = ap (onto d) (same u (more_shorter t d u (is_more t d u e)))

-- one turn of the reader, by what is next
turned : (n : ℕ) (t : List ℕ) → 0 < length t → n ≡ length t → runs_of n t ≡ runs_from runs (next_of t)
unfolding runs_of
turned zero t h e = absurd (omega arith)
turned (suc n) t h e =
    turned_at n t (next_of t) (λ u l. enough n (length u) u (omega arith) (omega arith)) refl

pub runs_turn : (t : List ℕ) → 0 < length t → runs t ≡ runs_from runs (next_of t)
runs_turn t h = turned (length t) t h refl

some_bytes : (t d : List ℕ) → 0 < length d → d ≡ leading_digits t → 0 < length t
some_bytes t d h e = omega (arith, past_digits_shorter t, ap (λ (x : List ℕ). length x) e)

pub runs_last : (t d : List ℕ) → IsLast t d → runs t ≡ Some (d ∷ [])
runs_last t d h = runs_turn t (some_bytes t d h.some h.field) ∙ ap (λ (x : Next). runs_from runs x) (next_last t d h)

pub runs_more : (t d u : List ℕ) → IsMore t d u → runs t ≡ onto d (runs u)
runs_more t d u h = runs_turn t (some_bytes t d h.some h.field) ∙ ap (λ (x : Next). runs_from runs x) (next_more t d u h)

pub runs_stop : (t : List ℕ) → next_of t ≡ stop → runs t ≡ None
unfolding runs_of
runs_stop [] e = refl
runs_stop (b ∷ t) e = runs_turn (b ∷ t) (omega arith) ∙ ap (λ (x : Next). runs_from runs x) e

-- what was read before
pub ahead_none : (text t : List ℕ) (done : List (List ℕ)) → runs text ≡ ahead done (runs t) → runs t ≡ None → runs text ≡ None
ahead_none text t done h e = h ∙ ap (ahead done) e

pub ahead_last : (text t d : List ℕ) (done : List (List ℕ)) → runs text ≡ ahead done (runs t) → IsLast t d → runs text ≡ Some (done ++ (d ∷ []))
ahead_last text t d done h l = h ∙ ap (ahead done) (runs_last t d l)

ahead_onto : (d : List ℕ) (done : List (List ℕ)) (o : Option (List (List ℕ))) → ahead done (onto d o) ≡ ahead (done ++ (d ∷ [])) o
ahead_onto d done None = refl
ahead_onto d done (Some fields) = ap (λ (x : List (List ℕ)). Some x) (sym (append_assoc done (d ∷ []) fields))

pub ahead_more : (text t d u : List ℕ) (done : List (List ℕ)) → runs text ≡ ahead done (runs t) → IsMore t d u → runs text ≡ ahead (done ++ (d ∷ [])) (runs u)
ahead_more text t d u done h l = h ∙ ap (ahead done) (runs_more t d u l) ∙ ahead_onto d done (runs u)
