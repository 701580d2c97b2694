-- Elements of the first and of the last pairs of a list, by their places.
use Rattle.std.proofs.Common.{◌≡◌, ℕ, ◌⊎◌, inl, inr, zero, suc, ◌+◌, ◌<◌, ◌≤◌, List, [], ◌∷◌, ◌++◌, length, take, drop, Some, refl, arith, ap, ◌∙◌, sym}
use Rattle.std.specs.List.{slice_get}
use Rattle.std.proofs.lemmas.Option.{none-some, same_Some}
use Rattle.std.proofs.lemmas.Bool.{cases_lt}

pub get-take : {X : Type 0} (n : ℕ) (xs : List X) (i : ℕ) → i < n → slice_get (take n xs) i ≡ slice_get xs i
get-take zero xs i h = absurd (omega arith)
get-take (suc n) [] i h = refl
get-take (suc n) (x ∷ xs) zero h = refl
get-take (suc n) (x ∷ xs) (suc i) h = get-take n xs i (omega arith)

pub get-drop : {X : Type 0} (n : ℕ) (xs : List X) (i : ℕ) → slice_get (drop n xs) i ≡ slice_get xs (n + i)
get-drop zero xs i = ap (slice_get xs) (omega arith)
get-drop (suc n) [] i = refl
get-drop (suc n) (x ∷ xs) i = get-drop n xs i ∙ ap (slice_get (x ∷ xs)) (let e : suc (n + i) ≡ suc n + i = omega arith in e)

-- an element of the first n is within them, and one of the list
pub taken : {X : Type 0} (n : ℕ) (xs : List X) (i : ℕ) (x : X) → slice_get (take n xs) i ≡ Some x → (i < n) × (slice_get xs i ≡ Some x)
taken zero xs i x h = absurd (none-some x h)
taken (suc n) [] i x h = absurd (none-some x h)
taken (suc n) (y ∷ ys) zero x h = (omega arith, h)
taken (suc n) (y ∷ ys) (suc i) x h = let t = taken n ys i x h in (omega (arith, t.0), t.1)

-- there is an element at each place within the list
pub found : {X : Type 0} (xs : List X) (i : ℕ) → i < length xs → (x : X) × slice_get xs i ≡ Some x
found [] i h = absurd (omega arith)
found (x ∷ xs) zero h = (x, refl)
found (x ∷ xs) (suc i) h = found xs i (omega arith)

pub by_le : {P : Type 0} (m n : ℕ) → (m ≤ n → P) → (n < m → P) → P
by_le m n f g = elim (cases_lt n m) [ inl l ↦ g l | inr l ↦ f l ]

-- an element of a list with one more at its end
pub pushed : {X : Type 0} (xs : List X) (y : X) (i : ℕ) (x : X) → slice_get (xs ++ y ∷ []) i ≡ Some x
    → (slice_get xs i ≡ Some x) ⊎ ((i ≡ length xs) × (x ≡ y))
pushed [] y zero x h = inr (refl, sym (same_Some y x h))
pushed [] y (suc i) x h = absurd (none-some x h)
pushed (z ∷ zs) y zero x h = inl h
pushed (z ∷ zs) y (suc i) x h = elim (pushed zs y i x h) [ inl k ↦ inl k | inr k ↦ inr (ap suc k.0, k.1) ]
