-- The lesser and the greater of two fractions at a common scale are those of their whole numbers.
use Rattle.std.proofs.Common.{◌≡◌, ℕ, ◌<◌, Bool, true, false, cond, ℤ, ◌≤ℤ◌, int_le, ◌⊎◌, inl, inr, refl, arith}
use Rattle.std.proofs.lemmas.Int.{ints}
use Rattle.st_fraction.specs.Fraction.{Fraction, least, greatest}
use Rattle.st_fraction.proofs.Ring.{lin}
use Rattle.st_fraction.proofs.Order.{least_cases, greatest_cases}
use Rattle.st_fraction.proofs.Scale.{IsAt, at_le}

unfoldable pub lesser : ℤ → ℤ → ℤ
lesser x y = cond (int_le x y) x y

unfoldable pub greater : ℤ → ℤ → ℤ
greater x y = cond (int_le x y) y x

-- l is the lesser of x and y, g the greater
pub record AreEnds (x y l g : ℤ) : Type 0 where
  pub l_first : l ≤ℤ x
  pub l_second : l ≤ℤ y
  pub g_first : x ≤ℤ g
  pub g_second : y ≤ℤ g
  pub either : ((l ≡ x) × (g ≡ y)) ⊎ ((l ≡ y) × (g ≡ x))

pub ends : (x y : ℤ) → AreEnds x y (lesser x y) (greater x y)
unfolding lesser greater
ends x y = by (int_le x y) refl
  where
    by : (t : Bool) → int_le x y ≡ t → AreEnds x y (cond t x y) (cond t y x)
    by true e = record {
      l_first = omega (arith, lin);
      l_second = omega (arith, ints);
      g_first = omega (arith, ints);
      g_second = omega (arith, lin);
      either = inl (refl, refl);
    }
    by false e = record {
      l_first = omega (arith, ints);
      l_second = omega (arith, lin);
      g_first = omega (arith, lin);
      g_second = omega (arith, ints);
      either = inr (refl, refl);
    }

pub lesser_is_first : (x y : ℤ) → x ≤ℤ y → lesser x y ≡ x
lesser_is_first x y h =
    let e = ends x y in
    elim e.either [ inl a ↦ a.0 | inr b ↦ omega (arith, lin, b.0, b.1, e.l_first, e.l_second, e.g_first) ]

pub lesser_is_second : (x y : ℤ) → y ≤ℤ x → lesser x y ≡ y
lesser_is_second x y h =
    let e = ends x y in
    elim e.either [ inl a ↦ omega (arith, lin, a.0, a.1, e.l_first, e.l_second, e.g_first) | inr b ↦ b.0 ]

pub greater_is_second : (x y : ℤ) → x ≤ℤ y → greater x y ≡ y
greater_is_second x y h =
    let e = ends x y in
    elim e.either [ inl a ↦ a.1 | inr b ↦ omega (arith, lin, b.0, b.1, e.l_first, e.l_second, e.g_second) ]

pub greater_is_first : (x y : ℤ) → y ≤ℤ x → greater x y ≡ x
greater_is_first x y h =
    let e = ends x y in
    elim e.either [ inl a ↦ omega (arith, lin, a.0, a.1, e.l_first, e.l_second, e.g_first) | inr b ↦ b.1 ]

pub at_least : (m : ℕ) (a b : Fraction) (x y : ℤ) → 0 < a.den → 0 < b.den → IsAt m a x → IsAt m b y → IsAt m (least a b) (lesser x y)
at_least m a b x y pa pb h k = least_cases a b (λ f. IsAt m f (lesser x y))
    (λ l. rw (lesser_is_first x y (at_le m a b x y pa pb h k l)) h)
    (λ l. rw (lesser_is_second x y (at_le m b a y x pb pa k h l)) k)

pub at_greatest : (m : ℕ) (a b : Fraction) (x y : ℤ) → 0 < a.den → 0 < b.den → IsAt m a x → IsAt m b y → IsAt m (greatest a b) (greater x y)
at_greatest m a b x y pa pb h k = greatest_cases a b (λ f. IsAt m f (greater x y))
    (λ l. rw (greater_is_second x y (at_le m a b x y pa pb h k l)) k)
    (λ l. rw (greater_is_first x y (at_le m b a y x pb pa k h l)) h)

-- both have a denominator above 0
pub least-den : (a b : Fraction) → 0 < a.den → 0 < b.den → 0 < (least a b).den
least-den a b pa pb = least_cases a b (λ f. 0 < f.den) (λ l. pa) (λ l. pb)

pub greatest-den : (a b : Fraction) → 0 < a.den → 0 < b.den → 0 < (greatest a b).den
greatest-den a b pa pb = greatest_cases a b (λ f. 0 < f.den) (λ l. pb) (λ l. pa)
