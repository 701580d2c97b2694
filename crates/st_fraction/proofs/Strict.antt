-- The strict order of fractions, from the other one.
use Rattle.std.proofs.Common.{◌≡◌, ℕ, ◌<◌, ℤ, pos, negsuc, ◌*ℤ◌, ◌≤ℤ◌, ◌<ℤ◌, arith}
use Rattle.std.proofs.lemmas.Int.{ints, by_lt_z}
use Rattle.st_fraction.specs.Fraction.{Fraction, ◌≤ᶠ◌, ◌<ᶠ◌, ◌≈ᶠ◌, ◌*ᶠ◌, least}
use Rattle.st_fraction.proofs.Ring.{ring, lin, lt-mul_z}
use Rattle.st_fraction.proofs.Order.{le_f_cases, le_f_refl, le_f_trans, le_of_lt_f, not_both_f, le_of_same, same_sym, least_cases}
use Rattle.st_fraction.proofs.Scale.{IsAt, le_at, at_le}

pub lt_of_not_le : (a b : Fraction) → (b ≤ᶠ a → ⊥) → a <ᶠ b
lt_of_not_le a b never = le_f_cases b a (λ h. absurd (never h)) (λ h. h)

pub lt_at : (m : ℕ) (a b : Fraction) (x y : ℤ) → 0 < a.den → 0 < b.den → IsAt m a x → IsAt m b y → x <ℤ y → a <ᶠ b
lt_at m a b x y pa pb h k l =
    lt_of_not_le a b (λ (g : b ≤ᶠ a). let n = at_le m b a y x pb pa k h g in omega (arith, lin, n))

pub at_lt : (m : ℕ) (a b : Fraction) (x y : ℤ) → 0 < m → IsAt m a x → IsAt m b y → a <ᶠ b → x <ℤ y
at_lt m a b x y some h k l =
    by_lt_z x y (λ (g : x <ℤ y). g) (λ (g : y ≤ℤ x). absurd (not_both_f b a (le_at m b a y x some k h g) l))

pub le_lt_f : (a b c : Fraction) → 0 < a.den → a ≤ᶠ b → b <ᶠ c → a <ᶠ c
le_lt_f a b c pa h k = lt_of_not_le a c (λ (g : c ≤ᶠ a). not_both_f c b (le_f_trans c a b pa g h) k)

pub lt_le_f : (a b c : Fraction) → 0 < c.den → a <ᶠ b → b ≤ᶠ c → a <ᶠ c
lt_le_f a b c pc h k = lt_of_not_le a c (λ (g : c ≤ᶠ a). not_both_f b a (le_f_trans b c a pc k g) h)

pub lt_f_trans : (a b c : Fraction) → 0 < c.den → a <ᶠ b → b <ᶠ c → a <ᶠ c
lt_f_trans a b c pc h k = lt_le_f a b c pc h (le_of_lt_f b c k)

pub lt_irrefl_f : (a : Fraction) → a <ᶠ a → ⊥
lt_irrefl_f a h = omega (arith, lin)

-- along equal values
pub lt_same_f : (a b c d : Fraction) → 0 < b.den → 0 < d.den → a ≈ᶠ c → b ≈ᶠ d → 0 < c.den → a <ᶠ b → c <ᶠ d
lt_same_f a b c d pb pd h k pc l =
    le_lt_f c a d pc (le_of_same c a (same_sym a c h)) (lt_le_f a b d pd l (le_of_same b d k))

-- Products by what is above zero.
pub lt_f_mul : (a b c : Fraction) → 0 < c.den → pos 0 <ℤ c.num → a <ᶠ b → (a *ᶠ c) <ᶠ (b *ᶠ c)
lt_f_mul a b c pc k h = record {
  lt = go a.num b.num (pos a.den) (pos b.den) c.num (pos c.den)
      (lt-mul_z _ _ c.den pc (lt-mul_above (a.num *ℤ pos b.den) (b.num *ℤ pos a.den) c.num k h.lt));
}
  where
    lt-mul_above : (a b n : ℤ) → pos 0 <ℤ n → a <ℤ b → (a *ℤ n) <ℤ (b *ℤ n)
    lt-mul_above a b (pos n) k h = lt-mul_z a b n (omega (arith, ints)) h
    lt-mul_above a b (negsuc n) k h = absurd (omega (arith, ints))

    go : (a b d e n c : ℤ) → (a *ℤ e *ℤ n *ℤ c) <ℤ (b *ℤ d *ℤ n *ℤ c) → (a *ℤ n *ℤ (e *ℤ c)) <ℤ (b *ℤ n *ℤ (d *ℤ c))
    go a b d e n c h =
        let u : a *ℤ n *ℤ (e *ℤ c) ≡ a *ℤ e *ℤ n *ℤ c = simp ring in
        let v : b *ℤ n *ℤ (d *ℤ c) ≡ b *ℤ d *ℤ n *ℤ c = simp ring in
        rw (u, v) h

-- The lesser of two.
pub least_first : (a b : Fraction) → least a b ≤ᶠ a
least_first a b = least_cases a b (λ f. f ≤ᶠ a) (λ l. le_f_refl a) (λ l. l)

pub least_second : (a b : Fraction) → least a b ≤ᶠ b
least_second a b = least_cases a b (λ f. f ≤ᶠ b) (λ l. l) (λ l. le_f_refl b)

pub below_least : (x a b : Fraction) → x ≤ᶠ a → x ≤ᶠ b → x ≤ᶠ least a b
below_least x a b h k = least_cases a b (λ f. x ≤ᶠ f) (λ l. h) (λ l. k)
