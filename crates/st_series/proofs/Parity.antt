-- The sums at the negative of an argument, and at 0.
use Rattle.std.proofs.Common.{◌≡◌, ℕ, zero, suc, ◌+◌, ◌-◌, ◌*◌, ℤ, pos, ◌+ℤ◌, ◌*ℤ◌, neg_ℤ, refl, ap, ◌∙◌, arith}
use Rattle.std.proofs.Math.IntN.{*ℤ-zero, zero-*ℤ, +ℤ_idr}
use Rattle.st_fraction.proofs.Ring.{ring, neg-mul_z, mul-neg_z, one-mul_z}
use Rattle.st_fraction.proofs.Sums.{upto-ext, upto-neg}
use Rattle.st_series.specs.Series.{power, turned}
use Rattle.st_series.proofs.Terms.{rest, scaled_term, sine_of, cosine_of}

pub turned-neg : (i : ℕ) (z : ℤ) → turned i (neg_ℤ z) ≡ neg_ℤ (turned i z)
turned-neg zero z = refl
turned-neg (suc i) z = ap neg_ℤ (turned-neg i z)

pub turned-zero : (i : ℕ) → turned i (pos 0) ≡ pos 0
turned-zero zero = refl
turned-zero (suc i) = ap neg_ℤ (turned-zero i)

power-neg_even : (p : ℤ) (i : ℕ) → power (neg_ℤ p) (2 * i) ≡ power p (2 * i)
power-neg_even p zero = refl
power-neg_even p (suc i) =
    let e : 2 * suc i ≡ suc (suc (2 * i)) = omega arith in
    rw e ((λ t. power-neg_even p i t *ℤ neg_ℤ p *ℤ neg_ℤ p) ∙ go (power p (2 * i)) p)
  where
    go : (w p : ℤ) → w *ℤ neg_ℤ p *ℤ neg_ℤ p ≡ w *ℤ p *ℤ p
    go w p = simp ring

power-neg_odd : (p : ℤ) (i : ℕ) → power (neg_ℤ p) (2 * i + 1) ≡ neg_ℤ (power p (2 * i + 1))
power-neg_odd p i =
    let e : 2 * i + 1 ≡ suc (2 * i) = omega arith in
    rw e ((λ t. power-neg_even p i t *ℤ neg_ℤ p) ∙ mul-neg_z (power p (2 * i)) p)

pub sine_of_neg : (p : ℤ) (q k n : ℕ) → sine_of (scaled_term (neg_ℤ p) q k) n ≡ neg_ℤ (sine_of (scaled_term p q k) n)
sine_of_neg p q k n =
    upto-ext (λ i. turned i (scaled_term (neg_ℤ p) q k (2 * i + 1))) (λ i. neg_ℤ (turned i (scaled_term p q k (2 * i + 1)))) n (λ i l.
    ap (λ z. turned i (z *ℤ pos (rest q (2 * i + 1) (k - (2 * i + 1))))) (power-neg_odd p i)
    ∙ ap (turned i) (neg-mul_z (power p (2 * i + 1)) (pos (rest q (2 * i + 1) (k - (2 * i + 1)))))
    ∙ turned-neg i (scaled_term p q k (2 * i + 1)))
    ∙ upto-neg (λ i. turned i (scaled_term p q k (2 * i + 1))) n

pub cosine_of_neg : (p : ℤ) (q k n : ℕ) → cosine_of (scaled_term (neg_ℤ p) q k) n ≡ cosine_of (scaled_term p q k) n
cosine_of_neg p q k n =
    upto-ext (λ i. turned i (scaled_term (neg_ℤ p) q k (2 * i))) (λ i. turned i (scaled_term p q k (2 * i))) n (λ i l.
    ap (λ z. turned i (z *ℤ pos (rest q (2 * i) (k - 2 * i)))) (power-neg_even p i))

scaled_term-zero : (q k d : ℕ) → scaled_term (pos 0) q k (suc d) ≡ pos 0
scaled_term-zero q k d = rw (*ℤ-zero (power (pos 0) d)) (zero-*ℤ (pos (rest q (suc d) (k - suc d))))

pub cosine_of_zero : (q k n : ℕ) → cosine_of (scaled_term (pos 0) q k) n ≡ pos (rest q 0 k)
cosine_of_zero q k zero = one-mul_z (pos (rest q 0 (k - 0))) ∙ ap (λ i. pos (rest q 0 i)) (let e : k - 0 ≡ k = omega arith in e)
cosine_of_zero q k (suc n) =
    let e : 2 * suc n ≡ suc (2 * n + 1) = omega arith in
    let z : scaled_term (pos 0) q k (2 * suc n) ≡ pos 0 = rw e (scaled_term-zero q k (2 * n + 1)) in
    (λ t. cosine_of_zero q k n t +ℤ turned (suc n) (z t)) ∙ ap (λ y. pos (rest q 0 k) +ℤ y) (turned-zero (suc n)) ∙ +ℤ_idr (pos (rest q 0 k))
