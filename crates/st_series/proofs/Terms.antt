-- The terms x^d / d! and the partial sums at a common scale, where each is a whole number.
use Rattle.std.proofs.Common.{◌≡◌, ℕ, zero, suc, ◌+◌, ◌-◌, ◌*◌, ◌^◌, ◌≤◌, ◌<◌, ℤ, pos, ◌*ℤ◌, sym, ap, ◌∙◌, arith, mul-pos}
use Rattle.std.proofs.Math.Nat.{pow-zero, pow-suc}
use Rattle.std.proofs.lemmas.Int.{ints}
use Rattle.st_fraction.specs.Fraction.{Fraction}
use Rattle.st_fraction.proofs.Ring.{ring, one-mul_z, cancel_z}
use Rattle.st_fraction.proofs.Sums.{upto}
use Rattle.st_fraction.proofs.Scale.{IsAt, at_add, at_neg}
use Rattle.st_series.specs.Series.{factorial, power, turned, term, alternating, sum_to, sine_sum, cosine_sum}
use Rattle.st_series.proofs.Convolution.{IsSeries}

-- the product of q (d + j) for j from 1 to k
abbrev pub rest : ℕ → ℕ → ℕ → ℕ
rest q d zero = 1
rest q d (suc k) = q * suc d * rest q (suc d) k

abbrev pub scaled_term : ℤ → ℕ → ℕ → ℕ → ℤ
scaled_term p q k d = power p d *ℤ pos (rest q d (k - d))

pub rest-pos : (q d k : ℕ) → 0 < q → 0 < rest q d k
rest-pos q d zero some = omega arith
rest-pos q d (suc k) some = mul-pos (mul-pos some (omega arith)) (rest-pos q (suc d) k some)

-- At the scale q^k k! the terms up to degree k are whole numbers.
pub series_exists : (p : ℤ) (q k : ℕ) → IsSeries (pos (rest q 0 k)) p q k (scaled_term p q k)
series_exists p q k = record {
  first = one-mul_z (pos (rest q 0 (k - 0))) ∙ ap (λ i. pos (rest q 0 i)) (omega arith);
  next = λ d l.
      let e : k - d ≡ suc (k - suc d) = omega arith in
      shuffle (pos q) (pos (suc d)) (pos (rest q (suc d) (k - suc d))) (power p d) p ∙ ap (λ i. p *ℤ (power p d *ℤ pos (rest q d i))) (sym e);
}
  where
    shuffle : (a b r x p : ℤ) → a *ℤ (b *ℤ (x *ℤ p *ℤ r)) ≡ p *ℤ (x *ℤ (a *ℤ b *ℤ r))
    shuffle a b r x p = simp ring

pub factorial-pos : (k : ℕ) → 0 < factorial k
factorial-pos zero = omega arith
factorial-pos (suc k) = mul-pos (omega arith) (factorial-pos k)

pub power-pos : (q k : ℕ) → 0 < q → 0 < q ^ k
power-pos q zero some = rw pow-zero (omega arith)
power-pos q (suc k) some = rw (pow-suc q k) (mul-pos (power-pos q k some) some)

-- x^d / d! at the scale of any series of x
pub term_at : (m : ℕ) (p : ℤ) (q k : ℕ) (f : ℕ → ℤ) (x : Fraction) → 0 < q → IsSeries (pos m) p q k f → IsAt q x p → (d : ℕ) → d ≤ k → IsAt m (term x d) (f d)
unfolding term
term_at m p q k f x some s at zero l = record {
  at =
      let e : x.den ^ 0 * factorial 0 ≡ 1 = rw pow-zero (omega arith) in
      rw e (omega (arith, ints, s.first));
}
term_at m p q k f x some s at (suc d) l =
    let ih = (term_at m p q k f x some s at d (omega arith)).at in
    let e : x.den ^ suc d * factorial (suc d) ≡ x.den * (x.den ^ d * factorial d) * suc d = rw (pow-suc x.den d) (omega arith) in
    record {
      at = rw e (cancel_z _ _ q some
          (go (power x.num d) x.num (pos x.den) (pos (x.den ^ d * factorial d)) (f d) (f (suc d)) (pos (suc d)) p (pos q) (pos m) ih at.at (s.next d (omega arith))));
    }
  where
    go : (w n d e f f' s p q m : ℤ) → w *ℤ m ≡ f *ℤ e → n *ℤ q ≡ p *ℤ d → q *ℤ (s *ℤ f') ≡ p *ℤ f → w *ℤ n *ℤ m *ℤ q ≡ f' *ℤ (d *ℤ e *ℤ s) *ℤ q
    go w n d e f f' s p q m h k l =
        let a : w *ℤ n *ℤ m *ℤ q ≡ w *ℤ m *ℤ (n *ℤ q) = simp ring in
        let b : f *ℤ e *ℤ (p *ℤ d) ≡ p *ℤ f *ℤ (d *ℤ e) = simp ring in
        let c : q *ℤ (s *ℤ f') *ℤ (d *ℤ e) ≡ f' *ℤ (d *ℤ e *ℤ s) *ℤ q = simp ring in
        a ∙ (λ i. h i *ℤ k i) ∙ b ∙ ap (λ z. z *ℤ (d *ℤ e)) (sym l) ∙ c

pub alternating_at : (m : ℕ) (a : Fraction) (x : ℤ) (i : ℕ) → IsAt m a x → IsAt m (alternating i a) (turned i x)
alternating_at m a x zero h = h
alternating_at m a x (suc i) h = at_neg m (alternating i a) (turned i x) (alternating_at m a x i h)

pub sum_at : (m : ℕ) (f : ℕ → Fraction) (g : ℕ → ℤ) (n : ℕ) → ((i : ℕ) → i ≤ n → IsAt m (f i) (g i)) → IsAt m (sum_to f n) (upto g n)
sum_at m f g zero h = h 0 (omega arith)
sum_at m f g (suc n) h = at_add m (sum_to f n) (f (suc n)) (upto g n) (g (suc n)) (sum_at m f g n (λ i l. h i (omega arith))) (h (suc n) (omega arith))

-- the sums of sine and cosine in a sequence of terms
abbrev pub sine_of : (ℕ → ℤ) → ℕ → ℤ
sine_of f n = upto (λ i. turned i (f (2 * i + 1))) n

abbrev pub cosine_of : (ℕ → ℤ) → ℕ → ℤ
cosine_of f n = upto (λ i. turned i (f (2 * i))) n

pub sine_at : (m : ℕ) (p : ℤ) (q k : ℕ) (f : ℕ → ℤ) (x : Fraction) → 0 < q → IsSeries (pos m) p q k f → IsAt q x p → (n : ℕ) → 2 * n + 1 ≤ k → IsAt m (sine_sum x n) (sine_of f n)
unfolding sine_sum
sine_at m p q k f x some s at n l = sum_at m _ _ n (λ i b.
    alternating_at m (term x (2 * i + 1)) (f (2 * i + 1)) i (term_at m p q k f x some s at (2 * i + 1) (omega arith)))

pub cosine_at : (m : ℕ) (p : ℤ) (q k : ℕ) (f : ℕ → ℤ) (x : Fraction) → 0 < q → IsSeries (pos m) p q k f → IsAt q x p → (n : ℕ) → 2 * n ≤ k → IsAt m (cosine_sum x n) (cosine_of f n)
unfolding cosine_sum
cosine_at m p q k f x some s at n l = sum_at m _ _ n (λ i b.
    alternating_at m (term x (2 * i)) (f (2 * i)) i (term_at m p q k f x some s at (2 * i) (omega arith)))

-- every denominator is above 0
pub term-den : (x : Fraction) (d : ℕ) → 0 < x.den → 0 < (term x d).den
unfolding term
term-den x d some = mul-pos (power-pos x.den d some) (factorial-pos d)

pub alternating-den : (a : Fraction) (i : ℕ) → 0 < a.den → 0 < (alternating i a).den
alternating-den a zero some = some
alternating-den a (suc i) some = alternating-den a i some

pub sum_to-den : (f : ℕ → Fraction) (n : ℕ) → ((i : ℕ) → 0 < (f i).den) → 0 < (sum_to f n).den
sum_to-den f zero h = h 0
sum_to-den f (suc n) h = mul-pos (sum_to-den f n h) (h (suc n))

pub sine_sum-den : (x : Fraction) (n : ℕ) → 0 < x.den → 0 < (sine_sum x n).den
unfolding sine_sum
sine_sum-den x n some = sum_to-den (λ i. alternating i (term x (2 * i + 1))) n (λ i. alternating-den (term x (2 * i + 1)) i (term-den x (2 * i + 1) some))

pub cosine_sum-den : (x : Fraction) (n : ℕ) → 0 < x.den → 0 < (cosine_sum x n).den
unfolding cosine_sum
cosine_sum-den x n some = sum_to-den (λ i. alternating i (term x (2 * i))) n (λ i. alternating-den (term x (2 * i)) i (term-den x (2 * i) some))
