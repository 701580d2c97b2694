-- Sandwich: from a long enough n on, the ends of sine and of cosine close in on each other.
use Rattle.std.proofs.Common.{◌≡◌, ℕ, zero, suc, ◌+◌, ◌-◌, ◌*◌, ◌≤◌, ◌<◌, ℤ, pos, ◌*ℤ◌, ◌≤ℤ◌, unsigned_abs, refl, ap, ◌∙◌, arith, mul-pos, mul-le-mul, mul-le-mul_left}
use Rattle.std.proofs.lemmas.Int.{ints}
use Rattle.st_fraction.specs.Fraction.{Fraction, IsFraction, ◌≤ᶠ◌}
use Rattle.st_fraction.proofs.Ring.{ring, lin, square_abs}
use Rattle.st_fraction.proofs.Order.{le_f_trans}
use Rattle.st_fraction.proofs.Scale.{IsAt, at_self, le_at}
use Rattle.st_fraction.proofs.Ends.{lesser, greater, ends, at_least, at_greatest, least-den, greatest-den}
use Rattle.st_series.specs.Series.{turned, sine_sum, cosine_sum, IsLongEnough, sine_lower, sine_upper, cosine_lower, cosine_upper}
use Rattle.st_series.specs.Laws.{LongEnoughStays, SineSandwich, CosineSandwich, SineInOrder, CosineInOrder}
use Rattle.st_series.proofs.Convolution.{IsSeries}
use Rattle.st_series.proofs.Terms.{rest, rest-pos, scaled_term, series_exists, sine_of, cosine_of, sine_at, cosine_at, sine_sum-den, cosine_sum-den}
use Rattle.st_series.proofs.Alternating.{Shrinks, shrinks, turned_shrinks, Closes, closes}

pub long_is : (x : Fraction) (n : ℕ) → IsLongEnough x n → unsigned_abs x.num * unsigned_abs x.num ≤ (2 * n + 1) * (2 * n + 2) * (x.den * x.den)
long_is x n h = let e = square_abs x.num in omega (arith, ints, h.enough.le, e)

pub is_long : (x : Fraction) (n : ℕ) → unsigned_abs x.num * unsigned_abs x.num ≤ (2 * n + 1) * (2 * n + 2) * (x.den * x.den) → IsLongEnough x n
is_long x n h = let e = square_abs x.num in record { enough = record { le = omega (arith, ints, e) } }

pub stays_long : LongEnoughStays
stays_long x n m h l =
    let a = mul-le-mul (let i : 2 * n + 1 ≤ 2 * m + 1 = omega arith in i) (let i : 2 * n + 2 ≤ 2 * m + 2 = omega arith in i) in
    is_long x m (omega (arith, long_is x n h, mul-le-mul a (let i : x.den * x.den ≤ x.den * x.den = omega arith in i)))

two_steps : (m p : ℤ) (q k : ℕ) (f : ℕ → ℤ) → IsSeries m p q k f → (d : ℕ) → suc d < k
    → pos (q * q * (suc d * suc (suc d))) *ℤ f (suc (suc d)) ≡ pos (unsigned_abs p * unsigned_abs p) *ℤ f d
two_steps m p q k f s d l =
    go (pos q) (pos (suc d)) (pos (suc (suc d))) (f d) (f (suc d)) (f (suc (suc d))) p (s.next d (omega arith)) (s.next (suc d) l)
    ∙ ap (λ z. z *ℤ f d) (square_abs p)
  where
    go : (q a b f g h p : ℤ) → q *ℤ (a *ℤ g) ≡ p *ℤ f → q *ℤ (b *ℤ h) ≡ p *ℤ g → q *ℤ q *ℤ (a *ℤ b) *ℤ h ≡ p *ℤ p *ℤ f
    go q a b f g h p e1 e2 =
        let l : q *ℤ q *ℤ (a *ℤ b) *ℤ h ≡ q *ℤ a *ℤ (q *ℤ (b *ℤ h)) = simp ring in
        let c : q *ℤ a *ℤ (p *ℤ g) ≡ p *ℤ (q *ℤ (a *ℤ g)) = simp ring in
        let r : p *ℤ (p *ℤ f) ≡ p *ℤ p *ℤ f = simp ring in
        l ∙ ap (λ z. q *ℤ a *ℤ z) e2 ∙ c ∙ ap (λ z. p *ℤ z) e1 ∙ r

-- from degree 2n on the terms two degrees apart shrink
pub terms_shrink : (x : Fraction) (n k d : ℕ) → 0 < x.den → IsLongEnough x n → 2 * n ≤ d → suc d < k
    → Shrinks (scaled_term x.num x.den k d) (scaled_term x.num x.den k (suc (suc d)))
terms_shrink x n k d some long l m =
    let q = x.den in
    let f = scaled_term x.num q k in
    let a = mul-le-mul (let i : 2 * n + 1 ≤ suc d = omega arith in i) (let i : 2 * n + 2 ≤ suc (suc d) = omega arith in i) in
    let b = mul-le-mul_left (q * q) a in
    shrinks (q * q * (suc d * suc (suc d))) (unsigned_abs x.num * unsigned_abs x.num) (f d) (f (suc (suc d)))
    (mul-pos (mul-pos some some) (omega arith)) (omega (arith, long_is x n long))
    (two_steps (pos (rest q 0 k)) x.num q k f (series_exists x.num q k) d m)

sine_closes : (x : Fraction) (n k i : ℕ) → 0 < x.den → IsLongEnough x n → n ≤ i → 2 * i + 5 ≤ k
    → Closes (sine_of (scaled_term x.num x.den k) i) (sine_of (scaled_term x.num x.den k) (suc i)) (sine_of (scaled_term x.num x.den k) (suc (suc i)))
sine_closes x n k i some long l b =
    let f = scaled_term x.num x.den k in
    let e : 2 * suc (suc i) + 1 ≡ suc (suc (2 * suc i + 1)) = omega arith in
    let s = turned_shrinks (suc i) _ _ (terms_shrink x n k (2 * suc i + 1) some long (omega arith) (omega arith)) in
    closes (sine_of f i) (sine_of f (suc i)) (sine_of f (suc (suc i))) (turned (suc i) (f (2 * suc i + 1))) (turned (suc i) (f (2 * suc (suc i) + 1))) refl refl (rw e s)

cosine_closes : (x : Fraction) (n k i : ℕ) → 0 < x.den → IsLongEnough x n → n ≤ i → 2 * i + 5 ≤ k
    → Closes (cosine_of (scaled_term x.num x.den k) i) (cosine_of (scaled_term x.num x.den k) (suc i)) (cosine_of (scaled_term x.num x.den k) (suc (suc i)))
cosine_closes x n k i some long l b =
    let f = scaled_term x.num x.den k in
    let e : 2 * suc (suc i) ≡ suc (suc (2 * suc i)) = omega arith in
    let s = turned_shrinks (suc i) _ _ (terms_shrink x n k (2 * suc i) some long (omega arith) (omega arith)) in
    closes (cosine_of f i) (cosine_of f (suc i)) (cosine_of f (suc (suc i))) (turned (suc i) (f (2 * suc i))) (turned (suc i) (f (2 * suc (suc i)))) refl refl (rw e s)

pub record Nested (s : ℕ → ℤ) (n m : ℕ) : Type 0 where
  pub rises : lesser (s n) (s (suc n)) ≤ℤ lesser (s m) (s (suc m))
  pub falls : greater (s m) (s (suc m)) ≤ℤ greater (s n) (s (suc n))

chain : (s : ℕ → ℤ) (n k : ℕ) → ((i : ℕ) → n ≤ i → 2 * i + 5 ≤ k → Closes (s i) (s (suc i)) (s (suc (suc i)))) → (j : ℕ) → 2 * (j + n) + 3 ≤ k → Nested s n (j + n)
chain s n k h zero l = let e : 0 + n ≡ n = omega arith in rw e (record { rises = omega (arith, lin); falls = omega (arith, lin) })
chain s n k h (suc j) l =
    let e : suc j + n ≡ suc (j + n) = omega arith in
    let ih = chain s n k h j (omega arith) in
    let c = h (j + n) (omega arith) (omega arith) in
    rw e (record { rises = omega (arith, lin, ih.rises, c.rises); falls = omega (arith, lin, ih.falls, c.falls) })

pub sine_chain : (x : Fraction) (n k m : ℕ) → 0 < x.den → IsLongEnough x n → n ≤ m → 2 * m + 3 ≤ k → Nested (sine_of (scaled_term x.num x.den k)) n m
sine_chain x n k m some long l b =
    let e : (m - n) + n ≡ m = omega arith in
    rw e at (chain (sine_of (scaled_term x.num x.den k)) n k (λ i a c. sine_closes x n k i some long a c) (m - n) (omega arith))

pub sine_lower_at : (x : Fraction) (k n : ℕ) → 0 < x.den → 2 * n + 3 ≤ k
    → IsAt (rest x.den 0 k) (sine_lower x n) (lesser (sine_of (scaled_term x.num x.den k) n) (sine_of (scaled_term x.num x.den k) (suc n)))
unfolding sine_lower
sine_lower_at x k n some l =
    at_least (rest x.den 0 k) (sine_sum x n) (sine_sum x (suc n)) _ _ (sine_sum-den x n some) (sine_sum-den x (suc n) some)
    (sine_at (rest x.den 0 k) x.num x.den k (scaled_term x.num x.den k) x some (series_exists x.num x.den k) (at_self x) n (omega arith))
    (sine_at (rest x.den 0 k) x.num x.den k (scaled_term x.num x.den k) x some (series_exists x.num x.den k) (at_self x) (suc n) (omega arith))

pub sine_upper_at : (x : Fraction) (k n : ℕ) → 0 < x.den → 2 * n + 3 ≤ k
    → IsAt (rest x.den 0 k) (sine_upper x n) (greater (sine_of (scaled_term x.num x.den k) n) (sine_of (scaled_term x.num x.den k) (suc n)))
unfolding sine_upper
sine_upper_at x k n some l =
    at_greatest (rest x.den 0 k) (sine_sum x n) (sine_sum x (suc n)) _ _ (sine_sum-den x n some) (sine_sum-den x (suc n) some)
    (sine_at (rest x.den 0 k) x.num x.den k (scaled_term x.num x.den k) x some (series_exists x.num x.den k) (at_self x) n (omega arith))
    (sine_at (rest x.den 0 k) x.num x.den k (scaled_term x.num x.den k) x some (series_exists x.num x.den k) (at_self x) (suc n) (omega arith))

pub cosine_lower_at : (x : Fraction) (k n : ℕ) → 0 < x.den → 2 * n + 3 ≤ k
    → IsAt (rest x.den 0 k) (cosine_lower x n) (lesser (cosine_of (scaled_term x.num x.den k) n) (cosine_of (scaled_term x.num x.den k) (suc n)))
unfolding cosine_lower
cosine_lower_at x k n some l =
    at_least (rest x.den 0 k) (cosine_sum x n) (cosine_sum x (suc n)) _ _ (cosine_sum-den x n some) (cosine_sum-den x (suc n) some)
    (cosine_at (rest x.den 0 k) x.num x.den k (scaled_term x.num x.den k) x some (series_exists x.num x.den k) (at_self x) n (omega arith))
    (cosine_at (rest x.den 0 k) x.num x.den k (scaled_term x.num x.den k) x some (series_exists x.num x.den k) (at_self x) (suc n) (omega arith))

pub cosine_upper_at : (x : Fraction) (k n : ℕ) → 0 < x.den → 2 * n + 3 ≤ k
    → IsAt (rest x.den 0 k) (cosine_upper x n) (greater (cosine_of (scaled_term x.num x.den k) n) (cosine_of (scaled_term x.num x.den k) (suc n)))
unfolding cosine_upper
cosine_upper_at x k n some l =
    at_greatest (rest x.den 0 k) (cosine_sum x n) (cosine_sum x (suc n)) _ _ (cosine_sum-den x n some) (cosine_sum-den x (suc n) some)
    (cosine_at (rest x.den 0 k) x.num x.den k (scaled_term x.num x.den k) x some (series_exists x.num x.den k) (at_self x) n (omega arith))
    (cosine_at (rest x.den 0 k) x.num x.den k (scaled_term x.num x.den k) x some (series_exists x.num x.den k) (at_self x) (suc n) (omega arith))

pub sine_sandwich : SineSandwich
sine_sandwich x n m px long l =
    let k = 2 * m + 3 in
    let some = px.positive in
    let e : (m - n) + n ≡ m = omega arith in
    let c = rw e at (chain (sine_of (scaled_term x.num x.den k)) n k (λ i a b. sine_closes x n k i some long a b) (m - n) (omega arith)) in
    let scale = rest-pos x.den 0 k some in (
      le_at (rest x.den 0 k) _ _ _ _ scale (sine_lower_at x k n some (omega arith)) (sine_lower_at x k m some (omega arith)) c.rises,
      le_at (rest x.den 0 k) _ _ _ _ scale (sine_upper_at x k m some (omega arith)) (sine_upper_at x k n some (omega arith)) c.falls,
    )

pub cosine_sandwich : CosineSandwich
cosine_sandwich x n m px long l =
    let k = 2 * m + 3 in
    let some = px.positive in
    let e : (m - n) + n ≡ m = omega arith in
    let c = rw e at (chain (cosine_of (scaled_term x.num x.den k)) n k (λ i a b. cosine_closes x n k i some long a b) (m - n) (omega arith)) in
    let scale = rest-pos x.den 0 k some in (
      le_at (rest x.den 0 k) _ _ _ _ scale (cosine_lower_at x k n some (omega arith)) (cosine_lower_at x k m some (omega arith)) c.rises,
      le_at (rest x.den 0 k) _ _ _ _ scale (cosine_upper_at x k m some (omega arith)) (cosine_upper_at x k n some (omega arith)) c.falls,
    )

pub sine_lower-den : (x : Fraction) (n : ℕ) → 0 < x.den → 0 < (sine_lower x n).den
unfolding sine_lower
sine_lower-den x n some = least-den (sine_sum x n) (sine_sum x (suc n)) (sine_sum-den x n some) (sine_sum-den x (suc n) some)

pub sine_upper-den : (x : Fraction) (n : ℕ) → 0 < x.den → 0 < (sine_upper x n).den
unfolding sine_upper
sine_upper-den x n some = greatest-den (sine_sum x n) (sine_sum x (suc n)) (sine_sum-den x n some) (sine_sum-den x (suc n) some)

pub cosine_lower-den : (x : Fraction) (n : ℕ) → 0 < x.den → 0 < (cosine_lower x n).den
unfolding cosine_lower
cosine_lower-den x n some = least-den (cosine_sum x n) (cosine_sum x (suc n)) (cosine_sum-den x n some) (cosine_sum-den x (suc n) some)

pub cosine_upper-den : (x : Fraction) (n : ℕ) → 0 < x.den → 0 < (cosine_upper x n).den
unfolding cosine_upper
cosine_upper-den x n some = greatest-den (cosine_sum x n) (cosine_sum x (suc n)) (cosine_sum-den x n some) (cosine_sum-den x (suc n) some)

-- each partial sum lies between its own ends
pub sine_own : (x : Fraction) (n : ℕ) → 0 < x.den → (sine_lower x n ≤ᶠ sine_sum x n) × (sine_sum x n ≤ᶠ sine_upper x n)
sine_own x n some =
    let k = 2 * n + 3 in
    let scale = rest-pos x.den 0 k some in
    let e = ends (sine_of (scaled_term x.num x.den k) n) (sine_of (scaled_term x.num x.den k) (suc n)) in
    let s = sine_at (rest x.den 0 k) x.num x.den k (scaled_term x.num x.den k) x some (series_exists x.num x.den k) (at_self x) n (omega arith) in (
      le_at (rest x.den 0 k) _ _ _ _ scale (sine_lower_at x k n some (omega arith)) s e.l_first,
      le_at (rest x.den 0 k) _ _ _ _ scale s (sine_upper_at x k n some (omega arith)) e.g_first,
    )

pub cosine_own : (x : Fraction) (n : ℕ) → 0 < x.den → (cosine_lower x n ≤ᶠ cosine_sum x n) × (cosine_sum x n ≤ᶠ cosine_upper x n)
cosine_own x n some =
    let k = 2 * n + 3 in
    let scale = rest-pos x.den 0 k some in
    let e = ends (cosine_of (scaled_term x.num x.den k) n) (cosine_of (scaled_term x.num x.den k) (suc n)) in
    let s = cosine_at (rest x.den 0 k) x.num x.den k (scaled_term x.num x.den k) x some (series_exists x.num x.den k) (at_self x) n (omega arith) in (
      le_at (rest x.den 0 k) _ _ _ _ scale (cosine_lower_at x k n some (omega arith)) s e.l_first,
      le_at (rest x.den 0 k) _ _ _ _ scale s (cosine_upper_at x k n some (omega arith)) e.g_first,
    )

-- a long enough n bounds each later partial sum
pub sine_within : (x : Fraction) (n m : ℕ) → IsFraction x → IsLongEnough x n → n ≤ m → (sine_lower x n ≤ᶠ sine_sum x m) × (sine_sum x m ≤ᶠ sine_upper x n)
sine_within x n m px long l =
    let some = px.positive in
    let s = sine_sandwich x n m px long l in
    let o = sine_own x m some in (
      le_f_trans (sine_lower x n) (sine_lower x m) (sine_sum x m) (sine_lower-den x m some) s.0 o.0,
      le_f_trans (sine_sum x m) (sine_upper x m) (sine_upper x n) (sine_upper-den x m some) o.1 s.1,
    )

pub cosine_within : (x : Fraction) (n m : ℕ) → IsFraction x → IsLongEnough x n → n ≤ m → (cosine_lower x n ≤ᶠ cosine_sum x m) × (cosine_sum x m ≤ᶠ cosine_upper x n)
cosine_within x n m px long l =
    let some = px.positive in
    let s = cosine_sandwich x n m px long l in
    let o = cosine_own x m some in (
      le_f_trans (cosine_lower x n) (cosine_lower x m) (cosine_sum x m) (cosine_lower-den x m some) s.0 o.0,
      le_f_trans (cosine_sum x m) (cosine_upper x m) (cosine_upper x n) (cosine_upper-den x m some) o.1 s.1,
    )

pub sine_in_order : SineInOrder
sine_in_order x n m px ln lm =
    let a = sine_within x n (n + m) px ln (omega arith) in
    let b = sine_within x m (n + m) px lm (omega arith) in
    le_f_trans (sine_lower x n) (sine_sum x (n + m)) (sine_upper x m) (sine_sum-den x (n + m) px.positive) a.0 b.1

pub cosine_in_order : CosineInOrder
cosine_in_order x n m px ln lm =
    let a = cosine_within x n (n + m) px ln (omega arith) in
    let b = cosine_within x m (n + m) px lm (omega arith) in
    le_f_trans (cosine_lower x n) (cosine_sum x (n + m)) (cosine_upper x m) (cosine_sum-den x (n + m) px.positive) a.0 b.1
