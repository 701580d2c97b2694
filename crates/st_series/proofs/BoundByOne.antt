-- Neither sine nor cosine is above 1 or below -1: the sum of their squares is 1, up to a term that vanishes.
use Rattle.std.proofs.Common.{◌≡◌, ℕ, suc, ◌+◌, ◌*◌, ◌≤◌, ◌<◌, ℤ, pos, negsuc, ◌+ℤ◌, ◌-ℤ◌, ◌*ℤ◌, neg_ℤ, ◌≤ℤ◌, unsigned_abs, refl, ap, ◌∙◌, arith, mul-pos, mul-le-mul, mul-le-mul_right}
use Rattle.std.proofs.lemmas.Int.{ints}
use Rattle.st_fraction.specs.Fraction.{Fraction, ◌<ᶠ◌, over, whole}
use Rattle.st_fraction.proofs.Ring.{lin, square_abs, neg-mul_z, mul-neg_z}
use Rattle.st_fraction.proofs.Within.{Within}
use Rattle.st_fraction.proofs.Order.{le_f_cases}
use Rattle.st_fraction.proofs.Scale.{at_self, at_above, at_below}
use Rattle.st_series.specs.Series.{term, sine_sum, cosine_sum, sine_lower, sine_upper, cosine_lower, cosine_upper}
use Rattle.st_series.specs.Laws.{SineBound, CosineBound}
use Rattle.st_series.proofs.Terms.{rest, rest-pos, scaled_term, series_exists, term_at, sine_of, cosine_of, sine_at, cosine_at, term-den, sine_sum-den, cosine_sum-den}
use Rattle.st_series.proofs.Tail.{scaled_term-nonneg}
use Rattle.st_series.proofs.Addition.{sum_of_sizes, cosine_at_scale}
use Rattle.st_series.proofs.Vanish.{enough_for, vanishing_from}
use Rattle.st_series.proofs.Sandwich.{sine_within, cosine_within, sine_lower-den, sine_upper-den, cosine_lower-den, cosine_upper-den}
use Rattle.st_series.proofs.Parity.{sine_of_neg, cosine_of_neg, cosine_of_zero}

-- m is so large that the addition law holds at sizes of z in all over q, and the first term left out is at most 1/w
pub record IsFar (z q w m : ℕ) : Type 0 where
  pub small : z ≤ q * suc m
  pub vanished : (scaled_term (pos z) q (4 * m + 2) (2 * m + 2) *ℤ pos w) ≤ℤ pos (rest q 0 (4 * m + 2))

pub far_from : ℕ → ℕ → ℕ → ℕ
far_from z q w = z + enough_for (over (pos z) q) (over (pos 1) w)

pub is_far : (z q w m : ℕ) → 0 < q → 0 < w → far_from z q w ≤ m → IsFar z q w m
unfolding far_from
is_far z q w m some wide l =
    let k = 4 * m + 2 in
    let x = over (pos z) q in
    let t = vanishing_from x (over (pos 1) w) some (record { lt = omega (arith, ints) }) (2 * m + 2) (omega arith) in
    let at = term_at (rest q 0 k) (pos z) q k (scaled_term (pos z) q k) x some (series_exists (pos z) q k) (at_self x) (2 * m + 2) (omega arith) in
    let b = at_above (rest q 0 k) (over (pos 1) w) (term x (2 * m + 2)) _ (term-den x (2 * m + 2) some) at t in
    record {
      small = omega (arith, mul-le-mul_right (suc m) some);
      vanished = omega (arith, ints, b);
    }

-- the first term left out, as a natural number
pub left_out : ℕ → ℕ → ℕ → ℕ
left_out z q m = unsigned_abs (scaled_term (pos z) q (4 * m + 2) (2 * m + 2))

pub left_out_is : (z q m : ℕ) → scaled_term (pos z) q (4 * m + 2) (2 * m + 2) ≡ pos (left_out z q m)
unfolding left_out
left_out_is z q m = let n = scaled_term-nonneg z q (4 * m + 2) (2 * m + 2) in omega (arith, ints)

-- the squares of both sums together, at the scale
pub squares : (p : ℤ) (q w n : ℕ) → 0 < q → IsFar (sum_of_sizes p (neg_ℤ p)) q w n
    → unsigned_abs (sine_of (scaled_term p q (4 * n + 2)) n) * unsigned_abs (sine_of (scaled_term p q (4 * n + 2)) n)
    + unsigned_abs (cosine_of (scaled_term p q (4 * n + 2)) n) * unsigned_abs (cosine_of (scaled_term p q (4 * n + 2)) n)
    ≤ rest q 0 (4 * n + 2) * rest q 0 (4 * n + 2) + 2 * (rest q 0 (4 * n + 2) * left_out (sum_of_sizes p (neg_ℤ p)) q n)
squares p q w n some far =
    let k = 4 * n + 2 in
    let z = sum_of_sizes p (neg_ℤ p) in
    let law = cosine_at_scale p (neg_ℤ p) q n k some far.small refl in
    let zero_is : p +ℤ neg_ℤ p ≡ pos 0 = omega (arith, ints) in
    go (cosine_of (scaled_term p q k) n) (sine_of (scaled_term p q k) n) (cosine_of (scaled_term (neg_ℤ p) q k) n) (sine_of (scaled_term (neg_ℤ p) q k) n)
    (cosine_of (scaled_term (p +ℤ neg_ℤ p) q k) n) (scaled_term (pos z) q k (2 * n + 2)) (rest q 0 k) (left_out z q n) law
    (cosine_of_neg p q k n) (sine_of_neg p q k n) (rw zero_is (cosine_of_zero q k n)) (left_out_is z q n)
  where
    go : (c s c' s' o t : ℤ) (m l : ℕ) → Within (c *ℤ c' +ℤ neg_ℤ (s *ℤ s') -ℤ pos m *ℤ o) (pos m *ℤ (t +ℤ t)) → c' ≡ c → s' ≡ neg_ℤ s → o ≡ pos m → t ≡ pos l
        → unsigned_abs s * unsigned_abs s + unsigned_abs c * unsigned_abs c ≤ m * m + 2 * (m * l)
    go c s c' s' o t m l w e1 e2 e3 e4 =
        let cc : c *ℤ c' ≡ pos (unsigned_abs c * unsigned_abs c) = rw e1 (square_abs c) in
        let ss : s *ℤ s' ≡ neg_ℤ (pos (unsigned_abs s * unsigned_abs s)) = rw e2 (mul-neg_z s s ∙ ap neg_ℤ (square_abs s)) in
        let oo : pos m *ℤ o ≡ pos (m * m) = rw e3 refl in
        let tt' : pos m *ℤ (t +ℤ t) ≡ pos (m * (l + l)) = rw e4 refl in
        omega (arith, ints, cc, ss, oo, tt', w.above)

-- u / v above 1, a / m at least u / v, and a^2 / m^2 at most 1 + 1 / v: not all three
not_above : (u v a m t : ℕ) → 0 < m → v < u → u * m ≤ a * v → a * a ≤ m * m + 2 * (m * t) → 2 * v * t ≤ m → ⊥
not_above u v a m t some over_one big square small =
    let s1 = mul-le-mul big big in
    let s2 = mul-le-mul_right (v * v) square in
    let s3 = mul-le-mul_right (m * v) small in
    let s4 = mul-le-mul over_one over_one in
    let s5 = mul-le-mul_right (m * m) s4 in
    let s6 = mul-pos some some in
    omega arith

-- the same for a fraction and a whole number at the scale
too_high : (b : Fraction) (s : ℤ) (m t : ℕ) → 0 < m → whole (pos 1) <ᶠ b → (b.num *ℤ pos m) ≤ℤ (s *ℤ pos b.den)
    → unsigned_abs s * unsigned_abs s ≤ m * m + 2 * (m * t) → 2 * b.den * t ≤ m → ⊥
too_high b s m t some high l square small = by b.num s refl refl
  where
    by : (n z : ℤ) → b.num ≡ n → s ≡ z → ⊥
    by (pos u) (pos a) e i =
        let l2 = rw (e, i) at l in
        let abs_is : unsigned_abs s ≡ a = rw i refl in
        not_above u b.den a m t some (omega (arith, ints, high.lt)) (omega (arith, ints)) (rw abs_is at square) small
    by (pos u) (negsuc a) e i =
        let l2 = rw (e, i) at l in
        let some_den : b.den < u = omega (arith, ints, high.lt) in
        omega (arith, ints, mul-pos (let j : 0 < u = omega arith in j) some)
    by (negsuc u) z e i = omega (arith, ints, high.lt)

too_low : (b : Fraction) (s : ℤ) (m t : ℕ) → 0 < m → b <ᶠ whole (negsuc 0) → (s *ℤ pos b.den) ≤ℤ (b.num *ℤ pos m)
    → unsigned_abs s * unsigned_abs s ≤ m * m + 2 * (m * t) → 2 * b.den * t ≤ m → ⊥
too_low b s m t some low l square small =
    let e1 = neg-mul_z s (pos b.den) in
    let e2 = neg-mul_z b.num (pos m) in
    let turned : unsigned_abs (neg_ℤ s) ≡ unsigned_abs s = omega (arith, ints) in
    too_high (over (neg_ℤ b.num) b.den) (neg_ℤ s) m t some (record { lt = omega (arith, ints, low.lt) }) (omega (arith, lin)) (rw turned square) small

pub far_small : (z q w m : ℕ) → IsFar z q w m → w * left_out z q m ≤ rest q 0 (4 * m + 2)
far_small z q w m far = let v = rw (left_out_is z q m) at far.vanished in omega (arith, ints)

-- the sizes of p and of its negative
abbrev pub twice_size : ℤ → ℕ
twice_size p = sum_of_sizes p (neg_ℤ p)

pub sine_bound : SineBound
sine_bound x n px long =
    let p = x.num in
    let q = x.den in
    let some = px.positive in
    let z = twice_size p in
    let low = sine_lower x n in
    let high = sine_upper x n in
    let low_den = sine_lower-den x n some in
    let high_den = sine_upper-den x n some in
    let m = n + far_from z q (2 * low.den) in
    let i = n + far_from z q (2 * high.den) in
    let far : IsFar z q (2 * low.den) m = is_far z q (2 * low.den) m some (omega arith) (omega arith) in
    let far2 : IsFar z q (2 * high.den) i = is_far z q (2 * high.den) i some (omega arith) (omega arith) in
    let at = sine_at (rest q 0 (4 * m + 2)) p q (4 * m + 2) (scaled_term p q (4 * m + 2)) x some (series_exists p q (4 * m + 2)) (at_self x) m (omega arith) in
    let at2 = sine_at (rest q 0 (4 * i + 2)) p q (4 * i + 2) (scaled_term p q (4 * i + 2)) x some (series_exists p q (4 * i + 2)) (at_self x) i (omega arith) in
    let s = squares p q (2 * low.den) m some far in
    let s2 = squares p q (2 * high.den) i some far2 in (
      le_f_cases low (whole (pos 1)) (λ h. h) (λ h. absurd (too_high low (sine_of (scaled_term p q (4 * m + 2)) m) (rest q 0 (4 * m + 2)) (left_out z q m)
          (rest-pos q 0 (4 * m + 2) some) h
          (at_below (rest q 0 (4 * m + 2)) low (sine_sum x m) _ (sine_sum-den x m some) at ((sine_within x n m px long (omega arith)).0))
          (omega arith) (far_small z q (2 * low.den) m far))),
      le_f_cases (whole (negsuc 0)) high (λ h. h) (λ h. absurd (too_low high (sine_of (scaled_term p q (4 * i + 2)) i) (rest q 0 (4 * i + 2)) (left_out z q i)
          (rest-pos q 0 (4 * i + 2) some) h
          (at_above (rest q 0 (4 * i + 2)) high (sine_sum x i) _ (sine_sum-den x i some) at2 ((sine_within x n i px long (omega arith)).1))
          (omega arith) (far_small z q (2 * high.den) i far2))),
    )

pub cosine_bound : CosineBound
cosine_bound x n px long =
    let p = x.num in
    let q = x.den in
    let some = px.positive in
    let z = twice_size p in
    let low = cosine_lower x n in
    let high = cosine_upper x n in
    let low_den = cosine_lower-den x n some in
    let high_den = cosine_upper-den x n some in
    let m = n + far_from z q (2 * low.den) in
    let i = n + far_from z q (2 * high.den) in
    let far : IsFar z q (2 * low.den) m = is_far z q (2 * low.den) m some (omega arith) (omega arith) in
    let far2 : IsFar z q (2 * high.den) i = is_far z q (2 * high.den) i some (omega arith) (omega arith) in
    let at = cosine_at (rest q 0 (4 * m + 2)) p q (4 * m + 2) (scaled_term p q (4 * m + 2)) x some (series_exists p q (4 * m + 2)) (at_self x) m (omega arith) in
    let at2 = cosine_at (rest q 0 (4 * i + 2)) p q (4 * i + 2) (scaled_term p q (4 * i + 2)) x some (series_exists p q (4 * i + 2)) (at_self x) i (omega arith) in
    let s = squares p q (2 * low.den) m some far in
    let s2 = squares p q (2 * high.den) i some far2 in (
      le_f_cases low (whole (pos 1)) (λ h. h) (λ h. absurd (too_high low (cosine_of (scaled_term p q (4 * m + 2)) m) (rest q 0 (4 * m + 2)) (left_out z q m)
          (rest-pos q 0 (4 * m + 2) some) h
          (at_below (rest q 0 (4 * m + 2)) low (cosine_sum x m) _ (cosine_sum-den x m some) at ((cosine_within x n m px long (omega arith)).0))
          (omega arith) (far_small z q (2 * low.den) m far))),
      le_f_cases (whole (negsuc 0)) high (λ h. h) (λ h. absurd (too_low high (cosine_of (scaled_term p q (4 * i + 2)) i) (rest q 0 (4 * i + 2)) (left_out z q i)
          (rest-pos q 0 (4 * i + 2) some) h
          (at_above (rest q 0 (4 * i + 2)) high (cosine_sum x i) _ (cosine_sum-den x i some) at2 ((cosine_within x n i px long (omega arith)).1))
          (omega arith) (far_small z q (2 * high.den) i far2))),
    )
