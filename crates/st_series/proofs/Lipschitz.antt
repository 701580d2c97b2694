-- The Lipschitz law: where the angles are less than 2 apart by `Apart`, and else since both values lie within 1.
use Rattle.std.proofs.Common.{◌≡◌, ℕ, ◌+◌, ◌*◌, ◌≤◌, ◌<◌, ℤ, pos, negsuc, ◌+ℤ◌, ◌*ℤ◌, neg_ℤ, ◌≤ℤ◌, ◌<ℤ◌, unsigned_abs, arith, mul-pos, mul-le-mul_right}
use Rattle.std.proofs.lemmas.Int.{ints, by_lt_z}
use Rattle.st_fraction.specs.Fraction.{Fraction, IsFraction, ◌+ᶠ◌, ◌-ᶠ◌}
use Rattle.st_fraction.proofs.Ring.{le-mul_z, neg-mul_z}
use Rattle.st_fraction.proofs.Scale.{IsAt, at_more, at_above, at_below}
use Rattle.st_series.specs.Series.{sine_sum, cosine_sum, sine_lower, sine_upper, cosine_lower, cosine_upper}
use Rattle.st_series.specs.Laws.{SineLipschitz, CosineLipschitz}
use Rattle.st_series.proofs.Terms.{rest, rest-pos, scaled_term, series_exists, sine_of, cosine_of, sine_at, cosine_at, sine_sum-den, cosine_sum-den}
use Rattle.st_series.proofs.Addition.{sum_of_sizes, first_over, second_over}
use Rattle.st_series.proofs.Sandwich.{sine_within, cosine_within, sine_lower-den, sine_upper-den, cosine_lower-den, cosine_upper-den}
use Rattle.st_series.proofs.BoundByOne.{IsFar, far_from, is_far, far_small, left_out, squares, twice_size, sine_bound, cosine_bound}
use Rattle.st_series.proofs.Apart.{bounded, apart, no_excess, small_sine, sines_apart, cosines_apart}

-- Both fractions over twice their common denominator, by their sum and their difference.
record Halved (x y : Fraction) (p r : ℤ) (q : ℕ) : Type 0 where
  some : 0 < q
  first : IsAt q x (p +ℤ r)
  second : IsAt q y (p +ℤ neg_ℤ r)

halved : (x y : Fraction) → IsFraction x → IsFraction y → Halved x y (x +ᶠ y).num (x -ᶠ y).num (x.den * y.den * 2)
halved x y px py =
    let a = x.num *ℤ pos y.den in
    let b = y.num *ℤ pos x.den in
    let c = neg_ℤ y.num *ℤ pos x.den in
    let e : c ≡ neg_ℤ b = neg-mul_z y.num (pos x.den) in
    let q = x.den * y.den in
    let first : a *ℤ pos 2 ≡ (a +ℤ b) +ℤ (a +ℤ c) = twice a b c e in
    let second : b *ℤ pos 2 ≡ (a +ℤ b) +ℤ neg_ℤ (a +ℤ c) = twice_less a b c e in
    record {
      some = mul-pos (mul-pos px.positive py.positive) (omega arith);
      first = rw first at (at_more q 2 x a (first_over x y));
      second = rw second at (at_more q 2 y b (second_over x y));
    }
  where
    twice : (a b c : ℤ) → c ≡ neg_ℤ b → a *ℤ pos 2 ≡ (a +ℤ b) +ℤ (a +ℤ c)
    twice a b c e = omega (arith, ints)

    twice_less : (a b c : ℤ) → c ≡ neg_ℤ b → b *ℤ pos 2 ≡ (a +ℤ b) +ℤ neg_ℤ (a +ℤ c)
    twice_less a b c e = omega (arith, ints)

-- where the angles are at least 2 apart, by the bound by one
wide : (a1 a2 : ℤ) (b1 b2 q r : ℕ) → (a1 *ℤ pos 1) ≤ℤ (pos 1 *ℤ pos b1) → (negsuc 0 *ℤ pos b2) ≤ℤ (a2 *ℤ pos 1) → q * 2 ≤ r
    → ((a1 *ℤ pos b2 +ℤ neg_ℤ a2 *ℤ pos b1) *ℤ pos q) ≤ℤ (pos r *ℤ pos (b1 * b2))
wide a1 a2 b1 b2 q r h k l =
    let x = le-mul_z a1 (pos b1) b2 (omega (arith, ints)) in
    let y = le-mul_z (neg_ℤ a2) (pos b2) b1 (omega (arith, ints)) in
    let z : (a1 *ℤ pos b2 +ℤ neg_ℤ a2 *ℤ pos b1) ≤ℤ pos (2 * (b1 * b2)) = sum (a1 *ℤ pos b2) (neg_ℤ a2 *ℤ pos b1) b1 b2 x y in
    last (a1 *ℤ pos b2 +ℤ neg_ℤ a2 *ℤ pos b1) (b1 * b2) q r (le-mul_z (a1 *ℤ pos b2 +ℤ neg_ℤ a2 *ℤ pos b1) (pos (2 * (b1 * b2))) q z) l
  where
    sum : (x y : ℤ) (b1 b2 : ℕ) → x ≤ℤ pos (b1 * b2) → y ≤ℤ pos (b2 * b1) → (x +ℤ y) ≤ℤ pos (2 * (b1 * b2))
    sum x y b1 b2 h k = omega (arith, ints)

    last : (e : ℤ) (c q r : ℕ) → (e *ℤ pos q) ≤ℤ pos (2 * c * q) → q * 2 ≤ r → (e *ℤ pos q) ≤ℤ pos (r * c)
    last e c q r h l = omega (arith, ints, mul-le-mul_right c l)

halve : (e : ℤ) (q r c : ℕ) → (e *ℤ pos (q * 2)) ≤ℤ pos (2 * r * c) → (e *ℤ pos q) ≤ℤ (pos r *ℤ pos c)
halve e q r c h = omega (arith, ints)

-- how far a sum has to go for ends with denominators b1 and b2
abbrev room : ℕ → ℕ → ℕ → ℕ → ℕ
room b1 b2 r q = b1 * b2 * (2 * r + 4 * q) + 1

abbrev far_enough : ℕ → ℤ → ℤ → ℕ → ℕ → ℕ
far_enough n p r q w = n + 1 + far_from (sum_of_sizes p r) q w + far_from (twice_size p) q w

sines_near : (p r : ℤ) (q w n : ℕ) → 0 < q → 0 < w → unsigned_abs r ≤ q
    → let m = far_enough n p r q w in
    ((sine_of (scaled_term (p +ℤ r) q (4 * m + 2)) m +ℤ neg_ℤ (sine_of (scaled_term (p +ℤ neg_ℤ r) q (4 * m + 2)) m)) *ℤ pos q)
    ≤ℤ pos (2 * unsigned_abs r * (rest q 0 (4 * m + 2) + left_out (twice_size p) q m) + 4 * left_out (sum_of_sizes p r) q m * q)
sines_near p r q w n some wide small =
    let m = far_enough n p r q w in
    let k = 4 * m + 2 in
    let far : IsFar (sum_of_sizes p r) q w m = is_far (sum_of_sizes p r) q w m some wide (omega arith) in
    let far1 : IsFar (twice_size p) q w m = is_far (twice_size p) q w m some wide (omega arith) in
    let s = squares p q w m some far1 in
    apart (sine_of (scaled_term (p +ℤ r) q k) m +ℤ neg_ℤ (sine_of (scaled_term (p +ℤ neg_ℤ r) q k) m)) (cosine_of (scaled_term p q k) m) (sine_of (scaled_term r q k) m)
    (rest q 0 k) (left_out (sum_of_sizes p r) q m) (left_out (twice_size p) q m) q (unsigned_abs r) (rest-pos q 0 k some) (sines_apart p r q w m some far)
    (bounded (unsigned_abs (cosine_of (scaled_term p q k) m)) (rest q 0 k) (left_out (twice_size p) q m) (omega arith))
    (small_sine r q m some (omega arith) small)

cosines_near : (p r : ℤ) (q w n : ℕ) → 0 < q → 0 < w → unsigned_abs r ≤ q
    → let m = far_enough n p r q w in
    ((cosine_of (scaled_term (p +ℤ r) q (4 * m + 2)) m +ℤ neg_ℤ (cosine_of (scaled_term (p +ℤ neg_ℤ r) q (4 * m + 2)) m)) *ℤ pos q)
    ≤ℤ pos (2 * unsigned_abs r * (rest q 0 (4 * m + 2) + left_out (twice_size p) q m) + 4 * left_out (sum_of_sizes p r) q m * q)
cosines_near p r q w n some wide small =
    let m = far_enough n p r q w in
    let k = 4 * m + 2 in
    let far : IsFar (sum_of_sizes p r) q w m = is_far (sum_of_sizes p r) q w m some wide (omega arith) in
    let far1 : IsFar (twice_size p) q w m = is_far (twice_size p) q w m some wide (omega arith) in
    let s = squares p q w m some far1 in
    let turned : unsigned_abs (neg_ℤ (sine_of (scaled_term p q k) m)) ≡ unsigned_abs (sine_of (scaled_term p q k) m) = omega (arith, ints) in
    apart (cosine_of (scaled_term (p +ℤ r) q k) m +ℤ neg_ℤ (cosine_of (scaled_term (p +ℤ neg_ℤ r) q k) m)) (neg_ℤ (sine_of (scaled_term p q k) m)) (sine_of (scaled_term r q k) m)
    (rest q 0 k) (left_out (sum_of_sizes p r) q m) (left_out (twice_size p) q m) q (unsigned_abs r) (rest-pos q 0 k some) (cosines_apart p r q w m some far)
    (rw turned (bounded (unsigned_abs (sine_of (scaled_term p q k) m)) (rest q 0 k) (left_out (twice_size p) q m) (omega arith)))
    (small_sine r q m some (omega arith) small)

pub sine_lipschitz : SineLipschitz
sine_lipschitz x y n px py lx ly =
    let q0 = x.den * y.den in
    let q = q0 * 2 in
    let p = (x +ᶠ y).num in
    let r = (x -ᶠ y).num in
    let h = halved x y px py in
    let low = sine_lower x n in
    let high = sine_upper y n in
    let low_den = sine_lower-den x n px.positive in
    let high_den = sine_upper-den y n py.positive in
    let w = room low.den high.den (unsigned_abs r) q in
    let m = far_enough n p r q w in
    let k = 4 * m + 2 in
    by_lt_z (pos (unsigned_abs r)) (pos q)
    (λ (l : pos (unsigned_abs r) <ℤ pos q). record {
      le = halve (low.num *ℤ pos high.den +ℤ neg_ℤ high.num *ℤ pos low.den) q0 (unsigned_abs r) (low.den * high.den)
          (no_excess (sine_of (scaled_term (p +ℤ r) q k) m) (sine_of (scaled_term (p +ℤ neg_ℤ r) q k) m) low.num high.num low.den high.den q (unsigned_abs r)
          (rest q 0 k) (left_out (sum_of_sizes p r) q m) (left_out (twice_size p) q m) (rest-pos q 0 k h.some)
          (at_below (rest q 0 k) low (sine_sum x m) _ (sine_sum-den x m px.positive)
          (sine_at (rest q 0 k) (p +ℤ r) q k (scaled_term (p +ℤ r) q k) x h.some (series_exists (p +ℤ r) q k) h.first m (omega arith))
          ((sine_within x n m px lx (omega arith)).0))
          (at_above (rest q 0 k) high (sine_sum y m) _ (sine_sum-den y m py.positive)
          (sine_at (rest q 0 k) (p +ℤ neg_ℤ r) q k (scaled_term (p +ℤ neg_ℤ r) q k) y h.some (series_exists (p +ℤ neg_ℤ r) q k) h.second m (omega arith))
          ((sine_within y n m py ly (omega arith)).1))
          (sines_near p r q w n h.some (omega arith) (omega (arith, ints)))
          (far_small (sum_of_sizes p r) q w m (is_far (sum_of_sizes p r) q w m h.some (omega arith) (omega arith)))
          (far_small (twice_size p) q w m (is_far (twice_size p) q w m h.some (omega arith) (omega arith))));
    })
    (λ (l : pos q ≤ℤ pos (unsigned_abs r)). record {
      le = wide low.num high.num low.den high.den q0 (unsigned_abs r) ((sine_bound x n px lx).0.le) ((sine_bound y n py ly).1.le) (omega (arith, ints));
    })

pub cosine_lipschitz : CosineLipschitz
cosine_lipschitz x y n px py lx ly =
    let q0 = x.den * y.den in
    let q = q0 * 2 in
    let p = (x +ᶠ y).num in
    let r = (x -ᶠ y).num in
    let h = halved x y px py in
    let low = cosine_lower x n in
    let high = cosine_upper y n in
    let low_den = cosine_lower-den x n px.positive in
    let high_den = cosine_upper-den y n py.positive in
    let w = room low.den high.den (unsigned_abs r) q in
    let m = far_enough n p r q w in
    let k = 4 * m + 2 in
    by_lt_z (pos (unsigned_abs r)) (pos q)
    (λ (l : pos (unsigned_abs r) <ℤ pos q). record {
      le = halve (low.num *ℤ pos high.den +ℤ neg_ℤ high.num *ℤ pos low.den) q0 (unsigned_abs r) (low.den * high.den)
          (no_excess (cosine_of (scaled_term (p +ℤ r) q k) m) (cosine_of (scaled_term (p +ℤ neg_ℤ r) q k) m) low.num high.num low.den high.den q (unsigned_abs r)
          (rest q 0 k) (left_out (sum_of_sizes p r) q m) (left_out (twice_size p) q m) (rest-pos q 0 k h.some)
          (at_below (rest q 0 k) low (cosine_sum x m) _ (cosine_sum-den x m px.positive)
          (cosine_at (rest q 0 k) (p +ℤ r) q k (scaled_term (p +ℤ r) q k) x h.some (series_exists (p +ℤ r) q k) h.first m (omega arith))
          ((cosine_within x n m px lx (omega arith)).0))
          (at_above (rest q 0 k) high (cosine_sum y m) _ (cosine_sum-den y m py.positive)
          (cosine_at (rest q 0 k) (p +ℤ neg_ℤ r) q k (scaled_term (p +ℤ neg_ℤ r) q k) y h.some (series_exists (p +ℤ neg_ℤ r) q k) h.second m (omega arith))
          ((cosine_within y n m py ly (omega arith)).1))
          (cosines_near p r q w n h.some (omega arith) (omega (arith, ints)))
          (far_small (sum_of_sizes p r) q w m (is_far (sum_of_sizes p r) q w m h.some (omega arith) (omega arith)))
          (far_small (twice_size p) q w m (is_far (twice_size p) q w m h.some (omega arith) (omega arith))));
    })
    (λ (l : pos q ≤ℤ pos (unsigned_abs r)). record {
      le = wide low.num high.num low.den high.den q0 (unsigned_abs r) ((cosine_bound x n px lx).0.le) ((cosine_bound y n py ly).1.le) (omega (arith, ints));
    })
