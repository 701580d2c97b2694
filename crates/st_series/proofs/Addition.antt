-- The addition laws of the partial sums of sine and cosine.
use Rattle.std.proofs.Common.{◌≡◌, ℕ, suc, ◌+◌, ◌*◌, ◌≤◌, ◌<◌, ℤ, pos, ◌+ℤ◌, ◌-ℤ◌, ◌*ℤ◌, neg_ℤ, ◌≤ℤ◌, unsigned_abs, refl, sym, ap, ◌∙◌, arith, mul-pos}
use Rattle.std.proofs.lemmas.Int.{ints, unsigned_abs-mul}
use Rattle.std.proofs.Math.IntN.{*ℤ_comm}
use Rattle.st_fraction.specs.Fraction.{Fraction, IsFraction, ◌≤ᶠ◌, whole, ◌+ᶠ◌, ◌*ᶠ◌, abs_f, IsNear}
use Rattle.st_fraction.proofs.Ring.{ring, lin, le-mul_nonneg, one-mul_z, two-mul_z}
use Rattle.st_fraction.proofs.Within.{Within, within_mul}
use Rattle.st_fraction.proofs.Sums.{upto, upto-ext, upto-scale}
use Rattle.st_fraction.proofs.Scale.{IsAt, at_self, at_more, at_add, at_sub, at_mul, le_at}
use Rattle.st_series.specs.Series.{term, sine_sum, cosine_sum}
use Rattle.st_series.specs.Laws.{SineAddition, CosineAddition}
use Rattle.st_series.proofs.Convolution.{binomial}
use Rattle.st_series.proofs.Terms.{rest, rest-pos, scaled_term, series_exists, term_at, sine_of, cosine_of, sine_at, cosine_at}
use Rattle.st_series.proofs.Squares.{square, across, triangle, product_of_sums, square-ext, square-add, square-neg, square-gap, square_le_triangle, across-weighted}
use Rattle.st_series.proofs.Waves.{wave_c, wave_s, add_waves, wave_s-within, wave_c-within, sine_waves, cosine_waves}
use Rattle.st_series.proofs.Tail.{mul-nonneg_z, scaled_term-nonneg, scaled_term-within, halves, tail}

abbrev pub weighted : (ℕ → ℤ) → (ℕ → ℤ) → (ℕ → ℤ) → ℕ → ℕ → ℤ
weighted w f g a b = w (a + b) *ℤ (f a *ℤ g b)

-- the triangle of the products is the series of the sum of the arguments
triangle_is : (w : ℕ → ℤ) (p r : ℤ) (q k n : ℕ) → 0 < q → n ≤ k
    → triangle (weighted w (scaled_term p q k) (scaled_term r q k)) n ≡ pos (rest q 0 k) *ℤ upto (λ d. w d *ℤ scaled_term (p +ℤ r) q k d) n
triangle_is w p r q k n some l =
    let f = scaled_term p q k in
    let g = scaled_term r q k in
    let h = scaled_term (p +ℤ r) q k in
    upto-ext (across (weighted w f g)) (λ d. pos (rest q 0 k) *ℤ (w d *ℤ h d)) n (λ d i.
    across-weighted w f g d
    ∙ ap (λ z. w d *ℤ z) (binomial (pos (rest q 0 k)) p r q k f g h some (series_exists p q k) (series_exists r q k) (series_exists (p +ℤ r) q k) d (omega arith))
    ∙ swap (w d) (pos (rest q 0 k)) (h d))
    ∙ upto-scale (pos (rest q 0 k)) (λ d. w d *ℤ h d) n
  where
    swap : (w m h : ℤ) → w *ℤ (m *ℤ h) ≡ m *ℤ (w *ℤ h)
    swap w m h = simp ring

-- |x| + |y| over q, by its numerator
abbrev pub sum_of_sizes : ℤ → ℤ → ℕ
sum_of_sizes p r = unsigned_abs p + unsigned_abs r

-- What the square of the products has beyond the series of the sum: at most twice the first term left out.
pub gap : (w : ℕ → ℤ) → ((d : ℕ) → Within (w d) (pos 1)) → (p r : ℤ) (q k n j c : ℕ) → 0 < q → 0 < c → sum_of_sizes p r ≤ q * c → 2 * c ≤ suc n → suc j ≡ n → n + n ≡ k
    → Within (square (weighted w (scaled_term p q k) (scaled_term r q k)) n n -ℤ pos (rest q 0 k) *ℤ upto (λ d. w d *ℤ scaled_term (p +ℤ r) q k d) n)
    (pos (rest q 0 k) *ℤ (scaled_term (pos (sum_of_sizes p r)) q k (suc n) +ℤ scaled_term (pos (sum_of_sizes p r)) q k (suc n)))
gap w bound p r q k n j c some csome small far ej e =
    let m = pos (rest q 0 k) in
    let f = scaled_term p q k in
    let g = scaled_term r q k in
    let u = scaled_term (pos (unsigned_abs p)) q k in
    let v = scaled_term (pos (unsigned_abs r)) q k in
    let t = scaled_term (pos (sum_of_sizes p r)) q k in
    let one : ℕ → ℤ = λ d. pos 1 in
    let zero_is : 0 + n ≡ n = omega arith in
    let within : (a b : ℕ) → Within (weighted w f g a b) (weighted one u v a b) =
    λ a b. within_mul (w (a + b)) (f a *ℤ g b) (pos 1) (u a *ℤ v b) (bound (a + b))
    (within_mul (f a) (g b) (u a) (v b) (scaled_term-within p q k a) (scaled_term-within r q k b)) in
    let gaps = rw zero_is at (square-gap (weighted w f g) (weighted one u v) within n 0) in
    let some_product : (a b : ℕ) → pos 0 ≤ℤ weighted one u v a b =
    λ a b. mul-nonneg_z (pos 1) (u a *ℤ v b) (omega (arith, ints)) (mul-nonneg_z (u a) (v b) (scaled_term-nonneg (unsigned_abs p) q k a) (scaled_term-nonneg (unsigned_abs r) q k b)) in
    let big = rw e at (square_le_triangle (weighted one u v) some_product n n) in
    let plain : (i : ℕ) → upto (λ d. pos 1 *ℤ t d) i ≡ upto t i = λ i. upto-ext (λ d. pos 1 *ℤ t d) t i (λ d l. one-mul_z (t d)) in
    let tri : (i : ℕ) → i ≤ k → triangle (weighted one u v) i ≡ m *ℤ upto t i =
    λ i l. triangle_is one (pos (unsigned_abs p)) (pos (unsigned_abs r)) q k i some l ∙ ap (λ z. m *ℤ z) (plain i) in
    let low = triangle_is w p r q k n some (omega arith) in
    let fall = rw (ej, e) at (tail t n k (λ d a b. halves (sum_of_sizes p r) q k c n some csome small far d (omega arith) b) j (omega arith)) in
    close (square (weighted w f g) n n) (triangle (weighted w f g) n) (m *ℤ upto (λ d. w d *ℤ scaled_term (p +ℤ r) q k d) n)
    (square (weighted one u v) n n) (triangle (weighted one u v) n) (triangle (weighted one u v) k) (upto t n) (upto t k) (t (suc n) +ℤ t (suc n)) (t k) m
    gaps low (tri n (omega arith)) (tri k (omega arith)) big fall (scaled_term-nonneg (sum_of_sizes p r) q k k) (omega (arith, ints))
  where
    scale : (a b c m : ℤ) → ((a -ℤ b) *ℤ m) ≤ℤ (c *ℤ m) → (m *ℤ a -ℤ m *ℤ b) ≤ℤ (m *ℤ c)
    scale a b c m h = simp ring (let h2 = simp ring at h in omega (arith, lin))

    close : (sq tr s sq' tr' big tn tk b end m : ℤ) → Within (sq -ℤ tr) (sq' -ℤ tr') → tr ≡ s → tr' ≡ m *ℤ tn → big ≡ m *ℤ tk → sq' ≤ℤ big
        → (tk +ℤ end) ≤ℤ (tn +ℤ b) → pos 0 ≤ℤ end → pos 0 ≤ℤ m → Within (sq -ℤ s) (m *ℤ b)
    close sq tr s sq' tr' big tn tk b end m w e1 e2 e3 l f h k =
        let short : (tk -ℤ tn) ≤ℤ b = omega (arith, lin) in
        let long = scale tk tn b m (le-mul_nonneg (tk -ℤ tn) b m short k) in
        record { above = omega (arith, lin); below = omega (arith, lin) }

pub products_sine : (f g : ℕ → ℤ) (n : ℕ)
    → sine_of f n *ℤ cosine_of g n +ℤ cosine_of f n *ℤ sine_of g n ≡ square (weighted wave_s f g) (2 * n + 1) (2 * n + 1)
products_sine f g n =
    let d = 2 * n + 1 in
    let sf : ℕ → ℤ = λ a. wave_s a *ℤ f a in
    let cf : ℕ → ℤ = λ a. wave_c a *ℤ f a in
    let sg : ℕ → ℤ = λ a. wave_s a *ℤ g a in
    let cg : ℕ → ℤ = λ a. wave_c a *ℤ g a in
    let x : ℕ → ℕ → ℤ = λ a b. sf a *ℤ cg b in
    let y : ℕ → ℕ → ℤ = λ a b. cf a *ℤ sg b in
    (λ i. sym (sine_waves f n) i *ℤ sym (cosine_waves g n) i +ℤ sym (cosine_waves f n) i *ℤ sym (sine_waves g n) i)
    ∙ (λ i. product_of_sums sf cg d d i +ℤ product_of_sums cf sg d d i)
    ∙ sym (square-add x y d d)
    ∙ square-ext (λ a b. x a b +ℤ y a b) (weighted wave_s f g) (λ a b. rw ((add_waves a b).sine) (go (wave_s a) (wave_c a) (wave_s b) (wave_c b) (f a) (g b))) d d
  where
    go : (s c t d f g : ℤ) → s *ℤ f *ℤ (d *ℤ g) +ℤ c *ℤ f *ℤ (t *ℤ g) ≡ (s *ℤ d +ℤ c *ℤ t) *ℤ (f *ℤ g)
    go s c t d f g = simp ring

pub products_cosine : (f g : ℕ → ℤ) (n : ℕ)
    → cosine_of f n *ℤ cosine_of g n +ℤ neg_ℤ (sine_of f n *ℤ sine_of g n) ≡ square (weighted wave_c f g) (2 * n + 1) (2 * n + 1)
products_cosine f g n =
    let d = 2 * n + 1 in
    let sf : ℕ → ℤ = λ a. wave_s a *ℤ f a in
    let cf : ℕ → ℤ = λ a. wave_c a *ℤ f a in
    let sg : ℕ → ℤ = λ a. wave_s a *ℤ g a in
    let cg : ℕ → ℤ = λ a. wave_c a *ℤ g a in
    let x : ℕ → ℕ → ℤ = λ a b. cf a *ℤ cg b in
    let y : ℕ → ℕ → ℤ = λ a b. sf a *ℤ sg b in
    (λ i. sym (cosine_waves f n) i *ℤ sym (cosine_waves g n) i +ℤ neg_ℤ (sym (sine_waves f n) i *ℤ sym (sine_waves g n) i))
    ∙ (λ i. product_of_sums cf cg d d i +ℤ neg_ℤ (product_of_sums sf sg d d i))
    ∙ (λ i. square x d d +ℤ sym (square-neg y d d) i)
    ∙ sym (square-add x (λ a b. neg_ℤ (y a b)) d d)
    ∙ square-ext (λ a b. x a b +ℤ neg_ℤ (y a b)) (weighted wave_c f g) (λ a b. rw ((add_waves a b).cosine) (go (wave_s a) (wave_c a) (wave_s b) (wave_c b) (f a) (g b))) d d
  where
    go : (s c t d f g : ℤ) → c *ℤ f *ℤ (d *ℤ g) +ℤ neg_ℤ (s *ℤ f *ℤ (t *ℤ g)) ≡ (c *ℤ d +ℤ neg_ℤ (s *ℤ t)) *ℤ (f *ℤ g)
    go s c t d f g = simp ring

-- The laws at the scale m = q^k k! with k = 4n + 2: for p and r over q, |p| + |r| at most (n + 1) q.
pub sine_at_scale : (p r : ℤ) (q n k : ℕ) → 0 < q → sum_of_sizes p r ≤ q * suc n → 4 * n + 2 ≡ k
    → Within (sine_of (scaled_term p q k) n *ℤ cosine_of (scaled_term r q k) n +ℤ cosine_of (scaled_term p q k) n *ℤ sine_of (scaled_term r q k) n
    -ℤ pos (rest q 0 k) *ℤ sine_of (scaled_term (p +ℤ r) q k) n)
    (pos (rest q 0 k) *ℤ (scaled_term (pos (sum_of_sizes p r)) q k (2 * n + 2) +ℤ scaled_term (pos (sum_of_sizes p r)) q k (2 * n + 2)))
sine_at_scale p r q n k some small e =
    let g = gap wave_s wave_s-within p r q k (2 * n + 1) (2 * n) (suc n) some (omega arith) small (omega arith) (omega arith) (omega arith) in
    let i : 2 * n + 2 ≡ suc (2 * n + 1) = omega arith in
    rw (products_sine (scaled_term p q k) (scaled_term r q k) n, ← sine_waves (scaled_term (p +ℤ r) q k) n, i) g

pub cosine_at_scale : (p r : ℤ) (q n k : ℕ) → 0 < q → sum_of_sizes p r ≤ q * suc n → 4 * n + 2 ≡ k
    → Within (cosine_of (scaled_term p q k) n *ℤ cosine_of (scaled_term r q k) n +ℤ neg_ℤ (sine_of (scaled_term p q k) n *ℤ sine_of (scaled_term r q k) n)
    -ℤ pos (rest q 0 k) *ℤ cosine_of (scaled_term (p +ℤ r) q k) n)
    (pos (rest q 0 k) *ℤ (scaled_term (pos (sum_of_sizes p r)) q k (2 * n + 2) +ℤ scaled_term (pos (sum_of_sizes p r)) q k (2 * n + 2)))
cosine_at_scale p r q n k some small e =
    let g = gap wave_c wave_c-within p r q k (2 * n + 1) (2 * n) (suc n) some (omega arith) small (omega arith) (omega arith) (omega arith) in
    let i : 2 * n + 2 ≡ suc (2 * n + 1) = omega arith in
    rw (products_cosine (scaled_term p q k) (scaled_term r q k) n, ← cosine_waves (scaled_term (p +ℤ r) q k) n, i) g

-- Two fractions over one denominator.
pub first_over : (x y : Fraction) → IsAt (x.den * y.den) x (x.num *ℤ pos y.den)
first_over x y = record { at = go x.num (pos x.den) (pos y.den) }
  where
    go : (n d e : ℤ) → n *ℤ (d *ℤ e) ≡ n *ℤ e *ℤ d
    go n d e = simp ring

pub second_over : (x y : Fraction) → IsAt (x.den * y.den) y (y.num *ℤ pos x.den)
second_over x y = record { at = go y.num (pos x.den) (pos y.den) }
  where
    go : (n d e : ℤ) → n *ℤ (d *ℤ e) ≡ n *ℤ d *ℤ e
    go n d e = simp ring

pub sizes_over : (x y : Fraction) → pos (sum_of_sizes (x.num *ℤ pos y.den) (y.num *ℤ pos x.den)) ≡ (abs_f x +ᶠ abs_f y).num
sizes_over x y = ap pos (λ i. unsigned_abs-mul x.num (pos y.den) i + unsigned_abs-mul y.num (pos x.den) i)

-- from the scale to fractions: a and b at m, |b - a| at most e
near_of : (m : ℕ) (a b e : Fraction) (x y z : ℤ) → 0 < m → IsAt m a x → IsAt m b y → IsAt m e z → Within (y -ℤ x) z → IsNear a b e
near_of m a b e x y z some ha hb he w = record {
  above = le_at m a (b +ᶠ e) x (y +ℤ z) some ha (at_add m b e y z hb he) (omega (arith, lin));
  below = le_at m b (a +ᶠ e) y (x +ℤ z) some hb (at_add m a e x z ha he) (omega (arith, lin));
}

pub twice_at : (m : ℕ) (e : Fraction) (z : ℤ) → IsAt m e z → IsAt m (whole (pos 2) *ᶠ e) (z +ℤ z)
twice_at m e z h =
    let i : 1 * m ≡ m = omega arith in
    rw (i, two-mul_z z) at (at_mul 1 m (whole (pos 2)) e (pos 2) z (at_self (whole (pos 2))) h)

record Scaled (x y : Fraction) (n q k : ℕ) (p r : ℤ) : Type 0 where
  some : 0 < q
  small : sum_of_sizes p r ≤ q * suc n
  some_scale : 0 < rest q 0 k
  first : IsAt q x p
  second : IsAt q y r
  both : IsAt q (x +ᶠ y) (p +ℤ r)
  first_left : IsAt (rest q 0 k) (term (abs_f x +ᶠ abs_f y) (2 * n + 2)) (scaled_term (pos (sum_of_sizes p r)) q k (2 * n + 2))

scaled : (x y : Fraction) (n : ℕ) → IsFraction x → IsFraction y → (abs_f x +ᶠ abs_f y) ≤ᶠ whole (pos (n + 1))
    → Scaled x y n (x.den * y.den) (4 * n + 2) (x.num *ℤ pos y.den) (y.num *ℤ pos x.den)
scaled x y n px py h =
    let q = x.den * y.den in
    let k = 4 * n + 2 in
    let some = mul-pos px.positive py.positive in
    let z = abs_f x +ᶠ abs_f y in
    let sizes = sizes_over x y in
    let at : IsAt q z (pos (sum_of_sizes (x.num *ℤ pos y.den) (y.num *ℤ pos x.den))) = rw sizes (at_self z) in
    record {
      some = some;
      small = omega (arith, ints, h.le, sizes);
      some_scale = rest-pos q 0 k some;
      first = first_over x y;
      second = second_over x y;
      both = at_self (x +ᶠ y);
      first_left = term_at (rest q 0 k) (pos (sum_of_sizes (x.num *ℤ pos y.den) (y.num *ℤ pos x.den))) q k (scaled_term (pos (sum_of_sizes (x.num *ℤ pos y.den) (y.num *ℤ pos x.den))) q k) z some
          (series_exists (pos (sum_of_sizes (x.num *ℤ pos y.den) (y.num *ℤ pos x.den))) q k) at (2 * n + 2) (omega arith);
    }

commuted : (v m s e : ℤ) → Within (v -ℤ m *ℤ s) (m *ℤ e) → Within (v -ℤ s *ℤ m) (e *ℤ m)
commuted v m s e h = rw (*ℤ_comm s m, *ℤ_comm e m) h

pub sine_addition : SineAddition
sine_addition x y n px py h =
    let q = x.den * y.den in
    let k = 4 * n + 2 in
    let p = x.num *ℤ pos y.den in
    let r = y.num *ℤ pos x.den in
    let m = rest q 0 k in
    let s = scaled x y n px py h in
    let f = scaled_term p q k in
    let g = scaled_term r q k in
    let t = scaled_term (pos (sum_of_sizes p r)) q k (2 * n + 2) in
    let sx = sine_at m p q k f x s.some (series_exists p q k) s.first n (omega arith) in
    let cx = cosine_at m p q k f x s.some (series_exists p q k) s.first n (omega arith) in
    let sy = sine_at m r q k g y s.some (series_exists r q k) s.second n (omega arith) in
    let cy = cosine_at m r q k g y s.some (series_exists r q k) s.second n (omega arith) in
    let both = sine_at m (p +ℤ r) q k (scaled_term (p +ℤ r) q k) (x +ᶠ y) s.some (series_exists (p +ℤ r) q k) s.both n (omega arith) in
    let left = at_more m m (sine_sum (x +ᶠ y) n) _ both in
    let right = at_add (m * m) (sine_sum x n *ᶠ cosine_sum y n) (cosine_sum x n *ᶠ sine_sum y n) _ _
    (at_mul m m (sine_sum x n) (cosine_sum y n) _ _ sx cy) (at_mul m m (cosine_sum x n) (sine_sum y n) _ _ cx sy) in
    let error = at_more m m (whole (pos 2) *ᶠ term (abs_f x +ᶠ abs_f y) (2 * n + 2)) _ (twice_at m (term (abs_f x +ᶠ abs_f y) (2 * n + 2)) _ s.first_left) in
    near_of (m * m) _ _ _ _ _ _ (mul-pos s.some_scale s.some_scale) left right error
    (commuted (sine_of f n *ℤ cosine_of g n +ℤ cosine_of f n *ℤ sine_of g n) (pos m) (sine_of (scaled_term (p +ℤ r) q k) n) (t +ℤ t) (sine_at_scale p r q n k s.some s.small refl))

pub cosine_addition : CosineAddition
cosine_addition x y n px py h =
    let q = x.den * y.den in
    let k = 4 * n + 2 in
    let p = x.num *ℤ pos y.den in
    let r = y.num *ℤ pos x.den in
    let m = rest q 0 k in
    let s = scaled x y n px py h in
    let f = scaled_term p q k in
    let g = scaled_term r q k in
    let t = scaled_term (pos (sum_of_sizes p r)) q k (2 * n + 2) in
    let sx = sine_at m p q k f x s.some (series_exists p q k) s.first n (omega arith) in
    let cx = cosine_at m p q k f x s.some (series_exists p q k) s.first n (omega arith) in
    let sy = sine_at m r q k g y s.some (series_exists r q k) s.second n (omega arith) in
    let cy = cosine_at m r q k g y s.some (series_exists r q k) s.second n (omega arith) in
    let both = cosine_at m (p +ℤ r) q k (scaled_term (p +ℤ r) q k) (x +ᶠ y) s.some (series_exists (p +ℤ r) q k) s.both n (omega arith) in
    let left = at_more m m (cosine_sum (x +ᶠ y) n) _ both in
    let right = at_sub (m * m) (cosine_sum x n *ᶠ cosine_sum y n) (sine_sum x n *ᶠ sine_sum y n) _ _
    (at_mul m m (cosine_sum x n) (cosine_sum y n) _ _ cx cy) (at_mul m m (sine_sum x n) (sine_sum y n) _ _ sx sy) in
    let error = at_more m m (whole (pos 2) *ᶠ term (abs_f x +ᶠ abs_f y) (2 * n + 2)) _ (twice_at m (term (abs_f x +ᶠ abs_f y) (2 * n + 2)) _ s.first_left) in
    near_of (m * m) _ _ _ _ _ _ (mul-pos s.some_scale s.some_scale) left right error
    (commuted (cosine_of f n *ℤ cosine_of g n +ℤ neg_ℤ (sine_of f n *ℤ sine_of g n)) (pos m) (cosine_of (scaled_term (p +ℤ r) q k) n) (t +ℤ t) (cosine_at_scale p r q n k s.some s.small refl))
