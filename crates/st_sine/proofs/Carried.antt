-- What is known of the sine of one angle is known of that of another, up to their distance.
use Rattle.std.proofs.Common.{◌≡◌, ℕ, ◌+◌, ◌*◌, ◌^◌, ◌<◌, ℤ, pos, negsuc, neg_ℤ, ◌+ℤ◌, ◌-ℤ◌, ◌*ℤ◌, ◌≤ℤ◌, unsigned_abs, arith, lit<, mul-pos}
use Rattle.std.proofs.lemmas.Int.{ints}
use Rattle.st_fraction.specs.Fraction.{Fraction, IsFraction, ◌≤ᶠ◌, ◌≈ᶠ◌, whole, units, ◌+ᶠ◌, ◌-ᶠ◌, abs_f, IsNear}
use Rattle.st_fraction.proofs.Ring.{ring, numerals, lin, le-mul_z}
use Rattle.st_fraction.proofs.Order.{le_f_trans, le_f_add, le_f_move, le_f_move_back, le_of_near, abs_at_most_f}
use Rattle.st_enclosure.proofs.Contained.{move_low, move_high}
use Rattle.st_series.specs.Series.{term, IsLongEnough, sine_lower, sine_upper, cosine_lower, cosine_upper, SineIsAtLeast, SineIsAtMost, CosineIsAtLeast, CosineIsAtMost}
use Rattle.st_series.specs.Enclosed.{HasSine, HasCosine}
use Rattle.st_series.proofs.Terms.{term-den}
use Rattle.st_series.proofs.Vanish.{enough_for, vanishing_from}
use Rattle.st_series.proofs.Sandwich.{stays_long, sine_sandwich, cosine_sandwich, sine_lower-den, sine_upper-den, cosine_lower-den, cosine_upper-den}
use Rattle.st_series.proofs.Narrow.{long_from, sine_narrow, cosine_narrow, sine_agrees, cosine_agrees}
use Rattle.st_series.proofs.BoundByOne.{sine_bound, cosine_bound}
use Rattle.st_series.proofs.Lipschitz.{sine_lipschitz, cosine_lipschitz}

pub near_turned : (x y e : Fraction) → IsNear x y e → IsNear y x e
near_turned x y e n = record { above = n.below; below = n.above }

pub distance_at_most : (x y e : Fraction) → 0 < x.den → 0 < y.den → IsNear x y e → abs_f (x -ᶠ y) ≤ᶠ e
distance_at_most x y e px py n = abs_at_most_f (x -ᶠ y) e (le_f_move_back x y e py n.above)
    (record { le = go x.num (pos x.den) y.num (pos y.den) e.num (pos e.den) (le_f_move_back y x e px n.below).le })
  where
    go : (n d m k e f : ℤ) → ((m *ℤ d +ℤ neg_ℤ n *ℤ k) *ℤ f) ≤ℤ (e *ℤ (k *ℤ d)) → (neg_ℤ (n *ℤ k +ℤ neg_ℤ m *ℤ d) *ℤ f) ≤ℤ (e *ℤ (d *ℤ k))
    go n d m k e f h = simp ring (let h2 = simp ring at h in omega (arith, lin))

-- p + q + r, the last two exchanged
swapped : (p q r : Fraction) → ((p +ᶠ q) +ᶠ r) ≤ᶠ ((p +ᶠ r) +ᶠ q)
swapped p q r = record { le = go p.num (pos p.den) q.num (pos q.den) r.num (pos r.den) }
  where
    go : (a b c d e f : ℤ) → (((a *ℤ d +ℤ c *ℤ b) *ℤ f +ℤ e *ℤ (b *ℤ d)) *ℤ (b *ℤ f *ℤ d)) ≤ℤ (((a *ℤ f +ℤ e *ℤ b) *ℤ d +ℤ c *ℤ (b *ℤ f)) *ℤ (b *ℤ d *ℤ f))
    go a b c d e f = simp ring (omega (arith, lin))

near_of_same : (x y : Fraction) → x ≈ᶠ y → IsNear x y (units (pos 0))
near_of_same x y h = record {
  above = record { le = go x.num (pos x.den) y.num (pos y.den) (10 ^ 18) (omega (arith, lin, h.same)) };
  below = record { le = go y.num (pos y.den) x.num (pos x.den) (10 ^ 18) (omega (arith, lin, h.same)) };
}
  where
    shape : (n d m e w : ℤ) → (n *ℤ e *ℤ w) ≤ℤ (m *ℤ d *ℤ w) → (n *ℤ (e *ℤ w)) ≤ℤ ((m *ℤ w +ℤ pos 0 *ℤ e) *ℤ d)
    shape n d m e w h = simp (numerals, ring) (simp ring at h)

    go : (n d m e : ℤ) (w : ℕ) → (n *ℤ e) ≤ℤ (m *ℤ d) → (n *ℤ (e *ℤ pos w)) ≤ℤ ((m *ℤ pos w +ℤ pos 0 *ℤ e) *ℤ d)
    go n d m e w h = shape n d m e (pos w) (le-mul_z _ _ w h)

pub sine_carried_low : (x y e a : Fraction) → IsFraction x → IsFraction y → IsFraction e → 0 < a.den → IsNear x y e → SineIsAtLeast x a
    → (n : ℕ) → IsLongEnough y n → a ≤ᶠ (sine_upper y n +ᶠ e)
sine_carried_low x y e a px py pe pa near low n long =
    le_of_near a (sine_upper y n +ᶠ e) pa (mul-pos (sine_upper-den y n py.positive) pe.positive) (λ d pd some.
    let m = n + unsigned_abs x.num + enough_for x d in
    let longx = long_from x m px (omega arith) in
    let longy = stays_long y n m long (omega arith) in
    let t = term (abs_f x) (2 * m + 3) in
    let lx = sine_lower-den x m px.positive in
    let uy = sine_upper-den y m py.positive in
    let wide = le_f_move (sine_upper x m) (sine_lower x m) t lx (sine_narrow x m px) in
    let far = le_f_move (sine_lower x m) (sine_upper y m) (abs_f (x -ᶠ y)) uy (sine_lipschitz x y m px py longx longy) in
    let close = le_f_add (sine_upper y m) (sine_upper y n) (abs_f (x -ᶠ y)) e ((sine_sandwich y n m py long (omega arith)).1) (distance_at_most x y e px.positive py.positive near) in
    let end = le_f_trans (sine_lower x m) (sine_upper y m +ᶠ abs_f (x -ᶠ y)) (sine_upper y n +ᶠ e) (mul-pos uy (mul-pos px.positive py.positive)) far close in
    le_f_trans a (sine_upper x m) ((sine_upper y n +ᶠ e) +ᶠ d) (sine_upper-den x m px.positive) (low.at_each m longx)
    (le_f_trans (sine_upper x m) (sine_lower x m +ᶠ t) ((sine_upper y n +ᶠ e) +ᶠ d) (mul-pos lx (term-den (abs_f x) (2 * m + 3) px.positive)) wide
    (le_f_add (sine_lower x m) (sine_upper y n +ᶠ e) t d end (vanishing_from x d px.positive some (2 * m + 3) (omega arith)))))

pub sine_carried_high : (x y e b : Fraction) → IsFraction x → IsFraction y → IsFraction e → 0 < b.den → IsNear x y e → SineIsAtMost x b
    → (n : ℕ) → IsLongEnough y n → sine_lower y n ≤ᶠ (b +ᶠ e)
sine_carried_high x y e b px py pe pb near high n long =
    le_of_near (sine_lower y n) (b +ᶠ e) (sine_lower-den y n py.positive) (mul-pos pb pe.positive) (λ d pd some.
    let m = n + unsigned_abs x.num + enough_for x d in
    let longx = long_from x m px (omega arith) in
    let longy = stays_long y n m long (omega arith) in
    let t = term (abs_f x) (2 * m + 3) in
    let lx = sine_lower-den x m px.positive in
    let ly = sine_lower-den y m py.positive in
    let ux = sine_upper-den x m px.positive in
    let wide = le_f_move (sine_upper x m) (sine_lower x m) t lx (sine_narrow x m px) in
    let top = le_f_trans (sine_upper x m) (sine_lower x m +ᶠ t) (b +ᶠ d) (mul-pos lx (term-den (abs_f x) (2 * m + 3) px.positive)) wide
    (le_f_add (sine_lower x m) b t d (high.at_each m longx) (vanishing_from x d px.positive some (2 * m + 3) (omega arith))) in
    let far = le_f_move (sine_lower y m) (sine_upper x m) (abs_f (y -ᶠ x)) ux (sine_lipschitz y x m py px longy longx) in
    let close = le_f_add (sine_upper x m) (b +ᶠ d) (abs_f (y -ᶠ x)) e top (distance_at_most y x e py.positive px.positive (near_turned x y e near)) in
    let end = le_f_trans (sine_lower y m) (sine_upper x m +ᶠ abs_f (y -ᶠ x)) ((b +ᶠ d) +ᶠ e) (mul-pos ux (mul-pos py.positive px.positive)) far close in
    le_f_trans (sine_lower y n) (sine_lower y m) ((b +ᶠ e) +ᶠ d) ly ((sine_sandwich y n m py long (omega arith)).0)
    (le_f_trans (sine_lower y m) ((b +ᶠ d) +ᶠ e) ((b +ᶠ e) +ᶠ d) (mul-pos (mul-pos pb pd.positive) pe.positive) end (swapped b d e)))

pub has_sine_near : (lo hi by : ℤ) (x y : Fraction) → IsFraction x → IsFraction y → IsNear x y (units by) → HasSine lo hi x → HasSine (lo -ℤ by) (hi +ℤ by) y
has_sine_near lo hi by x y px py near h = record {
  at_least = record {
    at_each = λ n long.
        record { le = move_low lo by (sine_upper y n).num (sine_upper y n).den (10 ^ 18) (lit< tt) (sine_carried_low x y (units by) (units lo) px py (record { positive = lit< tt }) (lit< tt) near h.at_least n long).le };
  };
  at_most = record {
    at_each = λ n long.
        record { le = move_high hi by (sine_lower y n).num (sine_lower y n).den (10 ^ 18) (lit< tt) (sine_carried_high x y (units by) (units hi) px py (record { positive = lit< tt }) (lit< tt) near h.at_most n long).le };
  };
}

pub has_sine_same : (lo hi : ℤ) (x y : Fraction) → IsFraction x → IsFraction y → x ≈ᶠ y → HasSine lo hi x → HasSine lo hi y
has_sine_same lo hi x y px py same h =
    let a : lo -ℤ pos 0 ≡ lo = omega (arith, ints) in
    let b : hi +ℤ pos 0 ≡ hi = omega (arith, ints) in
    rw (a, b) at (has_sine_near lo hi (pos 0) x y px py (near_of_same x y same) h)

-- no lower end is above 1, and no upper end below -1
pub has_sine_low : (lo hi : ℤ) (x : Fraction) → IsFraction x → HasSine lo hi x → lo ≤ℤ pos (10 ^ 18)
has_sine_low lo hi x px h =
    let l = (sine_agrees x (units lo) (whole (pos 1)) px h.at_least (record { at_each = λ n long. (sine_bound x n px long).0 })).le in
    omega (arith, ints, l)

pub has_sine_high : (lo hi : ℤ) (x : Fraction) → IsFraction x → HasSine lo hi x → neg_ℤ (pos (10 ^ 18)) ≤ℤ hi
has_sine_high lo hi x px h =
    let l = (sine_agrees x (whole (negsuc 0)) (units hi) px (record { at_each = λ n long. (sine_bound x n px long).1 }) h.at_most).le in
    omega (arith, ints, l)

pub cosine_carried_low : (x y e a : Fraction) → IsFraction x → IsFraction y → IsFraction e → 0 < a.den → IsNear x y e → CosineIsAtLeast x a
    → (n : ℕ) → IsLongEnough y n → a ≤ᶠ (cosine_upper y n +ᶠ e)
cosine_carried_low x y e a px py pe pa near low n long =
    le_of_near a (cosine_upper y n +ᶠ e) pa (mul-pos (cosine_upper-den y n py.positive) pe.positive) (λ d pd some.
    let m = n + unsigned_abs x.num + enough_for x d in
    let longx = long_from x m px (omega arith) in
    let longy = stays_long y n m long (omega arith) in
    let t = term (abs_f x) (2 * m + 2) in
    let lx = cosine_lower-den x m px.positive in
    let uy = cosine_upper-den y m py.positive in
    let wide = le_f_move (cosine_upper x m) (cosine_lower x m) t lx (cosine_narrow x m px) in
    let far = le_f_move (cosine_lower x m) (cosine_upper y m) (abs_f (x -ᶠ y)) uy (cosine_lipschitz x y m px py longx longy) in
    let close = le_f_add (cosine_upper y m) (cosine_upper y n) (abs_f (x -ᶠ y)) e ((cosine_sandwich y n m py long (omega arith)).1) (distance_at_most x y e px.positive py.positive near) in
    let end = le_f_trans (cosine_lower x m) (cosine_upper y m +ᶠ abs_f (x -ᶠ y)) (cosine_upper y n +ᶠ e) (mul-pos uy (mul-pos px.positive py.positive)) far close in
    le_f_trans a (cosine_upper x m) ((cosine_upper y n +ᶠ e) +ᶠ d) (cosine_upper-den x m px.positive) (low.at_each m longx)
    (le_f_trans (cosine_upper x m) (cosine_lower x m +ᶠ t) ((cosine_upper y n +ᶠ e) +ᶠ d) (mul-pos lx (term-den (abs_f x) (2 * m + 2) px.positive)) wide
    (le_f_add (cosine_lower x m) (cosine_upper y n +ᶠ e) t d end (vanishing_from x d px.positive some (2 * m + 2) (omega arith)))))

pub cosine_carried_high : (x y e b : Fraction) → IsFraction x → IsFraction y → IsFraction e → 0 < b.den → IsNear x y e → CosineIsAtMost x b
    → (n : ℕ) → IsLongEnough y n → cosine_lower y n ≤ᶠ (b +ᶠ e)
cosine_carried_high x y e b px py pe pb near high n long =
    le_of_near (cosine_lower y n) (b +ᶠ e) (cosine_lower-den y n py.positive) (mul-pos pb pe.positive) (λ d pd some.
    let m = n + unsigned_abs x.num + enough_for x d in
    let longx = long_from x m px (omega arith) in
    let longy = stays_long y n m long (omega arith) in
    let t = term (abs_f x) (2 * m + 2) in
    let lx = cosine_lower-den x m px.positive in
    let ly = cosine_lower-den y m py.positive in
    let ux = cosine_upper-den x m px.positive in
    let wide = le_f_move (cosine_upper x m) (cosine_lower x m) t lx (cosine_narrow x m px) in
    let top = le_f_trans (cosine_upper x m) (cosine_lower x m +ᶠ t) (b +ᶠ d) (mul-pos lx (term-den (abs_f x) (2 * m + 2) px.positive)) wide
    (le_f_add (cosine_lower x m) b t d (high.at_each m longx) (vanishing_from x d px.positive some (2 * m + 2) (omega arith))) in
    let far = le_f_move (cosine_lower y m) (cosine_upper x m) (abs_f (y -ᶠ x)) ux (cosine_lipschitz y x m py px longy longx) in
    let close = le_f_add (cosine_upper x m) (b +ᶠ d) (abs_f (y -ᶠ x)) e top (distance_at_most y x e py.positive px.positive (near_turned x y e near)) in
    let end = le_f_trans (cosine_lower y m) (cosine_upper x m +ᶠ abs_f (y -ᶠ x)) ((b +ᶠ d) +ᶠ e) (mul-pos ux (mul-pos py.positive px.positive)) far close in
    le_f_trans (cosine_lower y n) (cosine_lower y m) ((b +ᶠ e) +ᶠ d) ly ((cosine_sandwich y n m py long (omega arith)).0)
    (le_f_trans (cosine_lower y m) ((b +ᶠ d) +ᶠ e) ((b +ᶠ e) +ᶠ d) (mul-pos (mul-pos pb pd.positive) pe.positive) end (swapped b d e)))

pub has_cosine_near : (lo hi by : ℤ) (x y : Fraction) → IsFraction x → IsFraction y → IsNear x y (units by) → HasCosine lo hi x → HasCosine (lo -ℤ by) (hi +ℤ by) y
has_cosine_near lo hi by x y px py near h = record {
  at_least = record {
    at_each = λ n long.
        record { le = move_low lo by (cosine_upper y n).num (cosine_upper y n).den (10 ^ 18) (lit< tt) (cosine_carried_low x y (units by) (units lo) px py (record { positive = lit< tt }) (lit< tt) near h.at_least n long).le };
  };
  at_most = record {
    at_each = λ n long.
        record { le = move_high hi by (cosine_lower y n).num (cosine_lower y n).den (10 ^ 18) (lit< tt) (cosine_carried_high x y (units by) (units hi) px py (record { positive = lit< tt }) (lit< tt) near h.at_most n long).le };
  };
}

pub has_cosine_same : (lo hi : ℤ) (x y : Fraction) → IsFraction x → IsFraction y → x ≈ᶠ y → HasCosine lo hi x → HasCosine lo hi y
has_cosine_same lo hi x y px py same h =
    let a : lo -ℤ pos 0 ≡ lo = omega (arith, ints) in
    let b : hi +ℤ pos 0 ≡ hi = omega (arith, ints) in
    rw (a, b) at (has_cosine_near lo hi (pos 0) x y px py (near_of_same x y same) h)

pub has_cosine_low : (lo hi : ℤ) (x : Fraction) → IsFraction x → HasCosine lo hi x → lo ≤ℤ pos (10 ^ 18)
has_cosine_low lo hi x px h =
    let l = (cosine_agrees x (units lo) (whole (pos 1)) px h.at_least (record { at_each = λ n long. (cosine_bound x n px long).0 })).le in
    omega (arith, ints, l)

pub has_cosine_high : (lo hi : ℤ) (x : Fraction) → IsFraction x → HasCosine lo hi x → neg_ℤ (pos (10 ^ 18)) ≤ℤ hi
has_cosine_high lo hi x px h =
    let l = (cosine_agrees x (whole (negsuc 0)) (units hi) px (record { at_each = λ n long. (cosine_bound x n px long).1 }) h.at_most).le in
    omega (arith, ints, l)
