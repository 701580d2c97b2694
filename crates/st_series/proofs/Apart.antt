-- Why two sines, and two cosines, are no farther apart than their angles. With u half the sum and h half the difference of
-- x and y, the sine of x less that of y is twice the cosine of u times the sine of h, up to terms that vanish.
use Rattle.std.proofs.Common.{◌≡◌, ℕ, suc, ◌+◌, ◌*◌, ◌≤◌, ◌<◌, ℤ, pos, negsuc, ◌+ℤ◌, ◌-ℤ◌, ◌*ℤ◌, neg_ℤ, ◌≤ℤ◌, ◌<ℤ◌, unsigned_abs, ◌⊎◌, inl, inr, refl, sym, ap, ◌∙◌, arith, mul-le-mul, mul-le-mul_left, mul-le-mul_right}
use Rattle.std.proofs.lemmas.Int.{ints, by_lt_z, unsigned_abs-mul}
use Rattle.st_fraction.specs.Fraction.{over}
use Rattle.st_fraction.proofs.Ring.{ring, lin, le-mul_z, le_cancel_z, one-mul_z, mul-neg_z, neg-mul_z, mul-add_z}
use Rattle.st_fraction.proofs.Within.{Within}
use Rattle.st_fraction.proofs.Ends.{lesser, greater, ends}
use Rattle.st_series.proofs.Terms.{rest, scaled_term, series_exists, sine_of, cosine_of}
use Rattle.st_series.proofs.Addition.{sum_of_sizes, sine_at_scale, cosine_at_scale}
use Rattle.st_series.proofs.Alternating.{Shrinks}
use Rattle.st_series.proofs.Sandwich.{is_long, terms_shrink, sine_chain}
use Rattle.st_series.proofs.Parity.{sine_of_neg, cosine_of_neg}
use Rattle.st_series.proofs.BoundByOne.{IsFar, left_out, left_out_is}

pub root_le : (a b : ℕ) → a * a ≤ b * b → a ≤ b
root_le a b h = by_lt_z (pos b) (pos a) (λ (l : pos b <ℤ pos a).
    let k : suc b ≤ a = omega (arith, ints) in
    let m = mul-le-mul k k in
    absurd (omega arith)) (λ (l : pos a ≤ℤ pos b). omega (arith, ints))

pub bounded : (a m t : ℕ) → a * a ≤ m * m + 2 * (m * t) → a ≤ m + t
bounded a m t h = root_le a (m + t) (omega arith)

-- d is twice the product a b, up to 4 t, at the scale m
pub apart : (d a b : ℤ) (m t t1 q r : ℕ) → 0 < m → Within (pos m *ℤ d -ℤ (a *ℤ b +ℤ a *ℤ b)) (pos (4 * (m * t))) → unsigned_abs a ≤ m + t1 → unsigned_abs b * q ≤ r * m
    → (d *ℤ pos q) ≤ℤ pos (2 * r * (m + t1) + 4 * t * q)
apart d a b m t t1 q r some w ha hb =
    let product : unsigned_abs (a *ℤ b) * q ≤ (m + t1) * (r * m) = omega (arith, ap (λ (n : ℕ). n * q) (unsigned_abs-mul a b), mul-le-mul ha hb) in
    let p : ((a *ℤ b) *ℤ pos q) ≤ℤ pos ((m + t1) * (r * m)) = scaled (a *ℤ b) q ((m + t1) * (r * m)) product in
    let above : (pos m *ℤ d) ≤ℤ (a *ℤ b +ℤ a *ℤ b +ℤ pos (4 * (m * t))) = omega (arith, lin) in
    let times = le-mul_z _ _ q above in
    let i : d *ℤ pos q *ℤ pos m ≡ pos m *ℤ d *ℤ pos q = turn d (pos q) (pos m) in
    let j : (a *ℤ b +ℤ a *ℤ b +ℤ pos (4 * (m * t))) *ℤ pos q ≡ a *ℤ b *ℤ pos q +ℤ a *ℤ b *ℤ pos q +ℤ pos (4 * (m * t)) *ℤ pos q = spread (a *ℤ b) (pos (4 * (m * t))) (pos q) in
    le_cancel_z (d *ℤ pos q) (pos (2 * r * (m + t1) + 4 * t * q)) m some (rw i (close (pos m *ℤ d *ℤ pos q) (a *ℤ b *ℤ pos q) m t t1 q r (rw j at times) p))
  where
    scaled : (z : ℤ) (q b : ℕ) → unsigned_abs z * q ≤ b → (z *ℤ pos q) ≤ℤ pos b
    scaled (pos z) q b h = omega (arith, ints)
    scaled (negsuc z) q b h = omega (arith, ints)

    turn : (d q m : ℤ) → d *ℤ q *ℤ m ≡ m *ℤ d *ℤ q
    turn d q m = simp ring

    spread : (a b q : ℤ) → (a +ℤ a +ℤ b) *ℤ q ≡ a *ℤ q +ℤ a *ℤ q +ℤ b *ℤ q
    spread a b q = simp ring

    close : (x y : ℤ) (m t t1 q r : ℕ) → x ≤ℤ (y +ℤ y +ℤ pos (4 * (m * t) * q)) → y ≤ℤ pos ((m + t1) * (r * m)) → x ≤ℤ pos ((2 * r * (m + t1) + 4 * t * q) * m)
    close x y m t t1 q r h k = omega (arith, ints)

pub no_room : (c r q t1 t m : ℕ) → 0 < m → (c * (2 * r + 4 * q) + 1) * t ≤ m → (c * (2 * r + 4 * q) + 1) * t1 ≤ m → m ≤ c * (2 * r * t1 + 4 * t * q) → ⊥
no_room c r q t1 t m some ht h1 h =
    let a = mul-le-mul_left (c * (2 * r)) h1 in
    let b = mul-le-mul_left (c * (4 * q)) ht in
    let e = mul-le-mul_left (c * (2 * r + 4 * q) + 1) h in
    omega arith

-- an end of x at most its sum, an end of y at least its sum, and errors that leave no room above r / q
pub no_excess : (x y a1 a2 : ℤ) (b1 b2 q r m t t1 : ℕ) → 0 < m → (a1 *ℤ pos m) ≤ℤ (x *ℤ pos b1) → (y *ℤ pos b2) ≤ℤ (a2 *ℤ pos m)
    → ((x +ℤ neg_ℤ y) *ℤ pos q) ≤ℤ pos (2 * r * (m + t1) + 4 * t * q)
    → (b1 * b2 * (2 * r + 4 * q) + 1) * t ≤ m → (b1 * b2 * (2 * r + 4 * q) + 1) * t1 ≤ m
    → ((a1 *ℤ pos b2 +ℤ neg_ℤ a2 *ℤ pos b1) *ℤ pos q) ≤ℤ pos (2 * r * (b1 * b2))
no_excess x y a1 a2 b1 b2 q r m t t1 some h k d ht h1 =
    by_lt_z (pos (2 * r * (b1 * b2))) ((a1 *ℤ pos b2 +ℤ neg_ℤ a2 *ℤ pos b1) *ℤ pos q)
    (λ (l : pos (2 * r * (b1 * b2)) <ℤ ((a1 *ℤ pos b2 +ℤ neg_ℤ a2 *ℤ pos b1) *ℤ pos q)).
    let e = (a1 *ℤ pos b2 +ℤ neg_ℤ a2 *ℤ pos b1) *ℤ pos q in
    let over_it : pos (2 * r * (b1 * b2) + 1) ≤ℤ e = omega (arith, ints) in
    let one = le-mul_z (pos (2 * r * (b1 * b2) + 1)) e m over_it in
    let two = both_ends x y a1 a2 (pos b1) (pos b2) (pos q) (pos m) (le-mul_z (a1 *ℤ pos m) (x *ℤ pos b1) (b2 * q) h) (le-mul_z (y *ℤ pos b2) (a2 *ℤ pos m) (b1 * q) k) in
    let three = le-mul_z ((x +ℤ neg_ℤ y) *ℤ pos q) (pos (2 * r * (m + t1) + 4 * t * q)) (b1 * b2) d in
    let four : pos ((2 * r * (b1 * b2) + 1) * m) ≤ℤ pos ((2 * r * (m + t1) + 4 * t * q) * (b1 * b2)) = omega (arith, lin) in
    absurd (no_room (b1 * b2) r q t1 t m some ht h1 (omega (arith, ints))))
    (λ (l : ((a1 *ℤ pos b2 +ℤ neg_ℤ a2 *ℤ pos b1) *ℤ pos q) ≤ℤ pos (2 * r * (b1 * b2))). l)
  where
    both_ends : (x y a1 a2 b1 b2 q m : ℤ) → (a1 *ℤ m *ℤ (b2 *ℤ q)) ≤ℤ (x *ℤ b1 *ℤ (b2 *ℤ q)) → (y *ℤ b2 *ℤ (b1 *ℤ q)) ≤ℤ (a2 *ℤ m *ℤ (b1 *ℤ q))
        → ((a1 *ℤ b2 +ℤ neg_ℤ a2 *ℤ b1) *ℤ q *ℤ m) ≤ℤ ((x +ℤ neg_ℤ y) *ℤ q *ℤ (b1 *ℤ b2))
    both_ends x y a1 a2 b1 b2 q m h k = simp ring (let h2 = simp ring at h in let k2 = simp ring at k in omega (arith, lin))

-- The sine of h is at most h in magnitude, where that is at most 1: no sum leaves the first two, h and h - h^3/6.
pub small_sine : (r : ℤ) (q m : ℕ) → 0 < q → 1 ≤ m → unsigned_abs r ≤ q
    → unsigned_abs (sine_of (scaled_term r q (4 * m + 2)) m) * q ≤ unsigned_abs r * rest q 0 (4 * m + 2)
small_sine r q m some one small =
    let k = 4 * m + 2 in
    let f = scaled_term r q k in
    let s = sine_of f in
    let long = is_long (over r q) 0 (omega (arith, mul-le-mul small small)) in
    let inside = sine_chain (over r q) 0 k m some long (omega arith) (omega arith) in
    let shrink = terms_shrink (over r q) 0 k 1 some long (omega arith) (omega arith) in
    let first = ends (s 0) (s 1) in
    let last = ends (s m) (s (suc m)) in
    let series = series_exists r q k in
    let within : unsigned_abs (s m) ≤ unsigned_abs (f 1) =
    go (f 1) (f 3) (s 0) (s 1) (s m) (lesser (s 0) (s 1)) (greater (s 0) (s 1)) (lesser (s m) (s (suc m))) (greater (s m) (s (suc m)))
    refl refl shrink first.either inside.rises inside.falls last.l_first last.g_first in
    let e : pos q *ℤ f 1 ≡ r *ℤ pos (rest q 0 k) =
    ap (λ z. pos q *ℤ z) (sym (one-mul_z (f 1))) ∙ series.next 0 (omega arith) ∙ ap (λ z. r *ℤ z) series.first in
    let e2 : q * unsigned_abs (f 1) ≡ unsigned_abs r * rest q 0 k = sym (unsigned_abs-mul (pos q) (f 1)) ∙ ap unsigned_abs e ∙ unsigned_abs-mul r (pos (rest q 0 k)) in
    omega (arith, mul-le-mul_right q within)
  where
    go : (f g s0 s1 sm l h lm hm : ℤ) → s0 ≡ f → s1 ≡ s0 +ℤ neg_ℤ g → Shrinks f g → ((l ≡ s0) × (h ≡ s1)) ⊎ ((l ≡ s1) × (h ≡ s0))
        → l ≤ℤ lm → hm ≤ℤ h → lm ≤ℤ sm → sm ≤ℤ hm → unsigned_abs sm ≤ unsigned_abs f
    go f g s0 s1 sm l h lm hm e0 e1 shrink either a b c d = elim shrink [
      | inl i ↦ elim either [ inl j ↦ omega (arith, ints, i.0, i.1, j.0, j.1) | inr j ↦ omega (arith, ints, i.0, i.1, j.0, j.1) ]
      | inr i ↦ elim either [ inl j ↦ omega (arith, ints, i.0, i.1, j.0, j.1) | inr j ↦ omega (arith, ints, i.0, i.1, j.0, j.1) ]
    ]

pub sizes-neg : (p r : ℤ) → sum_of_sizes p (neg_ℤ r) ≡ sum_of_sizes p r
sizes-neg p r = omega (arith, ints)

-- The sums at u + h and at u - h, with u = p / q and h = r / q, at the scale.
pub sines_apart : (p r : ℤ) (q w m : ℕ) → 0 < q → IsFar (sum_of_sizes p r) q w m
    → Within (pos (rest q 0 (4 * m + 2)) *ℤ (sine_of (scaled_term (p +ℤ r) q (4 * m + 2)) m +ℤ neg_ℤ (sine_of (scaled_term (p +ℤ neg_ℤ r) q (4 * m + 2)) m))
    -ℤ (cosine_of (scaled_term p q (4 * m + 2)) m *ℤ sine_of (scaled_term r q (4 * m + 2)) m +ℤ cosine_of (scaled_term p q (4 * m + 2)) m *ℤ sine_of (scaled_term r q (4 * m + 2)) m))
    (pos (4 * (rest q 0 (4 * m + 2) * left_out (sum_of_sizes p r) q m)))
sines_apart p r q w m some far =
    let k = 4 * m + 2 in
    let z = sum_of_sizes p r in
    let one = sine_at_scale p r q m k some far.small refl in
    let two = sine_at_scale p (neg_ℤ r) q m k some (rw (sizes-neg p r) far.small) refl in
    go (sine_of (scaled_term p q k) m) (cosine_of (scaled_term p q k) m) (sine_of (scaled_term r q k) m) (cosine_of (scaled_term r q k) m)
    (sine_of (scaled_term (neg_ℤ r) q k) m) (cosine_of (scaled_term (neg_ℤ r) q k) m) (sine_of (scaled_term (p +ℤ r) q k) m) (sine_of (scaled_term (p +ℤ neg_ℤ r) q k) m)
    (scaled_term (pos z) q k (2 * m + 2)) (rest q 0 k) (left_out z q m) one (rw (sizes-neg p r) at two) (sine_of_neg r q k m) (cosine_of_neg r q k m) (left_out_is z q m)
  where
    go : (su cu sh ch sh' ch' sx sy t : ℤ) (m l : ℕ) → Within (su *ℤ ch +ℤ cu *ℤ sh -ℤ pos m *ℤ sx) (pos m *ℤ (t +ℤ t)) → Within (su *ℤ ch' +ℤ cu *ℤ sh' -ℤ pos m *ℤ sy) (pos m *ℤ (t +ℤ t))
        → sh' ≡ neg_ℤ sh → ch' ≡ ch → t ≡ pos l → Within (pos m *ℤ (sx +ℤ neg_ℤ sy) -ℤ (cu *ℤ sh +ℤ cu *ℤ sh)) (pos (4 * (m * l)))
    go su cu sh ch sh' ch' sx sy t m l a b e1 e2 e3 =
        let f1 : cu *ℤ sh' ≡ neg_ℤ (cu *ℤ sh) = rw e1 (mul-neg_z cu sh) in
        let f2 : su *ℤ ch' ≡ su *ℤ ch = ap (λ z. su *ℤ z) e2 in
        let f3 : pos m *ℤ (t +ℤ t) ≡ pos (2 * (m * l)) = rw e3 (omega (arith, ints)) in
        let f4 : pos m *ℤ (sx +ℤ neg_ℤ sy) ≡ pos m *ℤ sx +ℤ neg_ℤ (pos m *ℤ sy) = mul-add_z (pos m) sx (neg_ℤ sy) ∙ ap (λ z. pos m *ℤ sx +ℤ z) (mul-neg_z (pos m) sy) in
        record { above = omega (arith, lin, f1, f2, f3, f4, a.above, a.below, b.above, b.below); below = omega (arith, lin, f1, f2, f3, f4, a.above, a.below, b.above, b.below) }

pub cosines_apart : (p r : ℤ) (q w m : ℕ) → 0 < q → IsFar (sum_of_sizes p r) q w m
    → Within (pos (rest q 0 (4 * m + 2)) *ℤ (cosine_of (scaled_term (p +ℤ r) q (4 * m + 2)) m +ℤ neg_ℤ (cosine_of (scaled_term (p +ℤ neg_ℤ r) q (4 * m + 2)) m))
    -ℤ (neg_ℤ (sine_of (scaled_term p q (4 * m + 2)) m) *ℤ sine_of (scaled_term r q (4 * m + 2)) m +ℤ neg_ℤ (sine_of (scaled_term p q (4 * m + 2)) m) *ℤ sine_of (scaled_term r q (4 * m + 2)) m))
    (pos (4 * (rest q 0 (4 * m + 2) * left_out (sum_of_sizes p r) q m)))
cosines_apart p r q w m some far =
    let k = 4 * m + 2 in
    let z = sum_of_sizes p r in
    let one = cosine_at_scale p r q m k some far.small refl in
    let two = cosine_at_scale p (neg_ℤ r) q m k some (rw (sizes-neg p r) far.small) refl in
    go (sine_of (scaled_term p q k) m) (cosine_of (scaled_term p q k) m) (sine_of (scaled_term r q k) m) (cosine_of (scaled_term r q k) m)
    (sine_of (scaled_term (neg_ℤ r) q k) m) (cosine_of (scaled_term (neg_ℤ r) q k) m) (cosine_of (scaled_term (p +ℤ r) q k) m) (cosine_of (scaled_term (p +ℤ neg_ℤ r) q k) m)
    (scaled_term (pos z) q k (2 * m + 2)) (rest q 0 k) (left_out z q m) one (rw (sizes-neg p r) at two) (sine_of_neg r q k m) (cosine_of_neg r q k m) (left_out_is z q m)
  where
    go : (su cu sh ch sh' ch' cx cy t : ℤ) (m l : ℕ) → Within (cu *ℤ ch +ℤ neg_ℤ (su *ℤ sh) -ℤ pos m *ℤ cx) (pos m *ℤ (t +ℤ t)) → Within (cu *ℤ ch' +ℤ neg_ℤ (su *ℤ sh') -ℤ pos m *ℤ cy) (pos m *ℤ (t +ℤ t))
        → sh' ≡ neg_ℤ sh → ch' ≡ ch → t ≡ pos l → Within (pos m *ℤ (cx +ℤ neg_ℤ cy) -ℤ (neg_ℤ su *ℤ sh +ℤ neg_ℤ su *ℤ sh)) (pos (4 * (m * l)))
    go su cu sh ch sh' ch' cx cy t m l a b e1 e2 e3 =
        let f0 = neg-mul_z su sh in
        let f1 : su *ℤ sh' ≡ neg_ℤ (su *ℤ sh) = rw e1 (mul-neg_z su sh) in
        let f2 : cu *ℤ ch' ≡ cu *ℤ ch = ap (λ z. cu *ℤ z) e2 in
        let f3 : pos m *ℤ (t +ℤ t) ≡ pos (2 * (m * l)) = rw e3 (omega (arith, ints)) in
        let f4 : pos m *ℤ (cx +ℤ neg_ℤ cy) ≡ pos m *ℤ cx +ℤ neg_ℤ (pos m *ℤ cy) = mul-add_z (pos m) cx (neg_ℤ cy) ∙ ap (λ z. pos m *ℤ cx +ℤ z) (mul-neg_z (pos m) cy) in
        record { above = omega (arith, lin, f0, f1, f2, f3, f4, a.above, a.below, b.above, b.below); below = omega (arith, lin, f0, f1, f2, f3, f4, a.above, a.below, b.above, b.below) }
