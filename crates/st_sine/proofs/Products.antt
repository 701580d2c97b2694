-- Products and sums of numbers that are near others. They carry what is known of two angles to their sum.
use Rattle.std.proofs.Common.{◌≡◌, ℕ, ◌*◌, ◌<◌, ℤ, pos, ◌+ℤ◌, ◌-ℤ◌, ◌*ℤ◌, neg_ℤ, ◌≤ℤ◌, arith, mul-pos}
use Rattle.std.proofs.lemmas.Int.{ints}
use Rattle.st_fraction.specs.Fraction.{Fraction, ◌≤ᶠ◌, whole, ◌+ᶠ◌, neg_f, ◌-ᶠ◌, ◌*ᶠ◌, IsNear}
use Rattle.st_fraction.proofs.Ring.{ring, lin}
use Rattle.st_fraction.proofs.Within.{Within, within_add, within_mul}
use Rattle.st_fraction.proofs.Linear.{at_one_scale, whole_at, times_at, near_at, at_near}
use Rattle.st_fraction.proofs.Scale.{at_more, at_add, at_sub, at_neg, at_mul, at_le}

-- a and b within e of c and d, where b is at most 3 and c at most 2: the products are within 5 e. All at the scale m.
product_near : (a b c d e m : ℤ) → Within (a -ℤ c) e → Within (b -ℤ d) e → Within b (m +ℤ m +ℤ m) → Within c (m +ℤ m)
    → Within (a *ℤ b -ℤ c *ℤ d) (e *ℤ m +ℤ e *ℤ m +ℤ e *ℤ m +ℤ e *ℤ m +ℤ e *ℤ m)
product_near a b c d e m h k s t =
    let one = within_mul (a -ℤ c) b e (m +ℤ m +ℤ m) h s in
    let two = within_mul c (b -ℤ d) (m +ℤ m) e t k in
    let i = split a b c d in
    let j = sizes e m in
    let both = within_add _ _ _ _ one two in
    rw (i, ← j) both
  where
    split : (a b c d : ℤ) → a *ℤ b -ℤ c *ℤ d ≡ (a -ℤ c) *ℤ b +ℤ c *ℤ (b -ℤ d)
    split a b c d = simp ring (omega (arith, lin))

    sizes : (e m : ℤ) → e *ℤ (m +ℤ m +ℤ m) +ℤ (m +ℤ m) *ℤ e ≡ e *ℤ m +ℤ e *ℤ m +ℤ e *ℤ m +ℤ e *ℤ m +ℤ e *ℤ m
    sizes e m = simp ring

-- at most 2 to either side
pub record IsAtMostTwo (a : Fraction) : Type 0 where
  pub high : a ≤ᶠ whole (pos 2)
  pub low : neg_f a ≤ᶠ whole (pos 2)

pub near_product : (a b c d e : Fraction) → 0 < a.den → 0 < b.den → 0 < c.den → 0 < d.den → 0 < e.den → IsNear a c e → IsNear b d e → IsAtMostTwo c → IsAtMostTwo d → e ≤ᶠ whole (pos 1)
    → IsNear (a *ᶠ b) (c *ᶠ d) (whole (pos 5) *ᶠ e)
near_product a b c d e pa pb pc pd pe h k tc td small =
    let z = at_one_scale a b c d e e e e pa pb pc pd pe pe pe pe in
    let one : 0 < 1 = omega arith in
    let two = whole_at (pos 2) z.m in
    let ac = near_at z.m a c e _ _ _ pa pc pe z.a_at z.c_at z.e_at h in
    let bd = near_at z.m b d e _ _ _ pb pd pe z.b_at z.d_at z.e_at k in
    let cs = at_most_two z.xc z.m (at_le z.m c (whole (pos 2)) _ _ pc one z.c_at two tc.high) (at_le z.m (neg_f c) (whole (pos 2)) _ _ pc one (at_neg z.m c _ z.c_at) two tc.low) in
    let ds = at_most_two z.xd z.m (at_le z.m d (whole (pos 2)) _ _ pd one z.d_at two td.high) (at_le z.m (neg_f d) (whole (pos 2)) _ _ pd one (at_neg z.m d _ z.d_at) two td.low) in
    let es = at_le z.m e (whole (pos 1)) _ _ pe one z.e_at (whole_at (pos 1) z.m) small in
    let bs = bigger z.xb z.xd z.xe z.m bd ds es in
    at_near (z.m * z.m) (a *ᶠ b) (c *ᶠ d) (whole (pos 5) *ᶠ e) _ _ _ (mul-pos z.some z.some) (at_mul z.m z.m a b _ _ z.a_at z.b_at) (at_mul z.m z.m c d _ _ z.c_at z.d_at)
    (times_at (pos 5) (z.m * z.m) e _ (at_more z.m z.m e _ z.e_at)) (five _ _ (product_near z.xa z.xb z.xc z.xd z.xe (pos z.m) ac bd bs cs))
  where
    at_most_two : (x : ℤ) (m : ℕ) → x ≤ℤ (pos 2 *ℤ pos m) → neg_ℤ x ≤ℤ (pos 2 *ℤ pos m) → Within x (pos m +ℤ pos m)
    at_most_two x m h k = record { above = omega (arith, ints); below = omega (arith, ints) }

    bigger : (x y z : ℤ) (m : ℕ) → Within (x -ℤ y) z → Within y (pos m +ℤ pos m) → z ≤ℤ (pos 1 *ℤ pos m) → Within x (pos m +ℤ pos m +ℤ pos m)
    bigger x y z m h k s = record { above = omega (arith, ints); below = omega (arith, ints) }

    five : (x e : ℤ) → Within x (e +ℤ e +ℤ e +ℤ e +ℤ e) → Within x (pos 5 *ℤ e)
    five x e h = record { above = omega (arith, ints); below = omega (arith, ints) }

pub near_sum : (t u v w y e : Fraction) → 0 < t.den → 0 < u.den → 0 < v.den → 0 < w.den → 0 < y.den → 0 < e.den
    → IsNear t (u +ᶠ v) e → IsNear u w (whole (pos 5) *ᶠ e) → IsNear v y (whole (pos 5) *ᶠ e) → IsNear t (w +ᶠ y) (whole (pos 11) *ᶠ e)
near_sum t u v w y e pt pu pv pw py pe h k l =
    let z = at_one_scale t u v w y e e e pt pu pv pw py pe pe pe in
    let five = times_at (pos 5) z.m e _ z.f_at in
    let pf : 0 < 1 * e.den = omega arith in
    at_near z.m t (w +ᶠ y) (whole (pos 11) *ᶠ e) _ _ _ z.some z.a_at (at_add z.m w y _ _ z.d_at z.e_at) (times_at (pos 11) z.m e _ z.f_at)
    (join z.xa z.xb z.xc z.xd z.xe z.xf (near_at z.m t (u +ᶠ v) e _ _ _ pt (mul-pos pu pv) pe z.a_at (at_add z.m u v _ _ z.b_at z.c_at) z.f_at h)
    (near_at z.m u w (whole (pos 5) *ᶠ e) _ _ _ pu pw pf z.b_at z.d_at five k) (near_at z.m v y (whole (pos 5) *ᶠ e) _ _ _ pv py pf z.c_at z.e_at five l))
  where
    join : (t a b c d e : ℤ) → Within (t -ℤ (a +ℤ b)) e → Within (a -ℤ c) (pos 5 *ℤ e) → Within (b -ℤ d) (pos 5 *ℤ e) → Within (t -ℤ (c +ℤ d)) (pos 11 *ℤ e)
    join t a b c d e h k l = record { above = omega (arith, ints); below = omega (arith, ints) }

pub near_difference : (t u v w y e : Fraction) → 0 < t.den → 0 < u.den → 0 < v.den → 0 < w.den → 0 < y.den → 0 < e.den
    → IsNear t (u -ᶠ v) e → IsNear u w (whole (pos 5) *ᶠ e) → IsNear v y (whole (pos 5) *ᶠ e) → IsNear t (w -ᶠ y) (whole (pos 11) *ᶠ e)
near_difference t u v w y e pt pu pv pw py pe h k l =
    let z = at_one_scale t u v w y e e e pt pu pv pw py pe pe pe in
    let five = times_at (pos 5) z.m e _ z.f_at in
    let pf : 0 < 1 * e.den = omega arith in
    at_near z.m t (w -ᶠ y) (whole (pos 11) *ᶠ e) _ _ _ z.some z.a_at (at_sub z.m w y _ _ z.d_at z.e_at) (times_at (pos 11) z.m e _ z.f_at)
    (join z.xa z.xb z.xc z.xd z.xe z.xf (near_at z.m t (u -ᶠ v) e _ _ _ pt (mul-pos pu pv) pe z.a_at (at_sub z.m u v _ _ z.b_at z.c_at) z.f_at h)
    (near_at z.m u w (whole (pos 5) *ᶠ e) _ _ _ pu pw pf z.b_at z.d_at five k) (near_at z.m v y (whole (pos 5) *ᶠ e) _ _ _ pv py pf z.c_at z.e_at five l))
  where
    join : (t a b c d e : ℤ) → Within (t -ℤ (a +ℤ neg_ℤ b)) e → Within (a -ℤ c) (pos 5 *ℤ e) → Within (b -ℤ d) (pos 5 *ℤ e) → Within (t -ℤ (c +ℤ neg_ℤ d)) (pos 11 *ℤ e)
    join t a b c d e h k l = record { above = omega (arith, ints); below = omega (arith, ints) }
