-- The order of fractions: transitive, total, and in step with sums, products, least and greatest.
use Rattle.std.proofs.Common.{◌≡◌, ℕ, ◌*◌, ◌<◌, Bool, true, false, cond, ℤ, pos, negsuc, ◌*ℤ◌, neg_ℤ, unsigned_abs, ◌+ℤ◌, ◌≤ℤ◌, ◌<ℤ◌, int_le, refl, sym, arith, mul-pos}
use Rattle.std.proofs.lemmas.Int.{ints, by_lt_z}
use Rattle.st_fraction.specs.Fraction.{Fraction, IsFraction, ◌≤ᶠ◌, ◌<ᶠ◌, ◌≈ᶠ◌, over, whole, ◌+ᶠ◌, neg_f, ◌-ᶠ◌, ◌*ᶠ◌, abs_f, least, greatest, IsNear}
use Rattle.st_fraction.proofs.Ring.{ring, lin, le-mul_z, le-mul_nonneg, le_cancel_z, neg-mul_z, lt-mul_z, numerals}

pub le_f_refl : (a : Fraction) → a ≤ᶠ a
le_f_refl a = record { le = omega (arith, lin) }

pub le_f_trans : (a b c : Fraction) → 0 < b.den → a ≤ᶠ b → b ≤ᶠ c → a ≤ᶠ c
le_f_trans a b c d h k =
    let h' : (a.num *ℤ pos b.den *ℤ pos c.den) ≤ℤ (b.num *ℤ pos a.den *ℤ pos c.den) = le-mul_z _ _ c.den h.le in
    let k' : (b.num *ℤ pos c.den *ℤ pos a.den) ≤ℤ (c.num *ℤ pos b.den *ℤ pos a.den) = le-mul_z _ _ a.den k.le in
    record {
      le = le_cancel_z (a.num *ℤ pos c.den) (c.num *ℤ pos a.den) b.den d
          (simp ring (let h2 = simp ring at h' in let k2 = simp ring at k' in omega (arith, ints)));
    }

pub le_f_cases : {P : Type 0} (a b : Fraction) → (a ≤ᶠ b → P) → (b <ᶠ a → P) → P
le_f_cases a b f g =
    by_lt_z (b.num *ℤ pos a.den) (a.num *ℤ pos b.den) (λ h. g (record { lt = h })) (λ h. f (record { le = h }))

pub le_of_lt_f : (a b : Fraction) → a <ᶠ b → a ≤ᶠ b
le_of_lt_f a b h = record { le = omega (arith, lin) }

pub not_both_f : (a b : Fraction) → a ≤ᶠ b → b <ᶠ a → ⊥
not_both_f a b h k = omega (arith, lin)

-- Equal fractions, as values.
pub same_refl : (a : Fraction) → a ≈ᶠ a
same_refl a = record { same = refl }

pub same_sym : (a b : Fraction) → a ≈ᶠ b → b ≈ᶠ a
same_sym a b e = record { same = sym e.same }

pub le_of_same : (a b : Fraction) → a ≈ᶠ b → a ≤ᶠ b
le_of_same a b e = record { le = omega (arith, lin, e.same) }

pub same_of_le : (a b : Fraction) → a ≤ᶠ b → b ≤ᶠ a → a ≈ᶠ b
same_of_le a b h k = record { same = omega (arith, lin) }

pub same_trans : (a b c : Fraction) → 0 < b.den → a ≈ᶠ b → b ≈ᶠ c → a ≈ᶠ c
same_trans a b c d h k =
    same_of_le a c (le_f_trans a b c d (le_of_same a b h) (le_of_same b c k))
    (le_f_trans c b a d (le_of_same c b (same_sym b c k)) (le_of_same b a (same_sym a b h)))

-- Sums.
pub le_f_add : (a b c d : Fraction) → a ≤ᶠ b → c ≤ᶠ d → (a +ᶠ c) ≤ᶠ (b +ᶠ d)
le_f_add a b c d h k =
    let x = simp ring at (le-mul_z _ _ (c.den * d.den) h.le) in
    let y = simp ring at (le-mul_z _ _ (a.den * b.den) k.le) in
    record { le = simp ring (omega (arith, ints)) }

pub le_f_neg : (a b : Fraction) → a ≤ᶠ b → neg_f b ≤ᶠ neg_f a
le_f_neg a b h =
    let x = neg-mul_z b.num (pos a.den) in
    let y = neg-mul_z a.num (pos b.den) in
    record { le = omega (arith, lin) }

pub same_add : (a b c d : Fraction) → a ≈ᶠ b → c ≈ᶠ d → (a +ᶠ c) ≈ᶠ (b +ᶠ d)
same_add a b c d h k =
    same_of_le (a +ᶠ c) (b +ᶠ d) (le_f_add a b c d (le_of_same a b h) (le_of_same c d k))
    (le_f_add b a d c (le_of_same b a (same_sym a b h)) (le_of_same d c (same_sym c d k)))

-- The lesser and the greater of two is one of them.
pub least_cases : (a b : Fraction) (P : Fraction → Type 0) → (a ≤ᶠ b → P a) → (b ≤ᶠ a → P b) → P (least a b)
least_cases a b P f g = by (int_le (a.num *ℤ pos b.den) (b.num *ℤ pos a.den)) refl
  where
    by : (t : Bool) → int_le (a.num *ℤ pos b.den) (b.num *ℤ pos a.den) ≡ t → P (cond t a b)
    by true e = f (record { le = omega (arith, ints) })
    by false e = g (record { le = omega (arith, ints) })

pub greatest_cases : (a b : Fraction) (P : Fraction → Type 0) → (a ≤ᶠ b → P b) → (b ≤ᶠ a → P a) → P (greatest a b)
greatest_cases a b P f g = by (int_le (a.num *ℤ pos b.den) (b.num *ℤ pos a.den)) refl
  where
    by : (t : Bool) → int_le (a.num *ℤ pos b.den) (b.num *ℤ pos a.den) ≡ t → P (cond t b a)
    by true e = f (record { le = omega (arith, ints) })
    by false e = g (record { le = omega (arith, ints) })

-- Products by what is not negative.
pub le_f_mul : (a b c : Fraction) → pos 0 ≤ℤ c.num → a ≤ᶠ b → (a *ᶠ c) ≤ᶠ (b *ᶠ c)
le_f_mul a b c k h =
    let x : (a.num *ℤ pos b.den *ℤ c.num) ≤ℤ (b.num *ℤ pos a.den *ℤ c.num) = le-mul_nonneg _ _ c.num h.le k in
    let y = simp ring at (le-mul_z _ _ c.den x) in
    record { le = simp ring (omega (arith, ints)) }

pub abs_at_most_f : (a b : Fraction) → a ≤ᶠ b → neg_f a ≤ᶠ b → abs_f a ≤ᶠ b
abs_at_most_f a b h k = by a.num refl
  where
    by : (z : ℤ) → a.num ≡ z → abs_f a ≤ᶠ b
    by (pos n) e = record { le = rw e (rw e at h.le) }
    by (negsuc n) e = record { le = rw e (rw e at k.le) }

pub le_abs_f : (a : Fraction) → a ≤ᶠ abs_f a
le_abs_f a = record { le = le-mul_z a.num (pos (unsigned_abs a.num)) a.den (omega (arith, ints)) }

pub neg_le_abs_f : (a : Fraction) → neg_f a ≤ᶠ abs_f a
neg_le_abs_f a = record { le = le-mul_z (neg_ℤ a.num) (pos (unsigned_abs a.num)) a.den (omega (arith, ints)) }

-- |a - b| ≤ e
pub near_same : (a b c d e : Fraction) → 0 < c.den → 0 < d.den → 0 < e.den → 0 < a.den → 0 < b.den → a ≈ᶠ c → b ≈ᶠ d → IsNear c d e → IsNear a b e
near_same a b c d e pc pd pe pa pb h k n = record {
  above = le_f_trans a c (b +ᶠ e) pc (le_of_same a c h) (le_f_trans c (d +ᶠ e) (b +ᶠ e) (mul-pos pd pe) n.above (le_f_add d b e e (le_of_same d b (same_sym b d k)) (le_f_refl e)));
  below = le_f_trans b d (a +ᶠ e) pd (le_of_same b d k) (le_f_trans d (c +ᶠ e) (a +ᶠ e) (mul-pos pc pe) n.below (le_f_add c a e e (le_of_same c a (same_sym a c h)) (le_f_refl e)));
}

-- half of a - b
unfoldable pub half_between : Fraction → Fraction → Fraction
half_between a b = over (a.num *ℤ pos b.den +ℤ neg_ℤ b.num *ℤ pos a.den) (2 * (a.den * b.den))

pub half_above_zero : (a b : Fraction) → b <ᶠ a → whole (pos 0) <ᶠ half_between a b
unfolding half_between
half_above_zero a b h =
    let e = neg-mul_z b.num (pos a.den) in
    record { lt = go (a.num *ℤ pos b.den) (b.num *ℤ pos a.den) (neg_ℤ b.num *ℤ pos a.den) (2 * (a.den * b.den)) h.lt e }
  where
    go : (x y z : ℤ) (n : ℕ) → y <ℤ x → z ≡ neg_ℤ y → (pos 0 *ℤ pos n) <ℤ ((x +ℤ z) *ℤ pos 1)
    go x y z n h e = omega (arith, ints)

-- What is at most b + e for every e above 0 is at most b.
pub le_of_near : (a b : Fraction) → 0 < a.den → 0 < b.den → ((e : Fraction) → IsFraction e → whole (pos 0) <ᶠ e → a ≤ᶠ (b +ᶠ e)) → a ≤ᶠ b
unfolding half_between
le_of_near a b pa pb near = le_f_cases a b (λ h. h) (λ (h : b <ᶠ a).
    absurd (go a.num b.num a.den b.den pa pb h.lt ((near (half_between a b) (record { positive = mul-pos (omega arith) (mul-pos pa pb) }) (half_above_zero a b h)).le)))
  where
    twice : (a b c d : ℤ) → a *ℤ (d *ℤ (pos 2 *ℤ (c *ℤ d))) ≡ (a *ℤ d) *ℤ (c *ℤ d) +ℤ (a *ℤ d) *ℤ (c *ℤ d)
    twice a b c d = simp (numerals, ring)

    sum : (a b c d : ℤ) → (b *ℤ (pos 2 *ℤ (c *ℤ d)) +ℤ (a *ℤ d +ℤ neg_ℤ b *ℤ c) *ℤ d) *ℤ c ≡ (b *ℤ c) *ℤ (c *ℤ d) +ℤ (a *ℤ d) *ℤ (c *ℤ d)
    sum a b c d = simp (numerals, ring) (omega (arith, lin))

    go : (a b : ℤ) (c d : ℕ) → 0 < c → 0 < d → (b *ℤ pos c) <ℤ (a *ℤ pos d)
        → (a *ℤ pos (d * (2 * (c * d)))) ≤ℤ ((b *ℤ pos (2 * (c * d)) +ℤ (a *ℤ pos d +ℤ neg_ℤ b *ℤ pos c) *ℤ pos d) *ℤ pos c) → ⊥
    go a b c d pc pd h k =
        let l = twice a b (pos c) (pos d) in
        let r = sum a b (pos c) (pos d) in
        let m = lt-mul_z (b *ℤ pos c) (a *ℤ pos d) (c * d) (mul-pos pc pd) h in
        omega (arith, lin, l, r, m)

-- a - b ≤ c is a ≤ b + c.
pub le_f_move : (a b c : Fraction) → 0 < b.den → (a -ᶠ b) ≤ᶠ c → a ≤ᶠ (b +ᶠ c)
le_f_move a b c pb h = record { le = le_cancel_z _ _ b.den pb (go a.num (pos a.den) b.num (pos b.den) c.num (pos c.den) (le-mul_z _ _ b.den h.le)) }
  where
    go : (a d b e c f : ℤ) → ((a *ℤ e +ℤ neg_ℤ b *ℤ d) *ℤ f *ℤ e) ≤ℤ (c *ℤ (d *ℤ e) *ℤ e) → (a *ℤ (e *ℤ f) *ℤ e) ≤ℤ ((b *ℤ f +ℤ c *ℤ e) *ℤ d *ℤ e)
    go a d b e c f h = simp ring (let h2 = simp ring at h in omega (arith, lin))

pub le_f_move_back : (a b c : Fraction) → 0 < b.den → a ≤ᶠ (b +ᶠ c) → (a -ᶠ b) ≤ᶠ c
le_f_move_back a b c pb h = record { le = le_cancel_z _ _ b.den pb (go a.num (pos a.den) b.num (pos b.den) c.num (pos c.den) (le-mul_z _ _ b.den h.le)) }
  where
    go : (a d b e c f : ℤ) → (a *ℤ (e *ℤ f) *ℤ e) ≤ℤ ((b *ℤ f +ℤ c *ℤ e) *ℤ d *ℤ e) → ((a *ℤ e +ℤ neg_ℤ b *ℤ d) *ℤ f *ℤ e) ≤ℤ (c *ℤ (d *ℤ e) *ℤ e)
    go a d b e c f h = simp ring (let h2 = simp ring at h in omega (arith, lin))
