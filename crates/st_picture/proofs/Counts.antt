-- Counts of seconds, and Julian dates, by whole units: a count lies before a whole number exactly where the value lies
-- before a whole number of units.
use Rattle.std.proofs.Common.{◌≡◌, ℕ, ◌*◌, ◌<◌, sym, ap, ◌∙◌, subst, arith, mul-pos, ℤ, pos, neg_ℤ, ◌+ℤ◌, ◌-ℤ◌, ◌*ℤ◌, ◌≤ℤ◌, ◌<ℤ◌}
use Rattle.std.proofs.lemmas.Int.{ints}
use Rattle.st_fraction.specs.Fraction.{Fraction, ◌≤ᶠ◌, ◌<ᶠ◌, over, whole, ◌+ᶠ◌, ◌*ᶠ◌}
use Rattle.st_fraction.specs.Floor.{IsFloor}
use Rattle.st_fraction.proofs.Ring.{ring, lin, numerals, le-mul_z, lt-mul_z, lt_cancel_z}
use Rattle.st_fraction.proofs.Order.{le_f_refl, le_f_trans, le_f_add, le_f_mul}
use Rattle.st_fraction.proofs.Strict.{lt_le_f}

-- a value, the whole units that are its floor, and what units and tens are: a tens are b units
pub record IsBetween (v : Fraction) (n : ℤ) (u : ℕ) : Type 0 where
  pub some : 0 < v.den
  pub unit_some : 0 < u
  pub from : over n u ≤ᶠ v
  pub to : v <ᶠ over (n +ℤ pos 1) u

-- whole units before a bound lie a unit before it, and so does what lies before the next unit
below_bound : (v : Fraction) (n k : ℤ) (u : ℕ) → IsBetween v n u → n <ℤ k → v <ᶠ over k u
below_bound v n k u b h =
    lt_le_f v (over (n +ℤ pos 1) u) (over k u) b.unit_some b.to (record { le = le-mul_z (n +ℤ pos 1) k u (next n k h) })
  where
    next : (s z : ℤ) → s <ℤ z → (s +ℤ pos 1) ≤ℤ z
    next s z h = omega (arith, ints)

-- counts
pub count_below : (v : Fraction) (r : ℤ) (a b u : ℕ) → a * b ≡ u → v <ᶠ over (r *ℤ pos b) u → (v *ᶠ whole (pos a)) <ᶠ whole r
count_below v r a b u e h = record {
  lt = lt_cancel_z (v.num *ℤ pos a *ℤ pos 1) (r *ℤ pos (v.den * 1)) b
      (go v.num r (pos a) (pos b) (pos v.den) (subst (λ (w : ℕ). (v.num *ℤ pos w) <ℤ (r *ℤ pos b *ℤ pos v.den)) (sym e) h.lt));
}
  where
    go : (x r a b d : ℤ) → (x *ℤ (a *ℤ b)) <ℤ (r *ℤ b *ℤ d) → (x *ℤ a *ℤ pos 1 *ℤ b) <ℤ (r *ℤ (d *ℤ pos 1) *ℤ b)
    go x r a b d h =
        let p : x *ℤ a *ℤ pos 1 *ℤ b ≡ x *ℤ (a *ℤ b) = simp (numerals, ring) in
        let q : r *ℤ (d *ℤ pos 1) *ℤ b ≡ r *ℤ b *ℤ d = simp (numerals, ring) in
        rw (p, q) h

pub below_of_count : (v : Fraction) (r : ℤ) (a b u : ℕ) → a * b ≡ u → 0 < b → (v *ᶠ whole (pos a)) <ᶠ whole r → v <ᶠ over (r *ℤ pos b) u
below_of_count v r a b u e some h = record {
  lt = subst (λ (w : ℕ). (v.num *ℤ pos w) <ℤ (r *ℤ pos b *ℤ pos v.den)) e
      (go v.num r (pos a) (pos b) (pos v.den) (lt-mul_z (v.num *ℤ pos a *ℤ pos 1) (r *ℤ pos (v.den * 1)) b some h.lt));
}
  where
    go : (x r a b d : ℤ) → (x *ℤ a *ℤ pos 1 *ℤ b) <ℤ (r *ℤ (d *ℤ pos 1) *ℤ b) → (x *ℤ (a *ℤ b)) <ℤ (r *ℤ b *ℤ d)
    go x r a b d h =
        let p : x *ℤ a *ℤ pos 1 *ℤ b ≡ x *ℤ (a *ℤ b) = simp (numerals, ring) in
        let q : r *ℤ (d *ℤ pos 1) *ℤ b ≡ r *ℤ b *ℤ d = simp (numerals, ring) in
        rw (sym p, sym q) h

below_count : (n r : ℤ) (a b u : ℕ) → a * b ≡ u → (over n u *ᶠ whole (pos a)) <ᶠ whole r → n <ℤ (r *ℤ pos b)
below_count n r a b u e h =
    lt_cancel_z n (r *ℤ pos b) a (go n r (pos a) (pos b) (subst (λ (w : ℕ). (n *ℤ pos a *ℤ pos 1) <ℤ (r *ℤ pos (w * 1))) (sym e) h.lt))
  where
    go : (n r a b : ℤ) → (n *ℤ a *ℤ pos 1) <ℤ (r *ℤ (a *ℤ b *ℤ pos 1)) → (n *ℤ a) <ℤ (r *ℤ b *ℤ a)
    go n r a b h =
        let p : n *ℤ a *ℤ pos 1 ≡ n *ℤ a = simp numerals in
        let q : r *ℤ (a *ℤ b *ℤ pos 1) ≡ r *ℤ b *ℤ a = simp (numerals, ring) in
        rw (sym p, sym q) h

count_mono : (v w : Fraction) (a : ℕ) → v ≤ᶠ w → (v *ᶠ whole (pos a)) ≤ᶠ (w *ᶠ whole (pos a))
count_mono v w a h = le_f_mul v w (whole (pos a)) (omega (arith, ints)) h

pub count_of_floor : (v : Fraction) (n q : ℤ) (a b u : ℕ) → a * b ≡ u → IsBetween v n u → IsFloor (over n u *ᶠ whole (pos a)) q → IsFloor (v *ᶠ whole (pos a)) q
count_of_floor v n q a b u e h f = record {
  at_most = le_f_trans (whole q) (over n u *ᶠ whole (pos a)) (v *ᶠ whole (pos a)) (let some = h.unit_some in omega arith) f.at_most (count_mono (over n u) v a h.from);
  below_next = count_below v (q +ℤ pos 1) a b u e (below_bound v n ((q +ℤ pos 1) *ℤ pos b) u h (below_count n (q +ℤ pos 1) a b u e f.below_next));
}

-- whole units, and the greatest multiple of b among those at most them
pub record IsQuotient (n q : ℤ) (b : ℕ) : Type 0 where
  pub from : (q *ℤ pos b) ≤ℤ n
  pub to : n <ℤ ((q +ℤ pos 1) *ℤ pos b)

pub count_of_units : (n q : ℤ) (a b u : ℕ) → a * b ≡ u → 0 < u → IsQuotient n q b → IsFloor (over n u *ᶠ whole (pos a)) q
count_of_units n q a b u e some h = record {
  at_most = record { le = subst (λ (w : ℕ). (q *ℤ pos (w * 1)) ≤ℤ (n *ℤ pos a *ℤ pos 1)) e (go q n (pos a) (pos b) (le-mul_z (q *ℤ pos b) n a h.from)) };
  below_next = count_below (over n u) (q +ℤ pos 1) a b u e (record { lt = lt-mul_z n ((q +ℤ pos 1) *ℤ pos b) u some h.to });
}
  where
    go : (q n a b : ℤ) → (q *ℤ b *ℤ a) ≤ℤ (n *ℤ a) → (q *ℤ (a *ℤ b *ℤ pos 1)) ≤ℤ (n *ℤ a *ℤ pos 1)
    go q n a b h =
        let p : n *ℤ a *ℤ pos 1 ≡ n *ℤ a = simp numerals in
        let r : q *ℤ (a *ℤ b *ℤ pos 1) ≡ q *ℤ b *ℤ a = simp (numerals, ring) in
        rw (p, r) h

-- Julian dates: j at 0, and g seconds a day
abbrev pub dated : ℤ → ℕ → Fraction → Fraction
dated j g v = whole j +ᶠ v *ᶠ over (pos 1) g

-- the units before which a Julian date times a lies before r
abbrev pub bound : ℤ → ℕ → ℕ → ℕ → ℤ → ℤ
bound j g b u r = r *ℤ (pos g *ℤ pos b) -ℤ j *ℤ (pos g *ℤ pos u)

julian_below : (v : Fraction) (j r : ℤ) (g a b u : ℕ) → a * b ≡ u → v <ᶠ over (bound j g b u r) u → (dated j g v *ᶠ whole (pos a)) <ᶠ whole r
julian_below v j r g a b u e h = record {
  lt = lt_cancel_z _ _ b
      (go v.num r j (pos a) (pos b) (pos u) (pos g) (pos v.den) (ap pos e) h.lt);
}
  where
    go : (x r j a b u g d : ℤ) → a *ℤ b ≡ u → (x *ℤ u) <ℤ ((r *ℤ (g *ℤ b) -ℤ j *ℤ (g *ℤ u)) *ℤ d)
        → ((j *ℤ (d *ℤ g) +ℤ x *ℤ pos 1 *ℤ pos 1) *ℤ a *ℤ pos 1 *ℤ b) <ℤ (r *ℤ (pos 1 *ℤ (d *ℤ g) *ℤ pos 1) *ℤ b)
    go x r j a b u g d e h =
        let p : (j *ℤ (d *ℤ g) +ℤ x *ℤ pos 1 *ℤ pos 1) *ℤ a *ℤ pos 1 *ℤ b ≡ j *ℤ (g *ℤ d) *ℤ (a *ℤ b) +ℤ x *ℤ (a *ℤ b) = simp (numerals, ring) in
        let q : r *ℤ (pos 1 *ℤ (d *ℤ g) *ℤ pos 1) *ℤ b ≡ r *ℤ (g *ℤ b) *ℤ d = simp (numerals, ring) in
        let k : (r *ℤ (g *ℤ b) +ℤ neg_ℤ (j *ℤ (g *ℤ u))) *ℤ d ≡ r *ℤ (g *ℤ b) *ℤ d +ℤ neg_ℤ (j *ℤ (g *ℤ d) *ℤ u) = simp ring in
        let l : r *ℤ (g *ℤ b) -ℤ j *ℤ (g *ℤ u) ≡ r *ℤ (g *ℤ b) +ℤ neg_ℤ (j *ℤ (g *ℤ u)) = omega (arith, lin) in
        let h2 : (x *ℤ u) <ℤ ((r *ℤ (g *ℤ b) +ℤ neg_ℤ (j *ℤ (g *ℤ u))) *ℤ d) = rw (sym l) h in
        rw (p, q, e) (omega (arith, lin, k, h2))

below_julian : (n j r : ℤ) (g a b u : ℕ) → a * b ≡ u → (dated j g (over n u) *ᶠ whole (pos a)) <ᶠ whole r → n <ℤ bound j g b u r
below_julian n j r g a b u e h =
    moved n (r *ℤ (pos g *ℤ pos b)) (j *ℤ (pos g *ℤ pos u))
    (lt_cancel_z (n +ℤ j *ℤ (pos g *ℤ pos u)) (r *ℤ (pos g *ℤ pos b)) a (go n r j (pos a) (pos b) (pos u) (pos g) (ap pos e) h.lt))
  where
    moved : (n x y : ℤ) → (n +ℤ y) <ℤ x → n <ℤ (x -ℤ y)
    moved n x y h = omega (arith, lin)

    go : (n r j a b u g : ℤ) → a *ℤ b ≡ u → ((j *ℤ (u *ℤ g) +ℤ n *ℤ pos 1 *ℤ pos 1) *ℤ a *ℤ pos 1) <ℤ (r *ℤ (pos 1 *ℤ (u *ℤ g) *ℤ pos 1))
        → ((n +ℤ j *ℤ (g *ℤ u)) *ℤ a) <ℤ (r *ℤ (g *ℤ b) *ℤ a)
    go n r j a b u g e h =
        let p : (j *ℤ (u *ℤ g) +ℤ n *ℤ pos 1 *ℤ pos 1) *ℤ a *ℤ pos 1 ≡ (n +ℤ j *ℤ (g *ℤ u)) *ℤ a = simp (numerals, ring) in
        let q : r *ℤ (pos 1 *ℤ (a *ℤ b *ℤ g) *ℤ pos 1) ≡ r *ℤ (g *ℤ b) *ℤ a = simp (numerals, ring) in
        let f : r *ℤ (pos 1 *ℤ (u *ℤ g) *ℤ pos 1) ≡ r *ℤ (pos 1 *ℤ (a *ℤ b *ℤ g) *ℤ pos 1) = ap (λ (z : ℤ). r *ℤ (pos 1 *ℤ (z *ℤ g) *ℤ pos 1)) (sym e) in
        rw (sym p, sym (f ∙ q)) h

julian_mono : (j : ℤ) (g : ℕ) (v w : Fraction) (a : ℕ) → v ≤ᶠ w → (dated j g v *ᶠ whole (pos a)) ≤ᶠ (dated j g w *ᶠ whole (pos a))
julian_mono j g v w a h =
    count_mono (dated j g v) (dated j g w) a
    (le_f_add (whole j) (whole j) (v *ᶠ over (pos 1) g) (w *ᶠ over (pos 1) g) (le_f_refl (whole j)) (le_f_mul v w (over (pos 1) g) (omega (arith, ints)) h))

pub julian_of_floor : (v : Fraction) (n q j : ℤ) (g a b u : ℕ) → 0 < g → a * b ≡ u → IsBetween v n u → IsFloor (dated j g (over n u) *ᶠ whole (pos a)) q
    → IsFloor (dated j g v *ᶠ whole (pos a)) q
julian_of_floor v n q j g a b u some e h f = record {
  at_most = le_f_trans (whole q) (dated j g (over n u) *ᶠ whole (pos a)) (dated j g v *ᶠ whole (pos a)) (den h.unit_some) f.at_most (julian_mono j g (over n u) v a h.from);
  below_next = julian_below v j (q +ℤ pos 1) g a b u e
      (below_bound v n (bound j g b u (q +ℤ pos 1)) u h (below_julian n j (q +ℤ pos 1) g a b u e f.below_next));
}
  where
    den : 0 < u → 0 < 1 * (u * g) * 1
    den h = omega (arith, mul-pos h some)

pub julian_of_units : (n q j : ℤ) (g a b u : ℕ) → a * b ≡ u → 0 < u → IsQuotient (n +ℤ j *ℤ (pos g *ℤ pos u)) q (g * b)
    → IsFloor (dated j g (over n u) *ᶠ whole (pos a)) q
julian_of_units n q j g a b u e some h = record {
  at_most = record { le = go q n j (pos a) (pos b) (pos u) (pos g) (ap pos e) (le-mul_z _ _ a h.from) };
  below_next = julian_below (over n u) j (q +ℤ pos 1) g a b u e
      (record { lt = lt-mul_z n (bound j g b u (q +ℤ pos 1)) u some (moved n ((q +ℤ pos 1) *ℤ (pos g *ℤ pos b)) (j *ℤ (pos g *ℤ pos u)) h.to) });
}
  where
    moved : (n x y : ℤ) → (n +ℤ y) <ℤ x → n <ℤ (x -ℤ y)
    moved n x y h = omega (arith, lin)

    go : (q n j a b u g : ℤ) → a *ℤ b ≡ u → (q *ℤ (g *ℤ b) *ℤ a) ≤ℤ ((n +ℤ j *ℤ (g *ℤ u)) *ℤ a)
        → (q *ℤ (pos 1 *ℤ (u *ℤ g) *ℤ pos 1)) ≤ℤ ((j *ℤ (u *ℤ g) +ℤ n *ℤ pos 1 *ℤ pos 1) *ℤ a *ℤ pos 1)
    go q n j a b u g e h =
        let p : (j *ℤ (u *ℤ g) +ℤ n *ℤ pos 1 *ℤ pos 1) *ℤ a *ℤ pos 1 ≡ (n +ℤ j *ℤ (g *ℤ u)) *ℤ a = simp (numerals, ring) in
        let r : q *ℤ (pos 1 *ℤ (a *ℤ b *ℤ g) *ℤ pos 1) ≡ q *ℤ (g *ℤ b) *ℤ a = simp (numerals, ring) in
        let f : q *ℤ (pos 1 *ℤ (u *ℤ g) *ℤ pos 1) ≡ q *ℤ (pos 1 *ℤ (a *ℤ b *ℤ g) *ℤ pos 1) = ap (λ (z : ℤ). q *ℤ (pos 1 *ℤ (z *ℤ g) *ℤ pos 1)) (sym e) in
        rw (p, f ∙ r) h

pub count_rises : (v w : Fraction) (a : ℕ) → v ≤ᶠ w → (v *ᶠ whole (pos a)) ≤ᶠ (w *ᶠ whole (pos a))
count_rises v w a h = count_mono v w a h

pub julian_rises : (j : ℤ) (g : ℕ) (v w : Fraction) (a : ℕ) → v ≤ᶠ w → (dated j g v *ᶠ whole (pos a)) ≤ᶠ (dated j g w *ᶠ whole (pos a))
julian_rises j g v w a h = julian_mono j g v w a h
