-- An angle divided by a power of two, and what is left.
use Rattle.std.proofs.Common.{◌≡◌, ℕ, ◌+◌, ◌*◌, ◌^◌, ◌≤◌, ◌<◌, ℤ, pos, ◌+ℤ◌, ◌-ℤ◌, ◌*ℤ◌, ◌≤ℤ◌, unsigned_abs, sym, ap, ◌∙◌, arith}
use Rattle.std.specs.Int.{int_div_euclid}
use Rattle.std.proofs.lemmas.Int.{ints}
use Rattle.st_fraction.specs.Fraction.{Fraction, units, LiesWithin, IsNear}
use Rattle.st_fraction.proofs.Ring.{ring, add-mul_z, le-mul_z, mul_assoc_z}
use Rattle.st_enclosure.specs.Ends.{EndsAtMost}
use Rattle.st_series.proofs.Rounded.{floor_is, floor_within}

pub record IsReduced (lo hi q : ℤ) (p : ℕ) : Type 0 where
  pub start : unsigned_abs q ≤ 2 * 10 ^ 18
  pub below : (q *ℤ pos p) ≤ℤ lo
  pub size : unsigned_abs (q *ℤ pos p) ≤ 2 * 10 ^ 18 * p + p
  pub low : pos 0 ≤ℤ (hi -ℤ q *ℤ pos p)
  pub high : (hi -ℤ q *ℤ pos p) ≤ℤ pos (10 ^ 7 + p)

pub is_reduced : (lo hi : ℤ) (p : ℕ) → 0 < p → lo ≤ℤ hi → EndsAtMost lo hi (2 * 10 ^ 18 * p) → (hi -ℤ lo) ≤ℤ pos (10 ^ 7) → IsReduced lo hi (int_div_euclid lo (pos p)) p
is_reduced lo hi p some order ends narrow =
    let q = int_div_euclid lo (pos p) in
    let f = floor_is lo p some in
    let e = add-mul_z q (pos 1) (pos p) in
    let l = ends.low in
    let h = ends.high in
    let b = f.below in
    let a = f.above in
    record {
      start = floor_within lo p (2 * 10 ^ 18) some (omega (arith, ints));
      below = b;
      size = omega (arith, ints);
      low = omega (arith, ints);
      high = omega (arith, ints);
    }

-- every contained angle is at most the distance from the angle that was met
pub near_contained : (lo hi z d : ℤ) (x : Fraction) → z ≤ℤ lo → d ≡ hi -ℤ z → lo ≤ℤ hi → LiesWithin lo hi x → IsNear (units z) x (units d)
near_contained lo hi z d x h e order w = record {
  above = record { le = first z d x.num x.den (10 ^ 18) lo (omega (arith, ints)) h w.from.le };
  below = record { le = second z d x.num x.den (10 ^ 18) hi e w.to.le };
}
  where
    first : (z d n : ℤ) (k w : ℕ) (lo : ℤ) → pos 0 ≤ℤ d → z ≤ℤ lo → (lo *ℤ pos k) ≤ℤ (n *ℤ pos w) → (z *ℤ pos (k * w)) ≤ℤ ((n *ℤ pos w +ℤ d *ℤ pos k) *ℤ pos w)
    first z d n k w lo hd h l =
        let a = le-mul_z z lo k h in
        let b = le-mul_z (pos 0) d k hd in
        let c : (z *ℤ pos k) ≤ℤ (n *ℤ pos w +ℤ d *ℤ pos k) = omega (arith, ints, a, b, l) in
        shape z (n *ℤ pos w +ℤ d *ℤ pos k) (pos k) (pos w) (le-mul_z _ _ w c)
      where
        shape : (z m k w : ℤ) → (z *ℤ k *ℤ w) ≤ℤ (m *ℤ w) → (z *ℤ (k *ℤ w)) ≤ℤ (m *ℤ w)
        shape z m k w h = rw (← mul_assoc_z z k w) h

    second : (z d n : ℤ) (k w : ℕ) (hi : ℤ) → d ≡ hi -ℤ z → (n *ℤ pos w) ≤ℤ (hi *ℤ pos k) → (n *ℤ pos (w * w)) ≤ℤ ((z *ℤ pos w +ℤ d *ℤ pos w) *ℤ pos k)
    second z d n k w hi e l =
        let i : z +ℤ d ≡ hi = omega (arith, ints) in
        shape n (z *ℤ pos w +ℤ d *ℤ pos w) hi (pos k) (pos w) (add z d hi (pos w) i) (le-mul_z _ _ w l)
      where
        add : (z d h w : ℤ) → z +ℤ d ≡ h → z *ℤ w +ℤ d *ℤ w ≡ h *ℤ w
        add z d h w e = sym (add-mul_z z d w) ∙ ap (λ y. y *ℤ w) e

        shape : (n m h k w : ℤ) → m ≡ h *ℤ w → (n *ℤ w *ℤ w) ≤ℤ (h *ℤ k *ℤ w) → (n *ℤ (w *ℤ w)) ≤ℤ (m *ℤ k)
        shape n m h k w e l = rw e (simp ring (simp ring at l))
