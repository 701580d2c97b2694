-- What is known of TDB at t is known at u: the bounds move as u does, but for a slack that is a part in 10^9 of the way.
use Rattle.std.proofs.Common.{ℕ, ◌+◌, ◌*◌, ◌^◌, ◌≤◌, ◌<◌, ℤ, pos, ◌+ℤ◌, ◌*ℤ◌, ◌≤ℤ◌, arith, lit<, lit≤, mul-pos}
use Rattle.std.proofs.lemmas.Int.{ints}
use Rattle.st_fraction.specs.Fraction.{Fraction, IsFraction, ◌≤ᶠ◌, ◌<ᶠ◌, whole, units, ◌+ᶠ◌, ◌*ᶠ◌, IsNear}
use Rattle.st_fraction.proofs.Ring.{ring, lin, le-mul_nonneg}
use Rattle.st_fraction.proofs.Order.{le_of_near, le_of_lt_f}
use Rattle.st_fraction.proofs.Placed.{Placed, placed, plus, product, finer, number, lowered, raised}
use Rattle.st_sine.specs.Laws.{anomaly_step}
use Rattle.st_sine.proofs.Carried.{near_turned}
use Rattle.st_sine.proofs.OneValue.{anomaly_narrows, dens}
use Rattle.st_sine.proofs.Moves.{anomaly_lipschitz}
use Rattle.st_scales.specs.declared.deltet.Deltet.{Deltet}
use Rattle.st_scales.specs.Tdb.{Fits, sine_low, sine_high, tdb_low, tdb_high, TdbIsAtLeast, TdbIsAtMost}
use Rattle.st_scales.proofs.Step.{IsSlack, step_small, of_units}

pub sine_low-den : (c : Deltet) (t : Fraction) (n : ℕ) → IsFraction t → 0 < (sine_low c t n).den
unfolding sine_low
sine_low-den c t n pt = (dens c.orbit.eb c.orbit.m0 c.orbit.m1 t n pt).1

pub sine_high-den : (c : Deltet) (t : Fraction) (n : ℕ) → IsFraction t → 0 < (sine_high c t n).den
unfolding sine_high
sine_high-den c t n pt = (dens c.orbit.eb c.orbit.m0 c.orbit.m1 t n pt).0

-- some n fits, and its ends are no farther apart than d
pub sine_narrows : (c : Deltet) (t d : Fraction) → IsFraction t → IsFraction d → whole (pos 0) <ᶠ d → (n : ℕ) × (Fits c t n × (sine_high c t n ≤ᶠ (sine_low c t n +ᶠ d)))
unfolding sine_low sine_high
sine_narrows c t d pt pd some =
    let s = anomaly_narrows c.orbit.eb c.orbit.m0 c.orbit.m1 t d c.orbit.eb_low pt pd some in
    let f = s.1 s.0 (omega arith) in
    (s.0, (f.0, f.1))

pub sine_moves : (c : Deltet) (t u e : Fraction) (n m : ℕ) → IsFraction t → IsFraction u → IsFraction e → IsNear t u e → Fits c t n → Fits c u m
    → sine_low c t n ≤ᶠ (sine_high c u m +ᶠ anomaly_step c.orbit.eb c.orbit.m1 e)
unfolding sine_low sine_high
sine_moves c t u e n m pt pu pe near ft fu =
    anomaly_lipschitz c.orbit.eb c.orbit.m0 c.orbit.m1 t u e n m c.orbit.eb_low c.orbit.m1_low pt pu pe near ft fu

-- a distance isn't negative
pub near_some : (t u e : Fraction) → IsFraction t → IsFraction u → IsFraction e → IsNear t u e → whole (pos 0) ≤ᶠ e
near_some t u e pt pu pe near =
    let z = placed t u e e e e e e pt.positive pu.positive pe.positive pe.positive pe.positive pe.positive pe.positive pe.positive in
    let i = lowered z.of_a (plus z.of_b z.of_c) near.above in
    let j = lowered z.of_b (plus z.of_a z.of_c) near.below in
    raised z.some (number (pos 0) z.m) z.of_c (omega (arith, ints, i, j))

-- p is at most q, but for the step and d: K times p is at most K times q, but for the slack and d
scaled : (k : ℤ) (p q step s d : Fraction) → pos 0 ≤ℤ k → k ≤ℤ pos (2 * 10 ^ 15) → 0 < p.den → 0 < q.den → 0 < step.den → 0 < s.den → 0 < d.den
    → whole (pos 0) ≤ᶠ d → (step *ᶠ units k) ≤ᶠ s → p ≤ᶠ ((q +ᶠ step) +ᶠ d) → (p *ᶠ units k) ≤ᶠ ((q *ᶠ units k +ᶠ s) +ᶠ d)
scaled k p q step s d k0 kh pp pq pt ps pd some slack le =
    let w : 0 < 10 ^ 18 = lit< tt in
    let z = placed p q step s d d d d pp pq pt ps pd pd pd pd in
    let u = of_units k in
    let i = lowered z.of_a (plus (plus z.of_b z.of_c) z.of_e) le in
    let j = lowered (product z.of_c u) (finer (10 ^ 18) z.of_d) slack in
    let n = lowered (number (pos 0) z.m) z.of_e some in
    raised (mul-pos z.some w) (product z.of_a u) (plus (plus (product z.of_b u) (finer (10 ^ 18) z.of_d)) (finer (10 ^ 18) z.of_e))
    (go z.xa z.xb z.xc z.xd z.xe k (pos (10 ^ 18)) (le-mul_nonneg z.xa (z.xb +ℤ z.xc +ℤ z.xe) k i k0) j (le-mul_nonneg k (pos (10 ^ 18)) z.xe (omega (arith, ints)) (omega (arith, ints, n))))
  where
    go : (p q t s d k w : ℤ) → (p *ℤ k) ≤ℤ ((q +ℤ t +ℤ d) *ℤ k) → (t *ℤ k) ≤ℤ (s *ℤ w) → (k *ℤ d) ≤ℤ (w *ℤ d) → (p *ℤ k) ≤ℤ (q *ℤ k +ℤ s *ℤ w +ℤ d *ℤ w)
    go p q t s d k w one two three = simp ring (let i = simp ring at one in let l = simp ring at three in omega (arith, lin))

-- through a third
through : (a b c step d : Fraction) → 0 < a.den → 0 < b.den → 0 < c.den → 0 < step.den → 0 < d.den → a ≤ᶠ (b +ᶠ d) → b ≤ᶠ (c +ᶠ step) → a ≤ᶠ ((c +ᶠ step) +ᶠ d)
through a b c step d pa pb pc ps pd one two =
    let z = placed a b c step d d d d pa pb pc ps pd pd pd pd in
    let i = lowered z.of_a (plus z.of_b z.of_e) one in
    let j = lowered z.of_b (plus z.of_c z.of_d) two in
    raised z.some z.of_a (plus (plus z.of_c z.of_d) z.of_e) (omega (arith, lin, i, j))

through_back : (a b c step d : Fraction) → 0 < a.den → 0 < b.den → 0 < c.den → 0 < step.den → 0 < d.den → a ≤ᶠ (b +ᶠ step) → b ≤ᶠ (c +ᶠ d) → a ≤ᶠ ((c +ᶠ step) +ᶠ d)
through_back a b c step d pa pb pc ps pd one two =
    let z = placed a b c step d d d d pa pb pc ps pd pd pd pd in
    let i = lowered z.of_a (plus z.of_b z.of_d) one in
    let j = lowered z.of_b (plus z.of_c z.of_e) two in
    raised z.some z.of_a (plus (plus z.of_c z.of_d) z.of_e) (omega (arith, lin, i, j))

step-den : (c : Deltet) (e : Fraction) → IsFraction e → 0 < (anomaly_step c.orbit.eb c.orbit.m1 e).den
step-den c e pe = let w : 0 < 10 ^ 18 = lit< tt in mul-pos (mul-pos pe.positive w) (mul-pos (mul-pos pe.positive w) w)

small : (c : Deltet) (t u e s : Fraction) → IsFraction t → IsFraction u → IsFraction e → IsFraction s → IsNear t u e → IsSlack e s → (anomaly_step c.orbit.eb c.orbit.m1 e *ᶠ units c.k) ≤ᶠ s
small c t u e s pt pu pe ps near slack =
    step_small c.k c.orbit.eb c.orbit.m1 e s c.k_low c.k_high c.orbit.eb_low c.orbit.eb_high c.orbit.m1_low c.orbit.m1_high pe ps (near_some t u e pt pu pe near) slack

-- Transport. The new bound v is free: one linear inequality is asked of it.
pub tdb_moves_low : (c : Deltet) (t u e s a v : Fraction) → IsFraction t → IsFraction u → IsFraction e → IsFraction s → IsFraction a → IsFraction v
    → IsNear t u e → IsSlack e s → (v +ᶠ (t +ᶠ s)) ≤ᶠ (a +ᶠ u) → TdbIsAtLeast c t a → TdbIsAtLeast c u v
tdb_moves_low c t u e s a v pt pu pe ps pa pv near slack room low = record {
  at_each = λ m fu.
      let w : 0 < 10 ^ 18 = lit< tt in
      let hu = sine_high-den c u m pu in
      le_of_near v (tdb_high c u m) pv.positive (mul-pos pu.positive (mul-pos hu w)) (λ d pd some.
      let s' = sine_narrows c t d pt pd some in
      let n = s'.0 in
      let ht = sine_high-den c t n pt in
      let step = anomaly_step c.orbit.eb c.orbit.m1 e in
      let far = through (sine_high c t n) (sine_low c t n) (sine_high c u m) step d ht (sine_low-den c t n pt) hu (step-den c e pe) pd.positive s'.1.1
      (sine_moves c t u e n m pt pu pe near s'.1.0 fu) in
      let k = scaled c.k (sine_high c t n) (sine_high c u m) step s d c.k_low c.k_high ht hu (step-den c e pe) ps.positive pd.positive (le_of_lt_f (whole (pos 0)) d some)
      (small c t u e s pt pu pe ps near slack) far in
      join v t s a u (sine_high c t n *ᶠ units c.k) (sine_high c u m *ᶠ units c.k) d pv.positive pt.positive ps.positive pa.positive pu.positive (mul-pos ht w) (mul-pos hu w) pd.positive
      room (low.at_each n s'.1.0) k);
}
  where
    join : (v t s a u p q d : Fraction) → 0 < v.den → 0 < t.den → 0 < s.den → 0 < a.den → 0 < u.den → 0 < p.den → 0 < q.den → 0 < d.den
        → (v +ᶠ (t +ᶠ s)) ≤ᶠ (a +ᶠ u) → a ≤ᶠ (t +ᶠ p) → p ≤ᶠ ((q +ᶠ s) +ᶠ d) → v ≤ᶠ ((u +ᶠ q) +ᶠ d)
    join v t s a u p q d pv pt ps pa pu pp pq pd one two three =
        let z = placed v t s a u p q d pv pt ps pa pu pp pq pd in
        let i = lowered (plus z.of_a (plus z.of_b z.of_c)) (plus z.of_d z.of_e) one in
        let j = lowered z.of_d (plus z.of_b z.of_f) two in
        let k = lowered z.of_f (plus (plus z.of_g z.of_c) z.of_h) three in
        raised z.some z.of_a (plus (plus z.of_e z.of_g) z.of_h) (omega (arith, lin, i, j, k))

pub tdb_moves_high : (c : Deltet) (t u e s b v : Fraction) → IsFraction t → IsFraction u → IsFraction e → IsFraction s → IsFraction b → IsFraction v
    → IsNear t u e → IsSlack e s → (b +ᶠ (u +ᶠ s)) ≤ᶠ (v +ᶠ t) → TdbIsAtMost c t b → TdbIsAtMost c u v
tdb_moves_high c t u e s b v pt pu pe ps pb pv near slack room high = record {
  at_each = λ m fu.
      let w : 0 < 10 ^ 18 = lit< tt in
      let lu = sine_low-den c u m pu in
      le_of_near (tdb_low c u m) v (mul-pos pu.positive (mul-pos lu w)) pv.positive (λ d pd some.
      let s' = sine_narrows c t d pt pd some in
      let n = s'.0 in
      let lt = sine_low-den c t n pt in
      let step = anomaly_step c.orbit.eb c.orbit.m1 e in
      let far = through_back (sine_low c u m) (sine_high c t n) (sine_low c t n) step d lu (sine_high-den c t n pt) lt (step-den c e pe) pd.positive
      (sine_moves c u t e m n pu pt pe (near_turned t u e near) fu s'.1.0) s'.1.1 in
      let k = scaled c.k (sine_low c u m) (sine_low c t n) step s d c.k_low c.k_high lu lt (step-den c e pe) ps.positive pd.positive (le_of_lt_f (whole (pos 0)) d some)
      (small c t u e s pt pu pe ps near slack) far in
      join b u s v t (sine_low c t n *ᶠ units c.k) (sine_low c u m *ᶠ units c.k) d pb.positive pu.positive ps.positive pv.positive pt.positive (mul-pos lt w) (mul-pos lu w) pd.positive
      room (high.at_each n s'.1.0) k);
}
  where
    join : (b u s v t p q d : Fraction) → 0 < b.den → 0 < u.den → 0 < s.den → 0 < v.den → 0 < t.den → 0 < p.den → 0 < q.den → 0 < d.den
        → (b +ᶠ (u +ᶠ s)) ≤ᶠ (v +ᶠ t) → (t +ᶠ p) ≤ᶠ b → q ≤ᶠ ((p +ᶠ s) +ᶠ d) → (u +ᶠ q) ≤ᶠ (v +ᶠ d)
    join b u s v t p q d pb pu ps pv pt pp pq pd one two three =
        let z = placed b u s v t p q d pb pu ps pv pt pp pq pd in
        let i = lowered (plus z.of_a (plus z.of_b z.of_c)) (plus z.of_d z.of_e) one in
        let j = lowered (plus z.of_e z.of_f) z.of_a two in
        let k = lowered z.of_g (plus (plus z.of_f z.of_c) z.of_h) three in
        raised z.some (plus z.of_b z.of_g) (plus z.of_d z.of_h) (omega (arith, lin, i, j, k))
