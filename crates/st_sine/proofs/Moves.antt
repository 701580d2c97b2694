-- What the bounds of the sine in the formula at one t have to do with those at another: M changes by M1 e, and E by
-- M1 e (1 + EB) and by the two gaps.
use Rattle.std.proofs.Common.{ℕ, ◌^◌, ◌<◌, ℤ, pos, neg_ℤ, ◌+ℤ◌, ◌*ℤ◌, ◌≤ℤ◌, arith, lit<, mul-pos}
use Rattle.st_fraction.specs.Fraction.{Fraction, IsFraction, ◌≤ᶠ◌, units, ◌+ᶠ◌, ◌-ᶠ◌, ◌*ᶠ◌, IsNear}
use Rattle.st_fraction.proofs.Ring.{ring, lin, le-mul_z, le-mul_nonneg}
use Rattle.st_fraction.proofs.Order.{le_f_refl, le_f_trans, le_f_add, le_f_mul, le_of_near}
use Rattle.st_fraction.proofs.Scale.{at_self}
use Rattle.st_fraction.proofs.Placed.{Placed, placed, plus, minus, product, finer, lowered, raised}
use Rattle.st_series.specs.Series.{IsLongEnough, sine_lower, sine_upper}
use Rattle.st_series.proofs.Sandwich.{sine_in_order, sine_lower-den, sine_upper-den}
use Rattle.st_sine.specs.Anomaly.{mean_anomaly, low_anomaly, anomaly_gap}
use Rattle.st_sine.specs.Laws.{anomaly_step, AnomalyLipschitz, AnomalyMoves}
use Rattle.st_sine.proofs.Carried.{near_turned, sine_carried_low}
use Rattle.st_sine.proofs.OneValue.{anomaly_narrows, dens}

-- two sines are no farther apart than their angles, by any two n
lower_carried : (x y h : Fraction) (n m : ℕ) → IsFraction x → IsFraction y → IsFraction h → IsNear x y h → IsLongEnough x n → IsLongEnough y m
    → sine_lower x n ≤ᶠ (sine_upper y m +ᶠ h)
lower_carried x y h n m px py ph near ln lm =
    sine_carried_low x y h (sine_lower x n) px py ph (sine_lower-den x n px.positive) near (record { at_each = λ k l. sine_in_order x n k px ln l }) m lm

-- t at most u + e, and M likewise
mean_half : (m0 m1 : ℤ) (t u e : Fraction) → pos 0 ≤ℤ m1 → IsFraction t → IsFraction u → IsFraction e → t ≤ᶠ (u +ᶠ e)
    → mean_anomaly m0 m1 t ≤ᶠ (mean_anomaly m0 m1 u +ᶠ e *ᶠ units m1)
mean_half m0 m1 t u e p pt pu pe h =
    let w : 0 < 10 ^ 18 = lit< tt in
    le_f_trans (units m0 +ᶠ t *ᶠ units m1) (units m0 +ᶠ (u +ᶠ e) *ᶠ units m1) ((units m0 +ᶠ u *ᶠ units m1) +ᶠ e *ᶠ units m1) (mul-pos w (mul-pos (mul-pos pu.positive pe.positive) w))
    (le_f_add (units m0) (units m0) (t *ᶠ units m1) ((u +ᶠ e) *ᶠ units m1) (le_f_refl (units m0)) (le_f_mul t (u +ᶠ e) (units m1) p h))
    (record { le = spread m0 m1 (pos (10 ^ 18)) u.num (pos u.den) e.num (pos e.den) })
  where
    spread : (a b w u p e q : ℤ) → ((a *ℤ (p *ℤ q *ℤ w) +ℤ ((u *ℤ q +ℤ e *ℤ p) *ℤ b) *ℤ w) *ℤ (w *ℤ (p *ℤ w) *ℤ (q *ℤ w)))
        ≤ℤ (((a *ℤ (p *ℤ w) +ℤ (u *ℤ b) *ℤ w) *ℤ (q *ℤ w) +ℤ (e *ℤ b) *ℤ (w *ℤ (p *ℤ w))) *ℤ (w *ℤ (p *ℤ q *ℤ w)))
    spread a b w u p e q = simp ring (omega (arith, lin))

-- x at most y + h, and each lower end at most the upper ends, raised by h where it is another's: E changes by no more
-- than the gaps, h and h EB.
gather : (x y h lx ux uy ly b : Fraction) → 0 < x.den → 0 < y.den → 0 < h.den → 0 < lx.den → 0 < ux.den → 0 < uy.den → 0 < ly.den → 0 < b.den → pos 0 ≤ℤ b.num
    → x ≤ᶠ (y +ᶠ h) → lx ≤ᶠ (uy +ᶠ h) → lx ≤ᶠ ux → (x +ᶠ lx *ᶠ b) ≤ᶠ ((y +ᶠ ly *ᶠ b) +ᶠ ((((ux -ᶠ lx) *ᶠ b +ᶠ (uy -ᶠ ly) *ᶠ b) +ᶠ h) +ᶠ h *ᶠ b))
gather x y h lx ux uy ly b px py ph plx pux puy ply pb nb near carried order =
    let z = placed x y h lx ux uy ly ly px py ph plx pux puy ply ply in
    let d : Placed b.den b b.num = record { den = pb; at = at_self b } in
    let one = lowered z.of_a (plus z.of_b z.of_c) near in
    let two = lowered z.of_d (plus z.of_f z.of_c) carried in
    let three = lowered z.of_d z.of_e order in
    raised (mul-pos z.some pb) (plus (finer b.den z.of_a) (product z.of_d d))
    (plus (plus (finer b.den z.of_b) (product z.of_g d)) (plus (plus (plus (product (minus z.of_e z.of_d) d) (product (minus z.of_f z.of_g) d)) (finer b.den z.of_c)) (product z.of_c d)))
    (go z.xa z.xb z.xc z.xd z.xe z.xf z.xg b.num b.den nb one two three)
  where
    sum : (x y h lx ux uy ly b w : ℤ) → (x *ℤ w) ≤ℤ ((y +ℤ h) *ℤ w) → (lx *ℤ b) ≤ℤ ((uy +ℤ h) *ℤ b) → (lx *ℤ b) ≤ℤ (ux *ℤ b)
        → (x *ℤ w +ℤ lx *ℤ b) ≤ℤ ((y *ℤ w +ℤ ly *ℤ b) +ℤ ((((ux +ℤ neg_ℤ lx) *ℤ b +ℤ (uy +ℤ neg_ℤ ly) *ℤ b) +ℤ h *ℤ w) +ℤ h *ℤ b))
    sum x y h lx ux uy ly b w one two three =
        simp ring (let i = simp ring at one in let j = simp ring at two in omega (arith, lin))

    go : (x y h lx ux uy ly b : ℤ) (w : ℕ) → pos 0 ≤ℤ b → x ≤ℤ (y +ℤ h) → lx ≤ℤ (uy +ℤ h) → lx ≤ℤ ux
        → (x *ℤ pos w +ℤ lx *ℤ b) ≤ℤ ((y *ℤ pos w +ℤ ly *ℤ b) +ℤ ((((ux +ℤ neg_ℤ lx) *ℤ b +ℤ (uy +ℤ neg_ℤ ly) *ℤ b) +ℤ h *ℤ pos w) +ℤ h *ℤ b))
    go x y h lx ux uy ly b w nb one two three =
        sum x y h lx ux uy ly b (pos w) (le-mul_z x (y +ℤ h) w one) (le-mul_nonneg lx (uy +ℤ h) b two nb) (le-mul_nonneg lx ux b three nb)

-- the same gaps in the other order
exchanged : (v z f g h k : Fraction) → 0 < v.den → 0 < z.den → 0 < f.den → 0 < g.den → 0 < h.den → 0 < k.den
    → v ≤ᶠ (z +ᶠ (((g +ᶠ f) +ᶠ h) +ᶠ k)) → v ≤ᶠ (z +ᶠ (((f +ᶠ g) +ᶠ h) +ᶠ k))
exchanged v z f g h k pv pz pf pg ph pk le =
    let p = placed v z f g h k k k pv pz pf pg ph pk pk pk in
    let i = lowered p.of_a (plus p.of_b (plus (plus (plus p.of_d p.of_c) p.of_e) p.of_f)) le in
    raised p.some p.of_a (plus p.of_b (plus (plus (plus p.of_c p.of_d) p.of_e) p.of_f)) (omega (arith, lin))

-- the gap of l goes to its side, and that of u stays
settle : (l u f g h k : Fraction) → 0 < l.den → 0 < u.den → 0 < f.den → 0 < g.den → 0 < h.den → 0 < k.den
    → l ≤ᶠ (u +ᶠ (((f +ᶠ g) +ᶠ h) +ᶠ k)) → (l -ᶠ f) ≤ᶠ ((u +ᶠ g) +ᶠ (h +ᶠ k))
settle l u f g h k pl pu pf pg ph pk le =
    let p = placed l u f g h k k k pl pu pf pg ph pk pk pk in
    let i = lowered p.of_a (plus p.of_b (plus (plus (plus p.of_c p.of_d) p.of_e) p.of_f)) le in
    raised p.some (minus p.of_a p.of_c) (plus (plus p.of_b p.of_d) (plus p.of_e p.of_f)) (omega (arith, lin))

pub anomaly_lipschitz : AnomalyLipschitz
unfolding low_anomaly anomaly_gap
anomaly_lipschitz eb m0 m1 t u e n m pb p1 pt pu pe near ft fu =
    let w : 0 < 10 ^ 18 = lit< tt in
    let x = mean_anomaly m0 m1 t in
    let y = mean_anomaly m0 m1 u in
    let h = e *ᶠ units m1 in
    let px : IsFraction x = record { positive = mul-pos w (mul-pos pt.positive w) } in
    let py : IsFraction y = record { positive = mul-pos w (mul-pos pu.positive w) } in
    let ph : IsFraction h = record { positive = mul-pos pe.positive w } in
    let means : IsNear x y h = record { above = mean_half m0 m1 t u e p1 pt pu pe near.above; below = mean_half m0 m1 u t e p1 pu pt pe near.below } in
    let plx = sine_lower-den x n px.positive in
    let pux = sine_upper-den x n px.positive in
    let ply = sine_lower-den y m py.positive in
    let puy = sine_upper-den y m py.positive in
    let z = low_anomaly eb m0 m1 t n in
    let v = low_anomaly eb m0 m1 u m in
    let f = anomaly_gap eb m0 m1 t n in
    let g = anomaly_gap eb m0 m1 u m in
    let k = h *ᶠ units eb in
    let pz : IsFraction z = record { positive = mul-pos px.positive (mul-pos plx w) } in
    let pv : IsFraction v = record { positive = mul-pos py.positive (mul-pos ply w) } in
    let pf : 0 < f.den = mul-pos (mul-pos pux plx) w in
    let pg : 0 < g.den = mul-pos (mul-pos puy ply) w in
    let pk : 0 < k.den = mul-pos ph.positive w in
    let forth = gather x y h (sine_lower x n) (sine_upper x n) (sine_upper y m) (sine_lower y m) (units eb) px.positive py.positive ph.positive plx pux puy ply w pb
    means.above (lower_carried x y h n m px py ph means ft.mean fu.mean) (sine_in_order x n n px ft.mean ft.mean) in
    let back = gather y x h (sine_lower y m) (sine_upper y m) (sine_upper x n) (sine_lower x n) (units eb) py.positive px.positive ph.positive ply puy pux plx w pb
    means.below (lower_carried y x h m n py px ph (near_turned x y h means) fu.mean ft.mean) (sine_in_order y m m py fu.mean fu.mean) in
    let all = ((f +ᶠ g) +ᶠ h) +ᶠ k in
    let pall : IsFraction all = record { positive = mul-pos (mul-pos (mul-pos pf pg) ph.positive) pk } in
    let close : IsNear z v all = record { above = forth; below = exchanged v z f g h k pv.positive pz.positive pf pg ph.positive pk back } in
    settle (sine_lower z n) (sine_upper v m) f g h k (sine_lower-den z n pz.positive) (sine_upper-den v m pv.positive) pf pg ph.positive pk
    (lower_carried z v all n m pz pv pall close ft.low fu.low)

-- at u by the bounds at t, which are at most d apart
onward : (a up low up' step d : Fraction) → 0 < a.den → 0 < up.den → 0 < low.den → 0 < up'.den → 0 < step.den → 0 < d.den
    → a ≤ᶠ up → up ≤ᶠ (low +ᶠ d) → low ≤ᶠ (up' +ᶠ step) → (a -ᶠ step) ≤ᶠ (up' +ᶠ d)
onward a up low up' step d pa pu pl pv ps pd one two three =
    let p = placed a up low up' step d d d pa pu pl pv ps pd pd pd in
    let i = lowered p.of_a p.of_b one in
    let j = lowered p.of_b (plus p.of_c p.of_f) two in
    let k = lowered p.of_c (plus p.of_d p.of_e) three in
    raised p.some (minus p.of_a p.of_e) (plus p.of_d p.of_f) (omega (arith, lin))

backward : (a up low low' step d : Fraction) → 0 < a.den → 0 < up.den → 0 < low.den → 0 < low'.den → 0 < step.den → 0 < d.den
    → low ≤ᶠ a → up ≤ᶠ (low +ᶠ d) → low' ≤ᶠ (up +ᶠ step) → low' ≤ᶠ ((a +ᶠ step) +ᶠ d)
backward a up low low' step d pa pu pl pv ps pd one two three =
    let p = placed a up low low' step d d d pa pu pl pv ps pd pd pd in
    let i = lowered p.of_c p.of_a one in
    let j = lowered p.of_b (plus p.of_c p.of_f) two in
    let k = lowered p.of_d (plus p.of_b p.of_e) three in
    raised p.some p.of_d (plus (plus p.of_a p.of_e) p.of_f) (omega (arith, lin))

-- What is known of the sine in the formula at t is known at u, up to the step.
pub anomaly_moves : AnomalyMoves
anomaly_moves eb m0 m1 t u e a pb p1 pt pu pe pa near =
    let w : 0 < 10 ^ 18 = lit< tt in
    let step = anomaly_step eb m1 e in
    let ps : 0 < step.den = mul-pos (mul-pos pe.positive w) (mul-pos (mul-pos pe.positive w) w) in (
      λ low. record {
        at_each = λ m fu.
            let up = sine_upper (low_anomaly eb m0 m1 u m) m +ᶠ anomaly_gap eb m0 m1 u m in
            let du = dens eb m0 m1 u m pu in
            le_of_near (a -ᶠ step) up (mul-pos pa.positive ps) du.0 (λ d pd some.
            let s = anomaly_narrows eb m0 m1 t d pb pt pd some in
            let n = s.0 in
            let f = s.1 n (omega arith) in
            let dt = dens eb m0 m1 t n pt in
            onward a (sine_upper (low_anomaly eb m0 m1 t n) n +ᶠ anomaly_gap eb m0 m1 t n) (sine_lower (low_anomaly eb m0 m1 t n) n -ᶠ anomaly_gap eb m0 m1 t n) up step d
            pa.positive dt.0 dt.1 du.0 ps pd.positive (low.at_each n f.0) f.1 (anomaly_lipschitz eb m0 m1 t u e n m pb p1 pt pu pe near f.0 fu));
      },
      λ high. record {
        at_each = λ m fu.
            let down = sine_lower (low_anomaly eb m0 m1 u m) m -ᶠ anomaly_gap eb m0 m1 u m in
            let du = dens eb m0 m1 u m pu in
            le_of_near down (a +ᶠ step) du.1 (mul-pos pa.positive ps) (λ d pd some.
            let s = anomaly_narrows eb m0 m1 t d pb pt pd some in
            let n = s.0 in
            let f = s.1 n (omega arith) in
            let dt = dens eb m0 m1 t n pt in
            backward a (sine_upper (low_anomaly eb m0 m1 t n) n +ᶠ anomaly_gap eb m0 m1 t n) (sine_lower (low_anomaly eb m0 m1 t n) n -ᶠ anomaly_gap eb m0 m1 t n) down step d
            pa.positive dt.0 dt.1 du.1 ps pd.positive (high.at_each n f.0) f.1 (anomaly_lipschitz eb m0 m1 u t e m n pb p1 pu pt pe (near_turned t u e near) fu f.0));
      },
    )
