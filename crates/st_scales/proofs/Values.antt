-- TDB of a TT value and TT of a TDB value: each has one value, which rises and is near.
use Rattle.std.proofs.Common.{◌≡◌, ℕ, ◌+◌, ◌*◌, ◌^◌, ◌≤◌, ◌<◌, ℤ, pos, negsuc, neg_ℤ, ◌+ℤ◌, ◌*ℤ◌, ◌≤ℤ◌, arith, lit<, mul-pos}
use Rattle.std.proofs.lemmas.Int.{ints}
use Rattle.st_fraction.specs.Fraction.{Fraction, IsFraction, ◌≤ᶠ◌, ◌<ᶠ◌, over, whole, units, ◌+ᶠ◌, ◌-ᶠ◌, ◌*ᶠ◌, IsNear}
use Rattle.st_fraction.proofs.Ring.{ring, numerals, lin, le-mul_nonneg}
use Rattle.st_fraction.proofs.Order.{le_f_refl, le_f_trans, le_f_add, le_f_mul, le_f_cases, le_of_near, le_of_lt_f}
use Rattle.st_fraction.proofs.Scale.{at_self}
use Rattle.st_fraction.proofs.Placed.{Placed, ArePlaced, placed, plus, minus, product, finer, number, times, lowered, raised}
use Rattle.st_series.specs.Series.{sine_lower, sine_upper}
use Rattle.st_series.proofs.Sandwich.{sine_in_order, sine_lower-den, sine_upper-den}
use Rattle.st_series.proofs.BoundByOne.{sine_bound}
use Rattle.st_sine.specs.Anomaly.{mean_anomaly, low_anomaly, anomaly_gap}
use Rattle.st_sine.specs.Laws.{anomaly_step}
use Rattle.st_scales.specs.declared.deltet.Deltet.{Deltet}
use Rattle.st_scales.specs.Tdb.{Fits, sine_low, sine_high, tdb_low, tdb_high, TdbIsAtLeast, TdbIsAtMost}
use Rattle.st_scales.proofs.Step.{IsSlack, of_units}
use Rattle.st_scales.proofs.Moves.{sine_low-den, sine_high-den, sine_narrows, sine_moves, tdb_moves_low, tdb_moves_high}

-- up to three fractions at one scale
pub three : (a b c : Fraction) → 0 < a.den → 0 < b.den → 0 < c.den → ArePlaced a b c c c c c c
three a b c pa pb pc = placed a b c c c c c c pa pb pc pc pc pc pc pc

pub five : (a b c d e : Fraction) → 0 < a.den → 0 < b.den → 0 < c.den → 0 < d.den → 0 < e.den → ArePlaced a b c d e e e e
five a b c d e pa pb pc pd pe = placed a b c d e e e e pa pb pc pd pe pe pe pe

pub tdb_low-den : (c : Deltet) (t : Fraction) (n : ℕ) → IsFraction t → 0 < (tdb_low c t n).den
tdb_low-den c t n pt = let w : 0 < 10 ^ 18 = lit< tt in mul-pos pt.positive (mul-pos (sine_low-den c t n pt) w)

pub tdb_high-den : (c : Deltet) (t : Fraction) (n : ℕ) → IsFraction t → 0 < (tdb_high c t n).den
tdb_high-den c t n pt = let w : 0 < 10 ^ 18 = lit< tt in mul-pos pt.positive (mul-pos (sine_high-den c t n pt) w)

-- no lower end is above an upper end
at_rest : (t : Fraction) → IsFraction t → IsNear t t (whole (pos 0))
at_rest t pt =
    let z = three t t t pt.positive pt.positive pt.positive in
    let i = raised z.some z.of_a (plus z.of_a (number (pos 0) z.m)) (omega (arith, ints)) in
    record { above = i; below = i }

without_step : (a b : Fraction) (eb m1 : ℤ) → 0 < a.den → 0 < b.den → a ≤ᶠ (b +ᶠ anomaly_step eb m1 (whole (pos 0))) → a ≤ᶠ b
without_step a b eb m1 pa pb h =
    let w : 0 < 10 ^ 18 = lit< tt in
    let z = three a b b pa pb pb in
    let p = product (number (pos 0) z.m) (of_units m1) in
    let i = lowered (finer (10 ^ 18) (finer (10 ^ 18) z.of_a)) (plus (finer (10 ^ 18) (finer (10 ^ 18) z.of_b)) (plus (finer (10 ^ 18) p) (product p (of_units eb)))) h in
    raised (mul-pos (mul-pos z.some w) w) (finer (10 ^ 18) (finer (10 ^ 18) z.of_a)) (finer (10 ^ 18) (finer (10 ^ 18) z.of_b)) (go (z.xa *ℤ pos (10 ^ 18) *ℤ pos (10 ^ 18)) (z.xb *ℤ pos (10 ^ 18) *ℤ pos (10 ^ 18)) z.m m1 eb i)
  where
    go : (a b : ℤ) (m : ℕ) (p q : ℤ) → a ≤ℤ (b +ℤ (pos 0 *ℤ pos m *ℤ p *ℤ pos (10 ^ 18) +ℤ pos 0 *ℤ pos m *ℤ p *ℤ q)) → a ≤ℤ b
    go a b m p q h = let i = simp (numerals, ring) at h in omega (arith, ints, i)

sines_in_order : (c : Deltet) (t : Fraction) (n m : ℕ) → IsFraction t → Fits c t n → Fits c t m → sine_low c t n ≤ᶠ sine_high c t m
sines_in_order c t n m pt fn fm =
    without_step (sine_low c t n) (sine_high c t m) c.orbit.eb c.orbit.m1 (sine_low-den c t n pt) (sine_high-den c t m pt)
    (sine_moves c t t (whole (pos 0)) n m pt pt (record { positive = lit< tt }) (at_rest t pt) fn fm)

pub tdb_in_order : (c : Deltet) (t : Fraction) (n m : ℕ) → IsFraction t → Fits c t n → Fits c t m → tdb_low c t n ≤ᶠ tdb_high c t m
tdb_in_order c t n m pt fn fm =
    le_f_add t t (sine_low c t n *ᶠ units c.k) (sine_high c t m *ᶠ units c.k) (le_f_refl t)
    (le_f_mul (sine_low c t n) (sine_high c t m) (units c.k) c.k_low (sines_in_order c t n m pt fn fm))

-- so each end is a bound of TDB
pub low_end : (c : Deltet) (t : Fraction) (n : ℕ) → IsFraction t → Fits c t n → TdbIsAtLeast c t (tdb_low c t n)
low_end c t n pt f = record { at_each = λ m fm. tdb_in_order c t n m pt f fm }

pub high_end : (c : Deltet) (t : Fraction) (n : ℕ) → IsFraction t → Fits c t n → TdbIsAtMost c t (tdb_high c t n)
high_end c t n pt f = record { at_each = λ m fm. tdb_in_order c t m n pt fm f }

-- and some two are no farther apart than d
pub tdb_narrows : (c : Deltet) (t d : Fraction) → IsFraction t → IsFraction d → whole (pos 0) <ᶠ d → (n : ℕ) × (Fits c t n × (tdb_high c t n ≤ᶠ (tdb_low c t n +ᶠ d)))
tdb_narrows c t d pt pd some =
    let s = sine_narrows c t d pt pd some in (
      s.0,
      (
        s.1.0,
        go t (sine_high c t s.0) (sine_low c t s.0) d c.k pt.positive (sine_high-den c t s.0 pt) (sine_low-den c t s.0 pt) pd.positive c.k_low c.k_high
            (le_of_lt_f (whole (pos 0)) d some) s.1.1,
      ),
    )
  where
    join : (t h l d k w : ℤ) → (h *ℤ k) ≤ℤ ((l +ℤ d) *ℤ k) → (k *ℤ d) ≤ℤ (w *ℤ d) → (t *ℤ w +ℤ h *ℤ k) ≤ℤ (t *ℤ w +ℤ l *ℤ k +ℤ d *ℤ w)
    join t h l d k w one two = simp ring (let i = simp ring at one in let j = simp ring at two in omega (arith, lin))

    go : (t h l d : Fraction) (k : ℤ) → 0 < t.den → 0 < h.den → 0 < l.den → 0 < d.den → pos 0 ≤ℤ k → k ≤ℤ pos (2 * 10 ^ 15) → whole (pos 0) ≤ᶠ d → h ≤ᶠ (l +ᶠ d)
        → (t +ᶠ h *ᶠ units k) ≤ᶠ ((t +ᶠ l *ᶠ units k) +ᶠ d)
    go t h l d k pt ph pl pd k0 kh some le =
        let w : 0 < 10 ^ 18 = lit< tt in
        let z = five t h l d d pt ph pl pd pd in
        let u = of_units k in
        let i = lowered z.of_b (plus z.of_c z.of_d) le in
        let j = lowered (number (pos 0) z.m) z.of_d some in
        raised (mul-pos z.some w) (plus (finer (10 ^ 18) z.of_a) (product z.of_b u)) (plus (plus (finer (10 ^ 18) z.of_a) (product z.of_c u)) (finer (10 ^ 18) z.of_d))
        (join z.xa z.xb z.xc z.xd k (pos (10 ^ 18)) (le-mul_nonneg z.xb (z.xc +ℤ z.xd) k i k0) (le-mul_nonneg k (pos (10 ^ 18)) z.xd (omega (arith, ints)) (omega (arith, ints, j))))

pub tdb_agrees : (c : Deltet) (t a b : Fraction) → IsFraction t → IsFraction a → IsFraction b → TdbIsAtLeast c t a → TdbIsAtMost c t b → a ≤ᶠ b
tdb_agrees c t a b pt pa pb low high = le_of_near a b pa.positive pb.positive (λ d pd some.
    let s = tdb_narrows c t d pt pd some in
    let n = s.0 in
    let pl = tdb_low-den c t n pt in
    le_f_trans a (tdb_high c t n) (b +ᶠ d) (tdb_high-den c t n pt) (low.at_each n s.1.0)
    (le_f_trans (tdb_high c t n) (tdb_low c t n +ᶠ d) (b +ᶠ d) (mul-pos pl pd.positive) s.1.1 (le_f_add (tdb_low c t n) b d d (high.at_each n s.1.0) (le_f_refl d))))

-- bounds may be loosened
pub tdb_loosens_low : (c : Deltet) (t a b : Fraction) → IsFraction b → a ≤ᶠ b → TdbIsAtLeast c t b → TdbIsAtLeast c t a
tdb_loosens_low c t a b pb h low = record { at_each = λ n f. le_f_trans a b (tdb_high c t n) pb.positive h (low.at_each n f) }

pub tdb_loosens_high : (c : Deltet) (t a b : Fraction) → IsFraction a → a ≤ᶠ b → TdbIsAtMost c t a → TdbIsAtMost c t b
tdb_loosens_high c t a b pa h high = record { at_each = λ n f. le_f_trans (tdb_low c t n) a b pa.positive (high.at_each n f) h }

-- TDB rises.
far_enough : (e : Fraction) → IsFraction e → whole (pos 0) ≤ᶠ e → IsSlack e e
far_enough e pe some =
    let z = three e e e pe.positive pe.positive pe.positive in
    let i = lowered (number (pos 0) z.m) z.of_a some in
    record { enough = raised z.some z.of_a (times (pos (10 ^ 9)) z.of_a) (omega (arith, ints, i)) }

pub record IsWay (t u e : Fraction) : Type 0 where
  pub near : IsNear t u e
  pub some : whole (pos 0) ≤ᶠ e

pub way : (t u : Fraction) → IsFraction t → IsFraction u → t ≤ᶠ u → IsWay t u (u -ᶠ t)
way t u pt pu h =
    let z = three t u u pt.positive pu.positive pu.positive in
    let i = lowered z.of_a z.of_b h in
    record {
      near = record {
        above = raised z.some z.of_a (plus z.of_b (minus z.of_b z.of_a)) (omega (arith, lin, i));
        below = raised z.some z.of_b (plus z.of_a (minus z.of_b z.of_a)) (omega (arith, lin));
      };
      some = raised z.some (number (pos 0) z.m) (minus z.of_b z.of_a) (omega (arith, ints, i));
    }

pub tdb_rises_low : (c : Deltet) (t u a : Fraction) → IsFraction t → IsFraction u → IsFraction a → t ≤ᶠ u → TdbIsAtLeast c t a → TdbIsAtLeast c u a
tdb_rises_low c t u a pt pu pa h low =
    let e = u -ᶠ t in
    let pe : IsFraction e = record { positive = mul-pos pu.positive pt.positive } in
    let k = way t u pt pu h in
    let z = three t u a pt.positive pu.positive pa.positive in
    tdb_moves_low c t u e e a a pt pu pe pe pa pa k.near (far_enough e pe k.some)
    (raised z.some (plus z.of_c (plus z.of_a (minus z.of_b z.of_a))) (plus z.of_c z.of_b) (omega (arith, lin))) low

pub tdb_rises_high : (c : Deltet) (t u b : Fraction) → IsFraction t → IsFraction u → IsFraction b → t ≤ᶠ u → TdbIsAtMost c u b → TdbIsAtMost c t b
tdb_rises_high c t u b pt pu pb h high =
    let e = u -ᶠ t in
    let pe : IsFraction e = record { positive = mul-pos pu.positive pt.positive } in
    let k = way t u pt pu h in
    let z = three t u b pt.positive pu.positive pb.positive in
    tdb_moves_high c u t e e b b pu pt pe pe pb pb (record { above = k.near.below; below = k.near.above }) (far_enough e pe k.some)
    (raised z.some (plus z.of_c (plus z.of_a (minus z.of_b z.of_a))) (plus z.of_c z.of_b) (omega (arith, lin))) high

-- It rises strictly, so TT of a TDB value is one.
unfoldable pub half : Fraction → Fraction
half e = e *ᶠ over (pos 1) 2

pub half-den : (e : Fraction) → IsFraction e → IsFraction (half e)
unfolding half
half-den e pe = record { positive = mul-pos pe.positive (lit< tt) }

pub of_half : {m : ℕ} {e : Fraction} {x : ℤ} → Placed m e x → Placed (m * 2) (half e) (x *ℤ pos 1)
unfolding half
of_half {m} {e} {x} h = product h (record { den = lit< tt; at = at_self (over (pos 1) 2) })

-- two halves
pub half_twice : (p : Fraction) → IsFraction p → ((half p +ᶠ half p) ≤ᶠ p) × (p ≤ᶠ (half p +ᶠ half p))
half_twice p pp =
    let z = three p p p pp.positive pp.positive pp.positive in
    let two : 0 < z.m * 2 = mul-pos z.some (lit< tt) in
    let o = finer 2 z.of_a in
    let h = of_half z.of_a in
    (raised two (plus h h) o (omega (arith, ints)), raised two o (plus h h) (omega (arith, ints)))

pub half_enough : (e : Fraction) → IsFraction e → whole (pos 0) ≤ᶠ e → IsSlack e (half e)
half_enough e pe some =
    let z = three e e e pe.positive pe.positive pe.positive in
    let i = lowered (number (pos 0) z.m) z.of_a some in
    record { enough = raised (mul-pos z.some (lit< tt)) (finer 2 z.of_a) (times (pos (10 ^ 9)) (of_half z.of_a)) (go z.xa z.m i) }
  where
    go : (x : ℤ) (m : ℕ) → (pos 0 *ℤ pos m) ≤ℤ x → (x *ℤ pos 2) ≤ℤ (pos (10 ^ 9) *ℤ (x *ℤ pos 1))
    go (pos n) m h = omega (arith, ints)
    go (negsuc n) m h = absurd (omega (arith, ints))

pub tt_agrees : (c : Deltet) (d a b : Fraction) → IsFraction d → IsFraction a → IsFraction b → TdbIsAtMost c a d → TdbIsAtLeast c b d → a ≤ᶠ b
tt_agrees c d a b pd pa pb high low = le_f_cases a b (λ h. h) (λ (h : b <ᶠ a).
    let e = a -ᶠ b in
    let pe : IsFraction e = record { positive = mul-pos pa.positive pb.positive } in
    let k = way b a pb pa (le_of_lt_f b a h) in
    let s = half e in
    let ps = half-den e pe in
    let v = d +ᶠ s in
    let pv : IsFraction v = record { positive = mul-pos pd.positive ps.positive } in
    let z = three a b d pa.positive pb.positive pd.positive in
    let two : 0 < z.m * 2 = mul-pos z.some (lit< tt) in
    let oa = finer 2 z.of_a in
    let ob = finer 2 z.of_b in
    let od = finer 2 z.of_c in
    let os = of_half (minus z.of_a z.of_b) in
    let far = tdb_moves_low c b a e s d v pb pa pe ps pd pv k.near (half_enough e pe k.some)
    (raised two (plus (plus od os) (plus ob os)) (plus od oa) (omega (arith, ints))) low in
    let i = lowered (plus od os) od (tdb_agrees c a v d pa pv pd far high) in
    raised two oa ob (omega (arith, ints, i)))

-- TDB lies within a second of TT.
sine_high_bound : (c : Deltet) (t : Fraction) (n : ℕ) → IsFraction t → Fits c t n → whole (negsuc 0) ≤ᶠ sine_high c t n
unfolding sine_high low_anomaly anomaly_gap
sine_high_bound c t n pt f =
    let w : 0 < 10 ^ 18 = lit< tt in
    let x = mean_anomaly c.orbit.m0 c.orbit.m1 t in
    let px : IsFraction x = record { positive = mul-pos w (mul-pos pt.positive w) } in
    let pl = sine_lower-den x n px.positive in
    let pu = sine_upper-den x n px.positive in
    let y = low_anomaly c.orbit.eb c.orbit.m0 c.orbit.m1 t n in
    let py : IsFraction y = record { positive = mul-pos px.positive (mul-pos pl w) } in
    let z = three (sine_upper y n) (sine_upper x n) (sine_lower x n) (sine_upper-den y n py.positive) pu pl in
    let i = lowered (number (negsuc 0) z.m) z.of_a ((sine_bound y n py f.low).1) in
    let j = lowered z.of_c z.of_b (sine_in_order x n n px f.mean f.mean) in
    raised (mul-pos z.some w) (finer (10 ^ 18) (number (negsuc 0) z.m)) (plus (finer (10 ^ 18) z.of_a) (product (minus z.of_b z.of_c) (of_units c.orbit.eb)))
    (go z.xa z.xb z.xc z.m c.orbit.eb (pos (10 ^ 18)) (le-mul_nonneg (negsuc 0 *ℤ pos z.m) z.xa (pos (10 ^ 18)) i (omega (arith, ints))) (le-mul_nonneg z.xc z.xb c.orbit.eb j c.orbit.eb_low))
  where
    go : (s u l : ℤ) (m : ℕ) (e w : ℤ) → (negsuc 0 *ℤ pos m *ℤ w) ≤ℤ (s *ℤ w) → (l *ℤ e) ≤ℤ (u *ℤ e) → (negsuc 0 *ℤ pos m *ℤ w) ≤ℤ (s *ℤ w +ℤ (u +ℤ neg_ℤ l) *ℤ e)
    go s u l m e w one two = simp ring (let i = simp ring at one in omega (arith, lin))

sine_low_bound : (c : Deltet) (t : Fraction) (n : ℕ) → IsFraction t → Fits c t n → sine_low c t n ≤ᶠ whole (pos 1)
unfolding sine_low low_anomaly anomaly_gap
sine_low_bound c t n pt f =
    let w : 0 < 10 ^ 18 = lit< tt in
    let x = mean_anomaly c.orbit.m0 c.orbit.m1 t in
    let px : IsFraction x = record { positive = mul-pos w (mul-pos pt.positive w) } in
    let pl = sine_lower-den x n px.positive in
    let pu = sine_upper-den x n px.positive in
    let y = low_anomaly c.orbit.eb c.orbit.m0 c.orbit.m1 t n in
    let py : IsFraction y = record { positive = mul-pos px.positive (mul-pos pl w) } in
    let z = three (sine_lower y n) (sine_upper x n) (sine_lower x n) (sine_lower-den y n py.positive) pu pl in
    let i = lowered z.of_a (number (pos 1) z.m) ((sine_bound y n py f.low).0) in
    let j = lowered z.of_c z.of_b (sine_in_order x n n px f.mean f.mean) in
    raised (mul-pos z.some w) (minus (finer (10 ^ 18) z.of_a) (product (minus z.of_b z.of_c) (of_units c.orbit.eb))) (finer (10 ^ 18) (number (pos 1) z.m))
    (go z.xa z.xb z.xc (pos 1 *ℤ pos z.m) c.orbit.eb (pos (10 ^ 18)) (le-mul_nonneg z.xa (pos 1 *ℤ pos z.m) (pos (10 ^ 18)) i (omega (arith, ints))) (le-mul_nonneg z.xc z.xb c.orbit.eb j c.orbit.eb_low))
  where
    go : (s u l m e w : ℤ) → (s *ℤ w) ≤ℤ (m *ℤ w) → (l *ℤ e) ≤ℤ (u *ℤ e) → (s *ℤ w +ℤ neg_ℤ ((u +ℤ neg_ℤ l) *ℤ e)) ≤ℤ (m *ℤ w)
    go s u l m e w one two = simp ring (omega (arith, lin))

pub tdb_near : (c : Deltet) (t : Fraction) → IsFraction t → TdbIsAtLeast c t (t -ᶠ whole (pos 1)) × TdbIsAtMost c t (t +ᶠ whole (pos 1))
tdb_near c t pt = (
  record { at_each = λ n f. low t (sine_high c t n) c.k pt.positive (sine_high-den c t n pt) c.k_low c.k_high (sine_high_bound c t n pt f) },
  record { at_each = λ n f. high t (sine_low c t n) c.k pt.positive (sine_low-den c t n pt) c.k_low c.k_high (sine_low_bound c t n pt f) },
)
  where
    low : (t s : Fraction) (k : ℤ) → 0 < t.den → 0 < s.den → pos 0 ≤ℤ k → k ≤ℤ pos (2 * 10 ^ 15) → whole (negsuc 0) ≤ᶠ s → (t -ᶠ whole (pos 1)) ≤ᶠ (t +ᶠ s *ᶠ units k)
    low t s k pt ps k0 kh h =
        let w : 0 < 10 ^ 18 = lit< tt in
        let z = three t s s pt ps ps in
        let i = lowered (number (negsuc 0) z.m) z.of_b h in
        raised (mul-pos z.some w) (finer (10 ^ 18) (minus z.of_a (number (pos 1) z.m))) (plus (finer (10 ^ 18) z.of_a) (product z.of_b (of_units k)))
        (go z.xa z.xb z.m k (pos (10 ^ 18)) (le-mul_nonneg (negsuc 0 *ℤ pos z.m) z.xb k i k0) (le-mul_nonneg k (pos (10 ^ 18)) (pos z.m) (omega (arith, ints)) (omega (arith, ints))))
      where
        go : (t s : ℤ) (m : ℕ) (k w : ℤ) → (negsuc 0 *ℤ pos m *ℤ k) ≤ℤ (s *ℤ k) → (k *ℤ pos m) ≤ℤ (w *ℤ pos m) → ((t +ℤ neg_ℤ (pos 1 *ℤ pos m)) *ℤ w) ≤ℤ (t *ℤ w +ℤ s *ℤ k)
        go t s m k w one two = shape t s (pos m) k w (omega (arith, ints)) one two
          where
            shape : (t s m k w : ℤ) → negsuc 0 *ℤ m ≡ neg_ℤ m → (negsuc 0 *ℤ m *ℤ k) ≤ℤ (s *ℤ k) → (k *ℤ m) ≤ℤ (w *ℤ m) → ((t +ℤ neg_ℤ (pos 1 *ℤ m)) *ℤ w) ≤ℤ (t *ℤ w +ℤ s *ℤ k)
            shape t s m k w e one two =
                let o : (neg_ℤ m *ℤ k) ≤ℤ (s *ℤ k) = rw e at one in
                simp (numerals, ring) (let i = simp ring at o in let j = simp ring at two in omega (arith, lin))

    high : (t s : Fraction) (k : ℤ) → 0 < t.den → 0 < s.den → pos 0 ≤ℤ k → k ≤ℤ pos (2 * 10 ^ 15) → s ≤ᶠ whole (pos 1) → (t +ᶠ s *ᶠ units k) ≤ᶠ (t +ᶠ whole (pos 1))
    high t s k pt ps k0 kh h =
        let w : 0 < 10 ^ 18 = lit< tt in
        let z = three t s s pt ps ps in
        let i = lowered z.of_b (number (pos 1) z.m) h in
        raised (mul-pos z.some w) (plus (finer (10 ^ 18) z.of_a) (product z.of_b (of_units k))) (finer (10 ^ 18) (plus z.of_a (number (pos 1) z.m)))
        (go z.xa z.xb (pos z.m) k (pos (10 ^ 18)) (le-mul_nonneg z.xb (pos 1 *ℤ pos z.m) k i k0) (le-mul_nonneg k (pos (10 ^ 18)) (pos z.m) (omega (arith, ints)) (omega (arith, ints))))
      where
        go : (t s m k w : ℤ) → (s *ℤ k) ≤ℤ (pos 1 *ℤ m *ℤ k) → (k *ℤ m) ≤ℤ (w *ℤ m) → (t *ℤ w +ℤ s *ℤ k) ≤ℤ ((t +ℤ pos 1 *ℤ m) *ℤ w)
        go t s m k w one two = simp (numerals, ring) (let i = simp numerals at one in let j = simp ring at two in omega (arith, lin))
