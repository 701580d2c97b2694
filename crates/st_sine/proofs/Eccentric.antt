-- From the sine of M to the sine in the formula.
use Rattle.std.proofs.Common.{◌≡◌, ℕ, ◌*◌, ◌^◌, ◌<◌, ℤ, pos, neg_ℤ, ◌+ℤ◌, ◌*ℤ◌, ◌≤ℤ◌, refl, arith, lit<, mul-pos}
use Rattle.st_fraction.specs.Fraction.{Fraction, IsFraction, ◌≤ᶠ◌, ◌<ᶠ◌, units, ◌+ᶠ◌, ◌-ᶠ◌, ◌*ᶠ◌, LiesWithin, IsNear}
use Rattle.st_fraction.proofs.Ring.{ring, lin, le-mul_z, le-mul_nonneg}
use Rattle.st_fraction.proofs.Order.{le_f_refl, le_f_trans, le_f_cases, le_f_move_back, le_of_lt_f}
use Rattle.st_fraction.proofs.Scale.{at_self, at_more, at_add, at_sub, at_mul, le_at, at_le}
use Rattle.st_series.specs.Series.{sine_sum, IsLongEnough, sine_lower, sine_upper}
use Rattle.st_series.specs.Enclosed.{HasSine}
use Rattle.st_series.proofs.Sandwich.{sine_own, sine_lower-den, sine_upper-den}
use Rattle.st_series.proofs.Terms.{sine_sum-den}
use Rattle.st_sine.specs.Anomaly.{mean_anomaly, low_anomaly, anomaly_gap, HasAnomalySine}
use Rattle.st_fraction.proofs.Linear.{at_factor}
use Rattle.st_sine.proofs.Carried.{sine_carried_low, sine_carried_high}

-- s between l and u: m + s b is at most (u - l) b from m + l b.
near_by_gap : (m l u s : Fraction) (b : ℤ) → 0 < m.den → 0 < l.den → 0 < u.den → 0 < s.den → pos 0 ≤ℤ b → l ≤ᶠ s → s ≤ᶠ u
    → IsNear (m +ᶠ s *ᶠ units b) (m +ᶠ l *ᶠ units b) ((u -ᶠ l) *ᶠ units b)
near_by_gap m l u s b pm pl pu ps pb ls su =
    let w = 10 ^ 18 in
    let k = m.den * (l.den * (u.den * s.den)) in
    let some = mul-pos (mul-pos pm (mul-pos pl (mul-pos pu ps))) (let i : 0 < 10 ^ 18 = lit< tt in i) in
    let ma = at_factor m (l.den * (u.den * s.den)) k refl in
    let la = at_factor l (m.den * (u.den * s.den)) k (omega arith) in
    let ua = at_factor u (m.den * (l.den * s.den)) k (omega arith) in
    let sa = at_factor s (m.den * (l.den * u.den)) k (omega arith) in
    let mw = at_more k w m _ ma in
    let lb = at_mul k w l (units b) _ b la (at_self (units b)) in
    let sb = at_mul k w s (units b) _ b sa (at_self (units b)) in
    let gap = at_mul k w (u -ᶠ l) (units b) _ b (at_sub k u l _ _ ua la) (at_self (units b)) in
    let x = at_le k l s _ _ pl ps la sa ls in
    let y = at_le k s u _ _ ps pu sa ua su in
    let ms = at_add (k * w) m (s *ᶠ units b) _ _ mw sb in
    let ml = at_add (k * w) m (l *ᶠ units b) _ _ mw lb in
    let xl = l.num *ℤ pos (m.den * (u.den * s.den)) in
    let xu = u.num *ℤ pos (m.den * (l.den * s.den)) in
    let xs = s.num *ℤ pos (m.den * (l.den * u.den)) in
    let xm = m.num *ℤ pos (l.den * (u.den * s.den)) *ℤ pos w in
    record {
      above = le_at (k * w) (m +ᶠ s *ᶠ units b) ((m +ᶠ l *ᶠ units b) +ᶠ (u -ᶠ l) *ᶠ units b) _ _ some ms (at_add (k * w) (m +ᶠ l *ᶠ units b) ((u -ᶠ l) *ᶠ units b) _ _ ml gap) (first xm xl xu xs b pb y);
      below = le_at (k * w) (m +ᶠ l *ᶠ units b) ((m +ᶠ s *ᶠ units b) +ᶠ (u -ᶠ l) *ᶠ units b) _ _ some ml (at_add (k * w) (m +ᶠ s *ᶠ units b) ((u -ᶠ l) *ᶠ units b) _ _ ms gap) (second xm xl xu xs b pb x y);
    }
  where
    spread : (l u b : ℤ) → (u +ℤ neg_ℤ l) *ℤ b ≡ u *ℤ b +ℤ neg_ℤ (l *ℤ b)
    spread l u b = simp ring

    first : (m l u s b : ℤ) → pos 0 ≤ℤ b → s ≤ℤ u → (m +ℤ s *ℤ b) ≤ℤ (m +ℤ l *ℤ b +ℤ (u +ℤ neg_ℤ l) *ℤ b)
    first m l u s b pb h = let a = le-mul_nonneg s u b h pb in let e = spread l u b in omega (arith, lin)

    second : (m l u s b : ℤ) → pos 0 ≤ℤ b → l ≤ℤ s → s ≤ℤ u → (m +ℤ l *ℤ b) ≤ℤ (m +ℤ s *ℤ b +ℤ (u +ℤ neg_ℤ l) *ℤ b)
    second m l u s b pb h k =
        let a = le-mul_nonneg l s b h pb in
        let c = le-mul_nonneg s u b k pb in
        let e = spread l u b in
        omega (arith, lin)

-- A sine of M, between its ends for n, with an enclosure of the sine of M + EB s.
record IsMet (eb m0 m1 : ℤ) (t : Fraction) (il ih : ℤ) (n : ℕ) : Type 0 where
  s : Fraction
  den : 0 < s.den
  within : LiesWithin il ih s
  above : sine_lower (mean_anomaly m0 m1 t) n ≤ᶠ s
  below : s ≤ᶠ sine_upper (mean_anomaly m0 m1 t) n

met : (eb m0 m1 : ℤ) (t : Fraction) (il ih : ℤ) (n : ℕ) → IsFraction t → il ≤ℤ ih → HasSine il ih (mean_anomaly m0 m1 t) → IsLongEnough (mean_anomaly m0 m1 t) n → IsMet eb m0 m1 t il ih n
met eb m0 m1 t il ih n pt order h long =
    let x = mean_anomaly m0 m1 t in
    let l = sine_lower x n in
    let u = sine_upper x n in
    let px = mean-den m0 m1 t pt in
    let own = sine_own x n px in
    le_f_cases l (units il)
    (λ (k : l ≤ᶠ units il). record {
      s = units il;
      den = lit< tt;
      within = record { from = le_f_refl (units il); to = record { le = le-mul_z il ih (10 ^ 18) order } };
      above = k;
      below = h.at_least.at_each n long;
    })
    (λ (k : units il <ᶠ l). record {
      s = l;
      den = sine_lower-den x n px;
      within = record { from = le_of_lt_f (units il) l k; to = h.at_most.at_each n long };
      above = le_f_refl l;
      below = le_f_trans l (sine_sum x n) u (sine_sum-den x n px) own.0 own.1;
    })
  where
    mean-den : (m0 m1 : ℤ) (t : Fraction) → IsFraction t → 0 < (mean_anomaly m0 m1 t).den
    mean-den m0 m1 t pt = mul-pos (let i : 0 < 10 ^ 18 = lit< tt in i) (mul-pos pt.positive (let i : 0 < 10 ^ 18 = lit< tt in i))

pub has_anomaly_sine : (eb m0 m1 : ℤ) (t : Fraction) (il ih lo hi : ℤ) → IsFraction t → pos 0 ≤ℤ eb → il ≤ℤ ih → HasSine il ih (mean_anomaly m0 m1 t)
    → ((s : Fraction) → IsFraction s → LiesWithin il ih s → HasSine lo hi (mean_anomaly m0 m1 t +ᶠ s *ᶠ units eb)) → HasAnomalySine eb m0 m1 t lo hi
unfolding low_anomaly anomaly_gap
has_anomaly_sine eb m0 m1 t il ih lo hi pt pe order h outer =
    let x = mean_anomaly m0 m1 t in
    let u : 0 < 10 ^ 18 = lit< tt in
    let px : 0 < x.den = mul-pos u (mul-pos pt.positive u) in
    record {
      at_least = record {
        at_each = λ n fits.
            let m = met eb m0 m1 t il ih n pt order h fits.mean in
            let pl = sine_lower-den x n px in
            let pu = sine_upper-den x n px in
            let low = low_anomaly eb m0 m1 t n in
            let gap = anomaly_gap eb m0 m1 t n in
            let near = near_by_gap x (sine_lower x n) (sine_upper x n) m.s eb px pl pu m.den pe m.above m.below in
            sine_carried_low (x +ᶠ m.s *ᶠ units eb) low gap (units lo) (record { positive = mul-pos px (mul-pos m.den u) }) (record { positive = mul-pos px (mul-pos pl u) })
            (record { positive = mul-pos (mul-pos pu pl) u }) u near (outer m.s (record { positive = m.den }) m.within).at_least n fits.low;
      };
      at_most = record {
        at_each = λ n fits.
            let m = met eb m0 m1 t il ih n pt order h fits.mean in
            let pl = sine_lower-den x n px in
            let pu = sine_upper-den x n px in
            let low = low_anomaly eb m0 m1 t n in
            let gap = anomaly_gap eb m0 m1 t n in
            let plow = mul-pos px (mul-pos pl u) in
            let pgap = mul-pos (mul-pos pu pl) u in
            let near = near_by_gap x (sine_lower x n) (sine_upper x n) m.s eb px pl pu m.den pe m.above m.below in
            le_f_move_back (sine_lower low n) gap (units hi) pgap
            (le_swapped (sine_lower low n) (units hi) gap (sine_carried_high (x +ᶠ m.s *ᶠ units eb) low gap (units hi) (record { positive = mul-pos px (mul-pos m.den u) }) (record { positive = plow })
            (record { positive = pgap }) u near (outer m.s (record { positive = m.den }) m.within).at_most n fits.low));
      };
    }
  where
    le_swapped : (a b c : Fraction) → a ≤ᶠ (b +ᶠ c) → a ≤ᶠ (c +ᶠ b)
    le_swapped a b c h = record { le = go a.num (pos a.den) b.num (pos b.den) c.num (pos c.den) h.le }
      where
        go : (a d b e c f : ℤ) → (a *ℤ (e *ℤ f)) ≤ℤ ((b *ℤ f +ℤ c *ℤ e) *ℤ d) → (a *ℤ (f *ℤ e)) ≤ℤ ((c *ℤ e +ℤ b *ℤ f) *ℤ d)
        go a d b e c f h = simp ring (simp ring at h)
