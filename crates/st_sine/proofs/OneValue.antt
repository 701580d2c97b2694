-- The two bounds of the sine in the formula come as near to each other as one likes.
use Rattle.std.proofs.Common.{◌≡◌, ℕ, zero, suc, ◌+◌, ◌*◌, ◌^◌, ◌≤◌, ◌<◌, ℤ, pos, negsuc, neg_ℤ, ◌+ℤ◌, ◌*ℤ◌, ◌≤ℤ◌, unsigned_abs, refl, ap, arith, lit<, mul-pos, mul-le-mul, mul-le-mul_left, mul-le-mul_right}
use Rattle.std.proofs.Math.Nat.{pow-zero, pow-suc}
use Rattle.std.proofs.lemmas.Int.{ints, unsigned_abs-mul}
use Rattle.std.proofs.lemmas.Nat.{mul-pow}
use Rattle.st_fraction.specs.Fraction.{Fraction, IsFraction, ◌≤ᶠ◌, ◌<ᶠ◌, over, whole, units, ◌+ᶠ◌, ◌-ᶠ◌, ◌*ᶠ◌, abs_f}
use Rattle.st_fraction.proofs.Ring.{lin, le-mul_z, neg-mul_z}
use Rattle.st_fraction.proofs.Order.{le_f_refl, le_f_trans, le_f_add, le_f_move, le_of_near}
use Rattle.st_fraction.proofs.Scale.{at_self, at_add, at_sub, at_mul, le_at, at_le}
use Rattle.st_series.specs.Series.{factorial, term, sine_sum, IsLongEnough, sine_lower, sine_upper}
use Rattle.st_series.proofs.Terms.{term-den, sine_sum-den}
use Rattle.st_series.proofs.Vanish.{power_is, enough_for, vanishing_from}
use Rattle.st_series.proofs.Sandwich.{is_long, sine_sandwich, sine_own, sine_lower-den, sine_upper-den}
use Rattle.st_series.proofs.Narrow.{long_from, sine_narrow}
use Rattle.st_sine.specs.Anomaly.{mean_anomaly, low_anomaly, anomaly_gap}
use Rattle.st_sine.specs.Laws.{AnomalyNarrows, AnomalyAgrees}
use Rattle.st_fraction.proofs.Linear.{at_factor}
use Rattle.st_sine.proofs.Added.{sliver, sliver-pos}

-- What is no larger in magnitude has smaller terms, and is long enough where the other is.
power_rises : (a b k : ℕ) → a ≤ b → a ^ k ≤ b ^ k
power_rises a b zero h = rw (pow-zero, pow-zero) (omega arith)
power_rises a b (suc k) h = rw (pow-suc a k, pow-suc b k) (mul-le-mul (power_rises a b k h) h)

term_rises : (x : Fraction) (p q k : ℕ) → unsigned_abs x.num * q ≤ p * x.den → term (abs_f x) k ≤ᶠ term (over (pos p) q) k
unfolding term
term_rises x p q k h = record { le = rw (power_is (unsigned_abs x.num) k, power_is p k) (go (unsigned_abs x.num) x.den p q (factorial k) k h) }
  where
    go : (a d p q f k : ℕ) → a * q ≤ p * d → pos (a ^ k * (q ^ k * f)) ≤ℤ pos (p ^ k * (d ^ k * f))
    go a d p q f k h =
        let r = power_rises (a * q) (p * d) k h in
        let l : a ^ k * q ^ k ≤ p ^ k * d ^ k = rw (← mul-pow a q k, ← mul-pow p d k) r in
        omega (arith, ints, mul-le-mul_right f l)

long_below : (x : Fraction) (p q n : ℕ) → 0 < q → unsigned_abs x.num * q ≤ p * x.den → p ≤ n → IsLongEnough x n
long_below x p q n some h l = is_long x n (go (unsigned_abs x.num) x.den p q n some h l)
  where
    go : (a d p q n : ℕ) → 0 < q → a * q ≤ p * d → p ≤ n → a * a ≤ (2 * n + 1) * (2 * n + 2) * (d * d)
    go a d p q n some h l =
        let nd : a ≤ n * d = omega (arith, mul-le-mul_left a some, h, mul-le-mul_right d l) in
        let s = mul-le-mul nd nd in
        let c : n * n ≤ (2 * n + 1) * (2 * n + 2) = omega arith in
        omega (arith, s, mul-le-mul_right (d * d) c)

-- a number between two others is no larger than both their numerators together
size_between : (x : ℤ) (d : ℕ) (a b : ℤ) (e f : ℕ) → 0 < e → 0 < f → (a *ℤ pos d) ≤ℤ (x *ℤ pos e) → (x *ℤ pos f) ≤ℤ (b *ℤ pos d) → unsigned_abs x ≤ (unsigned_abs a + unsigned_abs b) * d
size_between (pos n) d a b e f pe pf low high =
    let m = mul-le-mul_left n pf in
    let t = top b d in
    omega (arith, ints, high, m, t)
  where
    top : (b : ℤ) (d : ℕ) → (b *ℤ pos d) ≤ℤ pos (unsigned_abs b * d)
    top b d = le-mul_z b (pos (unsigned_abs b)) d (omega (arith, ints))
size_between (negsuc n) d a b e f pe pf low high =
    let m = mul-le-mul_left (suc n) pe in
    let t = bottom a d in
    omega (arith, ints, low, m, t)
  where
    bottom : (a : ℤ) (d : ℕ) → neg_ℤ (a *ℤ pos d) ≤ℤ pos (unsigned_abs a * d)
    bottom a d = let i = neg-mul_z a (pos d) in let h = le-mul_z (neg_ℤ a) (pos (unsigned_abs a)) d (omega (arith, ints)) in omega (arith, lin)

size_of_sum : (m l : ℤ) (b : ℤ) (d k w c : ℕ) → 0 < d → 0 < k → 0 < w → unsigned_abs l ≤ c * k
    → unsigned_abs (m *ℤ pos (k * w) +ℤ l *ℤ b *ℤ pos d) * 1 ≤ (unsigned_abs m + c * unsigned_abs b) * (d * (k * w))
size_of_sum m l b d k w c pd pk pw h =
    let one = unsigned_abs-mul m (pos (k * w)) in
    let two = unsigned_abs-mul (l *ℤ b) (pos d) in
    let three = ap (λ (n : ℕ). n * d) (unsigned_abs-mul l b) in
    let sum : unsigned_abs (m *ℤ pos (k * w) +ℤ l *ℤ b *ℤ pos d) ≤ unsigned_abs m * (k * w) + unsigned_abs l * unsigned_abs b * d = omega (arith, ints, one, two, three) in
    let first = mul-le-mul_left (unsigned_abs m * (k * w)) pd in
    let second = mul-le-mul (mul-le-mul_right (unsigned_abs b * d) h) pw in
    omega (arith, sum, first, second)

-- how large an angle between its n-th lower ends can be, from the first long enough n on
bound_of : Fraction → ℤ → ℕ
bound_of x b = unsigned_abs x.num + (unsigned_abs (sine_lower x (unsigned_abs x.num)).num + unsigned_abs (sine_upper x (unsigned_abs x.num)).num) * unsigned_abs b

low_size : (x : Fraction) (b : ℤ) (m : ℕ) → IsFraction x → unsigned_abs x.num ≤ m
    → unsigned_abs (x +ᶠ sine_lower x m *ᶠ units b).num * 1 ≤ bound_of x b * (x +ᶠ sine_lower x m *ᶠ units b).den
unfolding bound_of
low_size x b m px l =
    let n = unsigned_abs x.num in
    let some = px.positive in
    let s = sine_sandwich x n m px (long_from x n px (omega arith)) l in
    let own = sine_own x m some in
    let lu = le_f_trans (sine_lower x m) (sine_sum x m) (sine_upper x m) (sine_sum-den x m some) own.0 own.1 in
    let up = le_f_trans (sine_lower x m) (sine_upper x m) (sine_upper x n) (sine_upper-den x m some) lu s.1 in
    size_of_sum x.num (sine_lower x m).num b x.den (sine_lower x m).den (10 ^ 18) (unsigned_abs (sine_lower x n).num + unsigned_abs (sine_upper x n).num)
    some (sine_lower-den x m some) (lit< tt)
    (size_between (sine_lower x m).num (sine_lower x m).den (sine_lower x n).num (sine_upper x n).num (sine_lower x n).den (sine_upper x n).den (sine_lower-den x n some) (sine_upper-den x n some) s.0.le up.le)

-- u at most l + d, g at most d, and three times d at most e
close_up : (u l g d e : Fraction) → 0 < u.den → 0 < l.den → 0 < g.den → 0 < d.den → 0 < e.den → u ≤ᶠ (l +ᶠ d) → g ≤ᶠ d → (whole (pos 3) *ᶠ d) ≤ᶠ e → (u +ᶠ g) ≤ᶠ ((l -ᶠ g) +ᶠ e)
close_up u l g d e pu pl pg pd pe h k s =
    let m = u.den * (l.den * (g.den * (d.den * e.den))) in
    let some = mul-pos pu (mul-pos pl (mul-pos pg (mul-pos pd pe))) in
    let ua = at_factor u (l.den * (g.den * (d.den * e.den))) m refl in
    let la = at_factor l (u.den * (g.den * (d.den * e.den))) m (omega arith) in
    let ga = at_factor g (u.den * (l.den * (d.den * e.den))) m (omega arith) in
    let da = at_factor d (u.den * (l.den * (g.den * e.den))) m (omega arith) in
    let ea = at_factor e (u.den * (l.den * (g.den * d.den))) m (omega arith) in
    let one : 1 * m ≡ m = omega arith in
    let ta = rw one at (at_mul 1 m (whole (pos 3)) d (pos 3) _ (at_self (whole (pos 3))) da) in
    let a = at_le m u (l +ᶠ d) _ _ pu (mul-pos pl pd) ua (at_add m l d _ _ la da) h in
    let b = at_le m g d _ _ pg pd ga da k in
    let c = at_le m (whole (pos 3) *ᶠ d) e _ _ (mul-pos (omega arith) pd) pe ta ea s in
    le_at m (u +ᶠ g) ((l -ᶠ g) +ᶠ e) _ _ some (at_add m u g _ _ ua ga) (at_add m (l -ᶠ g) e _ _ (at_sub m l g _ _ la ga) ea)
    (join (u.num *ℤ pos (l.den * (g.den * (d.den * e.den)))) (l.num *ℤ pos (u.den * (g.den * (d.den * e.den)))) (g.num *ℤ pos (u.den * (l.den * (d.den * e.den))))
    (d.num *ℤ pos (u.den * (l.den * (g.den * e.den)))) (e.num *ℤ pos (u.den * (l.den * (g.den * d.den)))) a b c)
  where
    join : (u l g d e : ℤ) → u ≤ℤ (l +ℤ d) → g ≤ℤ d → (pos 3 *ℤ d) ≤ℤ e → (u +ℤ g) ≤ℤ (l +ℤ neg_ℤ g +ℤ e)
    join u l g d e h k s = omega (arith, ints)

three_slivers : (e : Fraction) → whole (pos 0) <ᶠ e → (whole (pos 3) *ᶠ sliver (3 * e.den)) ≤ᶠ e
three_slivers e h = record { le = go e.num e.den (omega (arith, ints, h.lt)) }
  where
    go : (n : ℤ) (k : ℕ) → pos 1 ≤ℤ n → (pos 3 *ℤ pos 1 *ℤ pos k) ≤ℤ (n *ℤ pos (1 * (3 * k)))
    go n k h = omega (arith, ints, le-mul_z (pos 1) n (3 * k) h)

-- a difference of at most 1 / (d (|b| + 1)), times b units
scaled_sliver : (f : Fraction) (b : ℤ) (d : ℕ) → 0 < f.den → pos 0 ≤ℤ b → f ≤ᶠ sliver (d * (unsigned_abs b + 1)) → (f *ᶠ units b) ≤ᶠ sliver d
scaled_sliver f (pos b) d pf pb h = record { le = go f.num f.den b d (10 ^ 18) (lit< tt) h.le }
  where
    go : (n : ℤ) (k b d w : ℕ) → 0 < w → (n *ℤ pos (d * (b + 1))) ≤ℤ (pos 1 *ℤ pos k) → (n *ℤ pos b *ℤ pos d) ≤ℤ (pos 1 *ℤ pos (k * w))
    go (pos n) k b d w some h = omega (arith, ints, mul-le-mul_left k some)
    go (negsuc n) k b d w some h = let i = le-mul_z (negsuc n *ℤ pos b) (pos 0) d (omega (arith, ints)) in omega (arith, ints, i)
scaled_sliver f (negsuc b) d pf pb h = absurd (omega (arith, ints))

enough : Fraction → ℤ → Fraction → ℕ
enough x b e = unsigned_abs x.num + bound_of x b + enough_for x (sliver (3 * e.den * (unsigned_abs b + 1))) + enough_for (whole (pos (bound_of x b))) (sliver (3 * e.den))

pub anomaly_narrows : AnomalyNarrows
unfolding low_anomaly anomaly_gap enough
anomaly_narrows eb m0 m1 t e pb pt pe some = (
  enough (mean_anomaly m0 m1 t) eb e,
  λ m l.
      let x = mean_anomaly m0 m1 t in
      let u : 0 < 10 ^ 18 = lit< tt in
      let px : IsFraction x = record { positive = mul-pos u (mul-pos pt.positive u) } in
      let pd = px.positive in
      let low = low_anomaly eb m0 m1 t m in
      let gap = anomaly_gap eb m0 m1 t m in
      let pl = sine_lower-den x m pd in
      let pu = sine_upper-den x m pd in
      let plow : 0 < low.den = mul-pos pd (mul-pos pl u) in
      let pgap : 0 < gap.den = mul-pos (mul-pos pu pl) u in
      let p = bound_of x eb in
      let size = low_size x eb m px (omega arith) in
      let d = 3 * e.den in
      let dd : 0 < d = let i = pe.positive in omega arith in
      let k = 2 * m + 3 in
      let ll = sine_lower-den low m plow in
      let lu = sine_upper-den low m plow in
      let narrow = le_f_move (sine_upper low m) (sine_lower low m) (term (abs_f low) k) ll (sine_narrow low m (record { positive = plow })) in
      let left = le_f_trans (term (abs_f low) k) (term (whole (pos p)) k) (sliver d) (term-den (whole (pos p)) k (omega arith)) (term_rises low p 1 k size) (vanishing_from (whole (pos p)) (sliver d) (omega arith) (sliver-pos d) k (omega arith)) in
      let upper = le_f_trans (sine_upper low m) (sine_lower low m +ᶠ term (abs_f low) k) (sine_lower low m +ᶠ sliver d) (mul-pos ll (term-den (abs_f low) k plow)) narrow
      (le_f_add (sine_lower low m) (sine_lower low m) (term (abs_f low) k) (sliver d) (le_f_refl (sine_lower low m)) left) in
      let mean = le_f_trans (sine_upper x m -ᶠ sine_lower x m) (term (abs_f x) k) (sliver (d * (unsigned_abs eb + 1))) (term-den (abs_f x) k pd) (sine_narrow x m px)
      (vanishing_from x (sliver (d * (unsigned_abs eb + 1))) pd (sliver-pos (d * (unsigned_abs eb + 1))) k (omega arith)) in
      let small = scaled_sliver (sine_upper x m -ᶠ sine_lower x m) eb d (mul-pos pu pl) pb mean in (
        record { mean = long_from x m px (omega arith); low = long_below low p 1 m (omega arith) size (omega arith) },
        close_up (sine_upper low m) (sine_lower low m) gap (sliver d) e lu ll pgap dd pe.positive upper small (three_slivers e some),
      ),
)

-- the bounds have denominators above 0
pub dens : (eb m0 m1 : ℤ) (t : Fraction) (m : ℕ) → IsFraction t
    → (0 < (sine_upper (low_anomaly eb m0 m1 t m) m +ᶠ anomaly_gap eb m0 m1 t m).den) × (0 < (sine_lower (low_anomaly eb m0 m1 t m) m -ᶠ anomaly_gap eb m0 m1 t m).den)
unfolding low_anomaly anomaly_gap
dens eb m0 m1 t m pt =
    let x = mean_anomaly m0 m1 t in
    let u : 0 < 10 ^ 18 = lit< tt in
    let pd : 0 < x.den = mul-pos u (mul-pos pt.positive u) in
    let pl = sine_lower-den x m pd in
    let pu = sine_upper-den x m pd in
    let plow : 0 < (low_anomaly eb m0 m1 t m).den = mul-pos pd (mul-pos pl u) in
    let pgap : 0 < (anomaly_gap eb m0 m1 t m).den = mul-pos (mul-pos pu pl) u in
    (mul-pos (sine_upper-den (low_anomaly eb m0 m1 t m) m plow) pgap, mul-pos (sine_lower-den (low_anomaly eb m0 m1 t m) m plow) pgap)

pub anomaly_agrees : AnomalyAgrees
anomaly_agrees eb m0 m1 t a b pb pt pa pf low high = le_of_near a b pa.positive pf.positive (λ e pe some.
    let n = anomaly_narrows eb m0 m1 t e pb pt pe some in
    let f = n.1 n.0 (omega arith) in
    let z = low_anomaly eb m0 m1 t n.0 in
    let gap = anomaly_gap eb m0 m1 t n.0 in
    let u = sine_upper z n.0 +ᶠ gap in
    let l = sine_lower z n.0 -ᶠ gap in
    let d = dens eb m0 m1 t n.0 pt in
    le_f_trans a u (b +ᶠ e) d.0 (low.at_each n.0 f.0) (le_f_trans u (l +ᶠ e) (b +ᶠ e) (mul-pos d.1 pe.positive) f.1 (le_f_add l b e e (high.at_each n.0 f.0) (le_f_refl e))))
