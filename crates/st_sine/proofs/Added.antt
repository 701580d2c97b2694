-- The sine and the cosine of a sum of two angles: an interval has them where it contains s q + c p, and c q - s p, for all
-- sines s and p and cosines c and q that the enclosures of the two contain.
use Rattle.std.proofs.Common.{◌≡◌, ℕ, ◌+◌, ◌*◌, ◌^◌, ◌≤◌, ◌<◌, ℤ, pos, negsuc, ◌+ℤ◌, ◌*ℤ◌, neg_ℤ, ◌≤ℤ◌, ◌<ℤ◌, unsigned_abs, ap, ◌∙◌, arith, lit<, mul-pos, mul-le-mul_left, mul-le-mul_right, mul_comm, subst}
use Rattle.std.proofs.Math.IntN.{*ℤ_comm}
use Rattle.std.proofs.lemmas.Int.{ints}
use Rattle.st_fraction.specs.Fraction.{Fraction, IsFraction, ◌≤ᶠ◌, ◌<ᶠ◌, ◌≈ᶠ◌, over, whole, units, ◌+ᶠ◌, neg_f, ◌-ᶠ◌, ◌*ᶠ◌, abs_f, LiesWithin, IsNear}
use Rattle.st_fraction.proofs.Ring.{ring, lin, le-mul_z, two-mul_z, add-mul_z}
use Rattle.st_fraction.proofs.Order.{le_f_refl, le_f_trans, le_f_add, le_f_cases, le_of_lt_f}
use Rattle.st_enclosure.specs.Ends.{EndsAtMost}
use Rattle.st_series.specs.Series.{term, sine_sum, cosine_sum}
use Rattle.st_series.specs.Enclosed.{HasSine, HasCosine}
use Rattle.st_series.proofs.Terms.{term-den, sine_sum-den, cosine_sum-den}
use Rattle.st_series.proofs.Vanish.{enough_for, vanishing_from}
use Rattle.st_series.proofs.Narrow.{long_from}
use Rattle.st_series.proofs.Addition.{sine_addition, cosine_addition}
use Rattle.st_series.proofs.Values.{sine_sum_at_most, sine_sum_at_least, cosine_sum_at_most, cosine_sum_at_least, sine_at_most_in_the_end, sine_at_least_in_the_end, cosine_at_most_in_the_end, cosine_at_least_in_the_end}
use Rattle.st_sine.proofs.Carried.{has_sine_same, has_cosine_same}
use Rattle.st_sine.proofs.Products.{IsAtMostTwo, near_product, near_sum, near_difference}

-- A number that is near an interval is near one that the interval contains.
pub record Clamped (lo hi : ℤ) (s e : Fraction) : Type 0 where
  value : Fraction
  den : 0 < value.den
  within : LiesWithin lo hi value
  near : IsNear s value e

le_more : (a e : Fraction) → pos 0 ≤ℤ e.num → a ≤ᶠ (a +ᶠ e)
le_more a e h = record { le = go a.num e.num a.den e.den h }
  where
    shape : (n d m f : ℤ) → pos 0 ≤ℤ (m *ℤ (d *ℤ d)) → (n *ℤ (d *ℤ f)) ≤ℤ ((n *ℤ f +ℤ m *ℤ d) *ℤ d)
    shape n d m f h = simp ring (let h2 = simp ring at h in omega (arith, lin))

    go : (n m : ℤ) (d f : ℕ) → pos 0 ≤ℤ m → (n *ℤ pos (d * f)) ≤ℤ ((n *ℤ pos f +ℤ m *ℤ pos d) *ℤ pos d)
    go n m d f h = shape n (pos d) m (pos f) (let l = le-mul_z (pos 0) m (d * d) h in omega (arith, ints))

clamp : (lo hi : ℤ) (s e : Fraction) → lo ≤ℤ hi → 0 < s.den → pos 0 ≤ℤ e.num → units lo ≤ᶠ (s +ᶠ e) → s ≤ᶠ (units hi +ᶠ e) → Clamped lo hi s e
clamp lo hi s e order ps pe low high = le_f_cases (units lo) s
    (λ (h : units lo ≤ᶠ s). le_f_cases s (units hi)
    (λ (k : s ≤ᶠ units hi). record { value = s; den = ps; within = record { from = h; to = k }; near = record { above = le_more s e pe; below = le_more s e pe } })
    (λ (k : units hi <ᶠ s). record {
      value = units hi;
      den = lit< tt;
      within = record { from = between; to = le_f_refl (units hi) };
      near = record { above = high; below = le_f_trans (units hi) s (s +ᶠ e) ps (le_of_lt_f (units hi) s k) (le_more s e pe) };
    }))
    (λ (h : s <ᶠ units lo). record {
      value = units lo;
      den = lit< tt;
      within = record { from = le_f_refl (units lo); to = between };
      near = record { above = le_f_trans s (units lo) (units lo +ᶠ e) (lit< tt) (le_of_lt_f s (units lo) h) (le_more (units lo) e pe); below = low };
    })
  where
    between : units lo ≤ᶠ units hi
    between = record { le = le-mul_z lo hi (10 ^ 18) order }

-- the bounds of an interval of at most 2 to either side
high_two : (lo hi : ℤ) (s : Fraction) → EndsAtMost lo hi (2 * 10 ^ 18) → LiesWithin lo hi s → s ≤ᶠ whole (pos 2)
high_two lo hi s h w = le_f_trans s (units hi) (whole (pos 2)) (lit< tt) w.to (record { le = let k = h.high in omega (arith, ints) })

low_two : (lo hi : ℤ) (s : Fraction) → EndsAtMost lo hi (2 * 10 ^ 18) → LiesWithin lo hi s → neg_f s ≤ᶠ whole (pos 2)
low_two lo hi s h w = record { le = flip s.num s.den (le_f_trans (whole (negsuc 1)) (units lo) s (lit< tt) (record { le = let k = h.low in omega (arith, ints) }) w.from).le }
  where
    flip : (n : ℤ) (d : ℕ) → (negsuc 1 *ℤ pos d) ≤ℤ (n *ℤ pos 1) → (neg_ℤ n *ℤ pos 1) ≤ℤ (pos 2 *ℤ pos d)
    flip n d h = omega (arith, ints)

-- One over d, how long a sum has to be so that what is left out is below it, and the facts from there on.
abbrev pub sliver : ℕ → Fraction
sliver d = over (pos 1) d

pub sliver-pos : (d : ℕ) → whole (pos 0) <ᶠ sliver d
sliver-pos d = record { lt = go d }
  where
    go : (d : ℕ) → (pos 0 *ℤ pos d) <ℤ (pos 1 *ℤ pos 1)
    go d = omega (arith, ints)

pub far_for : Fraction → Fraction → ℕ → ℕ
far_for x y d = unsigned_abs x.num + unsigned_abs y.num + enough_for x (sliver d) + enough_for y (sliver d) + enough_for (abs_f x +ᶠ abs_f y) (sliver (2 * d))

-- Numbers that two enclosures contain, near the m-th sums of sine and cosine.
pub record IsMetAt (x : Fraction) (sl sh cl ch : ℤ) (d m : ℕ) : Type 0 where
  s : Fraction
  c : Fraction
  s_den : 0 < s.den
  c_den : 0 < c.den
  s_within : LiesWithin sl sh s
  c_within : LiesWithin cl ch c
  s_near : IsNear (sine_sum x m) s (sliver d)
  c_near : IsNear (cosine_sum x m) c (sliver d)
  s_two : IsAtMostTwo s
  c_two : IsAtMostTwo c

met_at : (x : Fraction) (sl sh cl ch : ℤ) (d m : ℕ) → IsFraction x → sl ≤ℤ sh → cl ≤ℤ ch → EndsAtMost sl sh (2 * 10 ^ 18) → EndsAtMost cl ch (2 * 10 ^ 18)
    → HasSine sl sh x → HasCosine cl ch x → unsigned_abs x.num + enough_for x (sliver d) ≤ m → IsMetAt x sl sh cl ch d m
met_at x sl sh cl ch d m px so co se ce hs hc far =
    let e = sliver d in
    let pd = px.positive in
    let long = long_from x m px (omega arith) in
    let u : 0 < 10 ^ 18 = lit< tt in
    let odd = vanishing_from x e pd (sliver-pos d) (2 * m + 3) (omega arith) in
    let even = vanishing_from x e pd (sliver-pos d) (2 * m + 2) (omega arith) in
    let S = sine_sum x m in
    let C = cosine_sum x m in
    let ps = sine_sum-den x m pd in
    let pc = cosine_sum-den x m pd in
    let t3 = term (abs_f x) (2 * m + 3) in
    let t2 = term (abs_f x) (2 * m + 2) in
    let d3 = term-den (abs_f x) (2 * m + 3) pd in
    let d2 = term-den (abs_f x) (2 * m + 2) pd in
    let s_low = le_f_trans (units sl) (S +ᶠ t3) (S +ᶠ e) (mul-pos ps d3) (sine_sum_at_least x (units sl) m px u long hs.at_least) (le_f_add S S t3 e (le_f_refl S) odd) in
    let s_high = le_f_trans S (units sh +ᶠ t3) (units sh +ᶠ e) (mul-pos u d3) (sine_sum_at_most x (units sh) m px u long hs.at_most) (le_f_add (units sh) (units sh) t3 e (le_f_refl (units sh)) odd) in
    let c_low = le_f_trans (units cl) (C +ᶠ t2) (C +ᶠ e) (mul-pos pc d2) (cosine_sum_at_least x (units cl) m px u long hc.at_least) (le_f_add C C t2 e (le_f_refl C) even) in
    let c_high = le_f_trans C (units ch +ᶠ t2) (units ch +ᶠ e) (mul-pos u d2) (cosine_sum_at_most x (units ch) m px u long hc.at_most) (le_f_add (units ch) (units ch) t2 e (le_f_refl (units ch)) even) in
    let s = clamp sl sh S e so ps (omega (arith, ints)) s_low s_high in
    let c = clamp cl ch C e co pc (omega (arith, ints)) c_low c_high in
    record {
      s = s.value;
      c = c.value;
      s_den = s.den;
      c_den = c.den;
      s_within = s.within;
      c_within = c.within;
      s_near = s.near;
      c_near = c.near;
      s_two = record { high = high_two sl sh s.value se s.within; low = low_two sl sh s.value se s.within };
      c_two = record { high = high_two cl ch c.value ce c.within; low = low_two cl ch c.value ce c.within };
    }

-- s and c stand for the first angle, p and q for the second.
pub record AtStep (x y : Fraction) (sl sh cl ch pl ph ql qh : ℤ) (d m : ℕ) : Type 0 where
  s : Fraction
  c : Fraction
  p : Fraction
  q : Fraction
  s_den : 0 < s.den
  c_den : 0 < c.den
  p_den : 0 < p.den
  q_den : 0 < q.den
  s_within : LiesWithin sl sh s
  c_within : LiesWithin cl ch c
  p_within : LiesWithin pl ph p
  q_within : LiesWithin ql qh q
  sine : IsNear (sine_sum (x +ᶠ y) m) (s *ᶠ q +ᶠ c *ᶠ p) (whole (pos 11) *ᶠ sliver d)
  cosine : IsNear (cosine_sum (x +ᶠ y) m) (c *ᶠ q -ᶠ s *ᶠ p) (whole (pos 11) *ᶠ sliver d)

near_wider : (a b e f : Fraction) → 0 < a.den → 0 < b.den → 0 < e.den → IsNear a b e → e ≤ᶠ f → IsNear a b f
near_wider a b e f pa pb pe n h = record {
  above = le_f_trans a (b +ᶠ e) (b +ᶠ f) (mul-pos pb pe) n.above (le_f_add b b e f (le_f_refl b) h);
  below = le_f_trans b (a +ᶠ e) (a +ᶠ f) (mul-pos pa pe) n.below (le_f_add a a e f (le_f_refl a) h);
}

half_sliver : (d : ℕ) (t : Fraction) → t ≤ᶠ sliver (2 * d) → (whole (pos 2) *ᶠ t) ≤ᶠ sliver d
half_sliver d t h = record { le = go t.num t.den d h.le }
  where
    go : (n : ℤ) (k d : ℕ) → (n *ℤ pos (2 * d)) ≤ℤ (pos 1 *ℤ pos k) → (pos 2 *ℤ n *ℤ pos d) ≤ℤ (pos 1 *ℤ pos (1 * k))
    go n k d h =
        let i : pos 2 *ℤ n *ℤ pos d ≡ n *ℤ pos d +ℤ n *ℤ pos d = ap (λ z. z *ℤ pos d) (two-mul_z n) ∙ add-mul_z n n (pos d) in
        omega (arith, ints, i)

pub at_step : (x y : Fraction) (sl sh cl ch pl ph ql qh : ℤ) (d m : ℕ) → IsFraction x → IsFraction y → 0 < d → sl ≤ℤ sh → cl ≤ℤ ch → pl ≤ℤ ph → ql ≤ℤ qh
    → EndsAtMost sl sh (2 * 10 ^ 18) → EndsAtMost cl ch (2 * 10 ^ 18) → EndsAtMost pl ph (2 * 10 ^ 18) → EndsAtMost ql qh (2 * 10 ^ 18)
    → HasSine sl sh x → HasCosine cl ch x → HasSine pl ph y → HasCosine ql qh y → far_for x y d ≤ m → AtStep x y sl sh cl ch pl ph ql qh d m
unfolding far_for
at_step x y sl sh cl ch pl ph ql qh d m px py some so co po qo se ce pe qe hs hc hp hq far =
    let e = sliver d in
    let both = abs_f x +ᶠ abs_f y in
    let dd = mul-pos px.positive py.positive in
    let a = met_at x sl sh cl ch d m px so co se ce hs hc (omega arith) in
    let b = met_at y pl ph ql qh d m py po qo pe qe hp hq (omega arith) in
    let S = sine_sum x m in
    let C = cosine_sum x m in
    let P = sine_sum y m in
    let Q = cosine_sum y m in
    let ps = sine_sum-den x m px.positive in
    let pc = cosine_sum-den x m px.positive in
    let pp = sine_sum-den y m py.positive in
    let pq = cosine_sum-den y m py.positive in
    let left = term both (2 * m + 2) in
    let left_den = term-den both (2 * m + 2) dd in
    let left_small = half_sliver d left (vanishing_from both (sliver (2 * d)) dd (sliver-pos (2 * d)) (2 * m + 2) (omega arith)) in
    let room : both ≤ᶠ whole (pos (m + 1)) = record { le = fits (unsigned_abs x.num) (unsigned_abs y.num) x.den y.den m px.positive py.positive (omega arith) } in
    let T = sine_sum (x +ᶠ y) m in
    let V = cosine_sum (x +ᶠ y) m in
    let pt = sine_sum-den (x +ᶠ y) m dd in
    let pv = cosine_sum-den (x +ᶠ y) m dd in
    let two_left = mul-pos (let i : 0 < 1 = omega arith in i) left_den in
    let sn = near_wider T (S *ᶠ Q +ᶠ C *ᶠ P) (whole (pos 2) *ᶠ left) e pt (mul-pos (mul-pos ps pq) (mul-pos pc pp)) two_left (sine_addition x y m px py room) left_small in
    let cn = near_wider V (C *ᶠ Q -ᶠ S *ᶠ P) (whole (pos 2) *ᶠ left) e pv (mul-pos (mul-pos pc pq) (mul-pos ps pp)) two_left (cosine_addition x y m px py room) left_small in
    let one : e ≤ᶠ whole (pos 1) = record { le = small d some } in
    let sq = near_product S Q a.s b.c e ps pq a.s_den b.c_den some a.s_near b.c_near a.s_two b.c_two one in
    let cp = near_product C P a.c b.s e pc pp a.c_den b.s_den some a.c_near b.s_near a.c_two b.s_two one in
    let cq = near_product C Q a.c b.c e pc pq a.c_den b.c_den some a.c_near b.c_near a.c_two b.c_two one in
    let sp = near_product S P a.s b.s e ps pp a.s_den b.s_den some a.s_near b.s_near a.s_two b.s_two one in
    record {
      s = a.s;
      c = a.c;
      p = b.s;
      q = b.c;
      s_den = a.s_den;
      c_den = a.c_den;
      p_den = b.s_den;
      q_den = b.c_den;
      s_within = a.s_within;
      c_within = a.c_within;
      p_within = b.s_within;
      q_within = b.c_within;
      sine = near_sum T (S *ᶠ Q) (C *ᶠ P) (a.s *ᶠ b.c) (a.c *ᶠ b.s) e pt (mul-pos ps pq) (mul-pos pc pp) (mul-pos a.s_den b.c_den) (mul-pos a.c_den b.s_den) some sn sq cp;
      cosine = near_difference V (C *ᶠ Q) (S *ᶠ P) (a.c *ᶠ b.c) (a.s *ᶠ b.s) e pv (mul-pos pc pq) (mul-pos ps pp) (mul-pos a.c_den b.c_den) (mul-pos a.s_den b.s_den) some cn cq sp;
    }
  where
    small : (d : ℕ) → 0 < d → (pos 1 *ℤ pos 1) ≤ℤ (pos 1 *ℤ pos d)
    small d h = omega (arith, ints)

    fits : (a b q r m : ℕ) → 0 < q → 0 < r → a + b ≤ m → ((pos a *ℤ pos r +ℤ pos b *ℤ pos q) *ℤ pos 1) ≤ℤ (pos (m + 1) *ℤ pos (q * r))
    fits a b q r m pq pr h =
        let i : a * r ≤ a * (q * r) = mul-le-mul_left a (let k : 1 * r ≤ q * r = mul-le-mul_right r pq in omega arith) in
        let j : b * q ≤ b * (q * r) = mul-le-mul_left b (let k : q * 1 ≤ q * r = mul-le-mul_left q pr in omega arith) in
        let l = mul-le-mul_right (q * r) h in
        omega (arith, ints, i, j, l)

eleven_slivers : (e : Fraction) → whole (pos 0) <ᶠ e → (whole (pos 11) *ᶠ sliver (11 * e.den)) ≤ᶠ e
eleven_slivers e h = record { le = go e.num e.den (omega (arith, ints, h.lt)) }
  where
    go : (n : ℤ) (k : ℕ) → pos 1 ≤ℤ n → (pos 11 *ℤ pos 1 *ℤ pos k) ≤ℤ (n *ℤ pos (1 * (11 * k)))
    go n k h = omega (arith, ints, le-mul_z (pos 1) n (11 * k) h)

sliver-den : (e : Fraction) → IsFraction e → 0 < 1 * (11 * e.den)
sliver-den e pe = let p = pe.positive in omega arith

pub has_sine_sum : (x y : Fraction) (sl sh cl ch pl ph ql qh lo hi : ℤ) → IsFraction x → IsFraction y → sl ≤ℤ sh → cl ≤ℤ ch → pl ≤ℤ ph → ql ≤ℤ qh
    → EndsAtMost sl sh (2 * 10 ^ 18) → EndsAtMost cl ch (2 * 10 ^ 18) → EndsAtMost pl ph (2 * 10 ^ 18) → EndsAtMost ql qh (2 * 10 ^ 18)
    → HasSine sl sh x → HasCosine cl ch x → HasSine pl ph y → HasCosine ql qh y
    → ((s c p q : Fraction) → LiesWithin sl sh s → LiesWithin cl ch c → LiesWithin pl ph p → LiesWithin ql qh q → LiesWithin lo hi (s *ᶠ q +ᶠ c *ᶠ p)) → HasSine lo hi (x +ᶠ y)
has_sine_sum x y sl sh cl ch pl ph ql qh lo hi px py so co po qo se ce pe qe hs hc hp hq contains =
    let dd = mul-pos px.positive py.positive in
    record {
      at_least = sine_at_least_in_the_end (x +ᶠ y) (units lo) (record { positive = dd }) (lit< tt) (record {
        from = λ e ee some. (
          far_for x y (11 * e.den),
          λ m l.
              let st = at_step x y sl sh cl ch pl ph ql qh (11 * e.den) m px py (mul-pos (omega arith) ee.positive) so co po qo se ce pe qe hs hc hp hq l in
              let r = st.s *ᶠ st.q +ᶠ st.c *ᶠ st.p in
              let d = mul-pos (mul-pos st.s_den st.q_den) (mul-pos st.c_den st.p_den) in
              let t = sine_sum (x +ᶠ y) m in
              let f = whole (pos 11) *ᶠ sliver (11 * e.den) in
              le_f_trans (units lo) r (t +ᶠ e) d (contains st.s st.c st.p st.q st.s_within st.c_within st.p_within st.q_within).from
              (le_f_trans r (t +ᶠ f) (t +ᶠ e) (mul-pos (sine_sum-den (x +ᶠ y) m dd) (sliver-den e ee)) st.sine.below
              (le_f_add t t f e (le_f_refl t) (eleven_slivers e some))),
        );
      });
      at_most = sine_at_most_in_the_end (x +ᶠ y) (units hi) (record { positive = dd }) (lit< tt) (record {
        from = λ e ee some. (
          far_for x y (11 * e.den),
          λ m l.
              let st = at_step x y sl sh cl ch pl ph ql qh (11 * e.den) m px py (mul-pos (omega arith) ee.positive) so co po qo se ce pe qe hs hc hp hq l in
              let r = st.s *ᶠ st.q +ᶠ st.c *ᶠ st.p in
              let d = mul-pos (mul-pos st.s_den st.q_den) (mul-pos st.c_den st.p_den) in
              let t = sine_sum (x +ᶠ y) m in
              let f = whole (pos 11) *ᶠ sliver (11 * e.den) in
              le_f_trans t (r +ᶠ f) (units hi +ᶠ e) (mul-pos d (sliver-den e ee)) st.sine.above
              (le_f_add r (units hi) f e (contains st.s st.c st.p st.q st.s_within st.c_within st.p_within st.q_within).to (eleven_slivers e some)),
        );
      });
    }

pub has_cosine_sum : (x y : Fraction) (sl sh cl ch pl ph ql qh lo hi : ℤ) → IsFraction x → IsFraction y → sl ≤ℤ sh → cl ≤ℤ ch → pl ≤ℤ ph → ql ≤ℤ qh
    → EndsAtMost sl sh (2 * 10 ^ 18) → EndsAtMost cl ch (2 * 10 ^ 18) → EndsAtMost pl ph (2 * 10 ^ 18) → EndsAtMost ql qh (2 * 10 ^ 18)
    → HasSine sl sh x → HasCosine cl ch x → HasSine pl ph y → HasCosine ql qh y
    → ((s c p q : Fraction) → LiesWithin sl sh s → LiesWithin cl ch c → LiesWithin pl ph p → LiesWithin ql qh q → LiesWithin lo hi (c *ᶠ q -ᶠ s *ᶠ p)) → HasCosine lo hi (x +ᶠ y)
has_cosine_sum x y sl sh cl ch pl ph ql qh lo hi px py so co po qo se ce pe qe hs hc hp hq contains =
    let dd = mul-pos px.positive py.positive in
    record {
      at_least = cosine_at_least_in_the_end (x +ᶠ y) (units lo) (record { positive = dd }) (lit< tt) (record {
        from = λ e ee some. (
          far_for x y (11 * e.den),
          λ m l.
              let st = at_step x y sl sh cl ch pl ph ql qh (11 * e.den) m px py (mul-pos (omega arith) ee.positive) so co po qo se ce pe qe hs hc hp hq l in
              let r = st.c *ᶠ st.q -ᶠ st.s *ᶠ st.p in
              let d = mul-pos (mul-pos st.c_den st.q_den) (mul-pos st.s_den st.p_den) in
              let t = cosine_sum (x +ᶠ y) m in
              let f = whole (pos 11) *ᶠ sliver (11 * e.den) in
              le_f_trans (units lo) r (t +ᶠ e) d (contains st.s st.c st.p st.q st.s_within st.c_within st.p_within st.q_within).from
              (le_f_trans r (t +ᶠ f) (t +ᶠ e) (mul-pos (cosine_sum-den (x +ᶠ y) m dd) (sliver-den e ee)) st.cosine.below
              (le_f_add t t f e (le_f_refl t) (eleven_slivers e some))),
        );
      });
      at_most = cosine_at_most_in_the_end (x +ᶠ y) (units hi) (record { positive = dd }) (lit< tt) (record {
        from = λ e ee some. (
          far_for x y (11 * e.den),
          λ m l.
              let st = at_step x y sl sh cl ch pl ph ql qh (11 * e.den) m px py (mul-pos (omega arith) ee.positive) so co po qo se ce pe qe hs hc hp hq l in
              let r = st.c *ᶠ st.q -ᶠ st.s *ᶠ st.p in
              let d = mul-pos (mul-pos st.c_den st.q_den) (mul-pos st.s_den st.p_den) in
              let t = cosine_sum (x +ᶠ y) m in
              let f = whole (pos 11) *ᶠ sliver (11 * e.den) in
              le_f_trans t (r +ᶠ f) (units hi +ᶠ e) (mul-pos d (sliver-den e ee)) st.cosine.above
              (le_f_add r (units hi) f e (contains st.s st.c st.p st.q st.s_within st.c_within st.p_within st.q_within).to (eleven_slivers e some)),
        );
      });
    }

-- at whole units
sum_of_units : (z y : ℤ) → (units z +ᶠ units y) ≈ᶠ units (z +ℤ y)
sum_of_units z y = record { same = go z y (pos (10 ^ 18)) }
  where
    go : (z y w : ℤ) → (z *ℤ w +ℤ y *ℤ w) *ℤ w ≡ (z +ℤ y) *ℤ (w *ℤ w)
    go z y w = simp ring

units-fraction : (z : ℤ) → IsFraction (units z)
units-fraction z = record { positive = lit< tt }

sum_of_units-fraction : (z y : ℤ) → IsFraction (units z +ᶠ units y)
sum_of_units-fraction z y = record { positive = lit< tt }

pub has_sine_added : (z y : ℤ) (sl sh cl ch pl ph ql qh lo hi : ℤ) → sl ≤ℤ sh → cl ≤ℤ ch → pl ≤ℤ ph → ql ≤ℤ qh
    → EndsAtMost sl sh (2 * 10 ^ 18) → EndsAtMost cl ch (2 * 10 ^ 18) → EndsAtMost pl ph (2 * 10 ^ 18) → EndsAtMost ql qh (2 * 10 ^ 18)
    → HasSine sl sh (units z) → HasCosine cl ch (units z) → HasSine pl ph (units y) → HasCosine ql qh (units y)
    → ((s c p q : Fraction) → LiesWithin sl sh s → LiesWithin cl ch c → LiesWithin pl ph p → LiesWithin ql qh q → LiesWithin lo hi (s *ᶠ q +ᶠ c *ᶠ p)) → HasSine lo hi (units (z +ℤ y))
has_sine_added z y sl sh cl ch pl ph ql qh lo hi so co po qo se ce pe qe hs hc hp hq contains =
    has_sine_same lo hi (units z +ᶠ units y) (units (z +ℤ y)) (sum_of_units-fraction z y) (units-fraction (z +ℤ y)) (sum_of_units z y)
    (has_sine_sum (units z) (units y) sl sh cl ch pl ph ql qh lo hi (units-fraction z) (units-fraction y) so co po qo se ce pe qe hs hc hp hq contains)

pub has_cosine_added : (z y : ℤ) (sl sh cl ch pl ph ql qh lo hi : ℤ) → sl ≤ℤ sh → cl ≤ℤ ch → pl ≤ℤ ph → ql ≤ℤ qh
    → EndsAtMost sl sh (2 * 10 ^ 18) → EndsAtMost cl ch (2 * 10 ^ 18) → EndsAtMost pl ph (2 * 10 ^ 18) → EndsAtMost ql qh (2 * 10 ^ 18)
    → HasSine sl sh (units z) → HasCosine cl ch (units z) → HasSine pl ph (units y) → HasCosine ql qh (units y)
    → ((s c p q : Fraction) → LiesWithin sl sh s → LiesWithin cl ch c → LiesWithin pl ph p → LiesWithin ql qh q → LiesWithin lo hi (c *ᶠ q -ᶠ s *ᶠ p)) → HasCosine lo hi (units (z +ℤ y))
has_cosine_added z y sl sh cl ch pl ph ql qh lo hi so co po qo se ce pe qe hs hc hp hq contains =
    has_cosine_same lo hi (units z +ᶠ units y) (units (z +ℤ y)) (sum_of_units-fraction z y) (units-fraction (z +ℤ y)) (sum_of_units z y)
    (has_cosine_sum (units z) (units y) sl sh cl ch pl ph ql qh lo hi (units-fraction z) (units-fraction y) so co po qo se ce pe qe hs hc hp hq contains)

-- a product the other way round
pub product_turned : (lo hi : ℤ) (s c : Fraction) → LiesWithin lo hi (s *ᶠ c) → LiesWithin lo hi (c *ᶠ s)
product_turned lo hi s c h = subst (λ (f : Fraction). LiesWithin lo hi f) (λ i. over (*ℤ_comm s.num c.num i) (mul_comm s.den c.den i)) h
