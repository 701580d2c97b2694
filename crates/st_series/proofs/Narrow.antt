-- The ends of sine and of cosine come as near to each other as one likes, so each has one value.
use Rattle.std.proofs.Common.{◌≡◌, ℕ, zero, suc, ◌+◌, ◌*◌, ◌≤◌, ◌<◌, ℤ, pos, ◌+ℤ◌, ◌*ℤ◌, neg_ℤ, ◌≤ℤ◌, ◌<ℤ◌, unsigned_abs, inl, inr, refl, arith, mul-pos, mul-le-mul, mul-le-mul_left}
use Rattle.std.proofs.lemmas.Int.{ints}
use Rattle.st_fraction.specs.Fraction.{Fraction, IsFraction, ◌≤ᶠ◌, ◌<ᶠ◌, over, ◌-ᶠ◌, abs_f}
use Rattle.st_fraction.proofs.Ring.{ring, lin, le-mul_z, neg-mul_z}
use Rattle.st_fraction.proofs.Within.{Within}
use Rattle.st_fraction.proofs.Order.{le_f_cases, half_between, half_above_zero}
use Rattle.st_fraction.proofs.Scale.{IsAt, at_self, at_sub, le_at, at_le, at_above, at_below}
use Rattle.st_fraction.proofs.Ends.{lesser, greater, AreEnds, ends}
use Rattle.st_series.specs.Series.{turned, term, IsLongEnough, sine_lower, sine_upper, cosine_lower, cosine_upper}
use Rattle.st_series.specs.Laws.{LongEnoughExists, SineNarrow, CosineNarrow, SineAgrees, CosineAgrees}
use Rattle.st_series.proofs.Terms.{rest, rest-pos, scaled_term, series_exists, term_at, term-den, sine_of, cosine_of}
use Rattle.st_series.proofs.Tail.{scaled_term-within}
use Rattle.st_series.proofs.Vanish.{enough_for, vanishing_from}
use Rattle.st_series.proofs.Sandwich.{is_long, sine_lower_at, sine_upper_at, cosine_lower_at, cosine_upper_at, sine_lower-den, sine_upper-den, cosine_lower-den, cosine_upper-den}

-- every n of at least |p| is long enough for p / q
pub long_from : (x : Fraction) (n : ℕ) → IsFraction x → unsigned_abs x.num ≤ n → IsLongEnough x n
long_from x n px l =
    let a = mul-le-mul l l in
    let b = mul-le-mul_left ((2 * n + 1) * (2 * n + 2)) (mul-pos px.positive px.positive) in
    is_long x n (omega arith)

pub long_exists : LongEnoughExists
long_exists x px = (unsigned_abs x.num, long_from x (unsigned_abs x.num) px (omega arith))

turned_within : (i : ℕ) (z w : ℤ) → Within z w → Within (turned i z) w
turned_within zero z w h = h
turned_within (suc i) z w h = let ih = turned_within i z w h in record { above = omega (arith, lin); below = omega (arith, lin) }

gap_of : (x y f t l g : ℤ) → y ≡ x +ℤ f → Within f t → AreEnds x y l g → (g +ℤ neg_ℤ l) ≤ℤ t
gap_of x y f t l g e w a = elim a.either [ inl i ↦ omega (arith, lin, i.0, i.1, w.above) | inr i ↦ omega (arith, lin, i.0, i.1, w.below) ]

size_at : (x : Fraction) (k d : ℕ) → 0 < x.den → d ≤ k → IsAt (rest x.den 0 k) (term (abs_f x) d) (scaled_term (pos (unsigned_abs x.num)) x.den k d)
size_at x k d some l =
    term_at (rest x.den 0 k) (pos (unsigned_abs x.num)) x.den k (scaled_term (pos (unsigned_abs x.num)) x.den k) (abs_f x) some
    (series_exists (pos (unsigned_abs x.num)) x.den k) (at_self (abs_f x)) d l

sine_gap : (x : Fraction) (n : ℕ) → IsFraction x → (sine_upper x n -ᶠ sine_lower x n) ≤ᶠ term (abs_f x) (2 * suc n + 1)
sine_gap x n px =
    let some = px.positive in
    let k = 2 * n + 3 in
    let s = sine_of (scaled_term x.num x.den k) in
    let f = turned_within (suc n) (scaled_term x.num x.den k (2 * suc n + 1)) (scaled_term (pos (unsigned_abs x.num)) x.den k (2 * suc n + 1)) (scaled_term-within x.num x.den k (2 * suc n + 1)) in
    le_at (rest x.den 0 k) (sine_upper x n -ᶠ sine_lower x n) (term (abs_f x) (2 * suc n + 1)) (greater (s n) (s (suc n)) +ℤ neg_ℤ (lesser (s n) (s (suc n)))) _ (rest-pos x.den 0 k some)
    (at_sub (rest x.den 0 k) (sine_upper x n) (sine_lower x n) _ _ (sine_upper_at x k n some (omega arith)) (sine_lower_at x k n some (omega arith)))
    (size_at x k (2 * suc n + 1) some (omega arith))
    (gap_of (s n) (s (suc n)) (turned (suc n) (scaled_term x.num x.den k (2 * suc n + 1))) _ _ _ refl f (ends (s n) (s (suc n))))

pub sine_narrow : SineNarrow
sine_narrow x n px = let e : 2 * n + 3 ≡ 2 * suc n + 1 = omega arith in rw e (sine_gap x n px)

cosine_gap : (x : Fraction) (n : ℕ) → IsFraction x → (cosine_upper x n -ᶠ cosine_lower x n) ≤ᶠ term (abs_f x) (2 * suc n)
cosine_gap x n px =
    let some = px.positive in
    let k = 2 * n + 3 in
    let s = cosine_of (scaled_term x.num x.den k) in
    let f = turned_within (suc n) (scaled_term x.num x.den k (2 * suc n)) (scaled_term (pos (unsigned_abs x.num)) x.den k (2 * suc n)) (scaled_term-within x.num x.den k (2 * suc n)) in
    le_at (rest x.den 0 k) (cosine_upper x n -ᶠ cosine_lower x n) (term (abs_f x) (2 * suc n)) (greater (s n) (s (suc n)) +ℤ neg_ℤ (lesser (s n) (s (suc n)))) _ (rest-pos x.den 0 k some)
    (at_sub (rest x.den 0 k) (cosine_upper x n) (cosine_lower x n) _ _ (cosine_upper_at x k n some (omega arith)) (cosine_lower_at x k n some (omega arith)))
    (size_at x k (2 * suc n) some (omega arith))
    (gap_of (s n) (s (suc n)) (turned (suc n) (scaled_term x.num x.den k (2 * suc n))) _ _ _ refl f (ends (s n) (s (suc n))))

pub cosine_narrow : CosineNarrow
cosine_narrow x n px = let e : 2 * n + 2 ≡ 2 * suc n = omega arith in rw e (cosine_gap x n px)

-- At a scale m: a is at most g, l at most b, and g less l at most t, which is at most half of a - b. Then a ≤ b.
no_between : (m : ℕ) (a b g l t : Fraction) (x y z : ℤ) → 0 < m → 0 < g.den → 0 < l.den → 0 < t.den → IsAt m g x → IsAt m l y → IsAt m t z
    → a ≤ᶠ g → l ≤ᶠ b → (g -ᶠ l) ≤ᶠ t → t ≤ᶠ half_between a b → b <ᶠ a → ⊥
unfolding half_between
no_between m a b g l t x y z some pg pl pt hg hl ht h1 h2 h3 h4 h5 =
    let s1 = at_below m a g x pg hg h1 in
    let s2 = at_above m b l y pl hl h2 in
    let s3 = at_le m (g -ᶠ l) t (x +ℤ neg_ℤ y) z (mul-pos pg pl) pt (at_sub m g l x y hg hl) ht h3 in
    let s4 = at_above m (over (a.num *ℤ pos b.den +ℤ neg_ℤ b.num *ℤ pos a.den) (2 * (a.den * b.den))) t z pt ht h4 in
    go a.num b.num x y z a.den b.den m some s1 s2 s3 s4 h5.lt
  where
    join : (a b x y z c d m : ℤ) → (a *ℤ m *ℤ d) ≤ℤ (x *ℤ c *ℤ d) → (y *ℤ d *ℤ c) ≤ℤ (b *ℤ m *ℤ c) → ((x +ℤ neg_ℤ y) *ℤ (c *ℤ d)) ≤ℤ (z *ℤ (c *ℤ d))
        → ((a *ℤ d +ℤ neg_ℤ b *ℤ c) *ℤ m) ≤ℤ (z *ℤ (c *ℤ d))
    join a b x y z c d m h k l = simp ring (let h2 = simp ring at h in let k2 = simp ring at k in let l2 = simp ring at l in omega (arith, lin))

    close : (e w : ℤ) (n m : ℕ) → 0 < m → pos 1 ≤ℤ e → (e *ℤ pos m) ≤ℤ (w *ℤ pos n) → (w *ℤ pos (2 * n)) ≤ℤ (e *ℤ pos m) → ⊥
    close e w n m some p h k =
        let o = le-mul_z (pos 1) e m p in
        let d : w *ℤ pos (2 * n) ≡ w *ℤ pos n +ℤ w *ℤ pos n = omega (arith, ints) in
        let f : pos 1 ≤ℤ (e *ℤ pos m) = omega (arith, ints, o, some) in
        omega (arith, ints, d, f, h, k)

    go : (a b x y z : ℤ) (c d m : ℕ) → 0 < m → (a *ℤ pos m) ≤ℤ (x *ℤ pos c) → (y *ℤ pos d) ≤ℤ (b *ℤ pos m) → (x +ℤ neg_ℤ y) ≤ℤ z
        → (z *ℤ pos (2 * (c * d))) ≤ℤ ((a *ℤ pos d +ℤ neg_ℤ b *ℤ pos c) *ℤ pos m) → (b *ℤ pos c) <ℤ (a *ℤ pos d) → ⊥
    go a b x y z c d m some h1 h2 h3 h4 h5 =
        let e = neg-mul_z b (pos c) in
        close (a *ℤ pos d +ℤ neg_ℤ b *ℤ pos c) z (c * d) m some (above (a *ℤ pos d) (b *ℤ pos c) (neg_ℤ b *ℤ pos c) h5 e)
        (join a b x y z (pos c) (pos d) (pos m) (le-mul_z (a *ℤ pos m) (x *ℤ pos c) d h1) (le-mul_z (y *ℤ pos d) (b *ℤ pos m) c h2) (le-mul_z (x +ℤ neg_ℤ y) z (c * d) h3)) h4
      where
        above : (x y z : ℤ) → y <ℤ x → z ≡ neg_ℤ y → pos 1 ≤ℤ (x +ℤ z)
        above x y z h e = omega (arith, ints)

pub sine_agrees : SineAgrees
sine_agrees x a b px low high = le_f_cases a b (λ h. h) (λ h.
    let some = px.positive in
    let n = unsigned_abs x.num + enough_for x (half_between a b) in
    let k = 2 * n + 3 in
    let long = long_from x n px (omega arith) in
    absurd (no_between (rest x.den 0 k) a b (sine_upper x n) (sine_lower x n) (term (abs_f x) (2 * n + 3)) _ _ _ (rest-pos x.den 0 k some)
    (sine_upper-den x n some) (sine_lower-den x n some) (term-den (abs_f x) (2 * n + 3) some)
    (sine_upper_at x k n some (omega arith)) (sine_lower_at x k n some (omega arith)) (size_at x k (2 * n + 3) some (omega arith))
    (low.at_each n long) (high.at_each n long) (sine_narrow x n px)
    (vanishing_from x (half_between a b) some (half_above_zero a b h) (2 * n + 3) (omega arith)) h))

pub cosine_agrees : CosineAgrees
cosine_agrees x a b px low high = le_f_cases a b (λ h. h) (λ h.
    let some = px.positive in
    let n = unsigned_abs x.num + enough_for x (half_between a b) in
    let k = 2 * n + 3 in
    let long = long_from x n px (omega arith) in
    absurd (no_between (rest x.den 0 k) a b (cosine_upper x n) (cosine_lower x n) (term (abs_f x) (2 * n + 2)) _ _ _ (rest-pos x.den 0 k some)
    (cosine_upper-den x n some) (cosine_lower-den x n some) (term-den (abs_f x) (2 * n + 2) some)
    (cosine_upper_at x k n some (omega arith)) (cosine_lower_at x k n some (omega arith)) (size_at x k (2 * n + 2) some (omega arith))
    (low.at_each n long) (high.at_each n long) (cosine_narrow x n px)
    (vanishing_from x (half_between a b) some (half_above_zero a b h) (2 * n + 2) (omega arith)) h))
