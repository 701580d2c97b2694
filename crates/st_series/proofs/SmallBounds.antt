-- The small bounds hold: fourteen rounded terms, and the first term that is left out, stay within 25 units.
use Rattle.std.proofs.Common.{◌≡◌, ℕ, zero, suc, ◌+◌, ◌*◌, ◌^◌, ◌≤◌, ◌<◌, ℤ, pos, negsuc, ◌+ℤ◌, ◌-ℤ◌, ◌*ℤ◌, ◌≤ℤ◌, unsigned_abs, refl, sym, ap, ◌∙◌, arith, lit<, lit≤, mul-pos, mul-le-mul, mul-le-mul_right, mul-le-mul_left}
use Rattle.std.specs.Int.{int_div_euclid}
use Rattle.std.proofs.Math.Nat.{pow-zero, pow-suc}
use Rattle.std.proofs.lemmas.Int.{ints}
use Rattle.st_fraction.specs.Fraction.{Fraction, IsFraction, ◌≤ᶠ◌, units, ◌+ᶠ◌, abs_f}
use Rattle.st_fraction.proofs.Ring.{ring, add-mul_z, mul-neg_z, mul_assoc_z, one-mul_z, mul-one_z}
use Rattle.st_fraction.proofs.Order.{le_f_refl, le_f_trans, le_f_add, le_f_move}
use Rattle.st_fraction.proofs.Scale.{IsAt, at_self, at_more, le_at}
use Rattle.st_enclosure.proofs.Contained.{move_low, move_high}
use Rattle.st_enclosure.proofs.Quotient.{IsFloor}
use Rattle.st_series.specs.Series.{factorial, power, turned, term, sine_sum, cosine_sum, IsLongEnough, sine_lower, sine_upper, cosine_lower, cosine_upper, sine_num, cosine_num}
use Rattle.st_series.specs.Small.{rounded_sum, rounded_square, small_sine, small_cosine}
use Rattle.st_series.specs.Enclosed.{HasSine, HasCosine}
use Rattle.st_series.proofs.Terms.{term-den, sine_sum-den, cosine_sum-den}
use Rattle.st_series.proofs.PartialSums.{full, full-two, sine_num_at, cosine_num_at}
use Rattle.st_series.proofs.Vanish.{power_is}
use Rattle.st_series.proofs.Sandwich.{is_long, sine_own, cosine_own, sine_lower-den, sine_upper-den, cosine_lower-den, cosine_upper-den}
use Rattle.st_series.proofs.Narrow.{sine_narrow, cosine_narrow}
use Rattle.st_series.proofs.Values.{sine_is_at_least, sine_is_at_most, cosine_is_at_least, cosine_is_at_most}
use Rattle.st_series.proofs.Rounded.{divisor, divisor-pos, IsClose, exact_power, exact_den, exact_num, sums_close, floor_is, square_low, square_high}

-- The exact sums are those of the series at x / w.
sine_power_is : (x : ℤ) (i : ℕ) → exact_power x (x *ℤ x) i ≡ power x (2 * i + 1)
unfolding exact_power
sine_power_is x zero = sym (one-mul_z x)
sine_power_is x (suc i) =
    let e : 2 * suc i + 1 ≡ suc (suc (2 * i + 1)) = omega arith in
    rw (e, sine_power_is x i) (sym (mul_assoc_z (power x (2 * i + 1)) x x))

cosine_power_is : (w x : ℤ) (i : ℕ) → exact_power w (x *ℤ x) i ≡ w *ℤ power x (2 * i)
unfolding exact_power
cosine_power_is w x zero = sym (mul-one_z w)
cosine_power_is w x (suc i) =
    let e : 2 * suc i ≡ suc (suc (2 * i)) = omega arith in
    rw (e, cosine_power_is w x i) (simp mul_assoc_z)

sine_den_is : (w n : ℕ) → w * exact_den w 1 n ≡ full w (2 * n + 1)
unfolding exact_den divisor
sine_den_is w zero = rw (pow-suc w 0, pow-zero) (omega arith)
sine_den_is w (suc n) =
    let e : 2 * suc n + 1 ≡ suc (suc (2 * n + 1)) = omega arith in
    rw (e, full-two w (2 * n + 1), ← sine_den_is w n) (omega arith)

cosine_den_is : (w n : ℕ) → exact_den w 0 n ≡ full w (2 * n)
unfolding exact_den divisor
cosine_den_is w zero = rw pow-zero refl
cosine_den_is w (suc n) =
    let e : 2 * suc n ≡ suc (suc (2 * n)) = omega arith in
    rw (e, full-two w (2 * n), ← cosine_den_is w n) (omega arith)

sine_num_is : (x : ℤ) (w n : ℕ) → exact_num x (x *ℤ x) w 1 n ≡ sine_num x w n
unfolding exact_num divisor
sine_num_is x w zero = refl
sine_num_is x w (suc n) =
    let e : w * (w * ((2 * n + 1 + 1) * (2 * n + 1 + 2))) ≡ w * w * ((2 * n + 2) * (2 * n + 3)) = omega arith in
    rw (e, sine_num_is x w n, sine_power_is x (suc n)) refl

turned-mul : (t : ℕ) (w z : ℤ) → turned t (w *ℤ z) ≡ w *ℤ turned t z
turned-mul zero w z = refl
turned-mul (suc t) w z = rw (turned-mul t w z) (sym (mul-neg_z w (turned t z)))

-- the cosine's first term is w units
cosine_num_is : (x : ℤ) (w n : ℕ) → exact_num (pos w) (x *ℤ x) w 0 n ≡ pos w *ℤ cosine_num x w n
unfolding exact_num divisor
cosine_num_is x w zero = sym (mul-one_z (pos w))
cosine_num_is x w (suc n) =
    let e : w * (w * ((2 * n + 0 + 1) * (2 * n + 0 + 2))) ≡ w * w * ((2 * n + 1) * (2 * n + 2)) = omega arith in
    rw (e, cosine_num_is x w n, cosine_power_is (pos w) x (suc n), turned-mul (suc n) (pos w) (power x (2 * suc n))) (go (pos w) (cosine_num x w n) (pos (w * w * ((2 * n + 1) * (2 * n + 2)))) (turned (suc n) (power x (2 * suc n))))
  where
    go : (w a k b : ℤ) → w *ℤ a *ℤ k +ℤ w *ℤ b ≡ w *ℤ (a *ℤ k +ℤ b)
    go w a k b = simp ring

-- A sum that is close is within 24 units; 9/5 units a term for thirteen terms are 23.4.
close_low : (s n : ℤ) (e : ℕ) → IsClose s n e 13 → ((s -ℤ pos 24) *ℤ pos e) ≤ℤ n
close_low s n e c =
    let i : pos 5 *ℤ (n -ℤ s *ℤ pos e) ≡ pos 5 *ℤ n -ℤ pos 5 *ℤ (s *ℤ pos e) = omega (arith, ints) in
    let j = add-mul_z s (negsuc 23) (pos e) in
    omega (arith, ints, c.off.below, c.off.above)

close_high : (s n : ℤ) (e : ℕ) → IsClose s n e 13 → n ≤ℤ ((s +ℤ pos 24) *ℤ pos e)
close_high s n e c =
    let i : pos 5 *ℤ (n -ℤ s *ℤ pos e) ≡ pos 5 *ℤ n -ℤ pos 5 *ℤ (s *ℤ pos e) = omega (arith, ints) in
    let j = add-mul_z s (pos 24) (pos e) in
    omega (arith, ints, c.off.below, c.off.above)

record IsWithin24 (s : ℤ) (a : Fraction) : Type 0 where
  low : units (s -ℤ pos 24) ≤ᶠ a
  high : a ≤ᶠ units (s +ℤ pos 24)

within_24 : (s n : ℤ) (e : ℕ) (a : Fraction) → 0 < e → IsAt (10 ^ 18 * e) a n → IsClose s n e 13 → IsWithin24 s a
within_24 s n e a some at c =
    let scale = mul-pos (let i : 0 < 10 ^ 18 = omega arith in i) some in
    record {
      low = le_at (10 ^ 18 * e) (units (s -ℤ pos 24)) a ((s -ℤ pos 24) *ℤ pos e) n scale (at_more (10 ^ 18) e (units (s -ℤ pos 24)) (s -ℤ pos 24) (at_self (units (s -ℤ pos 24)))) at (close_low s n e c);
      high = le_at (10 ^ 18 * e) a (units (s +ℤ pos 24)) n ((s +ℤ pos 24) *ℤ pos e) scale at (at_more (10 ^ 18) e (units (s +ℤ pos 24)) (s +ℤ pos 24) (at_self (units (s +ℤ pos 24)))) (close_high s n e c);
    }

-- The ends are within one unit of the sum, where the first term that is left out is at most one unit.
record IsWithin25 (s : ℤ) (l u : Fraction) : Type 0 where
  low : units (s -ℤ pos 25) ≤ᶠ l
  high : u ≤ᶠ units (s +ℤ pos 25)

within_25 : (s : ℤ) (a l u t : Fraction) → 0 < a.den → 0 < l.den → 0 < u.den → 0 < t.den → IsWithin24 s a → l ≤ᶠ a → a ≤ᶠ u → u ≤ᶠ (l +ᶠ t) → t ≤ᶠ units (pos 1) → IsWithin25 s l u
within_25 s a l u t pa pl pu pt w la au ul small =
    let wide : u ≤ᶠ (l +ᶠ units (pos 1)) = le_f_trans u (l +ᶠ t) (l +ᶠ units (pos 1)) (mul-pos pl pt) ul (le_f_add l l t (units (pos 1)) (le_f_refl l) small) in
    let first : units (s -ℤ pos 24) ≤ᶠ (l +ᶠ units (pos 1)) = le_f_trans (units (s -ℤ pos 24)) a (l +ᶠ units (pos 1)) pa w.low (le_f_trans a u (l +ᶠ units (pos 1)) pu au wide) in
    let la2 : l ≤ᶠ units (s +ℤ pos 24) = le_f_trans l a (units (s +ℤ pos 24)) pa la w.high in
    let last : u ≤ᶠ (units (s +ℤ pos 24) +ᶠ units (pos 1)) = le_f_trans u (l +ᶠ units (pos 1)) (units (s +ℤ pos 24) +ᶠ units (pos 1)) (mul-pos pl (lit< tt)) wide (le_f_add l (units (s +ℤ pos 24)) (units (pos 1)) (units (pos 1)) la2 (le_f_refl (units (pos 1)))) in
    let e : s -ℤ pos 24 -ℤ pos 1 ≡ s -ℤ pos 25 = omega (arith, ints) in
    let f : s +ℤ pos 24 +ℤ pos 1 ≡ s +ℤ pos 25 = omega (arith, ints) in
    record {
      low = record { le = rw e at (move_low (s -ℤ pos 24) (pos 1) l.num l.den (10 ^ 18) (lit< tt) first.le) };
      high = record { le = rw f at (move_high (s +ℤ pos 24) (pos 1) u.num u.den (10 ^ 18) (lit< tt) last.le) };
    }

-- a^k / (w^k k!) is at most 1 / w, for a at most b w
power_below : (b a w k : ℕ) → a ≤ b * w → a ^ k ≤ b ^ k * w ^ k
power_below b a w zero h = rw (pow-zero, pow-zero, pow-zero) (omega arith)
power_below b a w (suc k) h = rw (pow-suc a k, pow-suc b k, pow-suc w k) (omega (arith, mul-le-mul (power_below b a w k h) h))

left_out_small : (b a w k : ℕ) → a ≤ b * w → b ^ k * w ≤ factorial k → (power (pos a) k *ℤ pos w) ≤ℤ (pos 1 *ℤ pos (w ^ k * factorial k))
left_out_small b a w k h f = rw (power_is a k) (by (a ^ k) (b ^ k) (w ^ k) (factorial k) (power_below b a w k h) f)
  where
    by : (p t v n : ℕ) → p ≤ t * v → t * w ≤ n → pos (p * w) ≤ℤ (pos 1 *ℤ pos (v * n))
    by p t v n g f = omega (arith, ints, mul-le-mul_right w g, mul-le-mul_left v f)

term_below_unit : (b : ℕ) (x : ℤ) (k : ℕ) → unsigned_abs x ≤ b * 10 ^ 18 → b ^ k * 10 ^ 18 ≤ factorial k → term (abs_f (units x)) k ≤ᶠ units (pos 1)
unfolding term
term_below_unit b x k h f = record { le = left_out_small b (unsigned_abs x) (10 ^ 18) k h f }

-- nine is long enough for 2, and so is what is longer
long_9 : (x : ℤ) (n : ℕ) → 9 ≤ n → unsigned_abs x ≤ 2 * 10 ^ 18 → IsLongEnough (units x) n
long_9 x n e h =
    let a : 19 ≤ 2 * n + 1 = omega arith in
    let b : 20 ≤ 2 * n + 2 = omega arith in
    is_long (units x) n (omega (arith, mul-le-mul h h, mul-le-mul_left (10 ^ 36) (mul-le-mul a b)))

-- fewer terms are off by less
close_more : (s n : ℤ) (e i j : ℕ) → i ≤ j → IsClose s n e i → IsClose s n e j
close_more s n e i j h c =
    let m = mul-le-mul_right e h in
    record { off = record { above = omega (arith, ints, c.off.above, m); below = omega (arith, ints, c.off.below, m) } }

exact_den-pos : (w k n : ℕ) → 0 < w → 0 < exact_den w k n
unfolding exact_den
exact_den-pos w k zero some = omega arith
exact_den-pos w k (suc n) some = mul-pos (exact_den-pos w k n some) (mul-pos some (mul-pos some (divisor-pos k n)))

pub units-fraction : (x : ℤ) → IsFraction (units x)
units-fraction x = record { positive = lit< tt }

-- the rounded square, as a natural number
record IsRoundedSquare (x : ℤ) (q : ℕ) : Type 0 where
  same : pos q ≡ int_div_euclid (x *ℤ x) (pos (10 ^ 18))
  small : q ≤ 4 * 10 ^ 18
  floor : IsFloor (x *ℤ x) (pos q) (10 ^ 18)

rounded_square_is : (x : ℤ) → unsigned_abs x ≤ 2 * 10 ^ 18 → IsRoundedSquare x (unsigned_abs (int_div_euclid (x *ℤ x) (pos (10 ^ 18))))
rounded_square_is x h =
    let l = square_low x (10 ^ 18) in
    let e : pos (unsigned_abs (int_div_euclid (x *ℤ x) (pos (10 ^ 18)))) ≡ int_div_euclid (x *ℤ x) (pos (10 ^ 18)) = omega (arith, ints) in
    record { same = e; small = square_high x h; floor = rw e (floor_is (x *ℤ x) (10 ^ 18) (lit< tt)) }

sine_bounds : (x : ℤ) (n : ℕ) → n ≤ 13 → unsigned_abs x ≤ 2 * 10 ^ 18 → term (abs_f (units x)) (2 * n + 3) ≤ᶠ units (pos 1)
    → IsWithin25 (rounded_sum x (int_div_euclid (x *ℤ x) (pos (10 ^ 18))) 1 n) (sine_lower (units x) n) (sine_upper (units x) n)
sine_bounds x n e h small =
    let some : 0 < 10 ^ 18 = lit< tt in
    let q = unsigned_abs (int_div_euclid (x *ℤ x) (pos (10 ^ 18))) in
    let sq = rounded_square_is x h in
    let s = rounded_sum x (int_div_euclid (x *ℤ x) (pos (10 ^ 18))) 1 n in
    let c = rw (sine_num_is x (10 ^ 18) n, sq.same) at (sums_close x x q 1 h sq.small sq.floor n) in
    let c13 = close_more s (sine_num x (10 ^ 18) n) (exact_den (10 ^ 18) 1 n) n 13 e c in
    let at = rw (← sine_den_is (10 ^ 18) n) at (sine_num_at (units x) n) in
    let w = within_24 s (sine_num x (10 ^ 18) n) (exact_den (10 ^ 18) 1 n) (sine_sum (units x) n) (exact_den-pos (10 ^ 18) 1 n some) at c13 in
    let own = sine_own (units x) n some in
    within_25 s (sine_sum (units x) n) (sine_lower (units x) n) (sine_upper (units x) n) (term (abs_f (units x)) (2 * n + 3))
    (sine_sum-den (units x) n some) (sine_lower-den (units x) n some) (sine_upper-den (units x) n some) (term-den (abs_f (units x)) (2 * n + 3) some) w own.0 own.1
    (le_f_move (sine_upper (units x) n) (sine_lower (units x) n) (term (abs_f (units x)) (2 * n + 3)) (sine_lower-den (units x) n some) (sine_narrow (units x) n (units-fraction x))) small

cosine_bounds : (x : ℤ) (n : ℕ) → n ≤ 13 → unsigned_abs x ≤ 2 * 10 ^ 18 → term (abs_f (units x)) (2 * n + 2) ≤ᶠ units (pos 1)
    → IsWithin25 (rounded_sum (pos (10 ^ 18)) (int_div_euclid (x *ℤ x) (pos (10 ^ 18))) 0 n) (cosine_lower (units x) n) (cosine_upper (units x) n)
cosine_bounds x n e h small =
    let some : 0 < 10 ^ 18 = lit< tt in
    let q = unsigned_abs (int_div_euclid (x *ℤ x) (pos (10 ^ 18))) in
    let sq = rounded_square_is x h in
    let s = rounded_sum (pos (10 ^ 18)) (int_div_euclid (x *ℤ x) (pos (10 ^ 18))) 0 n in
    let d = exact_den (10 ^ 18) 0 n in
    let num = pos (10 ^ 18) *ℤ cosine_num x (10 ^ 18) n in
    let c = rw (cosine_num_is x (10 ^ 18) n, sq.same) at (sums_close (pos (10 ^ 18)) x q 0 (lit≤ tt) sq.small sq.floor n) in
    let c13 = close_more s num d n 13 e c in
    let at = scaled_at (10 ^ 18) d (cosine_sum (units x) n) (cosine_num x (10 ^ 18) n) (rw (← cosine_den_is (10 ^ 18) n) at (cosine_num_at (units x) n)) in
    let w = within_24 s num d (cosine_sum (units x) n) (exact_den-pos (10 ^ 18) 0 n some) at c13 in
    let own = cosine_own (units x) n some in
    within_25 s (cosine_sum (units x) n) (cosine_lower (units x) n) (cosine_upper (units x) n) (term (abs_f (units x)) (2 * n + 2))
    (cosine_sum-den (units x) n some) (cosine_lower-den (units x) n some) (cosine_upper-den (units x) n some) (term-den (abs_f (units x)) (2 * n + 2) some) w own.0 own.1
    (le_f_move (cosine_upper (units x) n) (cosine_lower (units x) n) (term (abs_f (units x)) (2 * n + 2)) (cosine_lower-den (units x) n some) (cosine_narrow (units x) n (units-fraction x))) small
  where
    scaled_at : (w d : ℕ) (a : Fraction) (n : ℤ) → IsAt d a n → IsAt (w * d) a (pos w *ℤ n)
    scaled_at w d a n h = record { at = go a.num (pos w) (pos d) n (pos a.den) h.at }
      where
        go : (a w d n e : ℤ) → a *ℤ d ≡ n *ℤ e → a *ℤ (w *ℤ d) ≡ w *ℤ n *ℤ e
        go a w d n e h =
            let l : a *ℤ (w *ℤ d) ≡ w *ℤ (a *ℤ d) = simp ring in
            let r : w *ℤ (n *ℤ e) ≡ w *ℤ n *ℤ e = simp ring in
            l ∙ ap (λ z. w *ℤ z) h ∙ r

pub has_small_sine : (x : ℤ) → unsigned_abs x ≤ 2 * 10 ^ 18 → HasSine (small_sine x -ℤ pos 25) (small_sine x +ℤ pos 25) (units x)
unfolding small_sine
has_small_sine x h =
    let px = units-fraction x in
    let long = long_9 x 13 (lit≤ tt) h in
    let b = sine_bounds x 13 (lit≤ tt) h (term_below_unit 2 x 29 h (lit≤ tt)) in
    record { at_least = sine_is_at_least (units x) _ 13 px long b.low; at_most = sine_is_at_most (units x) _ 13 px long b.high }

pub has_small_cosine : (x : ℤ) → unsigned_abs x ≤ 2 * 10 ^ 18 → HasCosine (small_cosine x -ℤ pos 25) (small_cosine x +ℤ pos 25) (units x)
unfolding small_cosine
has_small_cosine x h =
    let px = units-fraction x in
    let long = long_9 x 13 (lit≤ tt) h in
    let b = cosine_bounds x 13 (lit≤ tt) h (term_below_unit 2 x 28 h (lit≤ tt)) in
    record { at_least = cosine_is_at_least (units x) _ 13 px long b.low; at_most = cosine_is_at_most (units x) _ 13 px long b.high }

-- ten terms do for 1
pub has_short_sine : (x : ℤ) → unsigned_abs x ≤ 10 ^ 18 → HasSine (rounded_sum x (rounded_square x) 1 9 -ℤ pos 25) (rounded_sum x (rounded_square x) 1 9 +ℤ pos 25) (units x)
has_short_sine x h =
    let px = units-fraction x in
    let g : unsigned_abs x ≤ 2 * 10 ^ 18 = omega arith in
    let long = long_9 x 9 (lit≤ tt) g in
    let b = sine_bounds x 9 (lit≤ tt) g (term_below_unit 1 x 21 (omega arith) (lit≤ tt)) in
    record { at_least = sine_is_at_least (units x) _ 9 px long b.low; at_most = sine_is_at_most (units x) _ 9 px long b.high }

pub has_short_cosine : (x : ℤ) → unsigned_abs x ≤ 10 ^ 18 → HasCosine (rounded_sum (pos (10 ^ 18)) (rounded_square x) 0 9 -ℤ pos 25) (rounded_sum (pos (10 ^ 18)) (rounded_square x) 0 9 +ℤ pos 25) (units x)
has_short_cosine x h =
    let px = units-fraction x in
    let g : unsigned_abs x ≤ 2 * 10 ^ 18 = omega arith in
    let long = long_9 x 9 (lit≤ tt) g in
    let b = cosine_bounds x 9 (lit≤ tt) g (term_below_unit 1 x 20 (omega arith) (lit≤ tt)) in
    record { at_least = cosine_is_at_least (units x) _ 9 px long b.low; at_most = cosine_is_at_most (units x) _ 9 px long b.high }
