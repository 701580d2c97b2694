-- How far the rounded terms and their sums are from the exact ones. Each rounding costs less than one unit, and what the
-- roundings before it cost shrinks with each step, so that 9/5 units bound the error of every term after the first.
use Rattle.std.proofs.Common.{◌≡◌, ℕ, zero, suc, ◌+◌, ◌*◌, ◌^◌, ◌≤◌, ◌<◌, ℤ, pos, negsuc, ◌+ℤ◌, ◌-ℤ◌, ◌*ℤ◌, neg_ℤ, ◌≤ℤ◌, ◌<ℤ◌, ◌⊎◌, inl, inr, unsigned_abs, refl, ap, arith, mul-pos, mul-le-mul, mul-le-mul_right, mul-le-mul_left}
use Rattle.std.specs.Int.{int_div_euclid}
use Rattle.std.proofs.lemmas.Int.{ints, unsigned_abs-mul}
use Rattle.std.proofs.Math.IntN.{neg_ℤ-+ℤ, neg_ℤ-neg_ℤ}
use Rattle.st_fraction.proofs.Ring.{ring, lin, le_cancel_z, lt_cancel_z, square_abs, add-mul_z, neg-mul_z}
use Rattle.st_fraction.proofs.Within.{Within, within_abs, within_mul, within_neg, within_scale}
use Rattle.st_enclosure.proofs.Quotient.{IsFloor, floor_of_split, splits}
use Rattle.st_series.specs.Series.{turned}
use Rattle.st_series.specs.Small.{rounded_term, rounded_sum}

pub floor_is : (z : ℤ) (n : ℕ) → 0 < n → IsFloor z (int_div_euclid z (pos n)) n
floor_is z n some = floor_of_split z _ _ n (splits z n some)

pub floor_within : (z : ℤ) (n j : ℕ) → 0 < n → unsigned_abs z ≤ j * n → unsigned_abs (int_div_euclid z (pos n)) ≤ j
floor_within z n j some h =
    let f = int_div_euclid z (pos n) in
    let k = floor_is z n some in
    let e = neg-mul_z (pos j) (pos n) in
    let up : f ≤ℤ pos j = le_cancel_z f (pos j) n some (omega (arith, ints, k.below)) in
    let down : neg_ℤ (pos j) <ℤ (f +ℤ pos 1) = lt_cancel_z (neg_ℤ (pos j)) (f +ℤ pos 1) n (omega (arith, ints, k.above)) in
    omega (arith, ints)

-- (d+1)(d+2) for the term of degree d = 2 i + k
unfoldable pub divisor : ℕ → ℕ → ℕ
divisor k i = (2 * i + k + 1) * (2 * i + k + 2)

-- u, over the denominator e, is off from p by at most 9/5 r
pub record IsClose (u p : ℤ) (e r : ℕ) : Type 0 where
  pub off : Within (pos 5 *ℤ (p -ℤ u *ℤ pos e)) (pos (9 * r * e))

pub close_self : (u : ℤ) → IsClose u u 1 0
close_self u =
    let h : Within (pos 5 *ℤ (u -ℤ u *ℤ pos 1)) (pos 0) = record { above = omega (arith, ints); below = omega (arith, ints) } in
    record { off = h }

-- One step: p s is the next exact numerator, v the next rounded term, q the rounded factor.
pub close_step : (p s v u : ℤ) (q e w d r : ℕ) → IsClose u p e r → pos 0 ≤ℤ s → s ≤ℤ pos ((q + 1) * w) → Within (s -ℤ pos q *ℤ pos w) (pos w) → Within (u *ℤ pos q -ℤ v *ℤ pos d) (pos d)
    → 5 * unsigned_abs u + 9 * r * (q + 1) ≤ 4 * d → IsClose v (p *ℤ s) (e * (w * d)) 1
close_step p s v u q e w d r c some top b f room =
    let one = within_mul (pos 5 *ℤ (p -ℤ u *ℤ pos e)) s (pos (9 * r * e)) (pos ((q + 1) * w)) c.off (record { above = top; below = omega (arith, ints) }) in
    let five : Within (pos 5) (pos 5) = within_abs (pos 5) in
    let inner = within_mul u (pos e *ℤ (s -ℤ pos q *ℤ pos w)) (pos (unsigned_abs u)) (pos e *ℤ pos w) (within_abs u) (within_mul (pos e) (s -ℤ pos q *ℤ pos w) (pos e) (pos w) (within_abs (pos e)) b) in
    let two = within_mul (pos 5) (u *ℤ (pos e *ℤ (s -ℤ pos q *ℤ pos w))) (pos 5) (pos (unsigned_abs u) *ℤ (pos e *ℤ pos w)) five inner in
    let last = within_mul (pos e) (pos w *ℤ (u *ℤ pos q -ℤ v *ℤ pos d)) (pos e) (pos w *ℤ pos d) (within_abs (pos e)) (within_mul (pos w) (u *ℤ pos q -ℤ v *ℤ pos d) (pos w) (pos d) (within_abs (pos w)) f) in
    let three = within_mul (pos 5) (pos e *ℤ (pos w *ℤ (u *ℤ pos q -ℤ v *ℤ pos d))) (pos 5) (pos e *ℤ (pos w *ℤ pos d)) five last in
    let i = split (pos 5) p s v u (pos q) (pos e) (pos w) (pos d) in
    let a = 9 * r * e * ((q + 1) * w) in
    let sum : a + 5 * (unsigned_abs u * (e * w)) + 5 * (e * (w * d)) ≤ 9 * 1 * (e * (w * d)) = omega (arith, mul-le-mul_left (e * w) room) in
    record { off = rw i (join _ _ _ _ _ _ _ one two three sum) }
  where
    split : (f p s v u q e w d : ℤ) → f *ℤ (p *ℤ s -ℤ v *ℤ (e *ℤ (w *ℤ d))) ≡ f *ℤ (p -ℤ u *ℤ e) *ℤ s +ℤ f *ℤ (u *ℤ (e *ℤ (s -ℤ q *ℤ w))) +ℤ f *ℤ (e *ℤ (w *ℤ (u *ℤ q -ℤ v *ℤ d)))
    split f p s v u q e w d = simp ring (omega (arith, lin))

    join : (x y z : ℤ) (a b c n : ℕ) → Within x (pos a) → Within y (pos b) → Within z (pos c) → a + b + c ≤ n → Within (x +ℤ y +ℤ z) (pos n)
    join x y z a b c n h k l s = record { above = omega (arith, ints); below = omega (arith, ints) }

pub close_turned : (u p : ℤ) (e r t : ℕ) → IsClose u p e r → IsClose (turned t u) (turned t p) e r
close_turned u p e r zero c = c
close_turned u p e r (suc t) c =
    let ih = close_turned u p e r t c in
    let i = flip (pos 5) (turned t p) (turned t u) (pos e) in
    record { off = rw i (within_neg _ _ ih.off) }
  where
    flip : (f p u e : ℤ) → f *ℤ (neg_ℤ p -ℤ neg_ℤ u *ℤ e) ≡ neg_ℤ (f *ℤ (p -ℤ u *ℤ e))
    flip f p u e = simp ring (omega (arith, lin))

-- The sum with one more term.
pub close_sum : (s n u p : ℤ) (e k i : ℕ) → IsClose s n e i → IsClose u p (e * k) 1 → IsClose (s +ℤ u) (n *ℤ pos k +ℤ p) (e * k) (suc i)
close_sum s n u p e k i c d =
    let one = within_scale (pos 5 *ℤ (n -ℤ s *ℤ pos e)) (pos (9 * i * e)) k c.off in
    let j = split (pos 5) n s u p (pos e) (pos k) in
    let sum : 9 * i * e * k + 9 * 1 * (e * k) ≤ 9 * suc i * (e * k) = omega arith in
    record { off = rw j (join _ _ _ _ _ one d.off sum) }
  where
    split : (f n s u p e k : ℤ) → f *ℤ ((n *ℤ k +ℤ p) -ℤ (s +ℤ u) *ℤ (e *ℤ k)) ≡ f *ℤ (n -ℤ s *ℤ e) *ℤ k +ℤ f *ℤ (p -ℤ u *ℤ (e *ℤ k))
    split f n s u p e k = simp ring (omega (arith, lin))

    join : (x y : ℤ) (a b n : ℕ) → Within x (pos a) → Within y (pos b) → a + b ≤ n → Within (x +ℤ y) (pos n)
    join x y a b n h k s = record { above = omega (arith, ints); below = omega (arith, ints) }

-- The exact numerators and denominators, with s the square of x and w the units in one.
unfoldable pub exact_power : ℤ → ℤ → ℕ → ℤ
exact_power first s zero = first
exact_power first s (suc i) = exact_power first s i *ℤ s

unfoldable pub exact_den : ℕ → ℕ → ℕ → ℕ
exact_den w k zero = 1
exact_den w k (suc i) = exact_den w k i * (w * (w * divisor k i))

unfoldable pub exact_num : ℤ → ℤ → ℕ → ℕ → ℕ → ℤ
exact_num first s w k zero = first
exact_num first s w k (suc i) = exact_num first s w k i *ℤ pos (w * (w * divisor k i)) +ℤ turned (suc i) (exact_power first s (suc i))

-- the first term is exact, and at most k + 1; the others are rounded, and at most 2
unfoldable pub rough : ℕ → ℕ
rough zero = 0
rough (suc i) = 1

unfoldable pub top : ℕ → ℕ → ℕ
top k zero = k + 1
top k (suc i) = 2

pub top_fits : (k i : ℕ) → top k i * 4 ≤ 2 * divisor k i
unfolding divisor top
top_fits k zero = omega arith
top_fits k (suc i) =
    let a : 3 ≤ 2 * suc i + k + 1 = omega arith in
    let b : 4 ≤ 2 * suc i + k + 2 = omega arith in
    omega (arith, mul-le-mul a b)

pub divisor-pos : (k i : ℕ) → 0 < divisor k i
unfolding divisor
divisor-pos k i = mul-pos (omega arith) (omega arith)

pub room : (k i u q : ℕ) → u ≤ top k i * 10 ^ 18 → q ≤ 4 * 10 ^ 18 → 5 * u + 9 * rough i * (q + 1) ≤ 4 * (10 ^ 18 * divisor k i)
unfolding divisor top rough
room k zero u q hu hq = omega (arith, mul-le-mul_left (10 ^ 18) (let h : 5 * (k + 1) ≤ 4 * ((k + 1) * (k + 2)) = omega arith in h))
room k (suc i) u q hu hq =
    let a : 3 ≤ 2 * suc i + k + 1 = omega arith in
    let b : 4 ≤ 2 * suc i + k + 2 = omega arith in
    omega (arith, mul-le-mul a b)

pub term_small : (first : ℤ) (q k i : ℕ) → unsigned_abs first ≤ (k + 1) * 10 ^ 18 → q ≤ 4 * 10 ^ 18 → unsigned_abs (rounded_term first (pos q) k i) ≤ top k i * 10 ^ 18
unfolding rounded_term top divisor
term_small first q k zero h hq = h
term_small first q k (suc i) h hq =
    let ih = term_small first q k i h hq in
    let u = rounded_term first (pos q) k i in
    let f = top_fits k i in
    floor_within (u *ℤ pos q) (10 ^ 18 * ((2 * i + k + 1) * (2 * i + k + 2))) (2 * 10 ^ 18) (mul-pos (omega arith) (divisor-pos k i))
    (omega (arith, unsigned_abs-mul u (pos q), mul-le-mul ih hq, mul-le-mul_left (10 ^ 18 * 10 ^ 18) f))

pub terms_close : (first x : ℤ) (q k : ℕ) → unsigned_abs first ≤ (k + 1) * 10 ^ 18 → q ≤ 4 * 10 ^ 18 → IsFloor (x *ℤ x) (pos q) (10 ^ 18) → (i : ℕ)
    → IsClose (rounded_term first (pos q) k i) (exact_power first (x *ℤ x) i) (exact_den (10 ^ 18) k i) (rough i)
unfolding rounded_term exact_power exact_den rough divisor
terms_close first x q k h hq sq zero = close_self first
terms_close first x q k h hq sq (suc i) =
    let u = rounded_term first (pos q) k i in
    let d = 10 ^ 18 * ((2 * i + k + 1) * (2 * i + k + 2)) in
    let f = floor_is (u *ℤ pos q) d (mul-pos (omega arith) (divisor-pos k i)) in
    let some : pos 0 ≤ℤ (x *ℤ x) = let e = square_abs x in omega (arith, ints) in
    let e1 = add-mul_z (pos q) (pos 1) (pos (10 ^ 18)) in
    let e2 = add-mul_z (int_div_euclid (u *ℤ pos q) (pos d)) (pos 1) (pos d) in
    close_step (exact_power first (x *ℤ x) i) (x *ℤ x) (int_div_euclid (u *ℤ pos q) (pos d)) u q (exact_den (10 ^ 18) k i) (10 ^ 18) d (rough i)
    (terms_close first x q k h hq sq i) some (omega (arith, ints, sq.above))
    (record { above = omega (arith, lin, sq.above, e1); below = omega (arith, ints, sq.below) })
    (record { above = omega (arith, lin, f.above, e2); below = omega (arith, ints, f.below) })
    (room k i (unsigned_abs u) q (term_small first q k i h hq) hq)

pub sums_close : (first x : ℤ) (q k : ℕ) → unsigned_abs first ≤ (k + 1) * 10 ^ 18 → q ≤ 4 * 10 ^ 18 → IsFloor (x *ℤ x) (pos q) (10 ^ 18) → (i : ℕ)
    → IsClose (rounded_sum first (pos q) k i) (exact_num first (x *ℤ x) (10 ^ 18) k i) (exact_den (10 ^ 18) k i) i
unfolding rounded_sum exact_num exact_den rough
sums_close first x q k h hq sq zero = close_self first
sums_close first x q k h hq sq (suc i) =
    let d = terms_close first x q k h hq sq (suc i) in
    close_sum (rounded_sum first (pos q) k i) (exact_num first (x *ℤ x) (10 ^ 18) k i) (turned (suc i) (rounded_term first (pos q) k (suc i))) (turned (suc i) (exact_power first (x *ℤ x) (suc i)))
    (exact_den (10 ^ 18) k i) (10 ^ 18 * (10 ^ 18 * divisor k i)) i (sums_close first x q k h hq sq i)
    (close_turned _ _ _ 1 (suc i) d)

-- the square, rounded down
pub square_low : (x : ℤ) (n : ℕ) → pos 0 ≤ℤ int_div_euclid (x *ℤ x) (pos n)
square_low x n = rw (square_abs x) (omega (arith, ints))

pub square_high : (x : ℤ) → unsigned_abs x ≤ 2 * 10 ^ 18 → unsigned_abs (int_div_euclid (x *ℤ x) (pos (10 ^ 18))) ≤ 4 * 10 ^ 18
square_high x h = floor_within (x *ℤ x) (10 ^ 18) (4 * 10 ^ 18) (omega arith) (omega (arith, unsigned_abs-mul x x, mul-le-mul h h))

-- what the loop has after i turns
pub record SumsSoFar (first q : ℤ) (k i : ℕ) (term sum : ℤ) : Type 0 where
  pub term_is : term ≡ rounded_term first q k i
  pub sum_is : sum ≡ turned i (rounded_sum first q k i)

pub sums_start : (first q : ℤ) (k : ℕ) → SumsSoFar first q k 0 first first
unfolding rounded_term rounded_sum
sums_start first q k = record { term_is = refl; sum_is = refl }

turned_twice : (i : ℕ) (z : ℤ) → turned i (turned i z) ≡ z
turned_twice zero z = refl
turned_twice (suc i) z = rw (turned_neg i (turned i z), turned_twice i z, neg_ℤ-neg_ℤ) refl
  where
    turned_neg : (i : ℕ) (z : ℤ) → turned i (neg_ℤ z) ≡ neg_ℤ (turned i z)
    turned_neg zero z = refl
    turned_neg (suc i) z = ap neg_ℤ (turned_neg i z)

turned_add : (i : ℕ) (y z : ℤ) → turned i (y +ℤ z) ≡ turned i y +ℤ turned i z
turned_add zero y z = refl
turned_add (suc i) y z = rw (turned_add i y z) (neg_ℤ-+ℤ (turned i y) (turned i z))

pub sums_next : (first q : ℤ) (k i : ℕ) (term sum next : ℤ) → SumsSoFar first q k i term sum
    → next ≡ int_div_euclid (term *ℤ q) (pos (10 ^ 18 * ((2 * i + k + 1) * (2 * i + k + 2)))) → SumsSoFar first q k (suc i) next (next -ℤ sum)
unfolding rounded_term rounded_sum
sums_next first q k i term sum next s e =
    let t : next ≡ int_div_euclid (rounded_term first q k i *ℤ q) (pos (10 ^ 18 * ((2 * i + k + 1) * (2 * i + k + 2)))) = rw (← s.term_is) e in
    let u = int_div_euclid (rounded_term first q k i *ℤ q) (pos (10 ^ 18 * ((2 * i + k + 1) * (2 * i + k + 2)))) in
    let r = rounded_sum first q k i in
    let both = turned_add (suc i) r (turned (suc i) u) in
    let back = turned_twice (suc i) u in
    record { term_is = t; sum_is = omega (arith, lin, t, s.sum_is, both, back) }

-- the sizes that keep the loop's products and sums within 128 bits
pub record IsSmallSum (first q : ℤ) (k i : ℕ) (term sum : ℤ) : Type 0 where
  pub term_small : unsigned_abs term ≤ 2 * 10 ^ 18
  pub fits : unsigned_abs term * unsigned_abs q ≤ 2 * 10 ^ 36 * divisor k i
  pub sum_small : unsigned_abs sum ≤ (i + 1) * (2 * 10 ^ 18)

abs-turned : (i : ℕ) (z : ℤ) → unsigned_abs (turned i z) ≡ unsigned_abs z
abs-turned zero z = refl
abs-turned (suc i) z = let ih = abs-turned i z in omega (arith, ints)

sum_small : (first : ℤ) (q k i : ℕ) → k ≤ 1 → unsigned_abs first ≤ (k + 1) * 10 ^ 18 → q ≤ 4 * 10 ^ 18 → unsigned_abs (rounded_sum first (pos q) k i) ≤ (i + 1) * (2 * 10 ^ 18)
unfolding rounded_sum top
sum_small first q k zero hk h hq = omega arith
sum_small first q k (suc i) hk h hq =
    let ih = sum_small first q k i hk h hq in
    let u = term_small first q k (suc i) h hq in
    let e = abs-turned (suc i) (rounded_term first (pos q) k (suc i)) in
    omega (arith, ints)

top_small : (k i : ℕ) → k ≤ 1 → top k i ≤ 2
unfolding top
top_small k zero h = omega arith
top_small k (suc i) h = omega arith

pub small_so_far : (first q : ℤ) (k i : ℕ) (term sum : ℤ) → k ≤ 1 → unsigned_abs first ≤ (k + 1) * 10 ^ 18 → pos 0 ≤ℤ q → q ≤ℤ pos (4 * 10 ^ 18)
    → SumsSoFar first q k i term sum → IsSmallSum first q k i term sum
small_so_far first (pos q) k i term sum hk h h0 hq s =
    let l : q ≤ 4 * 10 ^ 18 = omega (arith, ints) in
    let u = term_small first q k i h l in
    let f = top_fits k i in
    let n = sum_small first q k i hk h l in
    let a = abs-turned i (rounded_sum first (pos q) k i) in
    let t = top_small k i hk in
    record {
      term_small = rw s.term_is (omega (arith, mul-le-mul_right (10 ^ 18) t));
      fits = rw s.term_is (omega (arith, mul-le-mul u l, mul-le-mul_left (10 ^ 18 * 10 ^ 18) f));
      sum_small = rw s.sum_is (omega arith);
    }
small_so_far first (negsuc q) k i term sum hk h h0 hq s = absurd (omega (arith, ints))

pub sums_done : (first q : ℤ) (k i : ℕ) (term sum : ℤ) → (i ≡ 9) ⊎ (i ≡ 13) → SumsSoFar first q k i term sum → pos 0 -ℤ sum ≡ rounded_sum first q k i
sums_done first q k i term sum odd s = elim odd [
  | inl e ↦ let z = rw e at s.sum_is in rw e (omega (arith, ints, z))
  | inr e ↦ let z = rw e at s.sum_is in rw e (omega (arith, ints, z))
]
