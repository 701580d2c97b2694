-- Quarters of a turn. A quarter, rounded to whole units, has a sine within 26 units of 1 and a cosine within 26 of 0; so one
-- more quarter costs at most 54 units, wherever one is.
use Rattle.std.proofs.Common.{◌≡◌, ℕ, zero, suc, ◌+◌, ◌*◌, ◌^◌, ◌≤◌, ℤ, pos, negsuc, ◌+ℤ◌, ◌-ℤ◌, ◌*ℤ◌, neg_ℤ, ◌≤ℤ◌, unsigned_abs, refl, arith, lit<, lit≤}
use Rattle.std.proofs.Math.IntN.{neg_ℤ-neg_ℤ}
use Rattle.std.proofs.lemmas.Int.{ints}
use Rattle.st_fraction.specs.Fraction.{Fraction, IsFraction, units, ◌*ᶠ◌, LiesWithin}
use Rattle.st_fraction.proofs.Ring.{le-mul_z}
use Rattle.st_fraction.proofs.Order.{le_f_trans}
use Rattle.st_enclosure.specs.Ends.{EndsAtMost}
use Rattle.st_enclosure.proofs.Contained.{sum_lies, difference_lies, product_lies}
use Rattle.st_series.specs.Small.{small_sine, small_cosine, rounded_sum, rounded_term}
use Rattle.st_series.specs.Enclosed.{HasSine, HasCosine}
use Rattle.st_series.proofs.SmallBounds.{has_small_sine, has_small_cosine}
use Rattle.st_sine.proofs.Carried.{has_sine_low, has_sine_high, has_cosine_low, has_cosine_high}
use Rattle.st_sine.proofs.Added.{has_sine_added, has_cosine_added}

abbrev pub quarter : ℕ
quarter = 1570796326794896619

sine_of_quarter : HasSine (pos 999999999999999974) (pos 1000000000000000024) (units (pos quarter))
unfolding small_sine rounded_sum rounded_term
sine_of_quarter = has_small_sine (pos quarter) (lit≤ tt)

cosine_of_quarter : HasCosine (negsuc 23) (pos 26) (units (pos quarter))
unfolding small_cosine rounded_sum rounded_term
cosine_of_quarter = has_small_cosine (pos quarter) (lit≤ tt)

sine_of_quarter_back : HasSine (neg_ℤ (pos 1000000000000000024)) (neg_ℤ (pos 999999999999999974)) (units (neg_ℤ (pos quarter)))
unfolding small_sine rounded_sum rounded_term
sine_of_quarter_back = has_small_sine (neg_ℤ (pos quarter)) (lit≤ tt)

cosine_of_quarter_back : HasCosine (negsuc 23) (pos 26) (units (neg_ℤ (pos quarter)))
unfolding small_cosine rounded_sum rounded_term
cosine_of_quarter_back = has_small_cosine (neg_ℤ (pos quarter)) (lit≤ tt)

-- The sine is within e units of s, and the cosine of c.
pub record HasBoth (s c : ℤ) (e : ℕ) (z : ℤ) : Type 0 where
  pub sine : HasSine (s -ℤ pos e) (s +ℤ pos e) (units z)
  pub cosine : HasCosine (c -ℤ pos e) (c +ℤ pos e) (units z)

units-fraction : (z : ℤ) → IsFraction (units z)
units-fraction z = record { positive = lit< tt }

record AreInside (s c : ℤ) (e : ℕ) : Type 0 where
  s_ordered : (s -ℤ pos e) ≤ℤ (s +ℤ pos e)
  c_ordered : (c -ℤ pos e) ≤ℤ (c +ℤ pos e)
  s_low : neg_ℤ (pos 1000000000002000000) ≤ℤ (s -ℤ pos e)
  s_high : (s +ℤ pos e) ≤ℤ pos 1000000000002000000
  c_low : neg_ℤ (pos 1000000000002000000) ≤ℤ (c -ℤ pos e)
  c_high : (c +ℤ pos e) ≤ℤ pos 1000000000002000000

are_inside : (s c : ℤ) (e : ℕ) (z : ℤ) → e ≤ 10 ^ 6 → HasBoth s c e z → AreInside s c e
are_inside s c e z h b =
    let sl = has_sine_low _ _ (units z) (units-fraction z) b.sine in
    let sh = has_sine_high _ _ (units z) (units-fraction z) b.sine in
    let cl = has_cosine_low _ _ (units z) (units-fraction z) b.cosine in
    let ch = has_cosine_high _ _ (units z) (units-fraction z) b.cosine in
    record {
      s_ordered = omega (arith, ints);
      c_ordered = omega (arith, ints);
      s_low = omega (arith, ints);
      s_high = omega (arith, ints);
      c_low = omega (arith, ints);
      c_high = omega (arith, ints);
    }

ends_at_most_two : (lo hi : ℤ) → neg_ℤ (pos 1000000000002000000) ≤ℤ lo → hi ≤ℤ pos 1000000000002000000 → EndsAtMost lo hi (2 * 10 ^ 18)
ends_at_most_two lo hi l h = record { low = omega (arith, ints); high = omega (arith, ints) }

lies_wider : (l h lo hi : ℤ) (x : Fraction) → lo ≤ℤ l → h ≤ℤ hi → LiesWithin l h x → LiesWithin lo hi x
lies_wider l h lo hi x a b w = record {
  from = le_f_trans (units lo) (units l) x (lit< tt) (record { le = le-mul_z lo l (10 ^ 18) a }) w.from;
  to = le_f_trans x (units h) (units hi) (lit< tt) w.to (record { le = le-mul_z h hi (10 ^ 18) b });
}

-- times the cosine of a quarter, and times its sine
times_nothing : (l h : ℤ) (x q : Fraction) → l ≤ℤ h → neg_ℤ (pos 1000000000002000000) ≤ℤ l → h ≤ℤ pos 1000000000002000000
    → LiesWithin l h x → LiesWithin (negsuc 23) (pos 26) q → LiesWithin (negsuc 26) (pos 27) (x *ᶠ q)
times_nothing l h x q o a b w k = product_lies (negsuc 26) (pos 27) l h (negsuc 23) (pos 26) x q
    (omega (arith, ints)) (omega (arith, ints)) (omega (arith, ints)) (omega (arith, ints)) (omega (arith, ints)) (omega (arith, ints)) (omega (arith, ints)) (omega (arith, ints)) w k

times_one : (l h : ℤ) (x p : Fraction) → l ≤ℤ h → neg_ℤ (pos 1000000000002000000) ≤ℤ l → h ≤ℤ pos 1000000000002000000
    → LiesWithin l h x → LiesWithin (pos 999999999999999974) (pos 1000000000000000024) p → LiesWithin (l -ℤ pos 27) (h +ℤ pos 27) (x *ᶠ p)
times_one l h x p o a b w k = product_lies (l -ℤ pos 27) (h +ℤ pos 27) l h (pos 999999999999999974) (pos 1000000000000000024) x p
    (omega (arith, ints)) (omega (arith, ints)) (omega (arith, ints)) (omega (arith, ints)) (omega (arith, ints)) (omega (arith, ints)) (omega (arith, ints)) (omega (arith, ints)) w k

times_minus_one : (l h : ℤ) (x p : Fraction) → l ≤ℤ h → neg_ℤ (pos 1000000000002000000) ≤ℤ l → h ≤ℤ pos 1000000000002000000
    → LiesWithin l h x → LiesWithin (neg_ℤ (pos 1000000000000000024)) (neg_ℤ (pos 999999999999999974)) p → LiesWithin (neg_ℤ h -ℤ pos 27) (neg_ℤ l +ℤ pos 27) (x *ᶠ p)
times_minus_one l h x p o a b w k = product_lies (neg_ℤ h -ℤ pos 27) (neg_ℤ l +ℤ pos 27) l h (neg_ℤ (pos 1000000000000000024)) (neg_ℤ (pos 999999999999999974)) x p
    (omega (arith, ints)) (omega (arith, ints)) (omega (arith, ints)) (omega (arith, ints)) (omega (arith, ints)) (omega (arith, ints)) (omega (arith, ints)) (omega (arith, ints)) w k

pub quarter_on : (s c : ℤ) (e : ℕ) (z : ℤ) → e ≤ 10 ^ 6 → HasBoth s c e z → HasBoth c (neg_ℤ s) (e + 54) (z +ℤ pos quarter)
quarter_on s c e z small b =
    let i = are_inside s c e z small b in
    let po : pos 999999999999999974 ≤ℤ pos 1000000000000000024 = omega (arith, ints) in
    let qo : negsuc 23 ≤ℤ pos 26 = omega (arith, ints) in
    let pe : EndsAtMost (pos 999999999999999974) (pos 1000000000000000024) (2 * 10 ^ 18) = record { low = omega (arith, ints); high = omega (arith, ints) } in
    let qe : EndsAtMost (negsuc 23) (pos 26) (2 * 10 ^ 18) = record { low = omega (arith, ints); high = omega (arith, ints) } in
    let se = ends_at_most_two _ _ i.s_low i.s_high in
    let ce = ends_at_most_two _ _ i.c_low i.c_high in
    record {
      sine = has_sine_added z (pos quarter) _ _ _ _ _ _ _ _ (c -ℤ pos (e + 54)) (c +ℤ pos (e + 54)) i.s_ordered i.c_ordered po qo se ce pe qe b.sine b.cosine sine_of_quarter cosine_of_quarter
          (λ x y p q xw yw pw qw. lies_wider _ _ (c -ℤ pos (e + 54)) (c +ℤ pos (e + 54)) _ (omega (arith, ints)) (omega (arith, ints))
          (sum_lies _ _ _ _ (x *ᶠ q) (y *ᶠ p) (times_nothing _ _ x q i.s_ordered i.s_low i.s_high xw qw) (times_one _ _ y p i.c_ordered i.c_low i.c_high yw pw)));
      cosine = has_cosine_added z (pos quarter) _ _ _ _ _ _ _ _ (neg_ℤ s -ℤ pos (e + 54)) (neg_ℤ s +ℤ pos (e + 54)) i.s_ordered i.c_ordered po qo se ce pe qe b.sine b.cosine sine_of_quarter cosine_of_quarter
          (λ x y p q xw yw pw qw. lies_wider _ _ (neg_ℤ s -ℤ pos (e + 54)) (neg_ℤ s +ℤ pos (e + 54)) _ (omega (arith, ints)) (omega (arith, ints))
          (difference_lies _ _ _ _ (y *ᶠ q) (x *ᶠ p) (times_nothing _ _ y q i.c_ordered i.c_low i.c_high yw qw) (times_one _ _ x p i.s_ordered i.s_low i.s_high xw pw)));
    }

pub quarter_back : (s c : ℤ) (e : ℕ) (z : ℤ) → e ≤ 10 ^ 6 → HasBoth s c e z → HasBoth (neg_ℤ c) s (e + 54) (z +ℤ neg_ℤ (pos quarter))
quarter_back s c e z small b =
    let i = are_inside s c e z small b in
    let po : neg_ℤ (pos 1000000000000000024) ≤ℤ neg_ℤ (pos 999999999999999974) = omega (arith, ints) in
    let qo : negsuc 23 ≤ℤ pos 26 = omega (arith, ints) in
    let pe : EndsAtMost (neg_ℤ (pos 1000000000000000024)) (neg_ℤ (pos 999999999999999974)) (2 * 10 ^ 18) = record { low = omega (arith, ints); high = omega (arith, ints) } in
    let qe : EndsAtMost (negsuc 23) (pos 26) (2 * 10 ^ 18) = record { low = omega (arith, ints); high = omega (arith, ints) } in
    let se = ends_at_most_two _ _ i.s_low i.s_high in
    let ce = ends_at_most_two _ _ i.c_low i.c_high in
    record {
      sine = has_sine_added z (neg_ℤ (pos quarter)) _ _ _ _ _ _ _ _ (neg_ℤ c -ℤ pos (e + 54)) (neg_ℤ c +ℤ pos (e + 54)) i.s_ordered i.c_ordered po qo se ce pe qe b.sine b.cosine sine_of_quarter_back cosine_of_quarter_back
          (λ x y p q xw yw pw qw. lies_wider _ _ (neg_ℤ c -ℤ pos (e + 54)) (neg_ℤ c +ℤ pos (e + 54)) _ (omega (arith, ints)) (omega (arith, ints))
          (sum_lies _ _ _ _ (x *ᶠ q) (y *ᶠ p) (times_nothing _ _ x q i.s_ordered i.s_low i.s_high xw qw) (times_minus_one _ _ y p i.c_ordered i.c_low i.c_high yw pw)));
      cosine = has_cosine_added z (neg_ℤ (pos quarter)) _ _ _ _ _ _ _ _ (s -ℤ pos (e + 54)) (s +ℤ pos (e + 54)) i.s_ordered i.c_ordered po qo se ce pe qe b.sine b.cosine sine_of_quarter_back cosine_of_quarter_back
          (λ x y p q xw yw pw qw. lies_wider _ _ (s -ℤ pos (e + 54)) (s +ℤ pos (e + 54)) _ (omega (arith, ints)) (omega (arith, ints))
          (difference_lies _ _ _ _ (y *ᶠ q) (x *ᶠ p) (times_nothing _ _ y q i.c_ordered i.c_low i.c_high yw qw) (times_minus_one _ _ x p i.s_ordered i.s_low i.s_high xw pw)));
    }

-- the same numbers, written otherwise
has_both_same : (s c s2 c2 : ℤ) (e e2 : ℕ) (z z2 : ℤ) → s ≡ s2 → c ≡ c2 → e ≡ e2 → z ≡ z2 → HasBoth s c e z → HasBoth s2 c2 e2 z2
has_both_same s c s2 c2 e e2 z z2 hs hc he hz b = rw (← hs, ← hc, ← he, ← hz) b

-- a whole turn
turn_on : (s c : ℤ) (e : ℕ) (z : ℤ) → e + 216 ≤ 10 ^ 6 → HasBoth s c e z → HasBoth s c (e + 216) (z +ℤ pos (4 * quarter))
turn_on s c e z small b =
    let one = quarter_on s c e z (omega arith) b in
    let two = quarter_on _ _ (e + 54) _ (omega arith) one in
    let three = quarter_on _ _ (e + 54 + 54) _ (omega arith) two in
    let four = quarter_on _ _ (e + 54 + 54 + 54) _ (omega arith) three in
    has_both_same _ _ s c _ (e + 216) _ (z +ℤ pos (4 * quarter)) (neg_ℤ-neg_ℤ s) (neg_ℤ-neg_ℤ c) (omega arith) (omega (arith, ints)) four

turn_back : (s c : ℤ) (e : ℕ) (z : ℤ) → e + 216 ≤ 10 ^ 6 → HasBoth s c e z → HasBoth s c (e + 216) (z +ℤ neg_ℤ (pos (4 * quarter)))
turn_back s c e z small b =
    let one = quarter_back s c e z (omega arith) b in
    let two = quarter_back _ _ (e + 54) _ (omega arith) one in
    let three = quarter_back _ _ (e + 54 + 54) _ (omega arith) two in
    let four = quarter_back _ _ (e + 54 + 54 + 54) _ (omega arith) three in
    has_both_same _ _ s c _ (e + 216) _ (z +ℤ neg_ℤ (pos (4 * quarter))) (neg_ℤ-neg_ℤ s) (neg_ℤ-neg_ℤ c) (omega arith) (omega (arith, ints)) four

turns_on : (n : ℕ) (s c : ℤ) (e : ℕ) (z : ℤ) → e + 216 * n ≤ 10 ^ 6 → HasBoth s c e z → HasBoth s c (e + 216 * n) (z +ℤ pos n *ℤ pos (4 * quarter))
turns_on zero s c e z small b = has_both_same s c s c e (e + 216 * 0) z (z +ℤ pos 0 *ℤ pos (4 * quarter)) refl refl (omega arith) (omega (arith, ints)) b
turns_on (suc n) s c e z small b =
    let before = turns_on n s c e z (omega arith) b in
    has_both_same s c s c _ (e + 216 * suc n) _ (z +ℤ pos (suc n) *ℤ pos (4 * quarter)) refl refl (omega arith) (omega (arith, ints)) (turn_on s c _ _ (omega arith) before)

turns_back : (n : ℕ) (s c : ℤ) (e : ℕ) (z : ℤ) → e + 216 * n ≤ 10 ^ 6 → HasBoth s c e z → HasBoth s c (e + 216 * n) (z +ℤ neg_ℤ (pos n) *ℤ pos (4 * quarter))
turns_back zero s c e z small b = has_both_same s c s c e (e + 216 * 0) z (z +ℤ neg_ℤ (pos 0) *ℤ pos (4 * quarter)) refl refl (omega arith) (omega (arith, ints)) b
turns_back (suc n) s c e z small b =
    let before = turns_back n s c e z (omega arith) b in
    has_both_same s c s c _ (e + 216 * suc n) _ (z +ℤ neg_ℤ (pos (suc n)) *ℤ pos (4 * quarter)) refl refl (omega arith) (omega (arith, ints)) (turn_back s c _ _ (omega arith) before)

turned_by : (k s c : ℤ) (e : ℕ) (z : ℤ) → e + 216 * unsigned_abs k ≤ 10 ^ 6 → HasBoth s c e z → HasBoth s c (e + 216 * unsigned_abs k) (z +ℤ k *ℤ pos (4 * quarter))
turned_by (pos n) s c e z small b = turns_on n s c e z small b
turned_by (negsuc n) s c e z small b = turns_back (suc n) s c e z small b

-- with an enclosure of the one, 50 units wide, and the small bounds of the other
start_sine : (rest lo hi : ℤ) → unsigned_abs rest ≤ 10 ^ 18 → HasSine lo hi (units rest) → hi ≡ lo +ℤ pos 50 → HasBoth (lo +ℤ pos 25) (small_cosine rest) 25 rest
start_sine rest lo hi h s w =
    let a : lo +ℤ pos 25 -ℤ pos 25 ≡ lo = omega (arith, ints) in
    let b : lo +ℤ pos 25 +ℤ pos 25 ≡ hi = omega (arith, ints) in
    record { sine = rw (a, b) s; cosine = has_small_cosine rest (omega arith) }

start_cosine : (rest lo hi : ℤ) → unsigned_abs rest ≤ 10 ^ 18 → HasCosine lo hi (units rest) → hi ≡ lo +ℤ pos 50 → HasBoth (small_sine rest) (lo +ℤ pos 25) 25 rest
start_cosine rest lo hi h s w =
    let a : lo +ℤ pos 25 -ℤ pos 25 ≡ lo = omega (arith, ints) in
    let b : lo +ℤ pos 25 +ℤ pos 25 ≡ hi = omega (arith, ints) in
    record { sine = has_small_sine rest (omega arith); cosine = rw (a, b) s }

same_sine : (lo hi l h z y : ℤ) → lo ≡ l → hi ≡ h → z ≡ y → HasSine l h (units y) → HasSine lo hi (units z)
same_sine lo hi l h z y a b c s = rw (a, b, c) s

-- The sine of what is left and so many whole turns and quarters, by the sine or the cosine of what is left.
pub record IsAfter (lo hi rest k : ℤ) (r : ℕ) : Type 0 where
  pub sine : HasSine (lo -ℤ pos (54 * (4 * unsigned_abs k + r))) (hi +ℤ pos (54 * (4 * unsigned_abs k + r))) (units (rest +ℤ (pos 4 *ℤ k +ℤ pos r) *ℤ pos quarter))

pub after_none : (rest k lo hi : ℤ) → unsigned_abs rest ≤ 10 ^ 18 → unsigned_abs k ≤ 500 → HasSine lo hi (units rest) → hi ≡ lo +ℤ pos 50 → IsAfter lo hi rest k 0
after_none rest k lo hi h few s w =
    let b = turned_by k _ _ 25 rest (omega arith) (start_sine rest lo hi h s w) in
    record { sine = same_sine _ _ _ _ _ _ (omega (arith, ints)) (omega (arith, ints, w)) (omega (arith, ints)) b.sine }

pub after_one : (rest k lo hi : ℤ) → unsigned_abs rest ≤ 10 ^ 18 → unsigned_abs k ≤ 500 → HasCosine lo hi (units rest) → hi ≡ lo +ℤ pos 50 → IsAfter lo hi rest k 1
after_one rest k lo hi h few s w =
    let b = turned_by k _ _ 25 rest (omega arith) (start_cosine rest lo hi h s w) in
    let one = quarter_on _ _ _ _ (omega arith) b in
    record { sine = same_sine _ _ _ _ _ _ (omega (arith, ints)) (omega (arith, ints, w)) (omega (arith, ints)) one.sine }

pub after_two : (rest k l h lo hi : ℤ) → unsigned_abs rest ≤ 10 ^ 18 → unsigned_abs k ≤ 500 → HasSine l h (units rest) → h ≡ l +ℤ pos 50 → lo ≡ neg_ℤ h → hi ≡ neg_ℤ l → IsAfter lo hi rest k 2
after_two rest k l h lo hi small few s w el eh =
    let b = turned_by k _ _ 25 rest (omega arith) (start_sine rest l h small s w) in
    let one = quarter_on _ _ _ _ (omega arith) b in
    let two = quarter_on _ _ _ _ (omega arith) one in
    record { sine = same_sine _ _ _ _ _ _ (omega (arith, ints, w, el)) (omega (arith, ints, eh)) (omega (arith, ints)) two.sine }

pub after_three : (rest k l h lo hi : ℤ) → unsigned_abs rest ≤ 10 ^ 18 → unsigned_abs k ≤ 500 → HasCosine l h (units rest) → h ≡ l +ℤ pos 50 → lo ≡ neg_ℤ h → hi ≡ neg_ℤ l → IsAfter lo hi rest k 3
after_three rest k l h lo hi small few s w el eh =
    let b = turned_by k _ _ 25 rest (omega arith) (start_cosine rest l h small s w) in
    let one = quarter_on _ _ _ _ (omega arith) b in
    let two = quarter_on _ _ _ _ (omega arith) one in
    let three = quarter_on _ _ _ _ (omega arith) two in
    record { sine = same_sine _ _ _ _ _ _ (omega (arith, ints, w, el)) (omega (arith, ints, eh)) (omega (arith, ints)) three.sine }
