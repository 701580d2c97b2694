-- What `convert` finds, in whole units.
use Rattle.std.proofs.Common.{◌≡◌, ℕ, ◌+◌, ◌*◌, ◌^◌, ◌≤◌, ◌<◌, ℤ, pos, ◌+ℤ◌, ◌-ℤ◌, ◌*ℤ◌, ◌≤ℤ◌, unsigned_abs, arith, lit<, mul-pos}
use Rattle.std.proofs.lemmas.Int.{ints}
use Rattle.st_fraction.specs.Fraction.{Fraction, IsFraction, ◌≤ᶠ◌, units, ◌+ᶠ◌, ◌*ᶠ◌, LiesWithin}
use Rattle.st_fraction.proofs.Order.{le_f_refl, le_f_trans, le_f_add, le_f_mul}
use Rattle.st_fraction.proofs.Placed.{plus, times, lowered, raised}
use Rattle.st_enclosure.specs.Ends.{EndsAtMost}
use Rattle.st_sine.specs.Anomaly.{AnomalySineIsAtLeast, AnomalySineIsAtMost}
use Rattle.st_scales.specs.declared.deltet.Deltet.{Deltet}
use Rattle.st_scales.specs.Tdb.{sine_low, sine_high, tdb_low, tdb_high, TdbIsAtLeast, TdbIsAtMost}
use Rattle.st_scales.proofs.Step.{IsSlack, of_units}
use Rattle.st_scales.proofs.Moves.{tdb_moves_low, tdb_moves_high}
use Rattle.st_scales.proofs.Values.{tdb_agrees, tdb_loosens_low, tdb_loosens_high, tdb_rises_low, tdb_rises_high}
use Rattle.st_scales.proofs.Routes.{tdb_is_tt}

pub units_are : (u : ℤ) → IsFraction (units u)
units_are u = record { positive = lit< tt }

one : 0 < 10 ^ 18
one = lit< tt

pub units_rise : (a b : ℤ) → a ≤ℤ b → units a ≤ᶠ units b
units_rise a b h = raised one (of_units a) (of_units b) h

units_order : (a b : ℤ) → units a ≤ᶠ units b → a ≤ℤ b
units_order a b h = lowered (of_units a) (of_units b) h

slack : (n k : ℕ) → n ≤ k * 10 ^ 9 → IsSlack (units (pos n)) (units (pos k))
slack n k h = record { enough = raised one (of_units (pos n)) (times (pos (10 ^ 9)) (of_units (pos k))) (omega (arith, ints)) }

-- from one whole count of units to another, which is k 10^9 units away or less
pub units_low : (c : Deltet) (t u p : ℤ) (k : ℕ) → unsigned_abs (u -ℤ t) ≤ k * 10 ^ 9 → TdbIsAtLeast c (units t) (units p) → TdbIsAtLeast c (units u) (units (p +ℤ (u -ℤ t) -ℤ pos k))
units_low c t u p k h low =
    let e = pos (unsigned_abs (u -ℤ t)) in
    let v = p +ℤ (u -ℤ t) -ℤ pos k in
    tdb_moves_low c (units t) (units u) (units e) (units (pos k)) (units p) (units v) (units_are t) (units_are u) (units_are e) (units_are (pos k)) (units_are p) (units_are v)
    (record {
      above = raised one (of_units t) (plus (of_units u) (of_units e)) (omega (arith, ints));
      below = raised one (of_units u) (plus (of_units t) (of_units e)) (omega (arith, ints));
    })
    (slack (unsigned_abs (u -ℤ t)) k h) (raised one (plus (of_units v) (plus (of_units t) (of_units (pos k)))) (plus (of_units p) (of_units u)) (omega (arith, ints))) low

pub units_high : (c : Deltet) (t u p : ℤ) (k : ℕ) → unsigned_abs (u -ℤ t) ≤ k * 10 ^ 9 → TdbIsAtMost c (units t) (units p) → TdbIsAtMost c (units u) (units (p +ℤ (u -ℤ t) +ℤ pos k))
units_high c t u p k h high =
    let e = pos (unsigned_abs (u -ℤ t)) in
    let v = p +ℤ (u -ℤ t) +ℤ pos k in
    tdb_moves_high c (units t) (units u) (units e) (units (pos k)) (units p) (units v) (units_are t) (units_are u) (units_are e) (units_are (pos k)) (units_are p) (units_are v)
    (record {
      above = raised one (of_units t) (plus (of_units u) (of_units e)) (omega (arith, ints));
      below = raised one (of_units u) (plus (of_units t) (of_units e)) (omega (arith, ints));
    })
    (slack (unsigned_abs (u -ℤ t)) k h) (raised one (plus (of_units p) (plus (of_units u) (of_units (pos k)))) (plus (of_units v) (of_units t)) (omega (arith, ints))) high

-- TDB of t, where sin E is at least `low` units and m units at most K times as much
pub tdb_at_least : (c : Deltet) (t low m p : ℤ) → AnomalySineIsAtLeast c.orbit.eb c.orbit.m0 c.orbit.m1 (units t) (units low) → units m ≤ᶠ (units low *ᶠ units c.k) → p ≡ (t +ℤ m)
    → TdbIsAtLeast c (units t) (units p)
unfolding sine_high
tdb_at_least c t low m p sine moved e = record {
  at_each = λ n f. le_f_trans (units p) (units t +ᶠ units m) (tdb_high c (units t) n) (mul-pos one one) (raised one (of_units p) (plus (of_units t) (of_units m)) (omega (arith, ints, e)))
      (le_f_add (units t) (units t) (units m) (sine_high c (units t) n *ᶠ units c.k) (le_f_refl (units t))
      (le_f_trans (units m) (units low *ᶠ units c.k) (sine_high c (units t) n *ᶠ units c.k) (mul-pos one one) moved (le_f_mul (units low) (sine_high c (units t) n) (units c.k) c.k_low (sine.at_each n f))));
}

pub tdb_at_most : (c : Deltet) (t high m p : ℤ) → AnomalySineIsAtMost c.orbit.eb c.orbit.m0 c.orbit.m1 (units t) (units high) → (units high *ᶠ units c.k) ≤ᶠ units m → p ≡ (t +ℤ m)
    → TdbIsAtMost c (units t) (units p)
unfolding sine_low
tdb_at_most c t high m p sine moved e = record {
  at_each = λ n f. le_f_trans (tdb_low c (units t) n) (units t +ᶠ units m) (units p) (mul-pos one one)
      (le_f_add (units t) (units t) (sine_low c (units t) n *ᶠ units c.k) (units m) (le_f_refl (units t))
      (le_f_trans (sine_low c (units t) n *ᶠ units c.k) (units high *ᶠ units c.k) (units m) (mul-pos one one) (le_f_mul (sine_low c (units t) n) (units high) (units c.k) c.k_low (sine.at_each n f)) moved))
      (raised one (plus (of_units t) (of_units m)) (of_units p) (omega (arith, ints, e)));
}

-- TDB of all that lies from lo to hi, by the bounds of TDB of lo
pub tdb_low_of : (c : Deltet) (lo hi p : ℤ) (x : Fraction) → IsFraction x → LiesWithin lo hi x → TdbIsAtLeast c (units lo) (units p) → TdbIsAtLeast c x (units p)
tdb_low_of c lo hi p x px within low = tdb_rises_low c (units lo) x (units p) (units_are lo) px (units_are p) within.from low

pub tdb_high_of : (c : Deltet) (lo hi p q : ℤ) (x : Fraction) → IsFraction x → lo ≤ℤ hi → (hi -ℤ lo) ≤ℤ pos 1000 → q ≡ (p +ℤ (hi -ℤ lo +ℤ pos 1)) → LiesWithin lo hi x → TdbIsAtMost c (units lo) (units p) → TdbIsAtMost c x (units q)
tdb_high_of c lo hi p q x px order narrow e within high =
    let v = p +ℤ (hi -ℤ lo) +ℤ pos 1 in
    tdb_rises_high c x (units hi) (units q) px (units_are hi) (units_are q) within.to
    (tdb_loosens_high c (units hi) (units v) (units q) (units_are v) (units_rise v q (omega (arith, ints, e))) (units_high c lo hi p 1 (omega (arith, ints)) high))

-- The way back. TDB of a lies from low to high, t lies from a as far as a from low, and TDB of t from f to g: then f and
-- g are near a.
pub record IsClose (a f g : ℤ) : Type 0 where
  pub low : (a -ℤ pos (10 ^ 7)) ≤ℤ f
  pub high : g ≤ℤ (a +ℤ pos (10 ^ 7))

pub close_to : (c : Deltet) (a low high t f g : ℤ) → TdbIsAtLeast c (units a) (units low) → TdbIsAtMost c (units a) (units high) → (high -ℤ low) ≤ℤ pos 601 → EndsAtMost (low -ℤ a) (high -ℤ a) (4 * 10 ^ 15)
    → t ≡ (a +ℤ (a -ℤ low)) → TdbIsAtLeast c (units t) (units f) → TdbIsAtMost c (units t) (units g) → f ≤ℤ g → (g -ℤ f) ≤ℤ pos 601 → low ≤ℤ high → IsClose a f g
close_to c a low high t f g at_low at_high narrow ends e at_f at_g order width firsts =
    let d : unsigned_abs (t -ℤ a) ≤ 4 * 10 ^ 6 * 10 ^ 9 = omega (arith, ints, e, ends.low, ends.high) in
    let l = low +ℤ (t -ℤ a) -ℤ pos (4 * 10 ^ 6) in
    let h = high +ℤ (t -ℤ a) +ℤ pos (4 * 10 ^ 6) in
    let under = units_order l g (tdb_agrees c (units t) (units l) (units g) (units_are t) (units_are l) (units_are g) (units_low c a t low (4 * 10 ^ 6) d at_low) at_g) in
    let over = units_order f h (tdb_agrees c (units t) (units f) (units h) (units_are t) (units_are f) (units_are h) at_f (units_high c a t high (4 * 10 ^ 6) d at_high)) in
    record { low = omega (arith, ints, e, under); high = omega (arith, ints, e, over) }

-- so the ends that lie from t as far as the source from g and f, and a unit more, are bounds of TT
pub tt_low_of : (c : Deltet) (lo hi t f g u : ℤ) (x : Fraction) → IsFraction x → lo ≤ℤ hi → LiesWithin lo hi x → IsClose lo f g → f ≤ℤ g → TdbIsAtMost c (units t) (units g) → u ≡ (t -ℤ (g -ℤ lo) -ℤ pos 1)
    → TdbIsAtMost c (units u) x
tt_low_of c lo hi t f g u x px order within close fg high e =
    let v = g +ℤ (u -ℤ t) +ℤ pos 1 in
    tdb_loosens_high c (units u) (units v) x (units_are v) (le_f_trans (units v) (units lo) x one (units_rise v lo (omega (arith, ints, e))) within.from)
    (units_high c t u g 1 (omega (arith, ints, e, close.low, close.high)) high)

pub tt_high_of : (c : Deltet) (lo hi t f g u : ℤ) (x : Fraction) → IsFraction x → lo ≤ℤ hi → (hi -ℤ lo) ≤ℤ pos 1000 → LiesWithin lo hi x → IsClose lo f g → f ≤ℤ g → TdbIsAtLeast c (units t) (units f) → u ≡ (t +ℤ (hi -ℤ f) +ℤ pos 1)
    → TdbIsAtLeast c (units u) x
tt_high_of c lo hi t f g u x px order narrow within close fg low e =
    let v = f +ℤ (u -ℤ t) -ℤ pos 1 in
    tdb_loosens_low c (units u) x (units v) (units_are v) (le_f_trans x (units hi) (units v) one within.to (units_rise hi v (omega (arith, ints, e))))
    (units_low c t u f 1 (omega (arith, ints, e, close.low, close.high)) low)

-- and they are near the source's
pub low_near_of : (lo low high t f g u : ℤ) → EndsAtMost (low -ℤ lo) (high -ℤ lo) (4 * 10 ^ 15) → low ≤ℤ high → t ≡ (lo +ℤ (lo -ℤ low)) → IsClose lo f g → f ≤ℤ g → u ≡ (t -ℤ (g -ℤ lo) -ℤ pos 1) → unsigned_abs (u -ℤ lo) ≤ 10 ^ 16
low_near_of lo low high t f g u ends order e close fg i = omega (arith, ints, e, i, ends.low, ends.high, close.low, close.high)

pub high_near_of : (lo hi low high t f g u : ℤ) → EndsAtMost (low -ℤ lo) (high -ℤ lo) (4 * 10 ^ 15) → low ≤ℤ high → t ≡ (lo +ℤ (lo -ℤ low)) → IsClose lo f g → f ≤ℤ g → u ≡ (t +ℤ (hi -ℤ f) +ℤ pos 1) → unsigned_abs (u -ℤ hi) ≤ 10 ^ 16
high_near_of lo hi low high t f g u ends order e close fg i = omega (arith, ints, e, i, ends.low, ends.high, close.low, close.high)

-- where K is 0
pub plain_low : (c : Deltet) (lo hi : ℤ) (x : Fraction) → c.k ≡ pos 0 → IsFraction x → LiesWithin lo hi x → TdbIsAtLeast c x (units lo)
plain_low c lo hi x none px within = tdb_loosens_low c x (units lo) x px within.from (tdb_is_tt c x px none).0

pub plain_high : (c : Deltet) (lo hi : ℤ) (x : Fraction) → c.k ≡ pos 0 → IsFraction x → LiesWithin lo hi x → TdbIsAtMost c x (units hi)
plain_high c lo hi x none px within = tdb_loosens_high c x x (units hi) px within.to (tdb_is_tt c x px none).1

pub plain_back_low : (c : Deltet) (lo hi : ℤ) (x : Fraction) → c.k ≡ pos 0 → IsFraction x → LiesWithin lo hi x → TdbIsAtMost c (units lo) x
plain_back_low c lo hi x none px within = tdb_loosens_high c (units lo) (units lo) x (units_are lo) within.from (tdb_is_tt c (units lo) (units_are lo) none).1

pub plain_back_high : (c : Deltet) (lo hi : ℤ) (x : Fraction) → c.k ≡ pos 0 → IsFraction x → LiesWithin lo hi x → TdbIsAtLeast c (units hi) x
plain_back_high c lo hi x none px within = tdb_loosens_low c (units hi) x (units hi) (units_are hi) within.to (tdb_is_tt c (units hi) (units_are hi) none).0

-- a shift by a count of units
pub shifted : (lo hi d a b : ℤ) (x : Fraction) → a ≡ (lo +ℤ d) → b ≡ (hi +ℤ d) → LiesWithin lo hi x → LiesWithin a b (x +ᶠ units d)
shifted lo hi d a b x e f within = record {
  from = le_f_trans (units a) (units lo +ᶠ units d) (x +ᶠ units d) (mul-pos one one) (raised one (of_units a) (plus (of_units lo) (of_units d)) (omega (arith, ints, e)))
      (le_f_add (units lo) x (units d) (units d) within.from (le_f_refl (units d)));
  to = le_f_trans (x +ᶠ units d) (units hi +ᶠ units d) (units b) (mul-pos one one) (le_f_add x (units hi) (units d) (units d) within.to (le_f_refl (units d)))
      (raised one (plus (of_units hi) (of_units d)) (of_units b) (omega (arith, ints, f)));
}

pub shifted_back_low : (c : Deltet) (u v d : ℤ) (x : Fraction) → IsFraction x → u ≡ (v -ℤ d) → TdbIsAtMost c (units v) x → TdbIsAtMost c (units u +ᶠ units d) x
shifted_back_low c u v d x px e high =
    tdb_rises_high c (units u +ᶠ units d) (units v) x (record { positive = mul-pos one one }) (units_are v) px (raised one (plus (of_units u) (of_units d)) (of_units v) (omega (arith, ints, e))) high

pub shifted_back_high : (c : Deltet) (u v d : ℤ) (x : Fraction) → IsFraction x → u ≡ (v -ℤ d) → TdbIsAtLeast c (units v) x → TdbIsAtLeast c (units u +ᶠ units d) x
shifted_back_high c u v d x px e low =
    tdb_rises_low c (units v) (units u +ᶠ units d) x (units_are v) (record { positive = mul-pos one one }) px (raised one (of_units v) (plus (of_units u) (of_units d)) (omega (arith, ints, e))) low
