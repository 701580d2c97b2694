-- The laws of the ways from scale to scale.
use Rattle.std.proofs.Common.{◌≡◌, ℕ, zero, suc, ◌+◌, ◌*◌, ◌^◌, ◌<◌, Bool, true, false, ℤ, pos, negsuc, neg_ℤ, ◌+ℤ◌, ◌*ℤ◌, ◌≤ℤ◌, ◌⊎◌, inl, inr, refl, arith, lit<, mul-pos}
use Rattle.std.proofs.lemmas.Int.{ints, by_lt_z}
use Rattle.st_fraction.specs.Fraction.{Fraction, IsFraction, ◌≤ᶠ◌, ◌<ᶠ◌, over, whole, units, ◌+ᶠ◌, ◌-ᶠ◌, ◌*ᶠ◌}
use Rattle.st_fraction.proofs.Ring.{ring, numerals, lin}
use Rattle.st_fraction.proofs.Order.{le_f_refl, le_f_trans, le_f_add, le_of_lt_f}
use Rattle.st_fraction.proofs.Placed.{Placed, placed, plus, minus, product, finer, number, lowered, raised}
use Rattle.st_scales.specs.declared.deltet.Deltet.{Deltet}
use Rattle.st_scales.specs.declared.scale.Scale.{Scale}
use Rattle.st_scales.specs.declared.scale.Scale.TheVariants.{Tai, Tt, Tdb}
use Rattle.st_scales.specs.Tdb.{sine_low, sine_high, tdb_low, tdb_high, TdbIsAtLeast, TdbIsAtMost}
use Rattle.st_scales.specs.Route.{IsAtLeast, IsAtMost, shift, crosses, HasSineOnIt, HasNoSineOnIt}
use Rattle.st_scales.specs.Laws.{RouteAgrees, IsKnownTo, RouteIsKnown, RouteIsExact, RouteIsNear, RouteRises, RouteLoosens}
use Rattle.st_scales.proofs.Step.{of_units}
use Rattle.st_scales.proofs.Moves.{sine_low-den, sine_high-den}
use Rattle.st_scales.proofs.Values.{three, five, tdb_low-den, tdb_high-den, low_end, high_end, tdb_narrows, tdb_agrees, tt_agrees, tdb_loosens_low, tdb_loosens_high, tdb_rises_low, tdb_rises_high, tdb_near}
use Rattle.st_scales.proofs.Found.{TtIsKnownTo, tt_known}

pub ahead : (r : Fraction) (d : ℤ) → IsFraction r → IsFraction (r +ᶠ units d)
ahead r d pr = record { positive = mul-pos pr.positive (lit< tt) }

one_f : {a : Fraction} → IsFraction a → IsFraction (a +ᶠ whole (pos 1))
one_f pa = record { positive = mul-pos pa.positive (lit< tt) }

less_f : {a : Fraction} (n : ℤ) → IsFraction a → IsFraction (a -ᶠ whole n)
less_f n pa = record { positive = mul-pos pa.positive (lit< tt) }

uncancelled : (a b d : Fraction) → 0 < a.den → 0 < b.den → 0 < d.den → (a +ᶠ d) ≤ᶠ (b +ᶠ d) → a ≤ᶠ b
uncancelled a b d pa pb pd h =
    let z = three a b d pa pb pd in
    let i = lowered (plus z.of_a z.of_c) (plus z.of_b z.of_c) h in
    raised z.some z.of_a z.of_b (omega (arith, lin, i))

-- there and back
pub returned : (a d : Fraction) → 0 < a.den → 0 < d.den → (((a -ᶠ d) +ᶠ d) ≤ᶠ a) × (a ≤ᶠ ((a -ᶠ d) +ᶠ d))
returned a d pa pd =
    let z = three a d d pa pd pd in
    (raised z.some (plus (minus z.of_a z.of_b) z.of_b) z.of_a (omega (arith, lin)), raised z.some z.of_a (plus (minus z.of_a z.of_b) z.of_b) (omega (arith, lin)))

pub same_shift : (a b : Fraction) (d : ℤ) → a ≤ᶠ b → (a +ᶠ units d) ≤ᶠ (b +ᶠ units d)
same_shift a b d h = le_f_add a b (units d) (units d) h (le_f_refl (units d))

-- Agrees.
pub route_agrees : RouteAgrees
route_agrees c Tai Tai r a b pr pa pb low high = le_f_trans a r b pr.positive low high
route_agrees c Tai Tt r a b pr pa pb low high = le_f_trans a (r +ᶠ units c.delta_ta) b (ahead r c.delta_ta pr).positive low high
route_agrees c Tai Tdb r a b pr pa pb low high = tdb_agrees c (r +ᶠ units c.delta_ta) a b (ahead r c.delta_ta pr) pa pb low high
route_agrees c Tt Tai r a b pr pa pb low high = le_f_trans a (r -ᶠ units c.delta_ta) b (ahead r (neg_ℤ c.delta_ta) pr).positive low high
route_agrees c Tt Tt r a b pr pa pb low high = le_f_trans a r b pr.positive low high
route_agrees c Tt Tdb r a b pr pa pb low high = tdb_agrees c r a b pr pa pb low high
route_agrees c Tdb Tai r a b pr pa pb low high =
    uncancelled a b (units c.delta_ta) pa.positive pb.positive (lit< tt)
    (tt_agrees c r (a +ᶠ units c.delta_ta) (b +ᶠ units c.delta_ta) pr (ahead a c.delta_ta pa) (ahead b c.delta_ta pb) low high)
route_agrees c Tdb Tt r a b pr pa pb low high = tt_agrees c r a b pr pa pb low high
route_agrees c Tdb Tdb r a b pr pa pb low high = le_f_trans a r b pr.positive low high

-- Rises.
pub route_rises : RouteRises
route_rises c Tai Tai r s a pr ps pa h = (λ low. le_f_trans a r s pr.positive low h, λ high. le_f_trans r s a ps.positive h high)
route_rises c Tai Tt r s a pr ps pa h =
    let d = c.delta_ta in
    (λ low. le_f_trans a (r +ᶠ units d) (s +ᶠ units d) (ahead r d pr).positive low (same_shift r s d h), λ high. le_f_trans (r +ᶠ units d) (s +ᶠ units d) a (ahead s d ps).positive (same_shift r s d h) high)
route_rises c Tai Tdb r s a pr ps pa h =
    let d = c.delta_ta in (
      λ low. tdb_rises_low c (r +ᶠ units d) (s +ᶠ units d) a (ahead r d pr) (ahead s d ps) pa (same_shift r s d h) low,
      λ high. tdb_rises_high c (r +ᶠ units d) (s +ᶠ units d) a (ahead r d pr) (ahead s d ps) pa (same_shift r s d h) high,
    )
route_rises c Tt Tai r s a pr ps pa h =
    let d = neg_ℤ c.delta_ta in
    (λ low. le_f_trans a (r +ᶠ units d) (s +ᶠ units d) (ahead r d pr).positive low (same_shift r s d h), λ high. le_f_trans (r +ᶠ units d) (s +ᶠ units d) a (ahead s d ps).positive (same_shift r s d h) high)
route_rises c Tt Tt r s a pr ps pa h = (λ low. le_f_trans a r s pr.positive low h, λ high. le_f_trans r s a ps.positive h high)
route_rises c Tt Tdb r s a pr ps pa h = (λ low. tdb_rises_low c r s a pr ps pa h low, λ high. tdb_rises_high c r s a pr ps pa h high)
route_rises c Tdb Tai r s a pr ps pa h =
    let d = c.delta_ta in
    (λ low. tdb_loosens_high c (a +ᶠ units d) r s pr h low, λ high. tdb_loosens_low c (a +ᶠ units d) r s ps h high)
route_rises c Tdb Tt r s a pr ps pa h = (λ low. tdb_loosens_high c a r s pr h low, λ high. tdb_loosens_low c a r s ps h high)
route_rises c Tdb Tdb r s a pr ps pa h = (λ low. le_f_trans a r s pr.positive low h, λ high. le_f_trans r s a ps.positive h high)

-- Loosens.
pub route_loosens : RouteLoosens
route_loosens c Tai Tai r a b pr pa pb h = (λ low. le_f_trans a b r pb.positive h low, λ high. le_f_trans r a b pa.positive high h)
route_loosens c Tai Tt r a b pr pa pb h = (λ low. le_f_trans a b (r +ᶠ units c.delta_ta) pb.positive h low, λ high. le_f_trans (r +ᶠ units c.delta_ta) a b pa.positive high h)
route_loosens c Tai Tdb r a b pr pa pb h = (λ low. tdb_loosens_low c (r +ᶠ units c.delta_ta) a b pb h low, λ high. tdb_loosens_high c (r +ᶠ units c.delta_ta) a b pa h high)
route_loosens c Tt Tai r a b pr pa pb h = (λ low. le_f_trans a b (r -ᶠ units c.delta_ta) pb.positive h low, λ high. le_f_trans (r -ᶠ units c.delta_ta) a b pa.positive high h)
route_loosens c Tt Tt r a b pr pa pb h = (λ low. le_f_trans a b r pb.positive h low, λ high. le_f_trans r a b pa.positive high h)
route_loosens c Tt Tdb r a b pr pa pb h = (λ low. tdb_loosens_low c r a b pb h low, λ high. tdb_loosens_high c r a b pa h high)
route_loosens c Tdb Tai r a b pr pa pb h =
    let d = c.delta_ta in (
      λ low. tdb_rises_high c (a +ᶠ units d) (b +ᶠ units d) r (ahead a d pa) (ahead b d pb) pr (same_shift a b d h) low,
      λ high. tdb_rises_low c (a +ᶠ units d) (b +ᶠ units d) r (ahead a d pa) (ahead b d pb) pr (same_shift a b d h) high,
    )
route_loosens c Tdb Tt r a b pr pa pb h = (λ low. tdb_rises_high c a b r pa pb pr h low, λ high. tdb_rises_low c a b r pa pb pr h high)
route_loosens c Tdb Tdb r a b pr pa pb h = (λ low. le_f_trans a b r pb.positive h low, λ high. le_f_trans r a b pa.positive high h)

-- DELTA_T_A is at most 100 s.
record IsShort (d : Fraction) : Type 0 where
  den : 0 < d.den
  low : whole (negsuc 99) ≤ᶠ d
  high : d ≤ᶠ whole (pos 100)

is_short : (c : Deltet) → IsShort (units c.delta_ta)
is_short c = record {
  den = lit< tt;
  low = record { le = omega (arith, ints, c.delta_low) };
  high = record { le = omega (arith, ints, c.delta_high) };
}

-- Near.
record AreNear (r d : Fraction) : Type 0 where
  here_low : (r -ᶠ whole (pos 101)) ≤ᶠ r
  here_high : r ≤ᶠ (r +ᶠ whole (pos 101))
  one_low : (r -ᶠ whole (pos 101)) ≤ᶠ (r -ᶠ whole (pos 1))
  one_high : (r +ᶠ whole (pos 1)) ≤ᶠ (r +ᶠ whole (pos 101))
  back_low : ((r -ᶠ whole (pos 101)) +ᶠ whole (pos 1)) ≤ᶠ r
  back_high : r ≤ᶠ ((r +ᶠ whole (pos 101)) -ᶠ whole (pos 1))
  ahead_low : (r -ᶠ whole (pos 101)) ≤ᶠ (r +ᶠ d)
  ahead_high : (r +ᶠ d) ≤ᶠ (r +ᶠ whole (pos 101))
  behind_low : (r -ᶠ whole (pos 101)) ≤ᶠ (r -ᶠ d)
  behind_high : (r -ᶠ d) ≤ᶠ (r +ᶠ whole (pos 101))
  ahead_one_low : (r -ᶠ whole (pos 101)) ≤ᶠ ((r +ᶠ d) -ᶠ whole (pos 1))
  ahead_one_high : ((r +ᶠ d) +ᶠ whole (pos 1)) ≤ᶠ (r +ᶠ whole (pos 101))
  behind_one_low : (((r -ᶠ whole (pos 101)) +ᶠ d) +ᶠ whole (pos 1)) ≤ᶠ r
  behind_one_high : r ≤ᶠ (((r +ᶠ whole (pos 101)) +ᶠ d) -ᶠ whole (pos 1))

are_near : (r d : Fraction) → IsFraction r → IsShort d → AreNear r d
are_near r d pr s =
    let z = three r d d pr.positive s.den s.den in
    let m = z.some in
    let far = number (pos 101) z.m in
    let one = number (pos 1) z.m in
    let low = lowered (number (negsuc 99) z.m) z.of_b s.low in
    let high = lowered z.of_b (number (pos 100) z.m) s.high in
    let x = z.of_a in
    let y = z.of_b in
    record {
      here_low = raised m (minus x far) x (omega (arith, ints));
      here_high = raised m x (plus x far) (omega (arith, ints));
      one_low = raised m (minus x far) (minus x one) (omega (arith, ints));
      one_high = raised m (plus x one) (plus x far) (omega (arith, ints));
      back_low = raised m (plus (minus x far) one) x (omega (arith, ints));
      back_high = raised m x (minus (plus x far) one) (omega (arith, ints));
      ahead_low = raised m (minus x far) (plus x y) (omega (arith, ints, low));
      ahead_high = raised m (plus x y) (plus x far) (omega (arith, ints, high));
      behind_low = raised m (minus x far) (minus x y) (omega (arith, ints, high));
      behind_high = raised m (minus x y) (plus x far) (omega (arith, ints, low));
      ahead_one_low = raised m (minus x far) (minus (plus x y) one) (omega (arith, ints, low));
      ahead_one_high = raised m (plus (plus x y) one) (plus x far) (omega (arith, ints, high));
      behind_one_low = raised m (plus (plus (minus x far) y) one) x (omega (arith, ints, high));
      behind_one_high = raised m x (minus (plus (plus x far) y) one) (omega (arith, ints, low));
    }

far_f : (r : Fraction) → IsFraction r → IsFraction (r +ᶠ whole (pos 101))
far_f r pr = record { positive = mul-pos pr.positive (lit< tt) }

pub route_near : RouteIsNear
route_near c Tai Tai r pr = let k = are_near r (units c.delta_ta) pr (is_short c) in (k.here_low, k.here_high)
route_near c Tai Tt r pr = let k = are_near r (units c.delta_ta) pr (is_short c) in (k.ahead_low, k.ahead_high)
route_near c Tai Tdb r pr =
    let d = c.delta_ta in
    let k = are_near r (units d) pr (is_short c) in
    let t = r +ᶠ units d in
    let pt = ahead r d pr in
    let n = tdb_near c t pt in
    (tdb_loosens_low c t (r -ᶠ whole (pos 101)) (t -ᶠ whole (pos 1)) (less_f (pos 1) pt) k.ahead_one_low n.0, tdb_loosens_high c t (t +ᶠ whole (pos 1)) (r +ᶠ whole (pos 101)) (one_f pt) k.ahead_one_high n.1)
route_near c Tt Tai r pr = let k = are_near r (units c.delta_ta) pr (is_short c) in (k.behind_low, k.behind_high)
route_near c Tt Tt r pr = let k = are_near r (units c.delta_ta) pr (is_short c) in (k.here_low, k.here_high)
route_near c Tt Tdb r pr =
    let k = are_near r (units c.delta_ta) pr (is_short c) in
    let n = tdb_near c r pr in
    (tdb_loosens_low c r (r -ᶠ whole (pos 101)) (r -ᶠ whole (pos 1)) (less_f (pos 1) pr) k.one_low n.0, tdb_loosens_high c r (r +ᶠ whole (pos 1)) (r +ᶠ whole (pos 101)) (one_f pr) k.one_high n.1)
route_near c Tdb Tai r pr =
    let d = c.delta_ta in
    let k = are_near r (units d) pr (is_short c) in
    let a = (r -ᶠ whole (pos 101)) +ᶠ units d in
    let b = (r +ᶠ whole (pos 101)) +ᶠ units d in
    let pa = ahead (r -ᶠ whole (pos 101)) d (less_f (pos 101) pr) in
    let pb = ahead (r +ᶠ whole (pos 101)) d (far_f r pr) in
    (tdb_loosens_high c a (a +ᶠ whole (pos 1)) r (one_f pa) k.behind_one_low (tdb_near c a pa).1, tdb_loosens_low c b r (b -ᶠ whole (pos 1)) (less_f (pos 1) pb) k.behind_one_high (tdb_near c b pb).0)
route_near c Tdb Tt r pr =
    let k = are_near r (units c.delta_ta) pr (is_short c) in
    let a = r -ᶠ whole (pos 101) in
    let b = r +ᶠ whole (pos 101) in
    let pa : IsFraction a = less_f (pos 101) pr in
    let pb = far_f r pr in
    (tdb_loosens_high c a (a +ᶠ whole (pos 1)) r (one_f pa) k.back_low (tdb_near c a pa).1, tdb_loosens_low c b r (b -ᶠ whole (pos 1)) (less_f (pos 1) pb) k.back_high (tdb_near c b pb).0)
route_near c Tdb Tdb r pr = let k = are_near r (units c.delta_ta) pr (is_short c) in (k.here_low, k.here_high)

-- Exact: where K is 0 TDB is TT.
pub tdb_is_tt : (c : Deltet) (t : Fraction) → IsFraction t → c.k ≡ pos 0 → TdbIsAtLeast c t t × TdbIsAtMost c t t
tdb_is_tt c t pt none = (
  record { at_each = λ n f. (flat t (sine_high c t n) c.k pt.positive (sine_high-den c t n pt) none).0 },
  record { at_each = λ n f. (flat t (sine_low c t n) c.k pt.positive (sine_low-den c t n pt) none).1 },
)
  where
    flat : (t s : Fraction) (k : ℤ) → 0 < t.den → 0 < s.den → k ≡ pos 0 → (t ≤ᶠ (t +ᶠ s *ᶠ units k)) × ((t +ᶠ s *ᶠ units k) ≤ᶠ t)
    flat t s k pt ps none =
        let w : 0 < 10 ^ 18 = lit< tt in
        let z = three t s s pt ps ps in
        let e : (z.xb *ℤ k) ≡ pos 0 = rw none (simp numerals) in
        let x = finer (10 ^ 18) z.of_a in
        let y = plus (finer (10 ^ 18) z.of_a) (product z.of_b (of_units k)) in
        (raised (mul-pos z.some w) x y (omega (arith, lin, e)), raised (mul-pos z.some w) y x (omega (arith, lin, e)))

-- a source that is shifted back lands on itself
none : (r : Fraction) → IsFraction r → (r ≤ᶠ (r +ᶠ units (pos 0))) × ((r +ᶠ units (pos 0)) ≤ᶠ r)
none r pr =
    (record { le = go r.num r.den (10 ^ 18) }, record { le = back r.num r.den (10 ^ 18) })
  where
    go : (n : ℤ) (d w : ℕ) → (n *ℤ pos (d * w)) ≤ℤ ((n *ℤ pos w +ℤ pos 0 *ℤ pos d) *ℤ pos d)
    go n d w = shape n (pos d) (pos w)
      where
        shape : (n d w : ℤ) → (n *ℤ (d *ℤ w)) ≤ℤ ((n *ℤ w +ℤ pos 0 *ℤ d) *ℤ d)
        shape n d w = simp (numerals, ring) (omega (arith, lin))

    back : (n : ℤ) (d w : ℕ) → ((n *ℤ pos w +ℤ pos 0 *ℤ pos d) *ℤ pos d) ≤ℤ (n *ℤ pos (d * w))
    back n d w = shape n (pos d) (pos w)
      where
        shape : (n d w : ℤ) → ((n *ℤ w +ℤ pos 0 *ℤ d) *ℤ d) ≤ℤ (n *ℤ (d *ℤ w))
        shape n d w = simp (numerals, ring) (omega (arith, lin))

-- on a way that crosses, no sine stands where K is 0 alone
pub crossing : {A : Type 0} {k : ℤ} → (true ≡ false) ⊎ (k ≡ pos 0) → (k ≡ pos 0 → A) → A
crossing (inl p) f = absurd (by p)
  where
    by : true ≡ false → ⊥
    by p = cc
crossing (inr e) f = f e

pub route_exact : RouteIsExact
route_exact c Tai Tai r pr h = ((none r pr).1, (none r pr).0)
route_exact c Tai Tt r pr h = (le_f_refl (r +ᶠ units c.delta_ta), le_f_refl (r +ᶠ units c.delta_ta))
route_exact c Tai Tdb r pr h = crossing h (λ e. tdb_is_tt c (r +ᶠ units c.delta_ta) (ahead r c.delta_ta pr) e)
route_exact c Tt Tai r pr h = (le_f_refl (r -ᶠ units c.delta_ta), le_f_refl (r -ᶠ units c.delta_ta))
route_exact c Tt Tt r pr h = ((none r pr).1, (none r pr).0)
route_exact c Tt Tdb r pr h = crossing h (λ e.
    let s = tdb_is_tt c r pr e in
    let v = r +ᶠ units (pos 0) in
    (tdb_loosens_low c r v r pr (none r pr).1 s.0, tdb_loosens_high c r r v pr (none r pr).0 s.1))
route_exact c Tdb Tai r pr h = crossing h (λ e.
    let v = (r -ᶠ units c.delta_ta) +ᶠ units c.delta_ta in
    let pv = ahead (r -ᶠ units c.delta_ta) c.delta_ta (ahead r (neg_ℤ c.delta_ta) pr) in
    let s = tdb_is_tt c v pv e in
    let b = returned r (units c.delta_ta) pr.positive (lit< tt) in
    (tdb_loosens_high c v v r pv b.0 s.1, tdb_loosens_low c v r v pv b.1 s.0))
route_exact c Tdb Tt r pr h = crossing h (λ e.
    let v = r +ᶠ units (pos 0) in
    let pv = ahead r (pos 0) pr in
    let s = tdb_is_tt c v pv e in
    (tdb_loosens_high c v v r pv (none r pr).1 s.1, tdb_loosens_low c v r v pv (none r pr).0 s.0))
route_exact c Tdb Tdb r pr h = ((none r pr).1, (none r pr).0)

-- Known. Where no sine stands on the way the value itself will do.
known_at : (c : Deltet) (from to : Scale) (r e v : Fraction) → IsFraction r → IsFraction e → IsFraction v → whole (pos 0) <ᶠ e
    → (r -ᶠ whole (pos 101)) ≤ᶠ v → v ≤ᶠ (r +ᶠ whole (pos 101)) → IsAtLeast c from to r v → IsAtMost c from to r v → IsKnownTo c from to r e
known_at c from to r e v pr pe pv some under above low high =
    let z = three r e v pr.positive pe.positive pv.positive in
    let far = number (pos 101) z.m in
    let i = lowered (number (pos 0) z.m) z.of_b (le_of_lt_f (whole (pos 0)) e some) in
    let j = lowered (minus z.of_a far) z.of_c under in
    let k = lowered z.of_c (plus z.of_a far) above in
    record {
      low = v;
      high = v;
      low_is = pv;
      high_is = pv;
      at_least = low;
      at_most = high;
      close = raised z.some z.of_c (plus z.of_c z.of_b) (omega (arith, ints, i));
      low_near = raised z.some z.of_a (plus z.of_c (plus far z.of_b)) (omega (arith, ints, i, j));
      high_near = raised z.some z.of_c (plus z.of_a (plus far z.of_b)) (omega (arith, ints, i, k));
    }

-- TDB of t lies between two fractions, e apart, near t; t lies near the source
record TdbIsKnownTo (c : Deltet) (t e : Fraction) : Type 0 where
  low : Fraction
  high : Fraction
  low_is : IsFraction low
  high_is : IsFraction high
  at_least : TdbIsAtLeast c t low
  at_most : TdbIsAtMost c t high
  close : high ≤ᶠ (low +ᶠ e)
  low_near : t ≤ᶠ (low +ᶠ (whole (pos 1) +ᶠ e))
  high_near : high ≤ᶠ (t +ᶠ (whole (pos 1) +ᶠ e))

tdb_known : (c : Deltet) (t e : Fraction) → IsFraction t → IsFraction e → whole (pos 0) <ᶠ e → TdbIsKnownTo c t e
tdb_known c t e pt pe some =
    let s = tdb_narrows c t e pt pe some in
    let a = tdb_low c t s.0 in
    let b = tdb_high c t s.0 in
    let pa : IsFraction a = record { positive = tdb_low-den c t s.0 pt } in
    let pb : IsFraction b = record { positive = tdb_high-den c t s.0 pt } in
    let low = low_end c t s.0 pt s.1.0 in
    let high = high_end c t s.0 pt s.1.0 in
    let n = tdb_near c t pt in
    let under = tdb_agrees c t (t -ᶠ whole (pos 1)) b pt (less_f (pos 1) pt) pb n.0 high in
    let above = tdb_agrees c t a (t +ᶠ whole (pos 1)) pt pa (one_f pt) low n.1 in
    let k = join t a b e pt pa pb pe s.1.1 under above in
    record { low = a; high = b; low_is = pa; high_is = pb; at_least = low; at_most = high; close = s.1.1; low_near = k.0; high_near = k.1 }
  where
    join : (t a b e : Fraction) → IsFraction t → IsFraction a → IsFraction b → IsFraction e → b ≤ᶠ (a +ᶠ e) → (t -ᶠ whole (pos 1)) ≤ᶠ b → a ≤ᶠ (t +ᶠ whole (pos 1))
        → (t ≤ᶠ (a +ᶠ (whole (pos 1) +ᶠ e))) × (b ≤ᶠ (t +ᶠ (whole (pos 1) +ᶠ e)))
    join t a b e pt pa pb pe close under above =
        let z = five t a b e e pt.positive pa.positive pb.positive pe.positive pe.positive in
        let one = number (pos 1) z.m in
        let i = lowered z.of_c (plus z.of_b z.of_d) close in
        let j = lowered (minus z.of_a one) z.of_c under in
        let k = lowered z.of_b (plus z.of_a one) above in
        (raised z.some z.of_a (plus z.of_b (plus one z.of_d)) (omega (arith, ints, i, j)), raised z.some z.of_c (plus z.of_a (plus one z.of_d)) (omega (arith, ints, i, k)))

-- what is within a second, and e, of t is within 101 s, and e, of r
record IsWide (r e low high : Fraction) : Type 0 where
  low_near : r ≤ᶠ (low +ᶠ (whole (pos 101) +ᶠ e))
  high_near : high ≤ᶠ (r +ᶠ (whole (pos 101) +ᶠ e))

wide : (r e low high d : Fraction) → IsFraction r → IsFraction e → IsFraction low → IsFraction high → IsShort d
    → (r +ᶠ d) ≤ᶠ (low +ᶠ (whole (pos 1) +ᶠ e)) → high ≤ᶠ ((r +ᶠ d) +ᶠ (whole (pos 1) +ᶠ e)) → IsWide r e low high
wide r e low high d pr pe pl ph s under above =
    let z = five r e low high d pr.positive pe.positive pl.positive ph.positive s.den in
    let one = number (pos 1) z.m in
    let far = number (pos 101) z.m in
    let i = lowered (plus z.of_a z.of_e) (plus z.of_c (plus one z.of_b)) under in
    let j = lowered z.of_d (plus (plus z.of_a z.of_e) (plus one z.of_b)) above in
    let k = lowered (number (negsuc 99) z.m) z.of_e s.low in
    let l = lowered z.of_e (number (pos 100) z.m) s.high in
    record {
      low_near = raised z.some z.of_a (plus z.of_c (plus far z.of_b)) (omega (arith, ints, i, k));
      high_near = raised z.some z.of_d (plus z.of_a (plus far z.of_b)) (omega (arith, ints, j, l));
    }

-- the same, for what is shifted back
wide_back : (r e low high d : Fraction) → IsFraction r → IsFraction e → IsFraction low → IsFraction high → IsShort d → whole (pos 0) <ᶠ e
    → r ≤ᶠ (low +ᶠ (whole (pos 1) +ᶠ e)) → high ≤ᶠ (r +ᶠ (whole (pos 1) +ᶠ e)) → high ≤ᶠ (low +ᶠ e) → IsWide r e (low -ᶠ d) (high -ᶠ d) × ((high -ᶠ d) ≤ᶠ ((low -ᶠ d) +ᶠ e))
wide_back r e low high d pr pe pl ph s some under above close =
    let z = five r e low high d pr.positive pe.positive pl.positive ph.positive s.den in
    let one = number (pos 1) z.m in
    let far = number (pos 101) z.m in
    let i = lowered z.of_a (plus z.of_c (plus one z.of_b)) under in
    let j = lowered z.of_d (plus z.of_a (plus one z.of_b)) above in
    let k = lowered (number (negsuc 99) z.m) z.of_e s.low in
    let l = lowered z.of_e (number (pos 100) z.m) s.high in
    let o = lowered z.of_d (plus z.of_c z.of_b) close in (
      record {
        low_near = raised z.some z.of_a (plus (minus z.of_c z.of_e) (plus far z.of_b)) (omega (arith, ints, i, l));
        high_near = raised z.some (minus z.of_d z.of_e) (plus z.of_a (plus far z.of_b)) (omega (arith, ints, j, k));
      },
      raised z.some (minus z.of_d z.of_e) (plus (minus z.of_c z.of_e) z.of_b) (omega (arith, ints, o)),
    )

wide_here : (r e low high : Fraction) → IsFraction r → IsFraction e → IsFraction low → IsFraction high
    → r ≤ᶠ (low +ᶠ (whole (pos 1) +ᶠ e)) → high ≤ᶠ (r +ᶠ (whole (pos 1) +ᶠ e)) → IsWide r e low high
wide_here r e low high pr pe pl ph under above =
    let z = five r e low high high pr.positive pe.positive pl.positive ph.positive ph.positive in
    let one = number (pos 1) z.m in
    let far = number (pos 101) z.m in
    let i = lowered z.of_a (plus z.of_c (plus one z.of_b)) under in
    let j = lowered z.of_d (plus z.of_a (plus one z.of_b)) above in
    record {
      low_near = raised z.some z.of_a (plus z.of_c (plus far z.of_b)) (omega (arith, ints, i));
      high_near = raised z.some z.of_d (plus z.of_a (plus far z.of_b)) (omega (arith, ints, j));
    }

pub route_known : RouteIsKnown
route_known c Tai Tai r e pr pe some =
    let k = are_near r (units c.delta_ta) pr (is_short c) in
    known_at c Tai Tai r e r pr pe pr some k.here_low k.here_high (le_f_refl r) (le_f_refl r)
route_known c Tai Tt r e pr pe some =
    let v = r +ᶠ units c.delta_ta in
    let k = are_near r (units c.delta_ta) pr (is_short c) in
    known_at c Tai Tt r e v pr pe (ahead r c.delta_ta pr) some k.ahead_low k.ahead_high (le_f_refl v) (le_f_refl v)
route_known c Tai Tdb r e pr pe some =
    let k = tdb_known c (r +ᶠ units c.delta_ta) e (ahead r c.delta_ta pr) pe some in
    let w = wide r e k.low k.high (units c.delta_ta) pr pe k.low_is k.high_is (is_short c) k.low_near k.high_near in
    record { low = k.low; high = k.high; low_is = k.low_is; high_is = k.high_is; at_least = k.at_least; at_most = k.at_most; close = k.close; low_near = w.low_near; high_near = w.high_near }
route_known c Tt Tai r e pr pe some =
    let v = r -ᶠ units c.delta_ta in
    let k = are_near r (units c.delta_ta) pr (is_short c) in
    known_at c Tt Tai r e v pr pe (ahead r (neg_ℤ c.delta_ta) pr) some k.behind_low k.behind_high (le_f_refl v) (le_f_refl v)
route_known c Tt Tt r e pr pe some =
    let k = are_near r (units c.delta_ta) pr (is_short c) in
    known_at c Tt Tt r e r pr pe pr some k.here_low k.here_high (le_f_refl r) (le_f_refl r)
route_known c Tt Tdb r e pr pe some =
    let k = tdb_known c r e pr pe some in
    let w = wide_here r e k.low k.high pr pe k.low_is k.high_is k.low_near k.high_near in
    record { low = k.low; high = k.high; low_is = k.low_is; high_is = k.high_is; at_least = k.at_least; at_most = k.at_most; close = k.close; low_near = w.low_near; high_near = w.high_near }
route_known c Tdb Tai r e pr pe some =
    let k = tt_known c r e pr pe some in
    let d = units c.delta_ta in
    let w = wide_back r e k.low k.high d pr pe k.low_is k.high_is (is_short c) some k.low_near k.high_near k.close in
    let a = k.low -ᶠ d in
    let b = k.high -ᶠ d in
    let pa = ahead k.low (neg_ℤ c.delta_ta) k.low_is in
    let pb = ahead k.high (neg_ℤ c.delta_ta) k.high_is in
    let i = returned k.low d k.low_is.positive (lit< tt) in
    let j = returned k.high d k.high_is.positive (lit< tt) in
    record {
      low = a;
      high = b;
      low_is = pa;
      high_is = pb;
      at_least = tdb_rises_high c (a +ᶠ d) k.low r (ahead a c.delta_ta pa) k.low_is pr i.0 k.at_least;
      at_most = tdb_rises_low c k.high (b +ᶠ d) r k.high_is (ahead b c.delta_ta pb) pr j.1 k.at_most;
      close = w.1;
      low_near = w.0.low_near;
      high_near = w.0.high_near;
    }
route_known c Tdb Tt r e pr pe some =
    let k = tt_known c r e pr pe some in
    let w = wide_here r e k.low k.high pr pe k.low_is k.high_is k.low_near k.high_near in
    record { low = k.low; high = k.high; low_is = k.low_is; high_is = k.high_is; at_least = k.at_least; at_most = k.at_most; close = k.close; low_near = w.low_near; high_near = w.high_near }
route_known c Tdb Tdb r e pr pe some =
    let k = are_near r (units c.delta_ta) pr (is_short c) in
    known_at c Tdb Tdb r e r pr pe pr some k.here_low k.here_high (le_f_refl r) (le_f_refl r)

-- A sine stands on the way, or none does.
pub sine_or_none : (c : Deltet) (from to : Scale) → HasNoSineOnIt c from to ⊎ HasSineOnIt c from to
sine_or_none c from to = by (crosses from to) refl c.k refl
  where
    by : (b : Bool) → crosses from to ≡ b → (k : ℤ) → c.k ≡ k → HasNoSineOnIt c from to ⊎ HasSineOnIt c from to
    by false p k q = inl (inl p)
    by true p (pos zero) q = inl (inr q)
    by true p (pos (suc n)) q = inr (record { crosses = p; k_some = λ e. omega (arith, ints, e, q) })
    by true p (negsuc n) q = inr (record { crosses = p; k_some = λ e. omega (arith, ints, e, q) })
