-- A covered tick's time, printed in TDB, gives that tick back.
use Rattle.std.proofs.Common.{◌≡◌, ℕ, zero, suc, ◌+◌, ◌-◌, ◌*◌, ◌^◌, ◌<◌, ◌≤◌, ℤ, pos, negsuc, ◌+ℤ◌, ◌*ℤ◌, neg_ℤ, ◌≤ℤ◌, ◌<ℤ◌, Bool, true, false, refl, ◌∙◌, lit<, arith, mul-pos, mul-le-mul_left}
use Rattle.std.proofs.lemmas.Nat.{pow-add}
use Rattle.std.specs.Int.Signed.{le_z_yes}
use Rattle.std.proofs.lemmas.Int.{ints}
use Rattle.std.proofs.Math.IntN.{*ℤ_comm}
use Rattle.st_fraction.specs.Fraction.{Fraction, IsFraction, ◌≤ᶠ◌, ◌<ᶠ◌, over, whole, ◌+ᶠ◌, ◌-ᶠ◌, ◌*ᶠ◌}
use Rattle.st_fraction.specs.Floor.{IsFloor}
use Rattle.st_fraction.proofs.Ring.{ring, lin, one-mul_z, two-mul_z, add-mul_z, mul-pos_z, le_cancel_z, lt_cancel_z}
use Rattle.st_fraction.proofs.Order.{le_f_refl, le_of_same, same_sym}
use Rattle.st_fraction.proofs.Scale.{IsAt, at_self, at_more, at_add, at_sub, at_mul, le_at, at_le}
use Rattle.st_fraction.proofs.Linear.{whole_at, times_at, at_one_scale}
use Rattle.st_fraction.proofs.Strict.{lt_at, at_lt}
use Rattle.st_decimal.proofs.ScalingLaws.{power_some}
use Rattle.st_scales.specs.declared.deltet.Deltet.{Deltet}
use Rattle.st_scales.specs.declared.scale.Scale.TheVariants.{Tdb}
use Rattle.st_scales.specs.Route.{IsAtLeast, IsAtMost}
use Rattle.st_scales.proofs.Routes.{route_loosens}
use Rattle.st_scales.proofs.Returns.{route_returns}
use Rattle.st_clock.specs.declared.coefficient.Coefficient.{Coefficient}
use Rattle.st_clock.specs.declared.ticks.Ticks.TheVariants.{At}
use Rattle.st_clock.specs.Clock.{Clock, tpm, IsClock, IsTimeOf, line_time}
use Rattle.st_clock.specs.Covered.{IsCovered, tick_length, half_tick}
use Rattle.st_clock.specs.Return.{IsCell, printed, IsPrinted, TickReturns, WayBackIsDecided}
use Rattle.st_clock.specs.Tick.{TickOf}
use Rattle.st_clock.proofs.Faces.{tpm_some}
use Rattle.st_clock.proofs.Falls.{tick_rises, same_tick}
use Rattle.st_clock.proofs.Half.{tick_length-den, half_tick-den, tick_within_half, covered_time}
use Rattle.st_clock.proofs.Rising.{line_time-den}

-- one last place, and one and a half
abbrev last_place : ℕ → Fraction
last_place p = over (pos 1) (10 ^ p)

abbrev wider : ℕ → Fraction
wider p = over (pos 3) (2 * 10 ^ p)

wider-den : (p : ℕ) → 0 < 2 * 10 ^ p
wider-den p = let two : 0 < 2 = lit< tt in mul-pos two (power_some p)

-- what n last places are at a scale at which one is y
cancel_low : (n y z : ℤ) (p m : ℕ) → 0 < p → pos m ≡ y *ℤ pos p → (n *ℤ pos m) ≤ℤ (pos p *ℤ z) → (n *ℤ y) ≤ℤ z
cancel_low n y z p m some e h = le_cancel_z (n *ℤ y) z p some (go n y z (pos p) (rw e at h))
  where
    go : (n y z p : ℤ) → (n *ℤ (y *ℤ p)) ≤ℤ (p *ℤ z) → (n *ℤ y *ℤ p) ≤ℤ (z *ℤ p)
    go n y z p h =
        let u : n *ℤ y *ℤ p ≡ n *ℤ (y *ℤ p) = simp ring in
        let v : z *ℤ p ≡ p *ℤ z = simp ring in
        rw (u, v) h

cancel_high : (n y z : ℤ) (p m : ℕ) → pos m ≡ y *ℤ pos p → (pos p *ℤ z) <ℤ ((n +ℤ pos 1) *ℤ pos m) → z <ℤ (n *ℤ y +ℤ y)
cancel_high n y z p m e h =
    let l = lt_cancel_z z ((n +ℤ pos 1) *ℤ y) p (go (n +ℤ pos 1) y z (pos p) (rw e at h)) in
    let a = add-mul_z n (pos 1) y in
    let b = one-mul_z y in
    rw (a, b) at l
  where
    go : (n y z p : ℤ) → (p *ℤ z) <ℤ (n *ℤ (y *ℤ p)) → (z *ℤ p) <ℤ (n *ℤ y *ℤ p)
    go n y z p h =
        let u : n *ℤ y *ℤ p ≡ n *ℤ (y *ℤ p) = simp ring in
        let v : z *ℤ p ≡ p *ℤ z = simp ring in
        rw (u, v) h

place_above : (y : ℤ) (p m : ℕ) → 0 < m → pos m ≡ y *ℤ pos p → pos 0 <ℤ y
place_above (pos zero) p m some e = absurd (none m p some e)
  where
    none : (m p : ℕ) → 0 < m → pos m ≡ pos 0 *ℤ pos p → ⊥
    none m p s e = omega (arith, ints, e)
place_above (pos (suc y)) p m some e = omega (arith, ints)
place_above (negsuc y) p m some e = absurd (omega (arith, ints, e))

printed_at : (p : ℕ) (n : ℤ) (m : ℕ) (y : ℤ) → pos m ≡ y *ℤ pos (10 ^ p) → IsAt m (printed p n) (n *ℤ y)
printed_at p n m y e = record { at = go n (pos m) y (pos (10 ^ p)) e }
  where
    go : (n m y q : ℤ) → m ≡ y *ℤ q → n *ℤ m ≡ n *ℤ y *ℤ q
    go n m y q e = let u : n *ℤ y *ℤ q ≡ n *ℤ (y *ℤ q) = simp ring in rw (u, e) refl

place_at : (p m : ℕ) (y : ℤ) → pos m ≡ y *ℤ pos (10 ^ p) → IsAt m (last_place p) y
place_at p m y e = let one : 1 * m ≡ m = omega arith in record { at = rw one e }

-- the printed number lies within one last place
abbrev Within_place : ℕ → Fraction → ℤ → Type 0
Within_place p v n = ((printed p n -ᶠ last_place p) ≤ᶠ v) × (v ≤ᶠ (printed p n +ᶠ last_place p))

near_cell : (p : ℕ) (v w : Fraction) (n : ℤ) (m : ℕ) (x y s : ℤ) → 0 < v.den → 0 < w.den → 0 < m → IsAt m v x → IsAt m w (x +ℤ s) → pos m ≡ y *ℤ pos (10 ^ p)
    → pos 0 ≤ℤ s → s ≤ℤ y → IsFloor (whole (pos (10 ^ p)) *ᶠ w) n → Within_place p v n
near_cell p v w n m x y s pv pw some v_at w_at e more less cell =
    let q = power_some p in
    let one : 0 < 1 = lit< tt in
    let product = times_at (pos (10 ^ p)) m w (x +ℤ s) w_at in
    let low = cancel_low n y (x +ℤ s) (10 ^ p) m q e (at_le m (whole n) (whole (pos (10 ^ p)) *ᶠ w) (n *ℤ pos m) _ one (mul-pos one pw) (whole_at n m) product cell.at_most) in
    let high = cancel_high n y (x +ℤ s) (10 ^ p) m e (at_lt m (whole (pos (10 ^ p)) *ᶠ w) (whole (n +ℤ pos 1)) _ ((n +ℤ pos 1) *ℤ pos m) some product (whole_at (n +ℤ pos 1) m) cell.below_next) in
    let X = printed_at p n m y e in
    let h = place_at p m y e in (
      le_at m (printed p n -ᶠ last_place p) v (n *ℤ y +ℤ neg_ℤ y) x some (at_sub m (printed p n) (last_place p) (n *ℤ y) y X h) v_at (below (n *ℤ y) x y s low less),
      le_at m v (printed p n +ᶠ last_place p) x (n *ℤ y +ℤ y) some v_at (at_add m (printed p n) (last_place p) (n *ℤ y) y X h) (above (n *ℤ y) x y s high more),
    )
  where
    below : (u x y s : ℤ) → u ≤ℤ (x +ℤ s) → s ≤ℤ y → (u +ℤ neg_ℤ y) ≤ℤ x
    below u x y s h k = omega (arith, lin)

    above : (u x y s : ℤ) → (x +ℤ s) <ℤ (u +ℤ y) → pos 0 ≤ℤ s → x ≤ℤ (u +ℤ y)
    above u x y s h k = omega (arith, lin)

cell_near : (p : ℕ) (rounds : Bool) (v : Fraction) (n : ℤ) → 0 < v.den → IsCell p rounds v n → Within_place p v n
cell_near p false v n pv cell =
    let z = at_one_scale v (last_place p) v v v v v v pv (power_some p) pv pv pv pv pv pv in
    let one : 1 * z.m ≡ z.m = omega arith in
    let e : pos z.m ≡ z.xb *ℤ pos (10 ^ p) = rw one at z.b_at.at in
    let same : z.xa +ℤ pos 0 ≡ z.xa = omega (arith, ints) in
    let some = place_above z.xb (10 ^ p) z.m z.some e in
    near_cell p v v n z.m z.xa z.xb (pos 0) pv pv z.some z.a_at (rw same z.a_at) e (omega (arith, ints)) (omega (arith, lin, some)) cell
cell_near p true v n pv cell =
    let half = over (pos 1) (2 * 10 ^ p) in
    let z = at_one_scale v half v v v v v v pv (wider-den p) pv pv pv pv pv pv in
    let one : 1 * z.m ≡ z.m = omega arith in
    let f : pos z.m ≡ z.xb *ℤ pos (2 * 10 ^ p) = rw one at z.b_at.at in
    let some = place_above z.xb (2 * 10 ^ p) z.m z.some f in
    let e : pos z.m ≡ (z.xb +ℤ z.xb) *ℤ pos (10 ^ p) = f ∙ twice z.xb (10 ^ p) in
    near_cell p v (v +ᶠ half) n z.m z.xa (z.xb +ℤ z.xb) z.xb pv (mul-pos pv (wider-den p)) z.some z.a_at (at_add z.m v half z.xa z.xb z.a_at z.b_at) e
    (omega (arith, lin, some)) (omega (arith, lin, some)) cell
  where
    twice : (w : ℤ) (p : ℕ) → w *ℤ pos (2 * p) ≡ (w +ℤ w) *ℤ pos p
    twice w p = let a = add-mul_z w w (pos p) in let b = mul-pos_z w 2 p in let d = two-mul_z (pos p *ℤ w) in let e = *ℤ_comm w (pos p) in omega (arith, lin, a, b, d, e)

-- a time within g of a covered tick's, where g is less than half a tick
near_tick : (c : Clock) (k i : ℕ) (r : Coefficient) (u v g : Fraction) → IsClock c → IsFraction u → IsFraction v → IsFraction g → IsCovered c k i r → IsTimeOf c k u
    → v ≤ᶠ (u +ᶠ g) → u ≤ᶠ (v +ᶠ g) → g <ᶠ half_tick (tpm c) r → TickOf c v (At k)
near_tick c k i r u v g is pu pv pg cov t above below less =
    let p = tpm_some c is in
    let l = line_time (tpm c) r k in
    let half = half_tick (tpm c) r in
    let pl = line_time-den (tpm c) r k p in
    let ph = half_tick-den (tpm c) r p in
    let same = covered_time c k i r u cov t in
    let z = at_one_scale l half u v g g g g pl ph pu.positive pv.positive pg.positive pg.positive pg.positive pg.positive in
    let a = at_le z.m u l z.xc z.xa pu.positive pl z.c_at z.a_at (le_of_same u l same) in
    let b = at_le z.m l u z.xa z.xc pl pu.positive z.a_at z.c_at (le_of_same l u (same_sym u l same)) in
    let d = at_le z.m v (u +ᶠ g) z.xd (z.xc +ℤ z.xe) pv.positive (mul-pos pu.positive pg.positive) z.d_at (at_add z.m u g z.xc z.xe z.c_at z.e_at) above in
    let e = at_le z.m u (v +ᶠ g) z.xc (z.xd +ℤ z.xe) pu.positive (mul-pos pv.positive pg.positive) z.c_at (at_add z.m v g z.xd z.xe z.d_at z.e_at) below in
    let f = at_lt z.m g half z.xe z.xb z.some z.e_at z.b_at less in
    tick_within_half c k i r v is pv cov
    (le_at z.m (l -ᶠ half) v _ z.xd z.some (at_sub z.m l half z.xa z.xb z.a_at z.b_at) z.d_at (low z.xa z.xb z.xc z.xd z.xe b e f))
    (lt_at z.m v (l +ᶠ half) z.xd _ pv.positive (mul-pos pl ph) z.d_at (at_add z.m l half z.xa z.xb z.a_at z.b_at) (high z.xa z.xb z.xc z.xd z.xe a d f))
  where
    low : (l h u v g : ℤ) → l ≤ℤ u → u ≤ℤ (v +ℤ g) → g <ℤ h → (l +ℤ neg_ℤ h) ≤ℤ v
    low l h u v g a b d = omega (arith, lin)

    high : (l h u v g : ℤ) → u ≤ℤ l → v ≤ℤ (u +ℤ g) → g <ℤ h → v <ℤ (l +ℤ h)
    high l h u v g a b d = omega (arith, lin)

-- k last places, and k halves of one
places_at : (k p m : ℕ) (y : ℤ) → pos m ≡ y *ℤ pos (10 ^ p) → IsAt m (over (pos k) (10 ^ p)) (pos k *ℤ y)
places_at k p m y e = record { at = go (pos k) (pos m) y (pos (10 ^ p)) e }
  where
    go : (k m y q : ℤ) → m ≡ y *ℤ q → k *ℤ m ≡ k *ℤ y *ℤ q
    go k m y q e = let u : k *ℤ y *ℤ q ≡ k *ℤ (y *ℤ q) = simp ring in rw (u, e) refl

halves_at : (p m : ℕ) (y : ℤ) → pos m ≡ y *ℤ pos (10 ^ p) → IsAt (m * 2) (wider p) (pos 3 *ℤ y)
halves_at p m y e = record { at = go (pos 3) (pos m) y (pos (10 ^ p)) (pos 2) e }
  where
    go : (k m y q b : ℤ) → m ≡ y *ℤ q → k *ℤ (m *ℤ b) ≡ k *ℤ y *ℤ (b *ℤ q)
    go k m y q b e =
        let u : k *ℤ y *ℤ (b *ℤ q) ≡ k *ℤ (y *ℤ q *ℤ b) = simp ring in
        rw (u, e) refl

power_small : (p : ℕ) → p ≤ 9 → 10 ^ p ≤ 10 ^ 9
power_small p h =
    let e : p + (9 - p) ≡ 9 = omega arith in
    let f = rw e at (pow-add 10 p (9 - p)) in
    let s = power_some (9 - p) in
    more (10 ^ p) (10 ^ (9 - p)) (10 ^ 9) s f
  where
    more : (a b c : ℕ) → 0 < b → c ≡ a * b → a ≤ c
    more a b c s f = let m : a * 1 ≤ a * b = mul-le-mul_left a s in omega (arith, m, f)

-- one last place and a half, and 10^-12 beside it, are less than half a tick of four last places or more
wider_less : (p : ℕ) (t : Fraction) → 0 < t.den → over (pos 4) (10 ^ p) ≤ᶠ t → wider p <ᶠ (t *ᶠ over (pos 1) 2)
wider_less p t pt long =
    let two : 0 < 2 = lit< tt in
    let z = at_one_scale (last_place p) t t t t t t t (power_some p) pt pt pt pt pt pt pt in
    let one : 1 * z.m ≡ z.m = omega arith in
    let e : pos z.m ≡ z.xa *ℤ pos (10 ^ p) = rw one at z.a_at.at in
    let some = place_above z.xa (10 ^ p) z.m z.some e in
    let l = at_le z.m (over (pos 4) (10 ^ p)) t (pos 4 *ℤ z.xa) z.xb (power_some p) pt (places_at 4 p z.m z.xa e) z.b_at long in
    lt_at (z.m * 2) (wider p) (t *ᶠ over (pos 1) 2) (pos 3 *ℤ z.xa) (z.xb *ℤ pos 1) (wider-den p) (mul-pos pt two) (halves_at p z.m z.xa e)
    (at_mul z.m 2 t (over (pos 1) 2) z.xb (pos 1) z.b_at (at_self (over (pos 1) 2))) (go z.xa z.xb some l)
  where
    go : (x y : ℤ) → pos 0 <ℤ x → (pos 4 *ℤ x) ≤ℤ y → (pos 3 *ℤ x) <ℤ (y *ℤ pos 1)
    go x y s l = omega (arith, ints, s, l)

abbrev pico : Fraction
pico = over (pos 1) (10 ^ 12)

pico_less : (p : ℕ) → p ≤ 9 → (pico +ᶠ pico) <ᶠ last_place p
pico_less p h = record { lt = go (10 ^ p) (power_small p h) }
  where
    go : (q : ℕ) → q ≤ 10 ^ 9 → ((pos 1 *ℤ pos (10 ^ 12) +ℤ pos 1 *ℤ pos (10 ^ 12)) *ℤ pos q) <ℤ (pos 1 *ℤ pos (10 ^ 12 * 10 ^ 12))
    go q h = omega (arith, ints, h)

wider_pico_less : (p : ℕ) (t : Fraction) → p ≤ 9 → 0 < t.den → over (pos 4) (10 ^ p) ≤ᶠ t → (wider p +ᶠ pico) <ᶠ (t *ᶠ over (pos 1) 2)
wider_pico_less p t h pt long =
    let two : 0 < 2 = lit< tt in
    let pe : 0 < 10 ^ 12 = lit< tt in
    let z = at_one_scale (last_place p) t pico t t t t t (power_some p) pt pe pt pt pt pt pt in
    let one : 1 * z.m ≡ z.m = omega arith in
    let e : pos z.m ≡ z.xa *ℤ pos (10 ^ p) = rw one at z.a_at.at in
    let some = place_above z.xa (10 ^ p) z.m z.some e in
    let l = at_le z.m (over (pos 4) (10 ^ p)) t (pos 4 *ℤ z.xa) z.xb (power_some p) pt (places_at 4 p z.m z.xa e) z.b_at long in
    let s = at_lt z.m (pico +ᶠ pico) (last_place p) (z.xc +ℤ z.xc) z.xa z.some (at_add z.m pico pico z.xc z.xc z.c_at z.c_at) z.a_at (pico_less p h) in
    lt_at (z.m * 2) (wider p +ᶠ pico) (t *ᶠ over (pos 1) 2) (pos 3 *ℤ z.xa +ℤ z.xc *ℤ pos 2) (z.xb *ℤ pos 1) (mul-pos (wider-den p) pe) (mul-pos pt two)
    (at_add (z.m * 2) (wider p) pico (pos 3 *ℤ z.xa) (z.xc *ℤ pos 2) (halves_at p z.m z.xa e) (at_more z.m 2 pico z.xc z.c_at))
    (at_mul z.m 2 t (over (pos 1) 2) z.xb (pos 1) z.b_at (at_self (over (pos 1) 2))) (go z.xa z.xb z.xc l s)
  where
    go : (x y w : ℤ) → (pos 4 *ℤ x) ≤ℤ y → (w +ℤ w) <ℤ x → (pos 3 *ℤ x +ℤ w *ℤ pos 2) <ℤ (y *ℤ pos 1)
    go x y w l s = omega (arith, ints, l, s)

-- what a route back gives
back : (d : Deltet) (c : Clock) (k p : ℕ) (rounds : Bool) (n : ℤ) (pr : IsPrinted d c k p rounds n) (a b : Fraction) → IsFraction a → IsFraction b
    → IsAtLeast d Tdb c.scale (printed p n) a → IsAtMost d Tdb c.scale (printed p n) b → (a ≤ᶠ (pr.time +ᶠ wider p)) × (pr.time ≤ᶠ (b +ᶠ wider p))
back d c k p rounds n pr a b pa pb least most =
    let u = pr.time in
    let x = printed p n in
    let h = last_place p in
    let m = pr.prints in
    let px : IsFraction x = record { positive = power_some p } in
    let ph : IsFraction h = record { positive = power_some p } in
    let pq : IsFraction (wider p) = record { positive = wider-den p } in
    let pl : IsFraction (x -ᶠ h) = record { positive = mul-pos (power_some p) (power_some p) } in
    let pm : IsFraction (x +ᶠ h) = record { positive = mul-pos (power_some p) (power_some p) } in
    let low = (route_loosens d c.scale Tdb u (x -ᶠ h) m.low pr.time_is pl m.low_is (cell_near p rounds m.low n m.low_is.positive m.low_cell).0).0 m.at_least in
    let high = (route_loosens d c.scale Tdb u m.high (x +ᶠ h) pr.time_is m.high_is pm (cell_near p rounds m.high n m.high_is.positive m.high_cell).1).1 m.at_most in
    route_returns d c.scale u x h (wider p) a b pr.time_is px ph pq pa pb (record { le = omega (arith, ints) }) (record { le = enough (10 ^ p) }) low high least most
  where
    enough : (q : ℕ) → (pos 3 *ℤ pos 1 *ℤ pos (1 * (2 * q))) ≤ℤ (pos 2 *ℤ pos 3 *ℤ pos (1 * q))
    enough q = omega (arith, ints)

record Around (u q a b : Fraction) : Type 0 where
  above : u ≤ᶠ ((u +ᶠ q) +ᶠ q)
  below : (u -ᶠ q) ≤ᶠ (u +ᶠ q)
  again : u ≤ᶠ ((u -ᶠ q) +ᶠ q)
  later : (u -ᶠ q) ≤ᶠ b

around : (u q a b : Fraction) → IsFraction u → IsFraction q → IsFraction b → whole (pos 0) ≤ᶠ q → u ≤ᶠ (b +ᶠ q) → Around u q a b
around u q a b pu pq pb some h =
    let z = at_one_scale u q b u u u u u pu.positive pq.positive pb.positive pu.positive pu.positive pu.positive pu.positive pu.positive in
    let i = at_le z.m (whole (pos 0)) q (pos 0 *ℤ pos z.m) z.xb (lit< tt) pq.positive (whole_at (pos 0) z.m) z.b_at some in
    let j = at_le z.m u (b +ᶠ q) z.xa (z.xc +ℤ z.xb) pu.positive (mul-pos pb.positive pq.positive) z.a_at (at_add z.m b q z.xc z.xb z.c_at z.b_at) h in
    let plus = at_add z.m u q z.xa z.xb z.a_at z.b_at in
    let minus = at_sub z.m u q z.xa z.xb z.a_at z.b_at in
    record {
      above = le_at z.m u ((u +ᶠ q) +ᶠ q) z.xa _ z.some z.a_at (at_add z.m (u +ᶠ q) q (z.xa +ℤ z.xb) z.xb plus z.b_at) (first z.xa z.xb (pos 0 *ℤ pos z.m) (none z.m) i);
      below = le_at z.m (u -ᶠ q) (u +ᶠ q) _ _ z.some minus plus (second z.xa z.xb (pos 0 *ℤ pos z.m) (none z.m) i);
      again = le_at z.m u ((u -ᶠ q) +ᶠ q) z.xa _ z.some z.a_at (at_add z.m (u -ᶠ q) q (z.xa +ℤ neg_ℤ z.xb) z.xb minus z.b_at) (third z.xa z.xb);
      later = le_at z.m (u -ᶠ q) b _ z.xc z.some minus z.c_at (fourth z.xa z.xb z.xc j);
    }
  where
    none : (m : ℕ) → pos 0 *ℤ pos m ≡ pos 0
    none m = omega (arith, ints)

    first : (u q o : ℤ) → o ≡ pos 0 → o ≤ℤ q → u ≤ℤ (u +ℤ q +ℤ q)
    first u q o e h = omega (arith, lin, e, h)

    second : (u q o : ℤ) → o ≡ pos 0 → o ≤ℤ q → (u +ℤ neg_ℤ q) ≤ℤ (u +ℤ q)
    second u q o e h = omega (arith, lin, e, h)

    third : (u q : ℤ) → u ≤ℤ (u +ℤ neg_ℤ q +ℤ q)
    third u q = omega (arith, lin)

    fourth : (u q b : ℤ) → u ≤ℤ (b +ℤ q) → (u +ℤ neg_ℤ q) ≤ℤ b
    fourth u q b h = omega (arith, lin)

pub tick_returns : TickReturns
tick_returns d c k p rounds n pr a b t pa pb least most ta tb =
    let u = pr.time in
    let q = wider p in
    let pq : IsFraction q = record { positive = wider-den p } in
    let r = back d c k p rounds n pr a b pa pb least most in
    let tpm_is = tpm_some c pr.is_clock in
    let less = wider_less p (tick_length (tpm c) pr.by) (tick_length-den (tpm c) pr.by tpm_is) pr.long in
    let z = around u q a b pr.time_is pq pb (record { le = omega (arith, ints) }) r.1 in
    let pp : IsFraction (u +ᶠ q) = record { positive = mul-pos pr.time_is.positive (wider-den p) } in
    let pm : IsFraction (u -ᶠ q) = record { positive = mul-pos pr.time_is.positive (wider-den p) } in
    let high = near_tick c k pr.place pr.by u (u +ᶠ q) q pr.is_clock pr.time_is pp pq pr.covered pr.is_time (le_f_refl (u +ᶠ q)) z.above less in
    let low = near_tick c k pr.place pr.by u (u -ᶠ q) q pr.is_clock pr.time_is pm pq pr.covered pr.is_time z.below z.again less in
    same_tick t (At k) (tick_rises c a (u +ᶠ q) t (At k) pr.is_clock pa pp r.0 ta high) (tick_rises c (u -ᶠ q) b (At k) t pr.is_clock pm pb z.later low tb)

-- b is near u, too, where it is near a
close_by : (u q a b : Fraction) → IsFraction u → IsFraction q → IsFraction a → IsFraction b → a ≤ᶠ (u +ᶠ q) → u ≤ᶠ (b +ᶠ q) → b ≤ᶠ (a +ᶠ pico)
    → ((a ≤ᶠ (u +ᶠ (q +ᶠ pico))) × (u ≤ᶠ (a +ᶠ (q +ᶠ pico)))) × ((b ≤ᶠ (u +ᶠ (q +ᶠ pico))) × (u ≤ᶠ (b +ᶠ (q +ᶠ pico))))
close_by u q a b pu pq pa pb h k l =
    let pe : 0 < 10 ^ 12 = lit< tt in
    let z = at_one_scale u q a b pico u u u pu.positive pq.positive pa.positive pb.positive pe pu.positive pu.positive pu.positive in
    let i = at_le z.m (whole (pos 0)) pico (pos 0 *ℤ pos z.m) z.xe (lit< tt) pe (whole_at (pos 0) z.m) z.e_at (record { le = le_z_yes tt }) in
    let i2 : pos 0 ≤ℤ z.xe = rw (none z.m) at i in
    let h2 = at_le z.m a (u +ᶠ q) z.xc (z.xa +ℤ z.xb) pa.positive (mul-pos pu.positive pq.positive) z.c_at (at_add z.m u q z.xa z.xb z.a_at z.b_at) h in
    let k2 = at_le z.m u (b +ᶠ q) z.xa (z.xd +ℤ z.xb) pu.positive (mul-pos pb.positive pq.positive) z.a_at (at_add z.m b q z.xd z.xb z.d_at z.b_at) k in
    let l2 = at_le z.m b (a +ᶠ pico) z.xd (z.xc +ℤ z.xe) pb.positive (mul-pos pa.positive pe) z.d_at (at_add z.m a pico z.xc z.xe z.c_at z.e_at) l in
    let g = at_add z.m q pico z.xb z.xe z.b_at z.e_at in
    let ug = at_add z.m u (q +ᶠ pico) z.xa (z.xb +ℤ z.xe) z.a_at g in
    let ag = at_add z.m a (q +ᶠ pico) z.xc (z.xb +ℤ z.xe) z.c_at g in
    let bg = at_add z.m b (q +ᶠ pico) z.xd (z.xb +ℤ z.xe) z.d_at g in (
      (le_at z.m a (u +ᶠ (q +ᶠ pico)) _ _ z.some z.c_at ug (one z.xa z.xb z.xc z.xe i2 h2), le_at z.m u (a +ᶠ (q +ᶠ pico)) _ _ z.some z.a_at ag (two z.xa z.xb z.xc z.xd z.xe k2 l2)),
      (le_at z.m b (u +ᶠ (q +ᶠ pico)) _ _ z.some z.d_at ug (three z.xa z.xb z.xc z.xd z.xe h2 l2), le_at z.m u (b +ᶠ (q +ᶠ pico)) _ _ z.some z.a_at bg (four z.xa z.xb z.xd z.xe i2 k2)),
    )
  where
    none : (m : ℕ) → pos 0 *ℤ pos m ≡ pos 0
    none m = omega (arith, ints)

    one : (u q a e : ℤ) → pos 0 ≤ℤ e → a ≤ℤ (u +ℤ q) → a ≤ℤ (u +ℤ (q +ℤ e))
    one u q a e i h = omega (arith, lin)

    two : (u q a b e : ℤ) → u ≤ℤ (b +ℤ q) → b ≤ℤ (a +ℤ e) → u ≤ℤ (a +ℤ (q +ℤ e))
    two u q a b e k l = omega (arith, lin)

    three : (u q a b e : ℤ) → a ≤ℤ (u +ℤ q) → b ≤ℤ (a +ℤ e) → b ≤ℤ (u +ℤ (q +ℤ e))
    three u q a b e h l = omega (arith, lin)

    four : (u q b e : ℤ) → pos 0 ≤ℤ e → u ≤ℤ (b +ℤ q) → u ≤ℤ (b +ℤ (q +ℤ e))
    four u q b e i k = omega (arith, lin)

pub way_back_is_decided : WayBackIsDecided
way_back_is_decided d c k p rounds n small pr a b pa pb least most close =
    let u = pr.time in
    let q = wider p in
    let g = q +ᶠ pico in
    let pq : IsFraction q = record { positive = wider-den p } in
    let pg : IsFraction g = record { positive = mul-pos (wider-den p) (let e : 0 < 10 ^ 12 = lit< tt in e) } in
    let r = back d c k p rounds n pr a b pa pb least most in
    let tpm_is = tpm_some c pr.is_clock in
    let less = wider_pico_less p (tick_length (tpm c) pr.by) small (tick_length-den (tpm c) pr.by tpm_is) pr.long in
    let z = close_by u q a b pr.time_is pq pa pb r.0 r.1 close in (
      near_tick c k pr.place pr.by u a g pr.is_clock pr.time_is pa pg pr.covered pr.is_time z.0.0 z.0.1 less,
      near_tick c k pr.place pr.by u b g pr.is_clock pr.time_is pb pg pr.covered pr.is_time z.1.0 z.1.1 less,
    )
