-- The way back: where TDB of u lies within h of x, the value of x in u's scale lies within three halves of h of u.
use Rattle.std.proofs.Common.{ℕ, ◌+◌, ◌*◌, ◌^◌, ◌<◌, ℤ, pos, neg_ℤ, ◌+ℤ◌, ◌*ℤ◌, ◌≤ℤ◌, arith, lit<, mul-pos}
use Rattle.std.proofs.lemmas.Int.{ints}
use Rattle.st_fraction.specs.Fraction.{Fraction, IsFraction, ◌≤ᶠ◌, ◌<ᶠ◌, whole, units, ◌+ᶠ◌, ◌-ᶠ◌, ◌*ᶠ◌}
use Rattle.st_fraction.proofs.Ring.{lin}
use Rattle.st_fraction.proofs.Order.{le_f_trans, le_f_cases, le_of_lt_f}
use Rattle.st_fraction.proofs.Placed.{placed, plus, minus, finer, number, times, lowered, raised}
use Rattle.st_scales.specs.declared.deltet.Deltet.{Deltet}
use Rattle.st_scales.specs.declared.scale.Scale.TheVariants.{Tai, Tt, Tdb}
use Rattle.st_scales.specs.Tdb.{TdbIsAtLeast, TdbIsAtMost}
use Rattle.st_scales.specs.Laws.{RouteReturns}
use Rattle.st_scales.proofs.Step.{IsSlack}
use Rattle.st_scales.proofs.Moves.{tdb_moves_low, tdb_moves_high}
use Rattle.st_scales.proofs.Values.{half, half-den, of_half, half_twice, three, five, tdb_agrees, way}
use Rattle.st_scales.proofs.Routes.{ahead}

-- a is at most u where it is no later, and else no farther than q
record Reaches (q h : Fraction) : Type 0 where
  some : whole (pos 0) ≤ᶠ h
  enough : (whole (pos 3) *ᶠ h) ≤ᶠ (whole (pos 2) *ᶠ q)

no_farther : (a u h q : Fraction) → IsFraction a → IsFraction u → IsFraction h → IsFraction q → Reaches q h → a ≤ᶠ u → a ≤ᶠ (u +ᶠ q)
no_farther a u h q pa pu ph pq r le =
    let z = five a u h q q pa.positive pu.positive ph.positive pq.positive pq.positive in
    let i = lowered (number (pos 0) z.m) z.of_c r.some in
    let j = lowered (times (pos 3) z.of_c) (times (pos 2) z.of_d) r.enough in
    let k = lowered z.of_a z.of_b le in
    raised z.some z.of_a (plus z.of_b z.of_d) (omega (arith, ints, i, j, k))

-- a quarter, and four of them
quarter_slack : (e : Fraction) → IsFraction e → whole (pos 0) ≤ᶠ e → IsSlack e (half (half e))
quarter_slack e pe some =
    let h = half e in
    let ph = half-den e pe in
    let pq = half-den h ph in
    let z = three e h (half h) pe.positive ph.positive pq.positive in
    let i = lowered (number (pos 0) z.m) z.of_a some in
    let j = lowered z.of_a (plus z.of_b z.of_b) (half_twice e pe).1 in
    let k = lowered z.of_b (plus z.of_c z.of_c) (half_twice h ph).1 in
    record { enough = raised z.some z.of_a (times (pos (10 ^ 9)) z.of_c) (omega (arith, ints, i, j, k)) }

-- x - h plus what is left of e is at most x: then e is at most q
close_by : (x h e s q : Fraction) → IsFraction x → IsFraction h → IsFraction e → IsFraction s → IsFraction q → Reaches q h
    → (s +ᶠ s +ᶠ (s +ᶠ s)) ≤ᶠ e → (((x -ᶠ h) +ᶠ e) -ᶠ s) ≤ᶠ x → e ≤ᶠ q
close_by x h e s q px ph pe ps pq r four le =
    let z = five x h e s q px.positive ph.positive pe.positive ps.positive pq.positive in
    let i = lowered (times (pos 3) z.of_b) (times (pos 2) z.of_e) r.enough in
    let j = lowered (plus (plus z.of_d z.of_d) (plus z.of_d z.of_d)) z.of_c four in
    let k = lowered (minus (plus (minus z.of_a z.of_b) z.of_c) z.of_d) z.of_a le in
    let l = lowered (number (pos 0) z.m) z.of_b r.some in
    raised z.some z.of_c z.of_e (go z.xa z.xb z.xc z.xd z.xe z.m i j k l)
  where
    go : (x h e s q : ℤ) (m : ℕ) → (pos 3 *ℤ h) ≤ℤ (pos 2 *ℤ q) → (s +ℤ s +ℤ (s +ℤ s)) ≤ℤ e → (x +ℤ neg_ℤ h +ℤ e +ℤ neg_ℤ s) ≤ℤ x → (pos 0 *ℤ pos m) ≤ℤ h → e ≤ℤ q
    go x h e s q m one two three four = omega (arith, ints, one, two, three, four)

four_quarters : (e : Fraction) → IsFraction e → ((half (half e) +ᶠ half (half e)) +ᶠ (half (half e) +ᶠ half (half e))) ≤ᶠ e
four_quarters e pe =
    let h = half e in
    let ph = half-den e pe in
    let pq = half-den h ph in
    let z = three e h (half h) pe.positive ph.positive pq.positive in
    let j = lowered (plus z.of_b z.of_b) z.of_a (half_twice e pe).0 in
    let k = lowered (plus z.of_c z.of_c) z.of_b (half_twice h ph).0 in
    raised z.some (plus (plus z.of_c z.of_c) (plus z.of_c z.of_c)) z.of_a (omega (arith, ints, j, k))

back_low : (c : Deltet) (u x h q a : Fraction) → IsFraction u → IsFraction x → IsFraction h → IsFraction q → IsFraction a → Reaches q h
    → TdbIsAtLeast c u (x -ᶠ h) → TdbIsAtMost c a x → a ≤ᶠ (u +ᶠ q)
back_low c u x h q a pu px ph pq pa r low high = le_f_cases a u (no_farther a u h q pa pu ph pq r) (λ (l : u <ᶠ a).
    let e = a -ᶠ u in
    let pe : IsFraction e = record { positive = mul-pos pa.positive pu.positive } in
    let k = way u a pu pa (le_of_lt_f u a l) in
    let s = half (half e) in
    let ps = half-den (half e) (half-den e pe) in
    let px' : IsFraction (x -ᶠ h) = record { positive = mul-pos px.positive ph.positive } in
    let v = ((x -ᶠ h) +ᶠ e) -ᶠ s in
    let pv : IsFraction v = record { positive = mul-pos (mul-pos px'.positive pe.positive) ps.positive } in
    let z = five x h a u s px.positive ph.positive pa.positive pu.positive ps.positive in
    let oe = minus z.of_c z.of_d in
    let far = tdb_moves_low c u a e s (x -ᶠ h) v pu pa pe ps px' pv k.near (quarter_slack e pe k.some)
    (raised z.some (plus (minus (plus (minus z.of_a z.of_b) oe) z.of_e) (plus z.of_d z.of_e)) (plus (minus z.of_a z.of_b) z.of_c) (omega (arith, lin))) low in
    let near = close_by x h e s q px ph pe ps pq r (four_quarters e pe) (tdb_agrees c a v x pa pv px far high) in
    let y = three a u q pa.positive pu.positive pq.positive in
    let i = lowered (minus y.of_a y.of_b) y.of_c near in
    raised y.some y.of_a (plus y.of_b y.of_c) (omega (arith, lin, i)))

-- the same from the other side
close_over : (x h e s q : Fraction) → IsFraction x → IsFraction h → IsFraction e → IsFraction s → IsFraction q → Reaches q h
    → (s +ᶠ s +ᶠ (s +ᶠ s)) ≤ᶠ e → x ≤ᶠ (((x +ᶠ h) -ᶠ e) +ᶠ s) → e ≤ᶠ q
close_over x h e s q px ph pe ps pq r four le =
    let z = five x h e s q px.positive ph.positive pe.positive ps.positive pq.positive in
    let i = lowered (times (pos 3) z.of_b) (times (pos 2) z.of_e) r.enough in
    let j = lowered (plus (plus z.of_d z.of_d) (plus z.of_d z.of_d)) z.of_c four in
    let k = lowered z.of_a (plus (minus (plus z.of_a z.of_b) z.of_c) z.of_d) le in
    let l = lowered (number (pos 0) z.m) z.of_b r.some in
    raised z.some z.of_c z.of_e (go z.xa z.xb z.xc z.xd z.xe z.m i j k l)
  where
    go : (x h e s q : ℤ) (m : ℕ) → (pos 3 *ℤ h) ≤ℤ (pos 2 *ℤ q) → (s +ℤ s +ℤ (s +ℤ s)) ≤ℤ e → x ≤ℤ (x +ℤ h +ℤ neg_ℤ e +ℤ s) → (pos 0 *ℤ pos m) ≤ℤ h → e ≤ℤ q
    go x h e s q m one two three four = omega (arith, ints, one, two, three, four)

back_high : (c : Deltet) (u x h q b : Fraction) → IsFraction u → IsFraction x → IsFraction h → IsFraction q → IsFraction b → Reaches q h
    → TdbIsAtMost c u (x +ᶠ h) → TdbIsAtLeast c b x → u ≤ᶠ (b +ᶠ q)
back_high c u x h q b pu px ph pq pb r high low = le_f_cases u b (no_farther u b h q pu pb ph pq r) (λ (l : b <ᶠ u).
    let e = u -ᶠ b in
    let pe : IsFraction e = record { positive = mul-pos pu.positive pb.positive } in
    let k = way b u pb pu (le_of_lt_f b u l) in
    let s = half (half e) in
    let ps = half-den (half e) (half-den e pe) in
    let px' : IsFraction (x +ᶠ h) = record { positive = mul-pos px.positive ph.positive } in
    let v = ((x +ᶠ h) -ᶠ e) +ᶠ s in
    let pv : IsFraction v = record { positive = mul-pos (mul-pos px'.positive pe.positive) ps.positive } in
    let z = five x h u b s px.positive ph.positive pu.positive pb.positive ps.positive in
    let oe = minus z.of_c z.of_d in
    let far = tdb_moves_high c u b e s (x +ᶠ h) v pu pb pe ps px' pv (record { above = k.near.below; below = k.near.above }) (quarter_slack e pe k.some)
    (raised z.some (plus (plus z.of_a z.of_b) (plus z.of_d z.of_e)) (plus (plus (minus (plus z.of_a z.of_b) oe) z.of_e) z.of_c) (omega (arith, lin))) high in
    let near = close_over x h e s q px ph pe ps pq r (four_quarters e pe) (tdb_agrees c b x v pb px pv low far) in
    let y = three u b q pu.positive pb.positive pq.positive in
    let i = lowered (minus y.of_a y.of_b) y.of_c near in
    raised y.some y.of_a (plus y.of_b y.of_c) (omega (arith, lin, i)))

unshifted : (a b q d : Fraction) → IsFraction a → IsFraction b → IsFraction q → IsFraction d → (a +ᶠ d) ≤ᶠ ((b +ᶠ d) +ᶠ q) → a ≤ᶠ (b +ᶠ q)
unshifted a b q d pa pb pq pd h =
    let z = five a b q d d pa.positive pb.positive pq.positive pd.positive pd.positive in
    let i = lowered (plus z.of_a z.of_d) (plus (plus z.of_b z.of_d) z.of_c) h in
    raised z.some z.of_a (plus z.of_b z.of_c) (omega (arith, lin, i))

-- where no sine stands on the way: x - h is at most u, u at most x + h, a at most x and x at most b
straight : (u x h q a b : Fraction) → IsFraction u → IsFraction x → IsFraction h → IsFraction q → IsFraction a → IsFraction b → Reaches q h
    → (x -ᶠ h) ≤ᶠ u → u ≤ᶠ (x +ᶠ h) → a ≤ᶠ x → x ≤ᶠ b → (a ≤ᶠ (u +ᶠ q)) × (u ≤ᶠ (b +ᶠ q))
straight u x h q a b pu px ph pq pa pb r low high before after =
    let z = placed u x h q a b b b pu.positive px.positive ph.positive pq.positive pa.positive pb.positive pb.positive pb.positive in
    let i = lowered (number (pos 0) z.m) z.of_c r.some in
    let j = lowered (times (pos 3) z.of_c) (times (pos 2) z.of_d) r.enough in
    let k = lowered (minus z.of_b z.of_c) z.of_a low in
    let l = lowered z.of_a (plus z.of_b z.of_c) high in
    let m = lowered z.of_e z.of_b before in
    let n = lowered z.of_b z.of_f after in
    (raised z.some z.of_e (plus z.of_a z.of_d) (omega (arith, ints, i, j, k, m)), raised z.some z.of_a (plus z.of_f z.of_d) (omega (arith, ints, i, j, l, n)))

pub route_returns : RouteReturns
route_returns c Tai u x h q a b pu px ph pq pa pb some enough low high before after =
    let r : Reaches q h = record { some = some; enough = enough } in
    let d = units c.delta_ta in
    let pd : IsFraction d = record { positive = lit< tt } in
    let pu' = ahead u c.delta_ta pu in (
      unshifted a u q d pa pu pq pd (back_low c (u +ᶠ d) x h q (a +ᶠ d) pu' px ph pq (ahead a c.delta_ta pa) r low before),
      unshifted u b q d pu pb pq pd (back_high c (u +ᶠ d) x h q (b +ᶠ d) pu' px ph pq (ahead b c.delta_ta pb) r high after),
    )
route_returns c Tt u x h q a b pu px ph pq pa pb some enough low high before after =
    let r : Reaches q h = record { some = some; enough = enough } in
    (back_low c u x h q a pu px ph pq pa r low before, back_high c u x h q b pu px ph pq pb r high after)
route_returns c Tdb u x h q a b pu px ph pq pa pb some enough low high before after =
    straight u x h q a b pu px ph pq pa pb (record { some = some; enough = enough }) low high before after
