use Rattle.std.proofs.Common.{◌*◌, ◌^◌, arith, lit≤}
use Rattle.std.proofs.lemmas.Int.{ints, to_z-of_z}
use Rattle.st_fraction.specs.Fraction.{units, ◌*ᶠ◌}
use Rattle.st_enclosure.specs.Ends.{EndsAtMost}
use Rattle.st_sine.proofs.Widths.{is_scaled}
use Rattle.st_sine.proofs.anomaly.mean_of.Goals as goal

pub add-requires-clause-ends : goal.add-requires-clause-ends
add-requires-clause-ends c =
    let m = c.ranges.m0 in
    let pl = simp to_z-of_z at c.point-2.ensures.low in
    let ph = simp to_z-of_z at c.point-2.ensures.high in
    record { low = omega (arith, ints, pl); high = omega (arith, ints, ph) }

pub add-requires-clause-other_ends : goal.add-requires-clause-other_ends
add-requires-clause-other_ends c =
    let y = c.ranges.m1 in
    let t = c.ranges.t in
    let pl = simp to_z-of_z at c.point.ensures.low in
    let ph = simp to_z-of_z at c.point.ensures.high in
    let l = simp to_z-of_z at c.times_fraction-turned.ensures.tight_low in
    let u = simp to_z-of_z at c.times_fraction-turned.ensures.tight_high in
    let ends : EndsAtMost c.point.result.lo c.point.result.hi (6311500000 * 10 ^ 18) = record { low = omega (arith, ints, pl); high = omega (arith, ints, ph) } in
    let s = is_scaled c.point.result.lo c.point.result.hi c.args.m1 c.times_fraction-turned.result.lo c.times_fraction-turned.result.hi l.0 u.0 0 (6311500000 * 10 ^ 18) (4 * 10 ^ 11) 0 (6311500000 * (4 * 10 ^ 11))
    c.point.result.ordered (omega (arith, ints, pl, ph)) ends c.requires.m1_low c.requires.m1_high (lit≤ tt) (lit≤ tt) l.1.0 l.1.1 u.1.0 u.1.1 in
    let e = s.ends in
    record { low = omega (arith, ints, e.low); high = omega (arith, ints, e.high) }

pub returns-clause-contains : goal.returns-clause-contains
returns-clause-contains c =
    let m = c.ranges.m0 in
    let y = c.ranges.m1 in
    let t = c.ranges.t in
    let p = simp to_z-of_z at c.point.ensures.contains in
    let q = simp to_z-of_z at c.point-2.ensures.contains in
    let k = simp to_z-of_z at c.times_fraction-turned.ensures.contains in
    c.add.ensures.contains (units c.args.m0) (units c.args.t *ᶠ units c.args.m1) q (k (units c.args.t) p)

pub returns-clause-narrow : goal.returns-clause-narrow
returns-clause-narrow c =
    let y = c.ranges.m1 in
    let t = c.ranges.t in
    let pl = simp to_z-of_z at c.point.ensures.low in
    let ph = simp to_z-of_z at c.point.ensures.high in
    let l = simp to_z-of_z at c.times_fraction-turned.ensures.tight_low in
    let u = simp to_z-of_z at c.times_fraction-turned.ensures.tight_high in
    let ends : EndsAtMost c.point.result.lo c.point.result.hi (6311500000 * 10 ^ 18) = record { low = omega (arith, ints, pl); high = omega (arith, ints, ph) } in
    let s = is_scaled c.point.result.lo c.point.result.hi c.args.m1 c.times_fraction-turned.result.lo c.times_fraction-turned.result.hi l.0 u.0 0 (6311500000 * 10 ^ 18) (4 * 10 ^ 11) 0 (6311500000 * (4 * 10 ^ 11))
    c.point.result.ordered (omega (arith, ints, pl, ph)) ends c.requires.m1_low c.requires.m1_high (lit≤ tt) (lit≤ tt) l.1.0 l.1.1 u.1.0 u.1.1 in
    let m = c.ranges.m0 in
    let ql = simp to_z-of_z at c.point-2.ensures.low in
    let qh = simp to_z-of_z at c.point-2.ensures.high in
    omega (arith, ints, s.width, ql, qh, c.add.ensures.low, c.add.ensures.high)

pub returns-clause-ends : goal.returns-clause-ends
returns-clause-ends c =
    let y = c.ranges.m1 in
    let t = c.ranges.t in
    let pl = simp to_z-of_z at c.point.ensures.low in
    let ph = simp to_z-of_z at c.point.ensures.high in
    let l = simp to_z-of_z at c.times_fraction-turned.ensures.tight_low in
    let u = simp to_z-of_z at c.times_fraction-turned.ensures.tight_high in
    let ends : EndsAtMost c.point.result.lo c.point.result.hi (6311500000 * 10 ^ 18) = record { low = omega (arith, ints, pl); high = omega (arith, ints, ph) } in
    let s = is_scaled c.point.result.lo c.point.result.hi c.args.m1 c.times_fraction-turned.result.lo c.times_fraction-turned.result.hi l.0 u.0 0 (6311500000 * 10 ^ 18) (4 * 10 ^ 11) 0 (6311500000 * (4 * 10 ^ 11))
    c.point.result.ordered (omega (arith, ints, pl, ph)) ends c.requires.m1_low c.requires.m1_high (lit≤ tt) (lit≤ tt) l.1.0 l.1.1 u.1.0 u.1.1 in
    let m = c.ranges.m0 in
    let ql = simp to_z-of_z at c.point-2.ensures.low in
    let qh = simp to_z-of_z at c.point-2.ensures.high in
    let e = s.ends in
    record { low = omega (arith, ints, e.low, ql, c.add.ensures.low); high = omega (arith, ints, e.high, qh, c.add.ensures.high) }
