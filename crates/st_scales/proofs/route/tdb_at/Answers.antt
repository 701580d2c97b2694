use Rattle.std.proofs.Common.{◌≡◌, ◌+◌, ◌*◌, ◌^◌, ◌≤◌, ◌<◌, ℤ, pos, ◌+ℤ◌, unsigned_abs, arith, lit≤, lit<, subst}
use Rattle.std.specs.Int.{w128}
use Rattle.std.specs.Int.RustNames.{FitsSigned}
use Rattle.std.proofs.lemmas.Int.{ints, to_z-of_z}
use Rattle.st_fraction.specs.Fraction.{units, ◌*ᶠ◌, ◌≤ᶠ◌, LiesWithin}
use Rattle.st_fraction.proofs.Order.{le_f_refl}
use Rattle.st_enclosure.specs.Ends.{EndsAtMost}
use Rattle.st_sine.specs.declared.orbit.Orbit.{Orbit}
use Rattle.st_sine.specs.Anomaly.{HasAnomalySine}
use Rattle.st_sine.proofs.Widths.{is_scaled}
use Rattle.st_scales.proofs.Units.{tdb_at_least, tdb_at_most, units_rise}
use Rattle.st_scales.proofs.route.tdb_at.Goals as goal

pub add-requires-clause-ends : goal.add-requires-clause-ends
add-requires-clause-ends c =
    let t = c.ranges.t in
    let l = simp to_z-of_z at c.point.ensures.low in
    let h = simp to_z-of_z at c.point.ensures.high in
    record { low = omega (arith, ints, l, h, c.requires); high = omega (arith, ints, l, h, c.requires) }

pub add-requires-clause-other_ends : goal.add-requires-clause-other_ends
add-requires-clause-other_ends c =
    let d = c.args.c.now in
    let y : FitsSigned w128 c.k.result = omega (arith, ints, c.k.ensures, d.k_low, d.k_high) in
    let l = simp to_z-of_z at c.times_fraction-moved.ensures.tight_low in
    let u = simp to_z-of_z at c.times_fraction-moved.ensures.tight_high in
    let s = is_scaled c.anomaly_sine-sine.result.lo c.anomaly_sine-sine.result.hi c.k.result c.times_fraction-moved.result.lo c.times_fraction-moved.result.hi l.0 u.0 300000 (2 * 10 ^ 18) (2 * 10 ^ 15) 600 (4 * 10 ^ 15)
    c.anomaly_sine-sine.result.ordered c.anomaly_sine-sine.ensures.narrow c.anomaly_sine-sine.ensures.ends (omega (arith, ints, c.k.ensures, d.k_low)) (omega (arith, ints, c.k.ensures, d.k_high)) (lit≤ tt) (lit≤ tt) l.1.0 l.1.1 u.1.0 u.1.1 in
    let e = s.ends in
    record { low = omega (arith, ints, e.low); high = omega (arith, ints, e.high) }

pub returns-clause-at_least : goal.returns-clause-at_least
returns-clause-at_least c =
    let d = c.args.c.now in
    let y : FitsSigned w128 c.k.result = omega (arith, ints, c.k.ensures, d.k_low, d.k_high) in
    let t = c.ranges.t in
    let pl = simp to_z-of_z at c.point.ensures.low in
    let ph = simp to_z-of_z at c.point.ensures.high in
    let sine = subst (λ (o : Orbit). HasAnomalySine o.eb o.m0 o.m1 (units c.args.t) c.anomaly_sine-sine.result.lo c.anomaly_sine-sine.result.hi) c.orbit.ensures (simp to_z-of_z at c.anomaly_sine-sine.ensures.contains) in
    let each = simp to_z-of_z at c.times_fraction-moved.ensures.contains in
    let a = c.anomaly_sine-sine.result.lo in
    let within = each (units a) (record { from = le_f_refl (units a); to = units_rise a c.anomaly_sine-sine.result.hi c.anomaly_sine-sine.result.ordered }) in
    let m = c.times_fraction-moved.result.lo in
    let moved = subst (λ (k : ℤ). units m ≤ᶠ (units a *ᶠ units k)) c.k.ensures within.from in
    tdb_at_least d c.args.t a m c.add.result.lo sine.at_least moved (omega (arith, ints, pl, c.add.ensures.low))

pub returns-clause-at_most : goal.returns-clause-at_most
returns-clause-at_most c =
    let d = c.args.c.now in
    let y : FitsSigned w128 c.k.result = omega (arith, ints, c.k.ensures, d.k_low, d.k_high) in
    let t = c.ranges.t in
    let pl = simp to_z-of_z at c.point.ensures.low in
    let ph = simp to_z-of_z at c.point.ensures.high in
    let sine = subst (λ (o : Orbit). HasAnomalySine o.eb o.m0 o.m1 (units c.args.t) c.anomaly_sine-sine.result.lo c.anomaly_sine-sine.result.hi) c.orbit.ensures (simp to_z-of_z at c.anomaly_sine-sine.ensures.contains) in
    let each = simp to_z-of_z at c.times_fraction-moved.ensures.contains in
    let b = c.anomaly_sine-sine.result.hi in
    let within = each (units b) (record { from = units_rise c.anomaly_sine-sine.result.lo b c.anomaly_sine-sine.result.ordered; to = le_f_refl (units b) }) in
    let m = c.times_fraction-moved.result.hi in
    let moved = subst (λ (k : ℤ). (units b *ᶠ units k) ≤ᶠ units m) c.k.ensures within.to in
    tdb_at_most d c.args.t b m c.add.result.hi sine.at_most moved (omega (arith, ints, ph, c.add.ensures.high))

pub returns-clause-narrow : goal.returns-clause-narrow
returns-clause-narrow c =
    let t = c.ranges.t in
    let pl = simp to_z-of_z at c.point.ensures.low in
    let ph = simp to_z-of_z at c.point.ensures.high in
    let d = c.args.c.now in
    let y : FitsSigned w128 c.k.result = omega (arith, ints, c.k.ensures, d.k_low, d.k_high) in
    let l = simp to_z-of_z at c.times_fraction-moved.ensures.tight_low in
    let u = simp to_z-of_z at c.times_fraction-moved.ensures.tight_high in
    let s = is_scaled c.anomaly_sine-sine.result.lo c.anomaly_sine-sine.result.hi c.k.result c.times_fraction-moved.result.lo c.times_fraction-moved.result.hi l.0 u.0 300000 (2 * 10 ^ 18) (2 * 10 ^ 15) 600 (4 * 10 ^ 15)
    c.anomaly_sine-sine.result.ordered c.anomaly_sine-sine.ensures.narrow c.anomaly_sine-sine.ensures.ends (omega (arith, ints, c.k.ensures, d.k_low)) (omega (arith, ints, c.k.ensures, d.k_high)) (lit≤ tt) (lit≤ tt) l.1.0 l.1.1 u.1.0 u.1.1 in
    omega (arith, ints, s.width, pl, ph, c.add.ensures.low, c.add.ensures.high)

pub returns-clause-near : goal.returns-clause-near
returns-clause-near c =
    let t = c.ranges.t in
    let pl = simp to_z-of_z at c.point.ensures.low in
    let ph = simp to_z-of_z at c.point.ensures.high in
    let d = c.args.c.now in
    let y : FitsSigned w128 c.k.result = omega (arith, ints, c.k.ensures, d.k_low, d.k_high) in
    let l = simp to_z-of_z at c.times_fraction-moved.ensures.tight_low in
    let u = simp to_z-of_z at c.times_fraction-moved.ensures.tight_high in
    let s = is_scaled c.anomaly_sine-sine.result.lo c.anomaly_sine-sine.result.hi c.k.result c.times_fraction-moved.result.lo c.times_fraction-moved.result.hi l.0 u.0 300000 (2 * 10 ^ 18) (2 * 10 ^ 15) 600 (4 * 10 ^ 15)
    c.anomaly_sine-sine.result.ordered c.anomaly_sine-sine.ensures.narrow c.anomaly_sine-sine.ensures.ends (omega (arith, ints, c.k.ensures, d.k_low)) (omega (arith, ints, c.k.ensures, d.k_high)) (lit≤ tt) (lit≤ tt) l.1.0 l.1.1 u.1.0 u.1.1 in
    let e = s.ends in
    record { low = omega (arith, ints, e.low, pl, c.add.ensures.low); high = omega (arith, ints, e.high, ph, c.add.ensures.high) }
