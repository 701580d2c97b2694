use Rattle.std.proofs.Common.{◌*◌, ◌^◌, arith, lit≤}
use Rattle.std.proofs.lemmas.Int.{ints, to_z-of_z}
use Rattle.st_fraction.specs.Fraction.{units, ◌*ᶠ◌}
use Rattle.st_sine.proofs.Widths.{is_scaled}
use Rattle.st_sine.proofs.anomaly.eccentric_of.Goals as goal

pub add-requires-clause-other_ends : goal.add-requires-clause-other_ends
add-requires-clause-other_ends c =
    let y = c.ranges.eb in
    let l = simp to_z-of_z at c.times_fraction-inner.ensures.tight_low in
    let u = simp to_z-of_z at c.times_fraction-inner.ensures.tight_high in
    let s = is_scaled c.args.sine.lo c.args.sine.hi c.args.eb c.times_fraction-inner.result.lo c.times_fraction-inner.result.hi l.0 u.0 300000 (2 * 10 ^ 18) (2 * 10 ^ 16) 6000 (4 * 10 ^ 16)
    c.args.sine.ordered c.requires.sine_narrow c.requires.sine_ends c.requires.eb_low c.requires.eb_high (lit≤ tt) (lit≤ tt) l.1.0 l.1.1 u.1.0 u.1.1 in
    let e = s.ends in
    record { low = omega (arith, ints, e.low); high = omega (arith, ints, e.high) }

pub returns-clause-contains : goal.returns-clause-contains
returns-clause-contains c x s h k =
    let y = c.ranges.eb in
    let i = simp to_z-of_z at c.times_fraction-inner.ensures.contains in
    c.add.ensures.contains x (s *ᶠ units c.args.eb) h (i s k)

pub returns-clause-narrow : goal.returns-clause-narrow
returns-clause-narrow c =
    let y = c.ranges.eb in
    let l = simp to_z-of_z at c.times_fraction-inner.ensures.tight_low in
    let u = simp to_z-of_z at c.times_fraction-inner.ensures.tight_high in
    let s = is_scaled c.args.sine.lo c.args.sine.hi c.args.eb c.times_fraction-inner.result.lo c.times_fraction-inner.result.hi l.0 u.0 300000 (2 * 10 ^ 18) (2 * 10 ^ 16) 6000 (4 * 10 ^ 16)
    c.args.sine.ordered c.requires.sine_narrow c.requires.sine_ends c.requires.eb_low c.requires.eb_high (lit≤ tt) (lit≤ tt) l.1.0 l.1.1 u.1.0 u.1.1 in
    let e = s.ends in
    omega (arith, ints, s.width, c.add.ensures.low, c.add.ensures.high)

pub returns-clause-ends : goal.returns-clause-ends
returns-clause-ends c =
    let y = c.ranges.eb in
    let l = simp to_z-of_z at c.times_fraction-inner.ensures.tight_low in
    let u = simp to_z-of_z at c.times_fraction-inner.ensures.tight_high in
    let s = is_scaled c.args.sine.lo c.args.sine.hi c.args.eb c.times_fraction-inner.result.lo c.times_fraction-inner.result.hi l.0 u.0 300000 (2 * 10 ^ 18) (2 * 10 ^ 16) 6000 (4 * 10 ^ 16)
    c.args.sine.ordered c.requires.sine_narrow c.requires.sine_ends c.requires.eb_low c.requires.eb_high (lit≤ tt) (lit≤ tt) l.1.0 l.1.1 u.1.0 u.1.1 in
    let e = s.ends in
    record { low = omega (arith, ints, e.low, c.add.ensures.low); high = omega (arith, ints, e.high, c.add.ensures.high) }
