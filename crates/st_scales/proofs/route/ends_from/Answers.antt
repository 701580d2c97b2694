use Rattle.std.proofs.Common.{arith}
use Rattle.std.proofs.lemmas.Int.{ints, to_z-of_z}
use Rattle.st_scales.proofs.route.ends_from.Goals as goal

pub returns-clause-low : goal.returns-clause-low
returns-clause-low c =
    let t = c.ranges.t in
    let p = simp to_z-of_z at c.point.ensures.low in
    omega (arith, ints, p, c.sub.ensures.low, c.add.ensures.low, c.widen.ensures.low)

pub returns-clause-high : goal.returns-clause-high
returns-clause-high c =
    let t = c.ranges.t in
    let p = simp to_z-of_z at c.point.ensures.high in
    omega (arith, ints, p, c.sub.ensures.high, c.add.ensures.high, c.widen.ensures.high)
