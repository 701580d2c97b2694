use Rattle.std.proofs.Common.{◌^◌, pos, ◌*ℤ◌, arith, rules}
use Rattle.std.specs.Int.{w128}
use Rattle.std.specs.Int.RustNames.{FitsSigned}
use Rattle.std.proofs.lemmas.Int.{ints, to_z-of_z}
use Rattle.st_fraction.specs.Fraction.{units}
use Rattle.st_sine.proofs.Carried.{has_sine_near, has_cosine_near}
use Rattle.st_sine.proofs.Doubled.{units-fraction}
use Rattle.st_sine.proofs.Reduced.{near_contained}
use Rattle.st_sine.proofs.angle.sin_cos.Goals as goal

pub returns-clause-sine : goal.returns-clause-sine
returns-clause-sine c x px h =
    let f : FitsSigned w128 c.args.arg.lo = search rules in
    let g : FitsSigned w128 c.args.arg.hi = search rules in
    let s : FitsSigned w128 c.reduced-start.result.0 = search rules in
    let d : FitsSigned w128 c.reduced-start.result.1 = search rules in
    let below = simp to_z-of_z at c.reduced-start.ensures.below in
    let distance = simp to_z-of_z at c.reduced-start.ensures.distance in
    let sine = simp to_z-of_z at c.doubled.ensures.sine in
    let low = simp to_z-of_z at c.widen.ensures.low in
    let high = simp to_z-of_z at c.widen.ensures.high in
    let near = near_contained c.args.arg.lo c.args.arg.hi (c.reduced-start.result.0 *ℤ pos (2 ^ c.args.halvings)) c.reduced-start.result.1 x below distance c.args.arg.ordered h in
    rw (low, high) (has_sine_near c.doubled.result.0.lo c.doubled.result.0.hi c.reduced-start.result.1 (units (c.reduced-start.result.0 *ℤ pos (2 ^ c.args.halvings))) x (units-fraction (c.reduced-start.result.0 *ℤ pos (2 ^ c.args.halvings))) px near sine)

pub returns-clause-cosine : goal.returns-clause-cosine
returns-clause-cosine c x px h =
    let f : FitsSigned w128 c.args.arg.lo = search rules in
    let g : FitsSigned w128 c.args.arg.hi = search rules in
    let s : FitsSigned w128 c.reduced-start.result.0 = search rules in
    let d : FitsSigned w128 c.reduced-start.result.1 = search rules in
    let below = simp to_z-of_z at c.reduced-start.ensures.below in
    let distance = simp to_z-of_z at c.reduced-start.ensures.distance in
    let cosine = simp to_z-of_z at c.doubled.ensures.cosine in
    let low = simp to_z-of_z at c.widen-2.ensures.low in
    let high = simp to_z-of_z at c.widen-2.ensures.high in
    let near = near_contained c.args.arg.lo c.args.arg.hi (c.reduced-start.result.0 *ℤ pos (2 ^ c.args.halvings)) c.reduced-start.result.1 x below distance c.args.arg.ordered h in
    rw (low, high) (has_cosine_near c.doubled.result.1.lo c.doubled.result.1.hi c.reduced-start.result.1 (units (c.reduced-start.result.0 *ℤ pos (2 ^ c.args.halvings))) x (units-fraction (c.reduced-start.result.0 *ℤ pos (2 ^ c.args.halvings))) px near cosine)

pub returns-clause-sine_narrow : goal.returns-clause-sine_narrow
returns-clause-sine_narrow c =
    let d : FitsSigned w128 c.reduced-start.result.1 = search rules in
    let low = simp to_z-of_z at c.widen.ensures.low in
    let high = simp to_z-of_z at c.widen.ensures.high in
    omega (arith, ints, low, high, c.doubled.ensures.sine_narrow, c.reduced-start.ensures.at_most)

pub returns-clause-cosine_narrow : goal.returns-clause-cosine_narrow
returns-clause-cosine_narrow c =
    let d : FitsSigned w128 c.reduced-start.result.1 = search rules in
    let low = simp to_z-of_z at c.widen-2.ensures.low in
    let high = simp to_z-of_z at c.widen-2.ensures.high in
    omega (arith, ints, low, high, c.doubled.ensures.cosine_narrow, c.reduced-start.ensures.at_most)
