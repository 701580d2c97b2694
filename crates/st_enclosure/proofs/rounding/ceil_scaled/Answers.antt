use Rattle.std.proofs.Common.{pos, ◌-ℤ◌, arith, rules}
use Rattle.std.specs.Int.{w128}
use Rattle.std.specs.Int.RustNames.{FitsSigned}
use Rattle.std.proofs.lemmas.Int.{ints, to_z-of_z}
use Rattle.st_enclosure.proofs.Quotient.{ceil_above, ceil_below}
use Rattle.st_enclosure.proofs.rounding.ceil_scaled.Goals as goal

pub overflow_sub-result : goal.overflow_sub-result
overflow_sub-result c =
    let s = c.floor_scaled.ensures.small in
    let f : FitsSigned w128 c.floor_scaled.result = search rules in
    omega (arith, ints)

pub returns-clause-above : goal.returns-clause-above
returns-clause-above c =
    let s = c.floor_scaled.ensures.small in
    let e = c.ranges.e in
    let d = c.ranges.den in
    let y = c.ranges.num in
    let n : FitsSigned w128 (pos 0 -ℤ c.args.num) = omega (arith, ints, c.requires.num_small) in
    let f : FitsSigned w128 c.floor_scaled.result = search rules in
    let g : FitsSigned w128 (pos 0 -ℤ c.floor_scaled.result) = omega (arith, ints) in
    let h = simp to_z-of_z at c.floor_scaled.ensures.below in
    simp to_z-of_z (ceil_above c.args.e c.args.num c.floor_scaled.result c.args.den h)

pub returns-clause-below : goal.returns-clause-below
returns-clause-below c =
    let s = c.floor_scaled.ensures.small in
    let e = c.ranges.e in
    let d = c.ranges.den in
    let y = c.ranges.num in
    let n : FitsSigned w128 (pos 0 -ℤ c.args.num) = omega (arith, ints, c.requires.num_small) in
    let f : FitsSigned w128 c.floor_scaled.result = search rules in
    let g : FitsSigned w128 (pos 0 -ℤ c.floor_scaled.result) = omega (arith, ints) in
    let h = simp to_z-of_z at c.floor_scaled.ensures.above in
    simp to_z-of_z (ceil_below c.args.e c.args.num c.floor_scaled.result c.args.den h)
