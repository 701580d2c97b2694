use Rattle.std.proofs.Common.{pos, ◌-ℤ◌, arith, rules}
use Rattle.std.specs.Int.{w128}
use Rattle.std.specs.Int.RustNames.{FitsSigned}
use Rattle.std.proofs.lemmas.Int.{ints, to_z-of_z}
use Rattle.st_fit.proofs.Quotient.{least_is}
use Rattle.st_fit.proofs.line.least_over.Goals as goal

pub returns : goal.returns
returns c =
    let x = c.ranges.x in
    let s = c.greatest_over.ensures.small in
    let g : FitsSigned w128 c.greatest_over.result = search rules in
    let h : FitsSigned w128 (pos 0 -ℤ c.greatest_over.result) = omega (arith, ints) in
    let n : FitsSigned w128 (pos 0 -ℤ c.args.x) = omega (arith, ints, c.requires.small) in
    let i = simp to_z-of_z at c.greatest_over.ensures.is in
    simp to_z-of_z (least_is c.args.x c.greatest_over.result c.args.span i)
