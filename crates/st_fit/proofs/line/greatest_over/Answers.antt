use Rattle.std.proofs.Common.{◌≡◌, pos, arith, rules}
use Rattle.std.specs.Int.{w128}
use Rattle.std.specs.Int.RustNames.{FitsSigned}
use Rattle.std.proofs.lemmas.Int.{ints, to_z-of_z}
use Rattle.st_fit.proofs.Quotient.{quotient, quotient_is}
use Rattle.st_fit.proofs.line.greatest_over.Goals as goal

pub returns-clause-is : goal.returns-clause-is
returns-clause-is c =
    let x = c.ranges.x in
    let d : FitsSigned w128 (pos c.args.span) = omega (arith, ints, c.ranges.span) in
    let v : c.from.result ≡ pos c.args.span = c.from.ensures in
    let q = simp (v, to_z-of_z) at c.div_euclid.ensures in
    let f : FitsSigned w128 c.div_euclid.result = search rules in
    simp to_z-of_z (λ rate. rw q (quotient_is c.args.x _ c.args.span c.requires.some (quotient c.args.x c.args.span c.requires.some) rate))
