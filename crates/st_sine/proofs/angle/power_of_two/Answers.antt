use Rattle.std.proofs.Common.{◌≡◌, ◌^◌, pos, arith, rules}
use Rattle.std.specs.Int.{w128}
use Rattle.std.specs.Int.RustNames.{FitsSigned}
use Rattle.std.proofs.lemmas.Int.{ints, to_z-of_z}
use Rattle.st_sine.proofs.Doubled.{power_at_most}
use Rattle.st_sine.proofs.angle.power_of_two.Goals as goal

pub returns-clause-high : goal.returns-clause-high
returns-clause-high c =
    let f : FitsSigned w128 c.pow.result = search rules in
    let v : c.pow.result ≡ pos (2 ^ c.args.exponent) = search rules in
    let h = power_at_most c.args.exponent c.requires in
    simp to_z-of_z (rw v (omega (arith, ints)))
