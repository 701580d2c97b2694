use Rattle.std.proofs.Common.{◌+ℤ◌, arith, rules}
use Rattle.std.specs.Int.{w128}
use Rattle.std.specs.Int.RustNames.{FitsSigned}
use Rattle.std.proofs.lemmas.Int.{ints, to_z-of_z}
use Rattle.st_enclosure.proofs.Contained.{sum_lies}
use Rattle.st_enclosure.proofs.enclosure.Enc.add.Goals as goal

pub returns-clause-contains : goal.returns-clause-contains
returns-clause-contains c x y h k =
    let a = c.args.self.ordered in
    let b = c.args.other.ordered in
    let al : FitsSigned w128 c.args.self.lo = search rules in
    let ah : FitsSigned w128 c.args.self.hi = search rules in
    let bl : FitsSigned w128 c.args.other.lo = search rules in
    let bh : FitsSigned w128 c.args.other.hi = search rules in
    let lo : FitsSigned w128 (c.args.self.lo +ℤ c.args.other.lo) = omega (arith, ints) in
    let hi : FitsSigned w128 (c.args.self.hi +ℤ c.args.other.hi) = omega (arith, ints) in
    simp to_z-of_z (sum_lies c.args.self.lo c.args.self.hi c.args.other.lo c.args.other.hi x y h k)
