use Rattle.std.proofs.Common.{◌+ℤ◌, ◌-ℤ◌, arith, rules}
use Rattle.std.specs.Int.{w128}
use Rattle.std.specs.Int.RustNames.{FitsSigned}
use Rattle.std.proofs.lemmas.Int.{ints, to_z-of_z}
use Rattle.st_enclosure.proofs.Contained.{near_lies}
use Rattle.st_enclosure.proofs.enclosure.Enc.widen.Goals as goal

pub returns-clause-contains : goal.returns-clause-contains
returns-clause-contains c x y px h k =
    let a = c.args.self.ordered in
    let by = c.ranges.by in
    let al : FitsSigned w128 c.args.self.lo = search rules in
    let ah : FitsSigned w128 c.args.self.hi = search rules in
    let lo : FitsSigned w128 (c.args.self.lo -ℤ c.args.by) = omega (arith, ints) in
    let hi : FitsSigned w128 (c.args.self.hi +ℤ c.args.by) = omega (arith, ints) in
    simp to_z-of_z (near_lies c.args.self.lo c.args.self.hi c.args.by x y px h k)
