use Rattle.std.proofs.Common.{arith}
use Rattle.std.proofs.lemmas.Int.{ints, to_z-of_z}
use Rattle.std.specs.Int.{w32}
use Rattle.st_leaps.proofs.label.start_of.Goals as goal

pub formal_of-requires : goal.formal_of-requires
formal_of-requires c =
    let from = c.requires.from in
    let to = c.requires.to in
    rw (to_z-of_z w32 c.args.day c.ranges.day) (omega (arith, ints), omega (arith, ints))
