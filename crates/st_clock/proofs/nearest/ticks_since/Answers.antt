use Rattle.std.proofs.Common.{FitsSigned, arith}
use Rattle.std.specs.Int.{w128}
use Rattle.std.proofs.lemmas.Int.{ints, to_z-of_z}
use Rattle.st_clock.proofs.Rounding.{line_floor_or_far}
use Rattle.st_clock.proofs.nearest.ticks_since.Goals as goal

pub returns-clause-floor : goal.returns-clause-floor
returns-clause-floor c =
    let time : FitsSigned w128 c.args.time = omega (arith, ints, c.requires.time_small) in
    let begin : FitsSigned w128 c.args.r.time = omega (arith, ints, c.requires.record_small.time) in
    let e = rw (to_z-of_z w128 c.args.time time, to_z-of_z w128 c.args.r.time begin) at c.units_since.ensures in
    line_floor_or_far c.args.tpm c.args.r c.args.time c.units_since.result c.rounded.result c.requires.rate e
    c.rounded.ensures.at_most c.rounded.ensures.nearest
