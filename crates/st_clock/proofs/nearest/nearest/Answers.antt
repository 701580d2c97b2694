use Rattle.std.proofs.Common.{◌+◌, ◌^◌, ◌<◌, FitsSigned, lit<, arith}
use Rattle.std.specs.Int.{w128}
use Rattle.std.proofs.lemmas.Int.{ints, to_z-of_z}
use Rattle.st_fraction.specs.Fraction.{units}
use Rattle.st_clock.specs.Tick.{line_tick}
use Rattle.st_clock.proofs.Falls.{line_tick-den}
use Rattle.st_clock.proofs.Rounding.{capped_floor_or_far}
use Rattle.st_clock.proofs.nearest.nearest.Goals as goal

pub returns-in-Some : goal.returns-in-Some
returns-in-Some c =
    let unit : 0 < 10 ^ 18 = lit< tt in
    let time : FitsSigned w128 c.args.time = omega (arith, ints, c.requires.time_small) in
    rw (c.in-Some.is, c.min.ensures, c.from.ensures, c.from-in-Some.ensures)
    (capped_floor_or_far c.in-Some.next (line_tick c.args.tpm c.args.r (units c.args.time)) (c.args.r.ticks + c.ticks_since.result)
    (line_tick-den c.args.tpm c.args.r (units c.args.time) c.requires.rate unit) (c.requires.next_small c.in-Some.next c.in-Some.is).ticks
    (rw (to_z-of_z w128 c.args.time time) at c.ticks_since.ensures.floor))
