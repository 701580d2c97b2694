use Rattle.std.proofs.Common.{pos, ◌+ℤ◌, ◌<ℤ◌, ◌^◌, FitsSigned, arith}
use Rattle.std.specs.Int.{w128}
use Rattle.std.proofs.lemmas.Int.{ints, to_z-of_z}
use Rattle.st_dates.specs.Range.{range_end}
use Rattle.st_clock.proofs.Ranges.{parts_are_time, far_behind}
use Rattle.st_clock.proofs.line.line_time.Goals as goal

pub returns-then-counts-r-clause-none : goal.returns-then-counts-r-clause-none
returns-then-counts-r-clause-none c =
    let behind : range_end <ℤ (c.args.r.time +ℤ pos (10 ^ 30)) = omega (arith, ints, c.requires.record_small.time) in
    far_behind c.args.tpm c.args.r c.args.ticks (10 ^ 30) range_end c.requires.tpm_some c.requires.rate c.requires.started
    (rw c.from-counts.ensures at c.if-counts-r.true) behind

pub returns-clause-some : goal.returns-clause-some
returns-clause-some c =
    let time : FitsSigned w128 c.args.r.time = omega (arith, ints, c.requires.record_small.time) in
    let units = rw (to_z-of_z w128 c.args.r.time time, c.from-counts.ensures, c.from.ensures) at c.point.ensures.units in
    let part = rw c.from.ensures at c.point.ensures.part in
    rw c.point.ensures.of
    (parts_are_time c.args.tpm c.args.r c.args.ticks c.point.result.units c.point.result.part c.requires.tpm_some c.requires.started units part)
