use Rattle.std.specs.Int.{w128}
use Rattle.std.proofs.lemmas.Int.{to_z-of_z}
use Rattle.st_clock.proofs.Forces.{force_at, none_at}
use Rattle.st_clock.proofs.places.at_time.Goals as goal

pub returns-clause-some : goal.returns-clause-some
returns-clause-some c =
    let e = to_z-of_z w128 c.args.time c.ranges.time in
    force_at c.args.records.now c.args.time c.begun.result c.last_of.result (rw e at c.begun.ensures.before) (rw e at c.begun.ensures.after)
    c.last_of.ensures.some c.last_of.ensures.here c.last_of.ensures.next

pub returns-clause-none : goal.returns-clause-none
returns-clause-none c =
    let e = to_z-of_z w128 c.args.time c.ranges.time in
    none_at c.args.records.now c.args.time c.begun.result c.last_of.result (rw e at c.begun.ensures.after) c.last_of.ensures.none
