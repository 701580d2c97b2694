use Rattle.std.proofs.Common.{arith}
use Rattle.st_tables.proofs.KindLaws.{one_broken}
use Rattle.st_tables.proofs.kinds.first_refused.Goals as goal

pub returns-in-Some : goal.returns-in-Some
returns-in-Some c =
    one_broken c.args.pool.now c.args.vars.now c.loop-var.var-index _ c.in-Some.fault (omega arith) c.loop-var.invariant c.in-Some.ensures
