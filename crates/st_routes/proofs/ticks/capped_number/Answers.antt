use Rattle.std.proofs.Common.{◌∙◌, arith}
use Rattle.st_routes.proofs.Numbers.{capped_more}
use Rattle.st_routes.proofs.ticks.capped_number.Goals as goal

pub loop-byte-preserved : goal.loop-byte-preserved
loop-byte-preserved c =
    c.min-number.ensures
    ∙ capped_more c.args.digits.now c.loop-byte.byte-index c.loop-byte.number c.from.result (omega arith) c.loop-byte.invariant (c.from.ensures ∙ c.saturating_sub.ensures)
