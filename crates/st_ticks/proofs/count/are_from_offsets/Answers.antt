use Rattle.std.proofs.Common.{sym, ◌∙◌, arith}
use Rattle.st_ticks.proofs.CountLaws.{from_offsets-end}
use Rattle.st_ticks.proofs.count.are_from_offsets.Goals as goal

pub returns : goal.returns
returns c = sym (from_offsets-end c.args.fields.now c.args.values.now c.loop-i.i (omega arith)) ∙ c.loop-i.invariant
