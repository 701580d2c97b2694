use Rattle.std.proofs.Common.{arith, rules, ◌∙◌}
use Rattle.st_decimal.proofs.ZeroDigits.{end_zeros_more, end_zeros_none}
use Rattle.st_decimal.proofs.zeros.trim_zeros.Goals as goal

pub loop-rest-preserved : goal.loop-rest-preserved
loop-rest-preserved c = end_zeros_more c.loop-rest.rest.now (omega arith) (search rules) ∙ c.loop-rest.invariant

pub returns-then-last-ne48 : goal.returns-then-last-ne48
returns-then-last-ne48 c = end_zeros_none c.loop-rest.rest.now (omega arith) (search rules) ∙ c.loop-rest.invariant
