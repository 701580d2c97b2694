use Rattle.std.proofs.Common.{arith, rules, ◌∙◌}
use Rattle.st_text.proofs.Trimmed.{front_trimmed, all_trimmed}
use Rattle.st_text.proofs.blanks.trim_end.Goals as goal

pub loop-rest-preserved : goal.loop-rest-preserved
loop-rest-preserved c = front_trimmed c.loop-rest.rest.now (omega arith) (search rules) ∙ c.loop-rest.invariant

pub returns-then-not-is_blank : goal.returns-then-not-is_blank
returns-then-not-is_blank c = all_trimmed c.loop-rest.rest.now (omega arith) (search rules) ∙ c.loop-rest.invariant
