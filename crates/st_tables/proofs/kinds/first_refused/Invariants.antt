use Rattle.std.proofs.Common.{take}
use Rattle.st_rules.specs.Rules.{AreKept}
use Rattle.st_tables.specs.Variables.{Keeps, rules_of_all}
use Rattle.st_tables.proofs.kinds.first_refused.Given as goal

abbrev pub invariant-loop-var : goal.invariant-loop-var
invariant-loop-var l = AreKept (Keeps l.pool) (rules_of_all (take l.var-index l.vars))
