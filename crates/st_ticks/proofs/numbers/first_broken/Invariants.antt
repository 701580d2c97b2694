use Rattle.std.proofs.Common.{take}
use Rattle.st_ticks.specs.NumbersMachine.{numbers_of}
use Rattle.st_rules.specs.Rules.{AreKept}
use Rattle.st_ticks.specs.Variables.{Keeps, first_rules}
use Rattle.st_ticks.proofs.numbers.first_broken.Given as goal

abbrev pub invariant-loop-broken : goal.invariant-loop-broken
invariant-loop-broken l = AreKept (Keeps (numbers_of l.numbers)) (take l.broken-index first_rules)
