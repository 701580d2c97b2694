use Rattle.std.proofs.Common.{take}
use Rattle.st_ticks.specs.Variables.{HaveEnds}
use Rattle.st_ticks.proofs.make.partitions_of.Given as goal

abbrev pub invariant-loop-i : goal.invariant-loop-i
invariant-loop-i l = HaveEnds (take l.i l.starts) (take l.i l.ends) l.partitions.items
