use Rattle.std.proofs.Common.{◌≡◌, ◌≤◌, ◌^◌, take, sum_by}
use Rattle.st_ticks.specs.Face.{ticks_in}
use Rattle.st_ticks.proofs.make.total_of.Given as goal

abbrev pub invariant-loop-partition : goal.invariant-loop-partition
invariant-loop-partition l = (l.total ≡ sum_by ticks_in (take l.partition-index l.partitions)) × (l.total ≤ 10 ^ 18)
