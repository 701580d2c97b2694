use Rattle.std.proofs.Common.{◌≡◌, ◌+◌, drop}
use Rattle.st_pool.specs.Loaded.{value_count}
use Rattle.st_pool.proofs.counts.value_count.Given as goal

abbrev pub invariant-loop-assignment : goal.invariant-loop-assignment
invariant-loop-assignment l = l.count + value_count (drop l.assignment-index l.assignments) ≡ value_count l.assignments
