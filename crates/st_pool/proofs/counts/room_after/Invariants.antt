use Rattle.std.proofs.Common.{◌≡◌, ◌+◌, drop}
use Rattle.st_pool.specs.Loaded.{value_count}
use Rattle.st_pool.proofs.counts.room_after.Given as goal

abbrev pub invariant-loop-assignment : goal.invariant-loop-assignment
invariant-loop-assignment l = value_count l.assignments + l.left ≡ l.room + value_count (drop l.assignment-index l.assignments)
