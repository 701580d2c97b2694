use Rattle.std.proofs.Common.{◌≡◌, ◌≤◌, false, drop, length}
use Rattle.std.specs.List.{list_any}
use Rattle.st_pool.specs.IndexMachine.{assignments_at}
use Rattle.st_pool.specs.Variable.{is_set}
use Rattle.st_pool.proofs.values.last_set.Given as goal

abbrev pub invariant-loop-start : goal.invariant-loop-start
invariant-loop-start l = record {
  within : l.start ≤ length l.places;
  none : list_any is_set (assignments_at l.kernels (drop l.start l.places)) ≡ false;
}

abbrev pub decreases-loop-start : goal.decreases-loop-start
decreases-loop-start l = l.start
