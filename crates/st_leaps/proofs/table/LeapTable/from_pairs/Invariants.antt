use Rattle.std.proofs.Common.{◌*◌, ◌≤◌, ◌-◌, length}
use Rattle.st_leaps.specs.NumbersMachine.{AreSpelled}
use Rattle.st_leaps.proofs.table.LeapTable.from_pairs.Given as goal

abbrev pub invariant-loop-pairs : goal.invariant-loop-pairs
invariant-loop-pairs l = record {
  spelled : AreSpelled l.fn.values l.pairs.items;
  few : 2 * length l.pairs.items ≤ length l.fn.values;
}

abbrev pub decreases-loop-pairs : goal.decreases-loop-pairs
decreases-loop-pairs l = length l.fn.values - 2 * length l.pairs.items
