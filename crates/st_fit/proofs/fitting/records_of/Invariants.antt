use Rattle.std.proofs.Common.{◌≤◌, ◌-◌, length, drop}
use Rattle.st_fit.proofs.Records.{Completes}
use Rattle.st_fit.proofs.fitting.records_of.Given as goal

abbrev pub invariant-loop-from : goal.invariant-loop-from
invariant-loop-from l = record {
  within : l.from ≤ length l.pairs;
  completes : Completes l.fn.terms l.pairs (drop l.from l.pairs) l.rate l.records.items;
}

abbrev pub decreases-loop-from : goal.decreases-loop-from
decreases-loop-from l = length l.pairs - l.from
