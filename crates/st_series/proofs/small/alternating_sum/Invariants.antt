use Rattle.st_series.proofs.Rounded.{SumsSoFar}
use Rattle.st_series.proofs.small.alternating_sum.Given as goal

abbrev pub invariant-loop-i : goal.invariant-loop-i
invariant-loop-i l = SumsSoFar l.first l.square l.degree l.i l.term l.sum
