use Rattle.std.proofs.Common.{◌≡◌, ◌+◌, length}
use Rattle.st_fit.specs.FitSteps.{AreStarts}
use Rattle.st_fit.proofs.starts.starts.Given as goal

abbrev pub invariant-loop-n : goal.invariant-loop-n
invariant-loop-n l = record { count : length l.starts.items ≡ l.n + 1; each : AreStarts l.fn.terms l.pairs l.starts.items }
