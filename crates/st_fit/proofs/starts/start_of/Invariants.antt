use Rattle.std.proofs.Common.{take}
use Rattle.st_fit.specs.FitSteps.{AreRatesOf, IsStartTo}
use Rattle.st_fit.proofs.starts.start_of.Given as goal

abbrev pub invariant-loop-i : goal.invariant-loop-i
invariant-loop-i l = record { rates : AreRatesOf l.fn.terms (take l.i l.pairs) l.rates; best : IsStartTo l.fn.terms l.pairs l.i l.best }
