use Rattle.std.proofs.Common.{take}
use Rattle.st_fit.specs.FitSteps.{AreRatesOf}
use Rattle.st_fit.proofs.rates.rates_of.Given as goal

abbrev pub invariant-loop-i : goal.invariant-loop-i
invariant-loop-i l = AreRatesOf l.fn.terms (take l.i l.run) l.rates
