use Rattle.st_fit.proofs.Writing.{fit_passes, fit_is_clock, fit_is_fewest}
use Rattle.st_fit.proofs.laws.fit_is_clock.Goals as goal

pub returns : goal.returns
returns c = record { passes = fit_passes; clock = fit_is_clock; fewest = fit_is_fewest }
