use Rattle.std.proofs.Common.{None, sym, ◌∙◌}
use Rattle.st_answers.proofs.LentLaws.{finds-leaps, found-leaps, later-leaps, leaps-unlent}
use Rattle.st_answers.proofs.asked.find_leaps.Goals as goal

pub returns-then-has_utc-clause-gives : goal.returns-then-has_utc-clause-gives
returns-then-has_utc-clause-gives c = finds-leaps c.args.job.now c.args.kernels.now.loaded c.find_leaps.result (sym c.has_utc.ensures ∙ c.if-has_utc.true) c.find_leaps.ensures.gives

pub returns-then-has_utc-clause-found : goal.returns-then-has_utc-clause-found
returns-then-has_utc-clause-found c = found-leaps _ c.find_leaps.result _ _ c.find_leaps.ensures.found

pub returns-then-has_utc-clause-later : goal.returns-then-has_utc-clause-later
returns-then-has_utc-clause-later c = later-leaps c.find_leaps.result _ _ c.find_leaps.ensures.found

pub returns-else-has_utc-clause-gives : goal.returns-else-has_utc-clause-gives
returns-else-has_utc-clause-gives c = (None, leaps-unlent c.args.job.now c.args.kernels.now.loaded (sym c.has_utc.ensures ∙ c.if-has_utc.false))
