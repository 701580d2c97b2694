use Rattle.std.proofs.Common.{None, sym, ◌∙◌}
use Rattle.st_answers.proofs.LentLaws.{finds-constants, found-constants, later-constants, constants-unlent}
use Rattle.st_answers.proofs.asked.find_constants.Goals as goal

pub returns-then-needs_constants-clause-gives : goal.returns-then-needs_constants-clause-gives
returns-then-needs_constants-clause-gives c = finds-constants c.args.job.now c.args.kernels.now.loaded c.find_deltet.result (sym c.needs_constants.ensures ∙ c.if-needs_constants.true) c.find_deltet.ensures.gives

pub returns-then-needs_constants-clause-found : goal.returns-then-needs_constants-clause-found
returns-then-needs_constants-clause-found c = found-constants _ c.find_deltet.result _ _ c.find_deltet.ensures.found

pub returns-then-needs_constants-clause-later : goal.returns-then-needs_constants-clause-later
returns-then-needs_constants-clause-later c = later-constants c.find_deltet.result _ _ c.find_deltet.ensures.found

pub returns-else-needs_constants-clause-gives : goal.returns-else-needs_constants-clause-gives
returns-else-needs_constants-clause-gives c = (None, constants-unlent c.args.job.now c.args.kernels.now.loaded (sym c.needs_constants.ensures ∙ c.if-needs_constants.false))
