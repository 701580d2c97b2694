use Rattle.std.proofs.Common.{sym, ◌∙◌}
use Rattle.st_answers.proofs.LentLaws.{constants-lent, constants-unlent}
use Rattle.st_answers.proofs.asked.lend_constants.Goals as goal

pub deltet-requires : goal.deltet-requires
deltet-requires c = c.requires.constants (sym c.needs_constants.ensures ∙ c.if-needs_constants.true)

pub returns-then-needs_constants : goal.returns-then-needs_constants
returns-then-needs_constants c =
    constants-lent c.args.job.now c.args.kernels.now.loaded c.deltet.result.now (sym c.needs_constants.ensures ∙ c.if-needs_constants.true) c.deltet.ensures

pub returns-else-needs_constants : goal.returns-else-needs_constants
returns-else-needs_constants c = constants-unlent c.args.job.now c.args.kernels.now.loaded (sym c.needs_constants.ensures ∙ c.if-needs_constants.false)
