use Rattle.std.proofs.Common.{sym, ◌∙◌}
use Rattle.st_answers.proofs.LentLaws.{leaps-lent, leaps-unlent}
use Rattle.st_answers.proofs.asked.lend_leaps.Goals as goal

pub leaps-requires : goal.leaps-requires
leaps-requires c = c.requires.leaps (sym c.has_utc.ensures ∙ c.if-has_utc.true)

pub returns-then-has_utc : goal.returns-then-has_utc
returns-then-has_utc c = leaps-lent c.args.job.now c.args.kernels.now.loaded c.leaps.result.now (sym c.has_utc.ensures ∙ c.if-has_utc.true) c.leaps.ensures

pub returns-else-has_utc : goal.returns-else-has_utc
returns-else-has_utc c = leaps-unlent c.args.job.now c.args.kernels.now.loaded (sym c.has_utc.ensures ∙ c.if-has_utc.false)
