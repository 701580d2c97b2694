use Rattle.st_words.proofs.JobLaws.{not_true}
use Rattle.st_words.proofs.make.is_misprinted.Goals as goal

pub returns-then-options-clause-yes : goal.returns-then-options-clause-yes
returns-then-options-clause-yes c = λ e. (c.if-options.true, c.are_seconds.ensures.no (not_true c.are_seconds.result e))
