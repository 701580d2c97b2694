use Rattle.std.proofs.Common.{arith}
use Rattle.std.proofs.lemmas.Bool.Decides.{nat_tests}
use Rattle.st_batch.proofs.ReadLaws.{last-none, last-line}
use Rattle.st_batch.proofs.input.answer_last.Goals as goal

pub returns-then-is_empty-clause-finished : goal.returns-then-is_empty-clause-finished
returns-then-is_empty-clause-finished g c = last-none _ _ _ _ (grind (arith, nat_tests)) c.finish.ensures.finished

pub returns-else-is_empty-clause-finished : goal.returns-else-is_empty-clause-finished
returns-else-is_empty-clause-finished g c =
    last-line _ _ _ _ _ _ c.requires (grind (arith, nat_tests)) c.without_cr.ensures c.answer_one.ensures.finished
