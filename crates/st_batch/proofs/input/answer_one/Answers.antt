use Rattle.st_outside.proofs.StateLaws.{AreLater-same}
use Rattle.st_batch.proofs.LinesLaws.{advances-one, finishes-written, within-none}
use Rattle.st_batch.proofs.input.answer_one.Goals as goal

pub returns-in-Ok-clause-finished : goal.returns-in-Ok-clause-finished
returns-in-Ok-clause-finished g c =
    finishes-written _ _ _ _ _ _ (advances-one _ _ _ _ _ _ c.in-Ok.ensures.ok) (AreLater-same _) c.finish.ensures.finished

pub returns-in-Err-clause-finished : goal.returns-in-Err-clause-finished
returns-in-Err-clause-finished g c = within-none _ _ _ c.in-Err.ensures.files.counts
