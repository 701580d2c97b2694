use Rattle.st_batch.proofs.LineLaws.{some-answer}
use Rattle.st_batch.proofs.laws.every_line_has_an_answer.Goals as goal

pub returns : goal.returns
returns c = some-answer
