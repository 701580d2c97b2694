use Rattle.st_batch.proofs.OneLine.{one-answer}
use Rattle.st_batch.proofs.laws.one_answer.Goals as goal

pub returns : goal.returns
returns c = one-answer
