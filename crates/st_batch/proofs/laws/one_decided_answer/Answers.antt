use Rattle.st_batch.proofs.OneLine.{one-decided}
use Rattle.st_batch.proofs.laws.one_decided_answer.Goals as goal

pub returns : goal.returns
returns c = one-decided
