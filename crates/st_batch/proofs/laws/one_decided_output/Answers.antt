use Rattle.st_batch.proofs.OneOutput.{one-decided-output}
use Rattle.st_batch.proofs.laws.one_decided_output.Goals as goal

pub returns : goal.returns
returns c = one-decided-output
