use Rattle.st_batch.proofs.OneOutput.{one-output}
use Rattle.st_batch.proofs.laws.one_output.Goals as goal

pub returns : goal.returns
returns c = one-output
