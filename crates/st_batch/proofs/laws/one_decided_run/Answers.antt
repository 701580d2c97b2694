use Rattle.st_batch.proofs.OneLine.{decided-run}
use Rattle.st_batch.proofs.laws.one_decided_run.Goals as goal

pub returns : goal.returns
returns c = decided-run
