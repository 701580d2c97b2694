use Rattle.st_batch.proofs.OneLine.{exact-decided}
use Rattle.st_batch.proofs.laws.exact_is_decided.Goals as goal

pub returns : goal.returns
returns c = exact-decided
