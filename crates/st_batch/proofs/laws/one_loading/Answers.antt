use Rattle.st_batch.proofs.OneLoad.{one-load}
use Rattle.st_batch.proofs.laws.one_loading.Goals as goal

pub returns : goal.returns
returns c files loaded name r s h k m n = one-load files loaded name r s h k m n
