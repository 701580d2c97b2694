use Rattle.st_batch.proofs.OneLoad.{some-load}
use Rattle.st_batch.proofs.laws.every_loading_gives.Goals as goal

pub returns : goal.returns
returns c files loaded name = some-load files loaded name
