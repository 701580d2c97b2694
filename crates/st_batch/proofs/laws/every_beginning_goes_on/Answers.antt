use Rattle.st_batch.proofs.GoesOn.{goes-on}
use Rattle.st_batch.proofs.laws.every_beginning_goes_on.Goals as goal

pub returns : goal.returns
returns c = goes-on
