use Rattle.st_batch.proofs.OneLine.{undecided-sine}
use Rattle.st_batch.proofs.laws.undecided_has_a_sine.Goals as goal

pub returns : goal.returns
returns c = undecided-sine
