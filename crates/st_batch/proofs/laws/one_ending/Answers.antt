use Rattle.st_batch.proofs.CutLaws.{one-ending}
use Rattle.st_batch.proofs.laws.one_ending.Goals as goal

pub returns : goal.returns
returns c input left lines other first second = one-ending input left lines other first second
