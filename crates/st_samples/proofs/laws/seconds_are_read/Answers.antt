use Rattle.st_samples.proofs.ReadLaws.{seconds_are_read}
use Rattle.st_samples.proofs.laws.seconds_are_read.Goals as goal

pub returns : goal.returns
returns c = seconds_are_read
