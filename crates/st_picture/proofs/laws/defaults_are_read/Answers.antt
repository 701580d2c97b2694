use Rattle.st_picture.proofs.DefaultLaws.{defaults_are_read}
use Rattle.st_picture.proofs.laws.defaults_are_read.Goals as goal

pub returns : goal.returns
returns c = defaults_are_read
