use Rattle.st_picture.proofs.OneAnswer.{one_reading}
use Rattle.st_picture.proofs.laws.one_reading.Goals as goal

pub returns : goal.returns
returns c = one_reading
