use Rattle.st_leaps.proofs.LabelLaws.{one_time}
use Rattle.st_leaps.proofs.laws.one_time.Goals as goal

pub returns : goal.returns
returns c = one_time
