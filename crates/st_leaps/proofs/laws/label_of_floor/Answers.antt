use Rattle.st_leaps.proofs.LabelLaws.{label_of_floor}
use Rattle.st_leaps.proofs.laws.label_of_floor.Goals as goal

pub returns : goal.returns
returns c = label_of_floor
