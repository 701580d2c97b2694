use Rattle.st_leaps.proofs.LabelLaws.{one_label}
use Rattle.st_leaps.proofs.laws.one_label.Goals as goal

pub returns : goal.returns
returns c = one_label
