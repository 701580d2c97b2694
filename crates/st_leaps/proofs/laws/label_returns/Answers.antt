use Rattle.st_leaps.proofs.LabelLaws.{label_returns}
use Rattle.st_leaps.proofs.laws.label_returns.Goals as goal

pub returns : goal.returns
returns c = label_returns
