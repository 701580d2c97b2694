use Rattle.st_leaps.proofs.LabelLaws.{each_has_label}
use Rattle.st_leaps.proofs.laws.each_has_label.Goals as goal

pub returns : goal.returns
returns c = each_has_label
