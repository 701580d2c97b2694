use Rattle.st_leaps.proofs.LabelLaws.{labels_have_times}
use Rattle.st_leaps.proofs.laws.labels_have_times.Goals as goal

pub returns : goal.returns
returns c = labels_have_times
