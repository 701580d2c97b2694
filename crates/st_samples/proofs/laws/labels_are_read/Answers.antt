use Rattle.st_samples.proofs.LabelReads.{labels_are_read}
use Rattle.st_samples.proofs.laws.labels_are_read.Goals as goal

pub returns : goal.returns
returns c = labels_are_read
