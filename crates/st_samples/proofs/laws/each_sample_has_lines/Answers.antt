use Rattle.st_samples.proofs.HasLines.{each-sample-has-lines}
use Rattle.st_samples.proofs.laws.each_sample_has_lines.Goals as goal

pub returns : goal.returns
returns c = each-sample-has-lines
