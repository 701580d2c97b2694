use Rattle.std.proofs.Common.{refl}
use Rattle.st_samples.specs.Summary.{summary_of}
use Rattle.st_samples.proofs.summary.Summary.new.Goals as goal

pub returns : goal.returns
unfolding summary_of
returns c = refl
