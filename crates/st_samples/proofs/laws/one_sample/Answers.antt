use Rattle.st_samples.proofs.JobLaws.{one-sample}
use Rattle.st_samples.proofs.laws.one_sample.Goals as goal

pub returns : goal.returns
returns c = one-sample
