use Rattle.st_samples.proofs.SummaryLaws.{summary_grows}
use Rattle.st_samples.proofs.laws.summary_grows.Goals as goal

pub returns : goal.returns
returns c = summary_grows
