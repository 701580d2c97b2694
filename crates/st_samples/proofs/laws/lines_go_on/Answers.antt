use Rattle.st_samples.proofs.JobLaws.{lines-go-on}
use Rattle.st_samples.proofs.laws.lines_go_on.Goals as goal

pub returns : goal.returns
returns c = lines-go-on
