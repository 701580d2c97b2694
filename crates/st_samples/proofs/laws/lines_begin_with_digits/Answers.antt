use Rattle.st_samples.proofs.JobLaws.{lines-begin-with-digits}
use Rattle.st_samples.proofs.laws.lines_begin_with_digits.Goals as goal

pub returns : goal.returns
returns c = lines-begin-with-digits
