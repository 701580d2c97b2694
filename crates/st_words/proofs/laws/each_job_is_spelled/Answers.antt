use Rattle.st_words.proofs.Spells.{job_spelled}
use Rattle.st_words.proofs.laws.each_job_is_spelled.Goals as goal

pub returns : goal.returns
returns c = job_spelled
