use Rattle.st_words.proofs.GoodJob.{good_job}
use Rattle.st_words.proofs.laws.each_job_is_good.Goals as goal

pub returns : goal.returns
returns c = good_job
