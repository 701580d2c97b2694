use Rattle.st_answers.proofs.AnswerLaws.{each-job-is-told}
use Rattle.st_answers.proofs.laws.each_job_is_told.Goals as goal

pub returns : goal.returns
returns c = each-job-is-told
