use Rattle.st_words.proofs.JobLaws.{kept_job}
use Rattle.st_words.proofs.make.make_job.Goals as goal

pub returns-clause-ok : goal.returns-clause-ok
returns-clause-ok c =
    let made = c.job_of.ensures in
    kept_job c.args.options c.in_ok-shape.shape c.job_of.result c.in_ok-shape.ensures.ok made.setup made.from made.to made.form made.shape made.clock made.work made.back
