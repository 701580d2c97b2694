use Rattle.st_batch.proofs.SampleLaws.{summed-ends}
use Rattle.st_batch.proofs.sample.answer_sample.Goals as goal

pub returns-in-Ok-clause-ends : goal.returns-in-Ok-clause-ends
returns-in-Ok-clause-ends g c = summed-ends _ _ _ _ _ c.in-Ok.summary _ _ c.write_summary.result c.in-Ok.ensures.ok c.write_summary.ensures.delivers
