use Rattle.st_answers.proofs.LentLaws.{there-and-back}
use Rattle.st_answers.proofs.answer.answer_time.Goals as goal

pub returns-clause-ok : goal.returns-clause-ok
returns-clause-ok c =
    there-and-back c.args.job.now c.args.kernels.now.loaded _ c.args.text.now c.in_ok-there.there c.in_ok-back.back _ _ _ c.in_ok-join.field-0 c.if-not-job.false
    c.in_ok-there.ensures.loaded c.as_slice.ensures c.as_slice-2.ensures c.as_slice-3.ensures c.in_ok-there.ensures.ok c.in_ok-back.ensures.ok c.in_ok-join.ensures
