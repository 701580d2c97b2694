use Rattle.std.proofs.lemmas.Result.{on_ok_weaker, on_err_weaker}
use Rattle.st_batch.proofs.ReadLaws.{reads-line, halts-line, halts-none, on-err}
use Rattle.st_batch.proofs.input.answer_ended.Goals as goal

pub returns-clause-ok : goal.returns-clause-ok
returns-clause-ok g c =
    on_ok_weaker c.write_enough.result
    (λ w. reads-line _ _ _ _ _ _ _ _ _ _ c.requires.begun c.requires.end c.in_ok-gather_ended.ensures.begun c.in_ok-gather_ended.ensures.ok w)
    c.write_enough.ensures.ok

pub returns-clause-err : goal.returns-clause-err
returns-clause-err g c =
    on_err_weaker c.write_enough.result
    (λ w. halts-line _ _ _ _ _ _ _ _ c.requires.begun c.requires.end c.in_ok-gather_ended.ensures.ok w)
    c.write_enough.ensures.err

pub returns-in_err-gather_ended-clause-err : goal.returns-in_err-gather_ended-clause-err
returns-in_err-gather_ended-clause-err g c =
    on-err c.from_residual.result
    (halts-none _ _ _ _ c.in_err-gather_ended.ensures.files.counts)
