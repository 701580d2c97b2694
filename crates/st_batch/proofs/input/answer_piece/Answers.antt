use Rattle.std.proofs.Common.{arith}
use Rattle.std.proofs.lemmas.Result.{on_ok_weaker, on_err_weaker}
use Rattle.st_outside.proofs.StateLaws.{KeepsFiles-same, KeepsFiles-trans}
use Rattle.st_batch.proofs.LinesLaws.{writes-ok}
use Rattle.st_batch.proofs.ReadLaws.{part-none, part-next, part-last, halts-next, halts-last, halts-behind, on-err}
use Rattle.st_batch.proofs.input.answer_piece.Goals as goal

pub loop-end-init : goal.loop-end-init
loop-end-init g c = record { part = part-none _ _ _ c.requires; output = omega arith; files = KeepsFiles-same _ }

pub loop-end-preserved : goal.loop-end-preserved
loop-end-preserved g c = record {
  part = part-next _ _ _ _ _ _ _ _ _ _ c.loop-end.invariant.part c.in-Some.ensures c.in_ok-answer_ended.ensures.ok;
  output = omega arith;
  files = KeepsFiles-trans _ _ _ c.loop-end.invariant.files c.in_ok-answer_ended.ensures.files;
}

pub returns-in_err-answer_ended-clause-err : goal.returns-in_err-answer_ended-clause-err
returns-in_err-answer_ended-clause-err g c =
    on-err c.from_residual.result
    (halts-next _ _ _ _ _ _ _ _ _ _ c.loop-end.invariant.part c.in-Some.ensures c.in_err-answer_ended.ensures.err)

pub returns-clause-ok : goal.returns-clause-ok
returns-clause-ok g c =
    on_ok_weaker c.write.result
    (λ writes. part-last _ _ _ _ _ _ _ _ _ _ _ _ _ c.loop-end.invariant.part c.in_default.ensures c.in_ok-extend_from_slice.ensures.items writes)
    (writes-ok c.write.result _ _ _ _ c.write.ensures.ok c.write.ensures.gathered c.write.ensures.session c.write.ensures.refused)

pub returns-clause-err : goal.returns-clause-err
returns-clause-err g c =
    on_err_weaker c.write.result (λ cut. halts-last _ _ _ _ _ _ _ c.loop-end.invariant.part cut) c.write.ensures.err

pub returns-in_err-extend_from_slice-clause-err : goal.returns-in_err-extend_from_slice-clause-err
returns-in_err-extend_from_slice-clause-err g c = on-err c.from_residual-in_err-extend_from_slice.result (halts-behind _ _ _ _ _ _ c.loop-end.invariant.part)
