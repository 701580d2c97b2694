use Rattle.std.proofs.Common.{◌+◌, ◌<◌, length, take, arith, refl}
use Rattle.st_outside.proofs.StateLaws.{KeepsFiles-same, KeepsFiles-trans}
use Rattle.st_batch.proofs.InputLaws.{input-none, input-next, input-fault, input-long, input-stopped, input-ends}
use Rattle.st_batch.proofs.input.answer_input.Goals as goal

pub loop-read-init : goal.loop-read-init
loop-read-init g c = record {
  come = input-none _ _ _ c.new-begun.ensures.items;
  gathered = c.requires.gathered;
  few = omega arith;
  room = refl;
  taken = omega arith;
  most = omega arith;
  input = omega arith;
  output = omega arith;
  files = KeepsFiles-same _;
}

pub returns-in-Err-clause-told : goal.returns-in-Err-clause-told
returns-in-Err-clause-told g c = λ before k.
    input-fault _ _ _ _ _ _ _ _ c.requires.batch c.requires.gathered c.loop-read.invariant.gathered c.loop-read.invariant.come c.in-Err.ensures.bytes k

pub returns-then-count-eq0-clause-told : goal.returns-then-count-eq0-clause-told
returns-then-count-eq0-clause-told g c = λ before k.
    input-ends _ _ _ _ _ _ _ _ _ _ _ _ _ _ c.requires.batch c.requires.gathered c.requires.refused c.as_slice.ensures.value c.if-count-eq0.true
    c.loop-read.invariant.few c.loop-read.invariant.come c.in-Ok.ensures.bytes.0 (c.in-Ok.ensures.bytes.1 c.if-count-eq0.true (omega (arith, c.read.auto.buf, c.loop-read.invariant.room))) c.answer_last.ensures.finished k

pub returns-then-count-read-clause-told : goal.returns-then-count-read-clause-told
returns-then-count-read-clause-told g c = λ before k.
    let many : 67108864 < c.loop-read.read + length (take c.in-Ok.count c.read.new.buf) = omega (arith, c.in-Ok.ensures.bound.1, c.if-count-read.true) in
    input-long _ _ _ _ _ _ _ _ _ c.requires.batch c.requires.gathered many c.loop-read.invariant.come c.in-Ok.ensures.bytes.0 k

pub returns-in-Err-answer_piece-clause-told : goal.returns-in-Err-answer_piece-clause-told
returns-in-Err-answer_piece-clause-told g c = λ before k.
    input-stopped _ _ _ _ _ _ _ _ _ _ _ _ _ c.requires.batch c.requires.gathered c.stopped_by.ensures c.loop-read.invariant.come c.in-Ok.ensures.bytes.0 c.in-Err-answer_piece.ensures.err k

pub loop-read-preserved : goal.loop-read-preserved
loop-read-preserved g c = record {
  come = input-next _ _ _ _ _ _ _ _ _ _ _ (omega (arith, c.in-Ok.ensures.bound.1)) c.loop-read.invariant.come c.in-Ok.ensures.bytes.0 c.in_default.ensures.ok;
  gathered = c.in_default.ensures.gathered;
  few = omega (arith, c.if-count-read.false, c.loop-read.invariant.few);
  room = omega (arith, c.read.auto.buf, c.loop-read.invariant.room);
  taken = omega (arith, c.in-Ok.ensures.count.counted, c.loop-read.invariant.taken);
  most = omega (arith, c.in-Ok.ensures.count.counted, c.loop-read.invariant.most);
  input = omega (arith, c.in-Ok.ensures.cause.later);
  output = omega (arith, c.in_default.ensures.output);
  files = KeepsFiles-trans _ _ _ c.loop-read.invariant.files c.in_default.ensures.files;
}
