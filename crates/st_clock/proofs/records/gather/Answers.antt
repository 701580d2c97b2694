use Rattle.std.proofs.Common.{inr, length, arith}
use Rattle.std.proofs.lemmas.List.{length-append}
use Rattle.st_clock.specs.Parts.{IsRecordAt}
use Rattle.st_clock.proofs.Gathers.{pushed, record_at_place, out_of_range, third_within}
use Rattle.st_clock.proofs.records.gather.Goals as goal

pub returns-in_default-clause-err : goal.returns-in_default-clause-err
returns-in_default-clause-err c =
    inr (c.refusal.ensures, out_of_range c.args.values.now c.loop-i.i _ _ _ (third_within (length c.args.values.now) c.loop-i.i c.loop-i-test.true) c.in_default.ensures.none)

pub loop-i-preserved : goal.loop-i-preserved
loop-i-preserved c =
    let grown = c.in_ok-append.ensures in
    let here : IsRecordAt c.args.values.now c.loop-i.i c.in-Some.r =
    record_at_place c.args.values.now c.loop-i.i _ _ _ c.in-Some.r (third_within (length c.args.values.now) c.loop-i.i c.loop-i-test.true)
    c.in-Some.ensures.tick c.in-Some.ensures.time c.in-Some.ensures.rate in
    record {
      count = rw (grown, length-append) (omega (arith, c.loop-i.invariant.count));
      each = rw grown (pushed (IsRecordAt c.args.values.now) c.loop-i.records.items c.in-Some.r c.loop-i.invariant.each (rw c.loop-i.invariant.count here));
    }
