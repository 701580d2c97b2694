use Rattle.std.proofs.Common.{◌-◌, ◌+◌, length, arith}
use Rattle.std.proofs.lemmas.List.{length_push}
use Rattle.st_fit.proofs.Records.{rising_part, small_part}
use Rattle.st_fit.proofs.Starting.{starts_pushed, starts_of_rest, start_of_rest}
use Rattle.st_fit.proofs.starts.starts.Goals as goal

pub start_of-start-requires-clause-rising : goal.start_of-start-requires-clause-rising
start_of-start-requires-clause-rising c =
    rising_part c.args.pairs.now (length c.args.pairs.now - 1 - c.loop-n.n) (length c.args.pairs.now - (length c.args.pairs.now - 1 - c.loop-n.n)) c.requires.rising

pub start_of-start-requires-clause-small : goal.start_of-start-requires-clause-small
start_of-start-requires-clause-small c =
    small_part c.args.pairs.now (length c.args.pairs.now - 1 - c.loop-n.n) (length c.args.pairs.now - (length c.args.pairs.now - 1 - c.loop-n.n)) c.requires.small

pub start_of-start-requires-clause-each : goal.start_of-start-requires-clause-each
start_of-start-requires-clause-each c =
    let n = c.loop-n.invariant.count in
    rw c.as_slice.ensures.value
    (starts_of_rest c.args.terms c.args.pairs.now c.loop-n.starts.items (length c.args.pairs.now - 1 - c.loop-n.n) (omega arith) (omega arith) c.loop-n.invariant.each)

pub loop-n-preserved : goal.loop-n-preserved
loop-n-preserved c =
    let grown = c.in_ok-push-2.ensures.items in
    let n = c.loop-n.invariant.count in
    let s = start_of_rest c.args.terms c.args.pairs.now c.loop-n.n _ (omega arith) c.start_of-start.ensures in
    record {
      count = rw (grown, length_push) (omega arith);
      each = rw grown (starts_pushed c.args.terms c.args.pairs.now c.loop-n.starts.items (c.loop-n.n + 1) c.start_of-start.result n c.loop-n.invariant.each s);
    }
