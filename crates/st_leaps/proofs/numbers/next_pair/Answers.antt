use Rattle.std.proofs.Common.{sym, subst}
use Rattle.std.proofs.lemmas.Result.{err_from_is_err_and}
use Rattle.st_leaps.specs.Table.{IsStep}
use Rattle.st_leaps.specs.declared.pair.LeapPair.{LeapPair}
use Rattle.st_leaps.proofs.FaultLaws.{next_is, pair_fault, step_fault, one_more, last_is, one_last}
use Rattle.st_leaps.proofs.numbers.next_pair.Goals as goal

pub returns-in_err-pair-clause-fault : goal.returns-in_err-pair-clause-fault
returns-in_err-pair-clause-fault c =
    let p = err_from_is_err_and c.from_residual.result c.from_residual.ensures.1 in
    let next = next_is c.args.numbers.now c.args.pairs.now _ _ c.requires.size c.requires.spelled c.requires.more in
    rw (p.1, p.2) (pair_fault c.args.numbers.now c.args.pairs.now _ _ c.in_err-pair.field-0.0 next c.in_err-pair.ensures)

pub returns-in_err-test_step-clause-fault : goal.returns-in_err-test_step-clause-fault
returns-in_err-test_step-clause-fault c =
    let p = err_from_is_err_and c.from_residual-in_err-test_step.result c.from_residual-in_err-test_step.ensures.1 in
    let next = next_is c.args.numbers.now c.args.pairs.now _ _ c.requires.size c.requires.spelled c.requires.more in
    let last = last_is c.args.pairs.now c.in-Some.before.now (sym c.in-Some.ensures.value) in
    rw (p.1, p.2) (step_fault c.args.numbers.now c.args.pairs.now _ _ c.in-Some.before.now c.in_ok-pair.pair c.in_err-test_step.field-0.0 next last
    c.in_ok-pair.ensures c.in_err-test_step.ensures)

pub returns-in_ok-test_step-clause-ok : goal.returns-in_ok-test_step-clause-ok
returns-in_ok-test_step-clause-ok c =
    let next = next_is c.args.numbers.now c.args.pairs.now _ _ c.requires.size c.requires.spelled c.requires.more in
    let last = last_is c.args.pairs.now c.in-Some.before.now (sym c.in-Some.ensures.value) in
    one_more c.args.numbers.now c.args.pairs.now _ _ c.in_ok-pair.pair next c.in_ok-pair.ensures.0 c.in_ok-pair.ensures.1 (λ p l.
    let P : LeapPair → Type 0 = λ r. IsStep r c.in_ok-pair.pair in
    subst P (one_last c.args.pairs.now c.in-Some.before.now p last l) c.in_ok-test_step.ensures)
