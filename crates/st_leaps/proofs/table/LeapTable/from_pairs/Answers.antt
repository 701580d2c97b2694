use Rattle.std.proofs.Common.{◌≡◌, ◌*◌, length, Err, Ok, arith}
use Rattle.std.proofs.lemmas.Result.{err_from_is_err_and}
use Rattle.st_leaps.proofs.AnswerLaws.{gives_first, one_answer}
use Rattle.st_leaps.proofs.FaultLaws.{all_spelled}
use Rattle.st_leaps.proofs.table.LeapTable.from_pairs.Goals as goal

pub returns-in_err-test_length-clause-only : goal.returns-in_err-test_length-clause-only
returns-in_err-test_length-clause-only c =
    let p = err_from_is_err_and c.from_residual.result c.from_residual.ensures.1 in
    rw (p.1, p.2) (λ answer h. one_answer c.args.values.now (Err c.in_err-test_length.field-0.0) answer
    (gives_first c.args.values.now c.in_err-test_length.field-0.0 c.in_err-test_length.ensures.fault) h)

pub returns-in_err-pair-clause-only : goal.returns-in_err-pair-clause-only
returns-in_err-pair-clause-only c =
    let p = err_from_is_err_and c.from_residual-in_err-pair.result c.from_residual-in_err-pair.ensures.1 in
    rw (p.1, p.2) (λ answer h. one_answer c.args.values.now (Err c.in_err-pair.field-0.0) answer
    (gives_first c.args.values.now c.in_err-pair.field-0.0 c.in_err-pair.ensures.fault) h)

pub invariant_of-result : goal.invariant_of-result
invariant_of-result c =
    let few = c.loop-pairs.invariant.few in
    let size = c.in_ok-test_length.ensures.ok in
    let even = size.even in
    let all : length c.args.values.now ≡ 2 * length c.loop-pairs.pairs.items = omega (arith, c.loop-pairs-test.false) in
    record { is_table = (all_spelled c.args.values.now c.loop-pairs.pairs.items size c.loop-pairs.invariant.spelled all).is_table }

pub returns-clause-only : goal.returns-clause-only
returns-clause-only c =
    let few = c.loop-pairs.invariant.few in
    let size = c.in_ok-test_length.ensures.ok in
    let even = size.even in
    let all : length c.args.values.now ≡ 2 * length c.loop-pairs.pairs.items = omega (arith, c.loop-pairs-test.false) in
    λ answer h. one_answer c.args.values.now (Ok c.loop-pairs.pairs.items) answer
    (all_spelled c.args.values.now c.loop-pairs.pairs.items size c.loop-pairs.invariant.spelled all) h
