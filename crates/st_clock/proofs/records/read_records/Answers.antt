use Rattle.std.proofs.Common.{◌≡◌, Bool, true, false}
use Rattle.std.proofs.lemmas.Result.{err_from_is_err_and}
use Rattle.st_clock.proofs.RecordLaws.{empty_count, part_count, counted, broken_whole, broken_units, broken_range, broken_rising, records_found, records_small}
use Rattle.st_clock.proofs.records.read_records.Goals as goal

differ : (b : Bool) → b ≡ true → b ≡ false → ⊥
differ b t f = cc

pub returns-then-is_empty-clause-err : goal.returns-then-is_empty-clause-err
returns-then-is_empty-clause-err c =
    rw c.refusal.ensures (empty_count c.args.values.now c.if-is_empty.ensures)

pub returns-then-values-ne0-clause-err : goal.returns-then-values-ne0-clause-err
returns-then-values-ne0-clause-err c =
    rw c.refusal-then-values-ne0.ensures (part_count c.args.values.now c.if-values-ne0.true)

pub returns-then-not-are_whole-clause-err : goal.returns-then-not-are_whole-clause-err
returns-then-not-are_whole-clause-err c =
    rw c.refusal-then-not-are_whole.ensures (broken_whole c.args.values.now (counted c.args.values.now c.if-is_empty.ensures c.if-values-ne0.false) (λ h. differ c.are_whole.result (c.are_whole.ensures.1 h) c.if-not-are_whole.true))

pub returns-then-not-have_units-clause-err : goal.returns-then-not-have_units-clause-err
returns-then-not-have_units-clause-err c =
    rw c.refusal-then-not-have_units.ensures (broken_units c.args.values.now (counted c.args.values.now c.if-is_empty.ensures c.if-values-ne0.false) (c.are_whole.ensures.0 c.if-not-are_whole.false) (λ h. differ c.have_units.result (c.have_units.ensures.1 h.0) c.if-not-have_units.true))

pub returns-then-not-have_units-2-clause-err : goal.returns-then-not-have_units-2-clause-err
returns-then-not-have_units-2-clause-err c =
    rw c.refusal-then-not-have_units-2.ensures (broken_units c.args.values.now (counted c.args.values.now c.if-is_empty.ensures c.if-values-ne0.false) (c.are_whole.ensures.0 c.if-not-are_whole.false) (λ h. differ c.have_units-2.result (c.have_units-2.ensures.1 h.1) c.if-not-have_units-2.true))

pub returns-in_err-records-clause-err : goal.returns-in_err-records-clause-err
returns-in_err-records-clause-err c =
    let p = err_from_is_err_and c.from_residual.result c.from_residual.ensures.1 in
    rw (p.1, p.2) (broken_range c.args.values.now c.in_err-records.field-0.0 (counted c.args.values.now c.if-is_empty.ensures c.if-values-ne0.false) (c.are_whole.ensures.0 c.if-not-are_whole.false) (c.have_units.ensures.0 c.if-not-have_units.false, c.have_units-2.ensures.0 c.if-not-have_units-2.false) c.in_err-records.ensures.err)

pub are_rising-requires : goal.are_rising-requires
are_rising-requires c =
    rw c.as_slice.ensures.value (records_small c.args.values.now c.in_ok-records.records.items c.in_ok-records.ensures.ok)

pub returns-then-are_rising-clause-ok : goal.returns-then-are_rising-clause-ok
returns-then-are_rising-clause-ok c =
    let are = c.in_ok-records.ensures.ok in
    let steps = c.are_rising.ensures.0 c.if-are_rising.true in
    records_found c.args.values.now c.in_ok-records.records.items (counted c.args.values.now c.if-is_empty.ensures c.if-values-ne0.false) (c.are_whole.ensures.0 c.if-not-are_whole.false) (c.have_units.ensures.0 c.if-not-have_units.false, c.have_units-2.ensures.0 c.if-not-have_units-2.false) are (rw c.as_slice.ensures.value at steps)

pub returns-else-are_rising-clause-err : goal.returns-else-are_rising-clause-err
returns-else-are_rising-clause-err c =
    let are = c.in_ok-records.ensures.ok in
    rw c.refusal-else-are_rising.ensures
    (broken_rising c.args.values.now c.in_ok-records.records.items (counted c.args.values.now c.if-is_empty.ensures c.if-values-ne0.false) (c.are_whole.ensures.0 c.if-not-are_whole.false) (c.have_units.ensures.0 c.if-not-have_units.false, c.have_units-2.ensures.0 c.if-not-have_units-2.false) are
    (λ h. differ c.are_rising.result (c.are_rising.ensures.1 (rw c.as_slice.ensures.value h)) c.if-are_rising.false))
