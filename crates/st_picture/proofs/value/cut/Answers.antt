use Rattle.std.proofs.Common.{◌≡◌, ◌∙◌, arith}
use Rattle.std.proofs.lemmas.Int.{ints, to_z-of_z}
use Rattle.std.specs.Int.{w128, int_div_euclid}
use Rattle.st_leaps.proofs.Casts.{kept128}
use Rattle.st_picture.proofs.ValueLaws.{cut_is, cut_from}
use Rattle.st_picture.proofs.value.cut.Goals as goal

pub overflow_mul-result : goal.overflow_mul-result
overflow_mul-result c =
    let e = to_z-of_z w128 c.args.units c.ranges.units in
    let f = to_z-of_z w128 c.args.step c.ranges.step in
    let q = kept128 c.quotient.result c.quotient.type_inv in
    let is : c.quotient.result ≡ int_div_euclid c.args.units c.args.step = c.quotient.ensures ∙ (λ i. int_div_euclid (e i) (f i)) in
    let within = cut_is c.args.units c.args.step c.quotient.result c.requires.from c.requires.to is in
    let low = within.low in
    let high = within.high in
    let units_from = c.requires.units.from in
    let units_to = c.requires.units.to in
    rw (q, f) (omega (arith, ints))

pub returns-clause-within : goal.returns-clause-within
returns-clause-within c =
    let e = to_z-of_z w128 c.args.units c.ranges.units in
    let f = to_z-of_z w128 c.args.step c.ranges.step in
    let q = kept128 c.quotient.result c.quotient.type_inv in
    let is : c.quotient.result ≡ int_div_euclid c.args.units c.args.step = c.quotient.ensures ∙ (λ i. int_div_euclid (e i) (f i)) in
    let within = cut_is c.args.units c.args.step c.quotient.result c.requires.from c.requires.to is in
    let some = cut_from c.args.units c.args.step c.quotient.result c.requires.units.from c.requires.from is in
    let low = within.low in
    let high = within.high in
    let units_from = c.requires.units.from in
    let units_to = c.requires.units.to in
    rw (q, f) (record { from = omega (arith, ints); to = omega (arith, ints) })
