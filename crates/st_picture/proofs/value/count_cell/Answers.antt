use Rattle.std.proofs.Common.{◌≡◌, ◌-◌, ◌^◌, ap, ◌∙◌, pos}
use Rattle.std.proofs.lemmas.Int.{to_z-of_z}
use Rattle.std.specs.Int.{w128, int_div_euclid}
use Rattle.st_leaps.proofs.Casts.{kept128}
use Rattle.st_picture.specs.declared.cell.Cell.TheVariants as cells
use Rattle.st_picture.proofs.ValueLaws.{counted}
use Rattle.st_picture.proofs.value.count_cell.Goals as goal

pub returns-clause-cell : goal.returns-clause-cell
returns-clause-cell c =
    let e = to_z-of_z w128 c.args.value c.ranges.value in
    let f = kept128 c.step_of.result c.step_of.type_inv ∙ c.step_of.ensures.value in
    let q = kept128 c.quotient.result c.quotient.type_inv in
    let is : c.quotient.result ≡ int_div_euclid c.args.value (pos (10 ^ (18 - c.args.places))) = c.quotient.ensures ∙ (λ i. int_div_euclid (e i) (f i)) in
    (c.quotient.result, counted c.args.places c.args.value c.quotient.result c.requires.places is, ap cells.Count q)
