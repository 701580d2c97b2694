use Rattle.std.proofs.Common.{◌≡◌, ◌-◌, ◌*◌, ◌^◌, ap, ◌∙◌, arith, ℤ, pos, ◌+ℤ◌, ◌*ℤ◌}
use Rattle.std.proofs.lemmas.Int.{ints}
use Rattle.std.specs.Int.{w128}
use Rattle.st_leaps.proofs.Casts.{kept128}
use Rattle.st_picture.specs.declared.cell.Cell.TheVariants as cells
use Rattle.st_picture.proofs.ValueLaws.{dated_in}
use Rattle.st_picture.proofs.value.julian_cell.Goals as goal
use mir.Val.{to_z, of_z}

pub returns-clause-cell : goal.returns-clause-cell
returns-clause-cell c =
    let f = kept128 c.step_of.result c.step_of.type_inv ∙ c.step_of.ensures.value in
    let q = kept128 c.quotient.result c.quotient.type_inv in
    let from = c.requires.range.from in
    let to = c.requires.range.to in
    let step_from = c.step_of.ensures.from in
    let step_to = c.step_of.ensures.to in
    let value = c.step_of.ensures.value in
    let m : ℤ = to_z w128 (of_z w128 (to_z w128 (of_z w128 c.args.value) +ℤ pos 211_813_488_000_000_000_000_000_000_000)) in
    let d : ℤ = to_z w128 (of_z w128 (pos 86_400 *ℤ to_z w128 (of_z w128 c.step_of.result))) in
    let e : m ≡ c.args.value +ℤ pos (2_451_545 * (86_400 * 10 ^ 18)) = omega (arith, ints) in
    let g : d ≡ pos (86_400 * 10 ^ (18 - c.args.places)) = omega (arith, ints) in
    (c.quotient.result, dated_in c.args.places c.args.value m d c.quotient.result c.requires.places c.quotient.ensures e g, ap cells.Count q)
