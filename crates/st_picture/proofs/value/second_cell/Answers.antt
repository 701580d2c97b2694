use Rattle.std.proofs.Common.{◌≡◌, ◌-◌, ◌^◌, ◌∙◌, ◌*ℤ◌, rules}
use Rattle.std.specs.Int.{w32, w128, int_div_euclid}
use Rattle.st_leaps.proofs.Casts.{kept128}
use Rattle.st_picture.specs.declared.cell.Cell.TheVariants as cells
use Rattle.st_picture.proofs.CellLaws.{tens_some}
use Rattle.st_picture.proofs.ValueLaws.{truncated_is}
use Rattle.st_picture.proofs.value.second_cell.Goals as goal
use mir.Val.{to_z, of_z}

pub returns-clause-cell : goal.returns-clause-cell
returns-clause-cell c =
    let d : to_z w32 (of_z w32 c.args.label.day) ≡ c.args.label.day = search rules in
    let o : to_z w128 (of_z w128 c.args.label.of_day) ≡ c.args.label.of_day = search rules in
    let f = kept128 c.step_of.result c.step_of.type_inv ∙ c.step_of.ensures.value in
    let z = kept128 c.cut.result c.cut.type_inv in (
      c.cut.result,
      truncated_is c.args.label.of_day c.cut.result (10 ^ (18 - c.args.places)) (tens_some (18 - c.args.places))
          (c.cut.ensures.value ∙ (λ i. int_div_euclid (o i) (f i) *ℤ f i)),
      λ i. cells.Day (d i) (z i),
    )
