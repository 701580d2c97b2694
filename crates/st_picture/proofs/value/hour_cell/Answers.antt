use Rattle.std.proofs.Common.{◌≡◌, ◌*◌, ◌^◌, ap, ◌∙◌, lit<, ℤ, pos, ◌*ℤ◌, rules}
use Rattle.std.specs.Int.{w32, w128, int_div_euclid}
use Rattle.st_leaps.proofs.Casts.{kept128}
use Rattle.st_picture.specs.Cell.{capped}
use Rattle.st_picture.specs.declared.cell.Cell.TheVariants as cells
use Rattle.st_picture.proofs.ValueLaws.{truncated_is}
use Rattle.st_picture.proofs.value.hour_cell.Goals as goal
use mir.Val.{to_z, of_z}

pub returns-clause-cell : goal.returns-clause-cell
returns-clause-cell c =
    let d : to_z w32 (of_z w32 c.args.label.day) ≡ c.args.label.day = search rules in
    let o : to_z w128 (of_z w128 c.args.label.of_day) ≡ c.args.label.of_day = search rules in
    let z = kept128 c.at_most.result c.at_most.type_inv ∙ c.at_most.ensures.value ∙ ap (capped (pos (82_800 * 10 ^ 18))) (kept128 c.cut.result c.cut.type_inv) in (
      c.cut.result,
      truncated_is c.args.label.of_day c.cut.result (3_600 * 10 ^ 18) (lit< tt)
          (c.cut.ensures.value ∙ ap (λ (x : ℤ). int_div_euclid x (pos (3_600 * 10 ^ 18)) *ℤ pos (3_600 * 10 ^ 18)) o),
      λ i. cells.Day (d i) (z i),
    )
