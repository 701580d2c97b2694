use Rattle.std.proofs.Common.{pos, ℤ, ◌-ℤ◌, ◌+ℤ◌, ◌∙◌, ap, rules}
use Rattle.std.specs.Int.{w128}
use Rattle.std.specs.Int.RustNames.{FitsSigned}
use Rattle.std.proofs.lemmas.Int.{to_z-of_z}
use Rattle.st_series.proofs.SmallBounds.{has_short_sine}
use Rattle.st_series.proofs.small.sin_within_one.Goals as goal

pub returns-clause-sine : goal.returns-clause-sine
returns-clause-sine c =
    let x = c.ranges.x in
    let q : FitsSigned w128 c.square_of-square.result = search rules in
    let s : FitsSigned w128 c.alternating_sum-sum.result = search rules in
    let sq = simp to_z-of_z at c.square_of-square.ensures.value in
    let sum = rw sq at (simp to_z-of_z at c.alternating_sum-sum.ensures.value) in
    let low = c.widen.ensures.low ∙ ap (λ (z : ℤ). z -ℤ pos 25) ((simp to_z-of_z at c.point.ensures.low) ∙ sum) in
    let high = c.widen.ensures.high ∙ ap (λ (z : ℤ). z +ℤ pos 25) ((simp to_z-of_z at c.point.ensures.high) ∙ sum) in
    rw (low, high) (has_short_sine c.args.x c.requires)
