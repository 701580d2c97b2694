use Rattle.std.proofs.Common.{◌≡◌, pos, ℤ, ◌-ℤ◌, ◌+ℤ◌, ◌∙◌, ap, rules}
use Rattle.std.specs.Int.{w128}
use Rattle.std.specs.Int.RustNames.{FitsSigned}
use Rattle.std.proofs.lemmas.Int.{to_z-of_z}
use Rattle.st_series.specs.Small.{small_sine, small_cosine}
use Rattle.st_series.proofs.SmallBounds.{has_small_sine, has_small_cosine}
use Rattle.st_series.proofs.small.sin_cos_small.Goals as goal

record AreSmall (c : goal.After-widen-2) : Type 0 where
  sine_low : c.widen.result.lo ≡ small_sine c.args.x -ℤ pos 25
  sine_high : c.widen.result.hi ≡ small_sine c.args.x +ℤ pos 25
  cosine_low : c.widen-2.result.lo ≡ small_cosine c.args.x -ℤ pos 25
  cosine_high : c.widen-2.result.hi ≡ small_cosine c.args.x +ℤ pos 25

are_small : (c : goal.After-widen-2) → AreSmall c
unfolding small_sine small_cosine
are_small c =
    let x = c.ranges.x in
    let q : FitsSigned w128 c.square_of-square.result = search rules in
    let s : FitsSigned w128 c.alternating_sum-sine.result = search rules in
    let t : FitsSigned w128 c.alternating_sum-cosine.result = search rules in
    let sq = simp to_z-of_z at c.square_of-square.ensures.value in
    let sine = rw sq at (simp to_z-of_z at c.alternating_sum-sine.ensures.value) in
    let cosine = rw sq at (simp to_z-of_z at c.alternating_sum-cosine.ensures.value) in
    record {
      sine_low = c.widen.ensures.low ∙ ap (λ (z : ℤ). z -ℤ pos 25) ((simp to_z-of_z at c.point.ensures.low) ∙ sine);
      sine_high = c.widen.ensures.high ∙ ap (λ (z : ℤ). z +ℤ pos 25) ((simp to_z-of_z at c.point.ensures.high) ∙ sine);
      cosine_low = c.widen-2.ensures.low ∙ ap (λ (z : ℤ). z -ℤ pos 25) ((simp to_z-of_z at c.point-2.ensures.low) ∙ cosine);
      cosine_high = c.widen-2.ensures.high ∙ ap (λ (z : ℤ). z +ℤ pos 25) ((simp to_z-of_z at c.point-2.ensures.high) ∙ cosine);
    }

pub returns-clause-sine_low : goal.returns-clause-sine_low
returns-clause-sine_low c = (are_small c).sine_low

pub returns-clause-sine_high : goal.returns-clause-sine_high
returns-clause-sine_high c = (are_small c).sine_high

pub returns-clause-cosine_low : goal.returns-clause-cosine_low
returns-clause-cosine_low c = (are_small c).cosine_low

pub returns-clause-cosine_high : goal.returns-clause-cosine_high
returns-clause-cosine_high c = (are_small c).cosine_high

pub returns-clause-sine : goal.returns-clause-sine
returns-clause-sine c =
    let a = are_small c in
    rw (a.sine_low, a.sine_high) (has_small_sine c.args.x c.requires)

pub returns-clause-cosine : goal.returns-clause-cosine
returns-clause-cosine c =
    let a = are_small c in
    rw (a.cosine_low, a.cosine_high) (has_small_cosine c.args.x c.requires)
