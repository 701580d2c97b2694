use Rattle.std.proofs.Common.{◌≡◌, ℤ, pos, ◌+ℤ◌, ◌∙◌, ap, arith}
use Rattle.std.proofs.lemmas.Int.{ints, to_z-of_z}
use Rattle.std.specs.Int.{w32}
use Rattle.st_leaps.specs.Table.{count_on}
use Rattle.st_leaps.proofs.label.length_of.Goals as goal
use mir.Val.{to_z, of_z}

pub returns-clause-value : goal.returns-clause-value
returns-clause-value c =
    let day = c.args.day in
    let fits = c.ranges.day in
    let to = c.requires.to in
    let next : to_z w32 (of_z w32 (to_z w32 (of_z w32 day) +ℤ pos 1)) ≡ day +ℤ pos 1 = omega (arith, ints) in
    let here : c.count_on-2.result ≡ count_on c.args.pairs.now day = c.count_on-2.ensures.value ∙ ap (λ (z : ℤ). count_on c.args.pairs.now z) (to_z-of_z w32 day fits) in
    let there : c.count_on.result ≡ count_on c.args.pairs.now (day +ℤ pos 1) = c.count_on.ensures.value ∙ ap (λ (z : ℤ). count_on c.args.pairs.now z) next in
    omega (arith, ints)
