use Rattle.std.proofs.Common.{◌≤◌, Option, sym, ◌∙◌, subst, arith}
use Rattle.std.specs.Prelude.{IfSome}
use Rattle.std.proofs.lemmas.Int.{ints}
use Rattle.st_leaps.specs.declared.pair.LeapPair.{LeapPair}
use Rattle.st_leaps.proofs.CountLaws.{last_in_range}
use Rattle.st_leaps.proofs.count.count_on.Goals as goal

pub returns-in-Some-clause-to : goal.returns-in-Some-clause-to
returns-in-Some-clause-to c =
    let P : Option LeapPair → Type 0 = λ o. IfSome o (λ p. p.count ≤ 1000) in
    let most : c.in-Some.pair.count ≤ 1000 = subst P (sym c.last_pair.ensures ∙ c.in-Some.is) (last_in_range c.args.pairs.now _ c.requires.in_range) in
    omega (arith, ints, c.from.ensures)
