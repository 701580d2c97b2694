use Rattle.std.proofs.Common.{◌∙◌, ap}
use Rattle.std.proofs.lemmas.Int.{to_z-of_z}
use Rattle.std.specs.Int.{w32}
use Rattle.st_leaps.specs.Table.{last_pair}
use Rattle.st_leaps.proofs.CountLaws.{last_is, last_is_none}
use Rattle.st_leaps.proofs.count.last_pair.Goals as goal

pub returns-then-until-eq0 : goal.returns-then-until-eq0
returns-then-until-eq0 c =
    last_is_none c.args.pairs.now _ c.pairs_until-until.result c.pairs_until-until.ensures.point c.if-until-eq0.true
    ∙ ap (λ d. last_pair c.args.pairs.now d) (to_z-of_z w32 c.args.day c.ranges.day)

pub returns : goal.returns
returns c =
    last_is c.args.pairs.now _ c.pairs_until-until.result _ c.pairs_until-until.ensures.bound c.pairs_until-until.ensures.point c.if-until-eq0.false
    ∙ ap (λ d. last_pair c.args.pairs.now d) (to_z-of_z w32 c.args.day c.ranges.day)
