use Rattle.std.proofs.Common.{length}
use Rattle.st_ticks.proofs.RuleLaws.{as_many, as_many_back}
use Rattle.st_ticks.proofs.numbers.are_as_many.Goals as goal

pub returns : goal.returns
returns c =
    let n = length c.args.values.now in
    (λ t. as_many n c.args.n_fields.now (c.are_from.ensures.0 t), λ h. c.are_from.ensures.1 (as_many_back n c.args.n_fields.now h))
