use Rattle.std.proofs.Common.{arith}
use Rattle.std.proofs.lemmas.Grind.{common_steps}
use Rattle.std.proofs.lemmas.Iterator.Consumers.{YieldsList-from_first, nth_from_yields_List}
use Rattle.std.proofs.lemmas.Option.{gets}
use Rattle.st_pool.proofs.pool.Pool.value.Goals as goal

pub returns-clause-value : goal.returns-clause-value
returns-clause-value c =
    nth_from_yields_List _ _ c.args.i c.nth.ensures.ran (YieldsList-from_first (λ x. x.now) (λ values. values) _ c.values.ensures.values)

pub returns-clause-none : goal.returns-clause-none
returns-clause-none c = grind (arith, common_steps, gets, returns-clause-value c)
