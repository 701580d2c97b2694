use Rattle.std.proofs.lemmas.Int.{to_z-of_z}
use Rattle.std.proofs.lemmas.Result.{IfOk-weaker}
use Rattle.st_fit.proofs.Uniques.{fit_is_one}
use Rattle.st_fit.proofs.fitting.fit.Goals as goal

pub returns-clause-only : goal.returns-clause-only
returns-clause-only c answer h =
    let t = c.ranges.tolerance in
    IfOk-weaker _ _ _ (λ records f. fit_is_one _ _ _ _ f h) (simp to_z-of_z at c.fit_to.ensures)
