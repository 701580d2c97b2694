use Rattle.std.proofs.Common.{ℤ, FitsSigned, subst, w32, to_z-of_z}
use Rattle.st_dates.specs.Civil.{IsCivil}
use Rattle.st_dates.proofs.CivilLaws.{one_civil}
use Rattle.st_dates.proofs.civil.civil_of.Goals as goal

pub returns-clause-only : goal.returns-clause-only
returns-clause-only c =
    let fits : FitsSigned w32 c.args.day = c.ranges.day in
    λ civil h. one_civil c.args.day c.parts_of.result civil (subst (λ (n : ℤ). IsCivil n c.parts_of.result) (to_z-of_z fits) c.parts_of.ensures) h
