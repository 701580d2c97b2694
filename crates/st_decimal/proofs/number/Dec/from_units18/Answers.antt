use Rattle.std.proofs.Common.{rules, ap, subst, sym, ◌∙◌}
use Rattle.std.proofs.lemmas.Int.{to_z-of_z}
use Rattle.std.specs.Int.{w128}
use Rattle.st_decimal.specs.declared.number.Dec.{Dec}
use Rattle.st_decimal.specs.Scaling.{IsUnits18}
use Rattle.st_decimal.specs.ScalingMachine.{dec_of_units18}
use Rattle.st_decimal.specs.Value.{IsOfUnits18}
use Rattle.st_decimal.proofs.Scaled.{one_scaled}
use Rattle.st_decimal.proofs.Stripped.{of_units_is, counted}
use Rattle.st_decimal.proofs.number.Dec.from_units18.Goals as goal

pub returns-clause-value : goal.returns-clause-value
returns-clause-value c =
    let found = c.from_units.ensures ∙ ap dec_of_units18 (to_z-of_z w128 c.args.units (search rules)) in
    subst (λ (d : Dec). IsOfUnits18 c.args.units d) (sym found) (of_units_is c.args.units c.requires)

pub returns-clause-units : goal.returns-clause-units
returns-clause-units c =
    let found = c.from_units.ensures ∙ ap dec_of_units18 (to_z-of_z w128 c.args.units (search rules)) in
    let dec = dec_of_units18 c.args.units in
    subst (λ (d : Dec). IsUnits18 d c.args.units) (sym found) (record { value = counted c.args.units dec (of_units_is c.args.units c.requires); below = c.requires })

pub returns-clause-only : goal.returns-clause-only
returns-clause-only c = λ d is.
    c.from_units.ensures
    ∙ ap dec_of_units18 (to_z-of_z w128 c.args.units (search rules))
    ∙ one_scaled _ _ _ _ d (of_units_is c.args.units c.requires) is
