use Rattle.std.proofs.Common.{ℤ, FitsSigned, to_z-of_z, option_map, ap, subst, arith}
use Rattle.std.proofs.lemmas.Int.{ints}
use Rattle.std.specs.Int.{w128}
use Rattle.st_fraction.specs.Fraction.{units}
use Rattle.st_routes.specs.Outcome.{RouteGives, by_clock}
use Rattle.st_answers.proofs.target.print_clock.Goals as goal

pub returns : goal.returns
returns c =
    let fits : FitsSigned w128 c.args.units = omega (arith, ints, c.requires.range.0, c.requires.range.1) in
    let P : ℤ → Type 0 = λ z. RouteGives c.args.route.now (units z) (by_clock c.in-Some.clock.now c.args.form) c.print_tick.result in
    (c.in-Some.clock.now, ap (option_map (λ x. x.now)) c.in-Some.is, subst P (to_z-of_z fits) c.print_tick.ensures.gives)
