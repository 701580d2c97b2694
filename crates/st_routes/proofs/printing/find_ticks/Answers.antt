use Rattle.std.proofs.Common.{◌≡◌, ◌+ℤ◌, refl, rules, ap, sym, ◌∙◌}
use Rattle.st_fraction.specs.Fraction.{LiesWithin, units}
use Rattle.st_routes.specs.Route.{HasNoSineOnIt, shift}
use Rattle.st_routes.proofs.Printed.{ticks_print, ticks_undecided}
use Rattle.st_routes.proofs.printing.find_ticks.Goals as goal

pub returns-in-Ok-clause-found : goal.returns-in-Ok-clause-found
returns-in-Ok-clause-found c =
    let value = c.enclose-value.result in
    let inside : LiesWithin c.point.result.lo c.point.result.hi (units c.args.time) = search rules in
    ticks_print c.args.route.now (units c.args.time) c.args.clock.now c.args.form value.lo value.hi c.in-Ok.ticks
    (c.enclose-value.ensures.at_least (units c.args.time) (search rules) inside) (c.enclose-value.ensures.at_most (units c.args.time) (search rules) inside)
    c.in-Ok.ensures.gives

pub returns-in-Err-clause-undecided : goal.returns-in-Err-clause-undecided
returns-in-Err-clause-undecided c =
    let value = c.enclose-value.result in
    let inside : LiesWithin c.point.result.lo c.point.result.hi (units c.args.time) = search rules in
    let point : c.point.result.lo ≡ c.point.result.hi = c.point.ensures.low ∙ sym c.point.ensures.high in
    let exact = λ (none : HasNoSineOnIt c.args.route.now). c.enclose-value.ensures.exact none in (
      refl,
      ticks_undecided c.one_tick.ensures.one c.args.route.now (units c.args.time) c.args.clock.now c.args.form value.lo value.hi c.in-Err.field-0 c.scale-scale.ensures.clock
          (c.enclose-value.ensures.at_least (units c.args.time) (search rules) inside) (c.enclose-value.ensures.at_most (units c.args.time) (search rules) inside)
          value.ordered c.enclose-value.ensures.narrow
          (λ none. (exact none).0 ∙ ap (λ z. z +ℤ shift c.args.route.now) point ∙ sym (exact none).1) c.in-Err.ensures.gives,
    )
