use Rattle.std.proofs.Common.{◌≡◌, rules, Ok, Err, ◌∙◌}
use Rattle.st_routes.specs.FaultSteps.{of_range}
use Rattle.st_routes.proofs.Faults.{one_time}
use Rattle.st_routes.proofs.Values.{source_of_range}
use Rattle.st_routes.proofs.ticks.tick_time.Goals as goal

pub returns-in_err-time_of-clause-only : goal.returns-in_err-time_of-clause-only
returns-in_err-time_of-clause-only c answer g =
    let e : c.from_residual.result ≡ Err (of_range c.in_err-time_of.field-0.0) = search rules in
    e ∙ one_time c.args.clock.now c.args.tick (Err c.in_err-time_of.field-0.0) c.in_err-time_of.ensures.only answer g

pub returns-clause-only : goal.returns-clause-only
returns-clause-only c answer g = one_time c.args.clock.now c.args.tick (Ok c.in_ok-time_of.field-0) c.in_ok-time_of.ensures.only answer g

pub returns-clause-range : goal.returns-clause-range
returns-clause-range c = source_of_range c.in_ok-time_of.field-0 c.in_ok-time_of.ensures.gives.1.1.0 c.in_ok-time_of.ensures.gives.1.0
