use Rattle.std.proofs.Common.{option_map, ap}
use Rattle.st_answers.specs.AskedSteps.{shown}
use Rattle.st_answers.proofs.Sides.{route-is}
use Rattle.st_answers.proofs.target.route_of.Goals as goal

pub returns : goal.returns
returns c =
    route-is c.args.job.now (shown c.args.tables.now) c.in-Some.constants.now c.clock_scale-clock.result _ _ c.requires.clock (ap (option_map (λ x. x.now)) c.in-Some.is)
    c.clock_scale-clock.ensures c.scale_of.ensures c.scale_of-2.ensures
