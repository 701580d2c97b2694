use Rattle.std.proofs.Common.{option_map, ap}
use Rattle.st_answers.specs.AskedSteps.{shown}
use Rattle.st_answers.proofs.LentSteps.{clock-scale, no-clock-scale}
use Rattle.st_answers.proofs.target.clock_scale.Goals as goal

pub returns-in-Some : goal.returns-in-Some
returns-in-Some c = clock-scale (shown c.args.tables.now) c.in-Some.clock.now _ (ap (option_map (λ x. x.now)) c.in-Some.is) c.scale.ensures.value

pub returns-in-None : goal.returns-in-None
returns-in-None c = no-clock-scale (shown c.args.tables.now) _ (ap (option_map (λ x. x.now)) c.in-None.is)
