use Rattle.std.proofs.Common.{option_map, ap}
use Rattle.st_answers.specs.AskedSteps.{shown}
use Rattle.st_answers.proofs.LentSteps.{tick-refused, tick-timed}
use Rattle.st_answers.proofs.source.read_clock_time.Goals as goal

pub returns-in_err-read_tick-in-Some-clause-gives : goal.returns-in_err-read_tick-in-Some-clause-gives
returns-in_err-read_tick-in-Some-clause-gives c =
    tick-refused c.args.form c.args.text.now (shown c.args.tables.now) c.in-Some.clock.now c.in_err-read_tick-in-Some.field-0.0 _
    (ap (option_map (λ x. x.now)) c.in-Some.is) c.from_residual.ensures.1 c.in_err-read_tick-in-Some.ensures.gives

pub returns-clause-gives : goal.returns-clause-gives
returns-clause-gives c =
    tick-timed c.args.form c.args.text.now (shown c.args.tables.now) c.in-Some.clock.now _ c.tick_time.result
    (ap (option_map (λ x. x.now)) c.in-Some.is) c.in_ok-read_tick-in-Some.ensures.gives c.tick_time.ensures.gives
