use Rattle.st_answers.specs.AskedSteps.{shown}
use Rattle.st_answers.proofs.LentSteps.{source-refused}
use Rattle.st_answers.proofs.Sourced.{converted}
use Rattle.st_answers.proofs.answer.convert.Goals as goal

pub returns-in_err-time : goal.returns-in_err-time
returns-in_err-time c =
    source-refused c.args.job.now c.args.text.now (shown c.args.tables.now) c.in_err-time.field-0.0 c.from_residual.result c.from_residual.ensures.1 c.in_err-time.ensures.gives

pub returns : goal.returns
returns c =
    converted c.args.job.now (shown c.args.tables.now) c.args.text.now c.in_ok-time.time c.route_of-route.result c.print.result c.in_ok-time.ensures.gives
    c.route_of-route.ensures c.print.ensures
