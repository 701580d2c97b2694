use Rattle.std.proofs.Common.{◌∙◌}
use Rattle.st_dates.proofs.ClockCuts.{spelled, only}
use Rattle.st_dates.proofs.clock.read_clock.Goals as goal

pub returns-clause-reads : goal.returns-clause-reads
returns-clause-reads c = spelled c.args.last_second c.args.text.now c.find_time.result c.find_time.ensures.value

pub returns-clause-only : goal.returns-clause-only
returns-clause-only c = λ time h. c.find_time.ensures.value ∙ only c.args.last_second c.args.text.now time h
