use Rattle.st_clock.proofs.Rising.{time_is_one, steps_rise}
use Rattle.st_clock.proofs.ClockLaws.{parts_give_clock}
use Rattle.st_clock.proofs.laws.records.Goals as goal

pub returns-clause-time : goal.returns-clause-time
returns-clause-time c = time_is_one

pub returns-clause-steps : goal.returns-clause-steps
returns-clause-steps c = steps_rise

pub returns-clause-clock : goal.returns-clause-clock
returns-clause-clock c = parts_give_clock
