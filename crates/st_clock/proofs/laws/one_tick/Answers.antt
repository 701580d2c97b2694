use Rattle.st_clock.proofs.Falls.{tick_rises, tick_is_one, tick_is_found, tick_between}
use Rattle.st_clock.proofs.laws.one_tick.Goals as goal

pub returns-clause-rises : goal.returns-clause-rises
returns-clause-rises c = tick_rises

pub returns-clause-one : goal.returns-clause-one
returns-clause-one c = tick_is_one

pub returns-clause-found : goal.returns-clause-found
returns-clause-found c = tick_is_found

pub returns-clause-between : goal.returns-clause-between
returns-clause-between c = tick_between
