use Rattle.st_routes.proofs.Numbers.{each_gives_tick, one_tick}
use Rattle.st_routes.proofs.laws.ticks.Goals as goal

pub returns-clause-found : goal.returns-clause-found
returns-clause-found c = each_gives_tick c.reading.ensures.found

pub returns-clause-one : goal.returns-clause-one
returns-clause-one c = one_tick c.reading.ensures.one
