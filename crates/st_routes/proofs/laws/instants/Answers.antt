use Rattle.st_routes.proofs.Instants.{each_gives, one_instant}
use Rattle.st_routes.proofs.laws.instants.Goals as goal

pub returns-clause-found : goal.returns-clause-found
returns-clause-found c = each_gives c.each_has_answer.ensures

pub returns-clause-one : goal.returns-clause-one
returns-clause-one c = one_instant c.one_answer.ensures
