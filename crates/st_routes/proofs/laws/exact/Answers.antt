use Rattle.std.proofs.Common.{rules}
use Rattle.st_routes.specs.Laws.{ExactIsDecided}
use Rattle.st_routes.proofs.Outcomes.{outcome_is_exact}
use Rattle.st_routes.proofs.Texts.{exact_is_one}
use Rattle.st_routes.proofs.laws.exact.Goals as goal

pub returns-clause-outcome : goal.returns-clause-outcome
returns-clause-outcome c = outcome_is_exact c.known.ensures

pub returns-clause-one : goal.returns-clause-one
returns-clause-one c = let decided : ExactIsDecided = search rules in exact_is_one decided c.known.ensures
