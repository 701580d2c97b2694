use Rattle.st_routes.proofs.Outcomes.{one_outcome}
use Rattle.st_routes.proofs.Texts.{one_answer}
use Rattle.st_routes.proofs.laws.one_outcome.Goals as goal

pub returns-clause-outcome : goal.returns-clause-outcome
returns-clause-outcome c = one_outcome c.known.ensures

pub returns-clause-answer : goal.returns-clause-answer
returns-clause-answer c = one_answer c.known.ensures
