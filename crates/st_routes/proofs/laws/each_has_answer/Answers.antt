use Rattle.st_routes.proofs.Texts.{each_has_answer}
use Rattle.st_routes.proofs.laws.each_has_answer.Goals as goal

pub returns : goal.returns
returns c = each_has_answer c.known.ensures
