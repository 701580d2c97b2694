use Rattle.st_ticks.proofs.FoundLaws.{each_has_answer}
use Rattle.st_ticks.proofs.laws.each_has_answer.Goals as goal

pub returns : goal.returns
returns c = each_has_answer
