use Rattle.st_clock.proofs.AnswerLaws.{each_has_answer}
use Rattle.st_clock.proofs.laws.each_has_answer.Goals as goal

pub returns : goal.returns
returns c = each_has_answer
