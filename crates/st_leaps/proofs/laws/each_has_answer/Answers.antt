use Rattle.st_leaps.proofs.AnswerLaws.{each_has_answer}
use Rattle.st_leaps.proofs.laws.each_has_answer.Goals as goal

pub returns : goal.returns
returns c = each_has_answer
