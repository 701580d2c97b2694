use Rattle.st_scales.proofs.AnswerLaws.{each_has_answer}
use Rattle.st_scales.proofs.laws.each_has_answer.Goals as goal

pub returns : goal.returns
returns c = each_has_answer
