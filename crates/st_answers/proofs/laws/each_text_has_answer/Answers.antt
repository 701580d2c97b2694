use Rattle.st_answers.proofs.AnswerLaws.{each-text-has-answer}
use Rattle.st_answers.proofs.laws.each_text_has_answer.Goals as goal

pub returns : goal.returns
returns c = each-text-has-answer
