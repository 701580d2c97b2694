use Rattle.st_answers.proofs.AnswerLaws.{one-decided-answer}
use Rattle.st_answers.proofs.laws.one_decided_answer.Goals as goal

pub returns : goal.returns
returns c = one-decided-answer
