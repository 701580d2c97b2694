use Rattle.st_answers.proofs.AnswerLaws.{one-exact-answer}
use Rattle.st_answers.proofs.laws.one_exact_answer.Goals as goal

pub returns : goal.returns
returns c = one-exact-answer
