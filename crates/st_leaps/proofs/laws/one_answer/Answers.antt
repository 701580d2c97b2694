use Rattle.st_leaps.proofs.AnswerLaws.{one_answer}
use Rattle.st_leaps.proofs.laws.one_answer.Goals as goal

pub returns : goal.returns
returns c = one_answer
