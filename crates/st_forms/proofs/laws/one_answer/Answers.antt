use Rattle.st_forms.proofs.AnswerLaws.{one_answer}
use Rattle.st_forms.proofs.laws.one_answer.Goals as goal

pub returns : goal.returns
returns c = one_answer
