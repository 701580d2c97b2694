use Rattle.st_answers.proofs.AnswerLaws.{exact-is-decided}
use Rattle.st_answers.proofs.laws.exact_is_decided.Goals as goal

pub returns : goal.returns
returns c = exact-is-decided
