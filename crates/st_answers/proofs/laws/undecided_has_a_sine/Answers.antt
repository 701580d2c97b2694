use Rattle.st_answers.proofs.AnswerLaws.{undecided-has-a-sine}
use Rattle.st_answers.proofs.laws.undecided_has_a_sine.Goals as goal

pub returns : goal.returns
returns c = undecided-has-a-sine
