-- The laws of answers.
use Rattle.st_answers.specs.Laws.{EachJobIsTold, EachTextHasAnswer, ExactIsDecided, OneDecidedAnswer, OneExactAnswer, UndecidedHasASine}
use Rattle.st_answers.proofs.Answered.{each-has-answer}
use Rattle.st_answers.proofs.OneAnswer.{one-decided, one-exact}
use Rattle.st_answers.proofs.ToldTables.{job-is-told}
use Rattle.st_answers.proofs.Undecided.{exact-decided, undecided-sine}

pub each-job-is-told : EachJobIsTold
each-job-is-told = job-is-told

pub each-text-has-answer : EachTextHasAnswer
each-text-has-answer = each-has-answer

pub one-decided-answer : OneDecidedAnswer
one-decided-answer = one-decided

pub undecided-has-a-sine : UndecidedHasASine
undecided-has-a-sine = undecided-sine

pub exact-is-decided : ExactIsDecided
exact-is-decided = exact-decided

pub one-exact-answer : OneExactAnswer
one-exact-answer = one-exact
