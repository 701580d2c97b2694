use Rattle.st_words.proofs.EachHasAnswer.{each_answer}
use Rattle.st_words.proofs.laws.each_has_answer.Goals as goal

pub returns : goal.returns
returns c = each_answer
