use Rattle.st_words.proofs.OneAnswer as answers
use Rattle.st_words.proofs.laws.one_answer.Goals as goal

pub returns : goal.returns
returns c = answers.one_answer
