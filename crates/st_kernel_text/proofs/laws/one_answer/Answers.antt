use Rattle.st_kernel_text.proofs.FileAnswers.{one-answer}
use Rattle.st_kernel_text.proofs.laws.one_answer.Goals as goal

pub returns : goal.returns
returns c = one-answer
