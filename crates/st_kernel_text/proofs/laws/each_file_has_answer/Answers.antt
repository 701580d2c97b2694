use Rattle.st_kernel_text.proofs.FileAnswers.{each-file-has-answer}
use Rattle.st_kernel_text.proofs.laws.each_file_has_answer.Goals as goal

pub returns : goal.returns
returns c = each-file-has-answer
