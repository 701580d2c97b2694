use Rattle.st_picture.proofs.PrintLaws.{one_text_of_value}
use Rattle.st_picture.proofs.laws.one_text_of_value.Goals as goal

pub returns : goal.returns
returns c = one_text_of_value
