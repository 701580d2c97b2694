use Rattle.st_picture.proofs.TextLaws.{one_text}
use Rattle.st_picture.proofs.laws.one_text.Goals as goal

pub returns : goal.returns
returns c = one_text
