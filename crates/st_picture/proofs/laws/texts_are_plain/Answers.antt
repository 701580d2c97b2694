use Rattle.st_picture.proofs.PlainTexts.{texts_are_plain}
use Rattle.st_picture.proofs.laws.texts_are_plain.Goals as goal

pub returns : goal.returns
returns c = texts_are_plain
