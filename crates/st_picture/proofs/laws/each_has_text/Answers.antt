use Rattle.st_picture.proofs.HasTexts.{each_has_text}
use Rattle.st_picture.proofs.laws.each_has_text.Goals as goal

pub returns : goal.returns
returns c = each_has_text
