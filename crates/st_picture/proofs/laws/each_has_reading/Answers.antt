use Rattle.st_picture.proofs.PlainTexts.{each_has_reading}
use Rattle.st_picture.proofs.laws.each_has_reading.Goals as goal

pub returns : goal.returns
returns c = each_has_reading
