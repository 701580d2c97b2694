use Rattle.st_picture.proofs.TextLaws.{cells_are_of_unit}
use Rattle.st_picture.proofs.laws.cells_are_of_unit.Goals as goal

pub returns : goal.returns
returns c = cells_are_of_unit
