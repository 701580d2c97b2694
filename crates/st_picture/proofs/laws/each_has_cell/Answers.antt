use Rattle.st_picture.proofs.CellLaws.{each_has_cell}
use Rattle.st_picture.proofs.laws.each_has_cell.Goals as goal

pub returns : goal.returns
returns c = each_has_cell
