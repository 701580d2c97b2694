use Rattle.st_picture.proofs.CellLaws.{one_cell}
use Rattle.st_picture.proofs.laws.one_cell.Goals as goal

pub returns : goal.returns
returns c = one_cell
