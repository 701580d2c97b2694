use Rattle.st_picture.proofs.CellLaws.{cell_between}
use Rattle.st_picture.proofs.laws.cell_between.Goals as goal

pub returns : goal.returns
returns c = cell_between
