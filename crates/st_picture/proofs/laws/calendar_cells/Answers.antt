use Rattle.st_picture.proofs.DefaultLaws.{calendar_cells}
use Rattle.st_picture.proofs.laws.calendar_cells.Goals as goal

pub returns : goal.returns
returns c = calendar_cells
