use Rattle.st_picture.proofs.FloorLaws.{cell_of_floor}
use Rattle.st_picture.proofs.laws.cell_of_floor.Goals as goal

pub returns : goal.returns
returns c = cell_of_floor
