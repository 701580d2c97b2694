use Rattle.st_picture.proofs.CellLaws.{never_falls}
use Rattle.st_picture.proofs.laws.cells_never_fall.Goals as goal

pub returns : goal.returns
returns c = never_falls
