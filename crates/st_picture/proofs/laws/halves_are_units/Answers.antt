use Rattle.st_picture.proofs.FloorLaws.{halves_are_units}
use Rattle.st_picture.proofs.laws.halves_are_units.Goals as goal

pub returns : goal.returns
returns c = halves_are_units
