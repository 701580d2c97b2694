use Rattle.st_scales.proofs.Returns.{route_returns}
use Rattle.st_scales.proofs.laws.way_back.Goals as goal

pub returns : goal.returns
returns c = record { returns = route_returns }
