use Rattle.st_sine.proofs.Carried.{has_sine_near}
use Rattle.st_sine.proofs.laws.nearness.Goals as goal

pub returns : goal.returns
returns c = has_sine_near
