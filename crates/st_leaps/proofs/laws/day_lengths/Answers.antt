use Rattle.st_leaps.proofs.Lengths.{day_lengths}
use Rattle.st_leaps.proofs.laws.day_lengths.Goals as goal

pub returns : goal.returns
returns c = day_lengths
