use Rattle.st_clock.proofs.Half.{tick_within_half, tick_within_quarter}
use Rattle.st_clock.proofs.laws.near_tick.Goals as goal

pub returns-clause-half : goal.returns-clause-half
returns-clause-half c = tick_within_half

pub returns-clause-quarter : goal.returns-clause-quarter
returns-clause-quarter c = tick_within_quarter
