use Rattle.st_clock.proofs.Returns.{tick_returns, way_back_is_decided}
use Rattle.st_clock.proofs.laws.way_back.Goals as goal

pub returns-clause-returns : goal.returns-clause-returns
returns-clause-returns c = tick_returns

pub returns-clause-decided : goal.returns-clause-decided
returns-clause-decided c = way_back_is_decided
