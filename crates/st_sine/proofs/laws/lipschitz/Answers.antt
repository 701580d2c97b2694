use Rattle.st_sine.proofs.Moves.{anomaly_lipschitz, anomaly_moves}
use Rattle.st_sine.proofs.laws.lipschitz.Goals as goal

pub returns-clause-lipschitz : goal.returns-clause-lipschitz
returns-clause-lipschitz c = anomaly_lipschitz

pub returns-clause-moves : goal.returns-clause-moves
returns-clause-moves c = anomaly_moves
