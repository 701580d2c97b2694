use Rattle.st_series.proofs.Lipschitz.{sine_lipschitz, cosine_lipschitz}
use Rattle.st_series.proofs.laws.lipschitz.Goals as goal

pub returns-clause-sine : goal.returns-clause-sine
returns-clause-sine c = sine_lipschitz

pub returns-clause-cosine : goal.returns-clause-cosine
returns-clause-cosine c = cosine_lipschitz
