use Rattle.st_series.proofs.Addition.{sine_addition, cosine_addition}
use Rattle.st_series.proofs.laws.addition.Goals as goal

pub returns-clause-sine : goal.returns-clause-sine
returns-clause-sine c = sine_addition

pub returns-clause-cosine : goal.returns-clause-cosine
returns-clause-cosine c = cosine_addition
