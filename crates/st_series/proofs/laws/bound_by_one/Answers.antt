use Rattle.st_series.proofs.BoundByOne.{sine_bound, cosine_bound}
use Rattle.st_series.proofs.laws.bound_by_one.Goals as goal

pub returns-clause-sine : goal.returns-clause-sine
returns-clause-sine c = sine_bound

pub returns-clause-cosine : goal.returns-clause-cosine
returns-clause-cosine c = cosine_bound
