use Rattle.st_series.proofs.PartialSums.{sine_over_one, cosine_over_one, at_zero, at_one}
use Rattle.st_series.proofs.laws.partial_sums.Goals as goal

pub returns-clause-sine_over_one : goal.returns-clause-sine_over_one
returns-clause-sine_over_one c = sine_over_one

pub returns-clause-cosine_over_one : goal.returns-clause-cosine_over_one
returns-clause-cosine_over_one c = cosine_over_one

pub returns-clause-at_zero : goal.returns-clause-at_zero
returns-clause-at_zero c = at_zero

pub returns-clause-at_one : goal.returns-clause-at_one
returns-clause-at_one c = at_one
