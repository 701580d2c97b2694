use Rattle.st_series.proofs.Narrow.{long_exists, sine_narrow, cosine_narrow, sine_agrees, cosine_agrees}
use Rattle.st_series.proofs.laws.one_value.Goals as goal

pub returns-clause-long_enough_exists : goal.returns-clause-long_enough_exists
returns-clause-long_enough_exists c = long_exists

pub returns-clause-sine_narrow : goal.returns-clause-sine_narrow
returns-clause-sine_narrow c = sine_narrow

pub returns-clause-cosine_narrow : goal.returns-clause-cosine_narrow
returns-clause-cosine_narrow c = cosine_narrow

pub returns-clause-sine_agrees : goal.returns-clause-sine_agrees
returns-clause-sine_agrees c = sine_agrees

pub returns-clause-cosine_agrees : goal.returns-clause-cosine_agrees
returns-clause-cosine_agrees c = cosine_agrees
