use Rattle.st_series.proofs.Sandwich.{sine_sandwich, cosine_sandwich, stays_long, sine_in_order, cosine_in_order}
use Rattle.st_series.proofs.Vanish.{vanishing}
use Rattle.st_series.proofs.laws.sandwich.Goals as goal

pub returns-clause-sine : goal.returns-clause-sine
returns-clause-sine c = sine_sandwich

pub returns-clause-cosine : goal.returns-clause-cosine
returns-clause-cosine c = cosine_sandwich

pub returns-clause-stays : goal.returns-clause-stays
returns-clause-stays c = stays_long

pub returns-clause-sine_in_order : goal.returns-clause-sine_in_order
returns-clause-sine_in_order c = sine_in_order

pub returns-clause-cosine_in_order : goal.returns-clause-cosine_in_order
returns-clause-cosine_in_order c = cosine_in_order

pub returns-clause-vanishing : goal.returns-clause-vanishing
returns-clause-vanishing c = vanishing
