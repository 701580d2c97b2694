use Rattle.st_enclosure.proofs.Exact.{product_contains, product_is_exact, scaled_is_exact}
use Rattle.st_enclosure.proofs.laws.products.Goals as goal

pub returns-clause-contain : goal.returns-clause-contain
returns-clause-contain c = product_contains

pub returns-clause-exact : goal.returns-clause-exact
returns-clause-exact c = product_is_exact

pub returns-clause-scaled : goal.returns-clause-scaled
returns-clause-scaled c = scaled_is_exact
