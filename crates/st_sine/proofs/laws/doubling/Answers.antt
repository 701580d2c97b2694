use Rattle.st_sine.proofs.Added.{has_sine_added, has_cosine_added}
use Rattle.st_sine.proofs.laws.doubling.Goals as goal

pub returns-clause-sine : goal.returns-clause-sine
returns-clause-sine c z sl sh cl ch lo hi so co se ce hs hc contains = has_sine_added z z sl sh cl ch sl sh cl ch lo hi so co so co se ce se ce hs hc hs hc contains

pub returns-clause-cosine : goal.returns-clause-cosine
returns-clause-cosine c z sl sh cl ch lo hi so co se ce hs hc contains = has_cosine_added z z sl sh cl ch sl sh cl ch lo hi so co so co se ce se ce hs hc hs hc contains
