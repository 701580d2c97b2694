use Rattle.std.proofs.Common.{length}
use Rattle.st_ticks.proofs.numbers.+small_product.Given as goal

abbrev pub decreases-small_product : goal.decreases-small_product
decreases-small_product l = length l.moduli.now
