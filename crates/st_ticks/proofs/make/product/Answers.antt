use Rattle.std.proofs.Common.{arith}
use Rattle.st_ticks.proofs.MakingLaws.{product_fits}
use Rattle.st_ticks.proofs.make.product.Goals as goal

pub overflow_mul-product : goal.overflow_mul-product
overflow_mul-product c = omega (arith, product_fits c.args.fields.now c.loop-field.field-index c.loop-field.product c.requires.fields (omega arith) c.loop-field.invariant c.requires.small)
