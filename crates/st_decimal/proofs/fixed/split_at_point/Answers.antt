use Rattle.std.proofs.Common.{arith}
use Rattle.st_decimal.proofs.FixedDecimals.{power_some}
use Rattle.st_decimal.proofs.fixed.split_at_point.Goals as goal

pub nonzero_div-short : goal.nonzero_div-short
nonzero_div-short c = omega (arith, power_some c.args.places)

pub nonzero_rem-short : goal.nonzero_rem-short
nonzero_rem-short c = omega (arith, power_some c.args.places)

pub nonzero_div-result : goal.nonzero_div-result
nonzero_div-result c = omega (arith, power_some c.args.places)

pub nonzero_rem-result : goal.nonzero_rem-result
nonzero_rem-result c = omega (arith, power_some c.args.places)
