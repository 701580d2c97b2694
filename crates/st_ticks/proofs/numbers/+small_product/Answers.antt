use Rattle.std.proofs.Common.{◌*◌}
use Rattle.st_ticks.proofs.RuleLaws.{none_rest, some_rest, large_rest}
use Rattle.st_ticks.proofs.numbers.+small_product.Goals as goal

pub returns-in_err-small_product-in-len1-up-clause-none : goal.returns-in_err-small_product-in-len1-up-clause-none
returns-in_err-small_product-in-len1-up-clause-none t c =
    let none = none_rest c.args.moduli.now c.in-len1-up.len_at_least c.in_err-small_product-in-len1-up.ensures.none in
    rw c.from_residual-in_err-small_product-in-len1-up.ensures none

pub returns-then-product-le-MOST_TICKS-clause-some : goal.returns-then-product-le-MOST_TICKS-clause-some
returns-then-product-le-MOST_TICKS-clause-some t c =
    some_rest c.args.moduli.now c.in_ok-modulus-in-len1-up.modulus c.in_ok-small_product-in-len1-up.field-0 c.from.result c.from-in-len1-up.result c.in-len1-up.len_at_least
    c.in_ok-modulus-in-len1-up.ensures.some c.in_ok-modulus-in-len1-up.ensures.low c.in_ok-modulus-in-len1-up.ensures.high c.from.ensures c.from-in-len1-up.ensures
    c.in_ok-small_product-in-len1-up.ensures.some

pub returns-else-product-le-MOST_TICKS-clause-none : goal.returns-else-product-le-MOST_TICKS-clause-none
returns-else-product-le-MOST_TICKS-clause-none t c =
    large_rest c.args.moduli.now (c.from.result * c.from-in-len1-up.result)
    (some_rest c.args.moduli.now c.in_ok-modulus-in-len1-up.modulus c.in_ok-small_product-in-len1-up.field-0 c.from.result c.from-in-len1-up.result c.in-len1-up.len_at_least
    c.in_ok-modulus-in-len1-up.ensures.some c.in_ok-modulus-in-len1-up.ensures.low c.in_ok-modulus-in-len1-up.ensures.high c.from.ensures c.from-in-len1-up.ensures
    c.in_ok-small_product-in-len1-up.ensures.some) c.if-product-le-MOST_TICKS.false
