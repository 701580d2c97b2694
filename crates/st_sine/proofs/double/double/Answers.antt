use Rattle.std.proofs.Common.{arith}
use Rattle.std.proofs.lemmas.Int.{ints}
use Rattle.st_sine.proofs.Added.{has_sine_added, has_cosine_added, product_turned}
use Rattle.st_sine.proofs.Widths.{product_ends_low, product_ends_high, product_width}
use Rattle.st_sine.proofs.double.double.Goals as goal

pub add-requires-clause-ends : goal.add-requires-clause-ends
add-requires-clause-ends c =
    let l = c.mul_unit-product.ensures.tight_low in
    let u = c.mul_unit-product.ensures.tight_high in
    let low = product_ends_low c.args.sine.lo c.args.sine.hi c.args.cosine.lo c.args.cosine.hi l.0 c.mul_unit-product.result.lo c.args.sine.ordered c.args.cosine.ordered c.requires.sine_ends c.requires.cosine_ends l.1.0 l.1.1 in
    let high = product_ends_high c.args.sine.lo c.args.sine.hi c.args.cosine.lo c.args.cosine.hi u.0 c.mul_unit-product.result.hi c.args.sine.ordered c.args.cosine.ordered c.requires.sine_ends c.requires.cosine_ends u.1.0 u.1.1 in
    record { low = omega (arith, ints); high = omega (arith, ints) }

pub add-requires-clause-other_ends : goal.add-requires-clause-other_ends
add-requires-clause-other_ends c =
    let l = c.mul_unit-product.ensures.tight_low in
    let u = c.mul_unit-product.ensures.tight_high in
    let low = product_ends_low c.args.sine.lo c.args.sine.hi c.args.cosine.lo c.args.cosine.hi l.0 c.mul_unit-product.result.lo c.args.sine.ordered c.args.cosine.ordered c.requires.sine_ends c.requires.cosine_ends l.1.0 l.1.1 in
    let high = product_ends_high c.args.sine.lo c.args.sine.hi c.args.cosine.lo c.args.cosine.hi u.0 c.mul_unit-product.result.hi c.args.sine.ordered c.args.cosine.ordered c.requires.sine_ends c.requires.cosine_ends u.1.0 u.1.1 in
    record { low = omega (arith, ints); high = omega (arith, ints) }

pub sub-requires-clause-ends : goal.sub-requires-clause-ends
sub-requires-clause-ends c =
    let l = c.mul_unit-cosine_square.ensures.tight_low in
    let u = c.mul_unit-cosine_square.ensures.tight_high in
    let low = product_ends_low c.args.cosine.lo c.args.cosine.hi c.args.cosine.lo c.args.cosine.hi l.0 c.mul_unit-cosine_square.result.lo c.args.cosine.ordered c.args.cosine.ordered c.requires.cosine_ends c.requires.cosine_ends l.1.0 l.1.1 in
    let high = product_ends_high c.args.cosine.lo c.args.cosine.hi c.args.cosine.lo c.args.cosine.hi u.0 c.mul_unit-cosine_square.result.hi c.args.cosine.ordered c.args.cosine.ordered c.requires.cosine_ends c.requires.cosine_ends u.1.0 u.1.1 in
    record { low = omega (arith, ints); high = omega (arith, ints) }

pub sub-requires-clause-other_ends : goal.sub-requires-clause-other_ends
sub-requires-clause-other_ends c =
    let l = c.mul_unit-sine_square.ensures.tight_low in
    let u = c.mul_unit-sine_square.ensures.tight_high in
    let low = product_ends_low c.args.sine.lo c.args.sine.hi c.args.sine.lo c.args.sine.hi l.0 c.mul_unit-sine_square.result.lo c.args.sine.ordered c.args.sine.ordered c.requires.sine_ends c.requires.sine_ends l.1.0 l.1.1 in
    let high = product_ends_high c.args.sine.lo c.args.sine.hi c.args.sine.lo c.args.sine.hi u.0 c.mul_unit-sine_square.result.hi c.args.sine.ordered c.args.sine.ordered c.requires.sine_ends c.requires.sine_ends u.1.0 u.1.1 in
    record { low = omega (arith, ints); high = omega (arith, ints) }

pub returns-clause-sine : goal.returns-clause-sine
returns-clause-sine c z hs hc =
    let so = c.args.sine.ordered in
    let co = c.args.cosine.ordered in
    let se = c.requires.sine_ends in
    let ce = c.requires.cosine_ends in
    has_sine_added z z c.args.sine.lo c.args.sine.hi c.args.cosine.lo c.args.cosine.hi c.args.sine.lo c.args.sine.hi c.args.cosine.lo c.args.cosine.hi _ _ so co so co se ce se ce hs hc hs hc
    (λ s k p q hs2 hk2 hp2 hq2. c.add.ensures.contains _ _ (c.mul_unit-product.ensures.contains s q hs2 hq2) (product_turned _ _ p k (c.mul_unit-product.ensures.contains p k hp2 hk2)))

pub returns-clause-cosine : goal.returns-clause-cosine
returns-clause-cosine c z hs hc =
    let so = c.args.sine.ordered in
    let co = c.args.cosine.ordered in
    let se = c.requires.sine_ends in
    let ce = c.requires.cosine_ends in
    has_cosine_added z z c.args.sine.lo c.args.sine.hi c.args.cosine.lo c.args.cosine.hi c.args.sine.lo c.args.sine.hi c.args.cosine.lo c.args.cosine.hi _ _ so co so co se ce se ce hs hc hs hc
    (λ s k p q hs2 hk2 hp2 hq2. c.sub.ensures.contains _ _ (c.mul_unit-cosine_square.ensures.contains k q hk2 hq2) (c.mul_unit-sine_square.ensures.contains s p hs2 hp2))

pub returns-clause-sine_narrow : goal.returns-clause-sine_narrow
returns-clause-sine_narrow c w h n =
    let l = c.mul_unit-product.ensures.tight_low in
    let u = c.mul_unit-product.ensures.tight_high in
    let p = product_width c.args.sine.lo c.args.sine.hi c.args.cosine.lo c.args.cosine.hi l.0 u.0 c.mul_unit-product.result.lo c.mul_unit-product.result.hi w c.args.sine.ordered c.args.cosine.ordered n.sine n.cosine n.sine_ends n.cosine_ends h l.1.0 l.1.1 u.1.0 u.1.1 in
    omega (arith, ints, p, c.add.ensures.low, c.add.ensures.high)

pub returns-clause-cosine_narrow : goal.returns-clause-cosine_narrow
returns-clause-cosine_narrow c w h n =
    let l = c.mul_unit-cosine_square.ensures.tight_low in
    let u = c.mul_unit-cosine_square.ensures.tight_high in
    let m = c.mul_unit-sine_square.ensures.tight_low in
    let v = c.mul_unit-sine_square.ensures.tight_high in
    let p = product_width c.args.cosine.lo c.args.cosine.hi c.args.cosine.lo c.args.cosine.hi l.0 u.0 c.mul_unit-cosine_square.result.lo c.mul_unit-cosine_square.result.hi w c.args.cosine.ordered c.args.cosine.ordered n.cosine n.cosine n.cosine_ends n.cosine_ends h l.1.0 l.1.1 u.1.0 u.1.1 in
    let q = product_width c.args.sine.lo c.args.sine.hi c.args.sine.lo c.args.sine.hi m.0 v.0 c.mul_unit-sine_square.result.lo c.mul_unit-sine_square.result.hi w c.args.sine.ordered c.args.sine.ordered n.sine n.sine n.sine_ends n.sine_ends h m.1.0 m.1.1 v.1.0 v.1.1 in
    omega (arith, ints, p, q, c.sub.ensures.low, c.sub.ensures.high)
