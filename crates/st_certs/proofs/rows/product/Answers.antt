use Rattle.std.proofs.Common.{◌≡◌, ◌^◌, ◌*◌, ◌≤◌, pos, arith}
use Rattle.std.proofs.lemmas.Int.{ints}
use Rattle.st_enclosure.specs.Interval.{interval}
use Rattle.st_enclosure.proofs.Exact.{product_is_exact}
use Rattle.st_sine.proofs.Widths.{product_ends_low, product_ends_high, product_width}
use Rattle.st_certs.proofs.rows.product.Goals as goal

pub returns-clause-value : goal.returns-clause-value
returns-clause-value c =
    let e = c.mul_unit.ensures in
    product_is_exact (interval c.args.a.lo c.args.a.hi) (interval c.args.b.lo c.args.b.hi) (interval c.mul_unit.result.lo c.mul_unit.result.hi)
    c.args.a.ordered c.args.b.ordered e.contains e.tight_low e.tight_high

pub returns-clause-ends : goal.returns-clause-ends
returns-clause-ends c =
    let l = c.mul_unit.ensures.tight_low in
    let u = c.mul_unit.ensures.tight_high in
    let low = product_ends_low c.args.a.lo c.args.a.hi c.args.b.lo c.args.b.hi l.0 c.mul_unit.result.lo c.args.a.ordered c.args.b.ordered c.requires.a_ends c.requires.b_ends l.1.0 l.1.1 in
    let high = product_ends_high c.args.a.lo c.args.a.hi c.args.b.lo c.args.b.hi u.0 c.mul_unit.result.hi c.args.a.ordered c.args.b.ordered c.requires.a_ends c.requires.b_ends u.1.0 u.1.1 in
    record { low = omega (arith, ints); high = omega (arith, ints) }

pub returns-clause-narrow : goal.returns-clause-narrow
returns-clause-narrow c w h n =
    let l = c.mul_unit.ensures.tight_low in
    let u = c.mul_unit.ensures.tight_high in
    product_width c.args.a.lo c.args.a.hi c.args.b.lo c.args.b.hi l.0 u.0 c.mul_unit.result.lo c.mul_unit.result.hi w c.args.a.ordered c.args.b.ordered n.sine n.cosine n.sine_ends n.cosine_ends h l.1.0 l.1.1 u.1.0 u.1.1
