use Rattle.std.proofs.Common.{◌≡◌, ℤ, ◌+◌, ◌*◌, ◌-ℤ◌, ◌≤ℤ◌, pos, ap, subst, sym, arith}
use Rattle.std.proofs.lemmas.Int.{ints}
use Rattle.st_enclosure.specs.declared.interval.Interval.{Interval}
use Rattle.st_enclosure.specs.declared.enclosure.Enc.{Enc}
use Rattle.st_sine.specs.Narrow.{AreNarrow}
use Rattle.st_certs.specs.Steps.{seen}
use Rattle.st_certs.proofs.RowLaws.{narrow_both, narrow_one}
use Rattle.st_certs.proofs.rows.doubled.Goals as goal

pub returns-clause-sine_narrow : goal.returns-clause-sine_narrow
returns-clause-sine_narrow c w h n =
    let m = narrow_both c.enclosure-sine.result c.enclosure-cosine.result c.args.row.sine c.args.row.cosine w c.enclosure-sine.ensures c.enclosure-cosine.ensures n in
    let p = c.product-both.ensures.narrow w h m in
    let e = ap (λ (i : Interval). i.hi -ℤ i.lo) c.ends_of.ensures in
    omega (arith, ints, p, e, c.add.ensures.low, c.add.ensures.high)

pub returns-clause-cosine_narrow : goal.returns-clause-cosine_narrow
returns-clause-cosine_narrow c w h n =
    let m = narrow_both c.enclosure-sine.result c.enclosure-cosine.result c.args.row.sine c.args.row.cosine w c.enclosure-sine.ensures c.enclosure-cosine.ensures n in
    let one = narrow_one c.enclosure-cosine.result.lo c.enclosure-cosine.result.hi w m.cosine m.cosine_ends in
    let two = narrow_one c.enclosure-sine.result.lo c.enclosure-sine.result.hi w m.sine m.sine_ends in
    let p = c.product-cosine_square.ensures.narrow w h one in
    let q = c.product-sine_square.ensures.narrow w h two in
    let e = ap (λ (i : Interval). i.hi -ℤ i.lo) c.ends_of-2.ensures in
    omega (arith, ints, p, q, e, c.sub.ensures.low, c.sub.ensures.high)
