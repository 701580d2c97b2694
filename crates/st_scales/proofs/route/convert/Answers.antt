use Rattle.std.proofs.Common.{◌≡◌, ℤ, pos, neg_ℤ, ◌+ℤ◌, ◌-ℤ◌, arith}
use Rattle.std.specs.Int.{w128}
use Rattle.std.specs.Int.RustNames.{FitsSigned}
use Rattle.std.proofs.lemmas.Int.{ints, to_z-of_z}
use Rattle.st_fraction.specs.Fraction.{units, ◌+ᶠ◌}
use Rattle.st_scales.proofs.Routes.{ahead, crossing}
use Rattle.st_scales.proofs.Units.{shifted, shifted_back_low, shifted_back_high}
use Rattle.st_scales.proofs.route.convert.Goals as goal

pub returns-in-Tai-Tt-clause-contains : goal.returns-in-Tai-Tt-clause-contains
returns-in-Tai-Tt-clause-contains c x px within =
    let d = c.args.c.now in
    let y : FitsSigned w128 c.delta_ta.result = omega (arith, ints, c.delta_ta.ensures, d.delta_low, d.delta_high) in
    let p = simp to_z-of_z at c.point.ensures.low in
    let q = simp to_z-of_z at c.point.ensures.high in
    let s = shifted c.args.r.lo c.args.r.hi d.delta_ta c.add.result.lo c.add.result.hi x (omega (arith, ints, p, c.add.ensures.low, c.delta_ta.ensures)) (omega (arith, ints, q, c.add.ensures.high, c.delta_ta.ensures)) within in
    rw (c.in-Tai-Tt.is-0, c.in-Tai-Tt.is-1) (record { at_least = s.from; at_most = s.to })

pub returns-in-Tai-Tdb-clause-contains : goal.returns-in-Tai-Tdb-clause-contains
returns-in-Tai-Tdb-clause-contains c x px within =
    let d = c.args.c.now in
    let y : FitsSigned w128 c.delta_ta-in-Tai-Tdb.result = omega (arith, ints, c.delta_ta-in-Tai-Tdb.ensures, d.delta_low, d.delta_high) in
    let p = simp to_z-of_z at c.point-in-Tai-Tdb.ensures.low in
    let q = simp to_z-of_z at c.point-in-Tai-Tdb.ensures.high in
    let s = shifted c.args.r.lo c.args.r.hi d.delta_ta c.add-in-Tai-Tdb.result.lo c.add-in-Tai-Tdb.result.hi x (omega (arith, ints, p, c.add-in-Tai-Tdb.ensures.low, c.delta_ta-in-Tai-Tdb.ensures)) (omega (arith, ints, q, c.add-in-Tai-Tdb.ensures.high, c.delta_ta-in-Tai-Tdb.ensures)) within in
    let t = x +ᶠ units d.delta_ta in
    let pt = ahead x d.delta_ta px in
    rw (c.in-Tai-Tdb.is-0, c.in-Tai-Tdb.is-1) (record { at_least = c.tdb_of.ensures.at_least t pt s; at_most = c.tdb_of.ensures.at_most t pt s })

pub returns-in-Tai-Tdb-clause-exact : goal.returns-in-Tai-Tdb-clause-exact
returns-in-Tai-Tdb-clause-exact c =
    let d = c.args.c.now in
    let y : FitsSigned w128 c.delta_ta-in-Tai-Tdb.result = omega (arith, ints, c.delta_ta-in-Tai-Tdb.ensures, d.delta_low, d.delta_high) in
    let p = simp to_z-of_z at c.point-in-Tai-Tdb.ensures.low in
    let q = simp to_z-of_z at c.point-in-Tai-Tdb.ensures.high in
    rw (c.in-Tai-Tdb.is-0, c.in-Tai-Tdb.is-1) (λ h. crossing h (λ k.
    let e = c.tdb_of.ensures.exact k in
    (omega (arith, ints, e.0, p, c.add-in-Tai-Tdb.ensures.low, c.delta_ta-in-Tai-Tdb.ensures), omega (arith, ints, e.1, q, c.add-in-Tai-Tdb.ensures.high, c.delta_ta-in-Tai-Tdb.ensures))))

pub returns-in-Tai-Tdb-clause-narrow : goal.returns-in-Tai-Tdb-clause-narrow
returns-in-Tai-Tdb-clause-narrow c =
    let d = c.args.c.now in
    let y : FitsSigned w128 c.delta_ta-in-Tai-Tdb.result = omega (arith, ints, c.delta_ta-in-Tai-Tdb.ensures, d.delta_low, d.delta_high) in
    let p = simp to_z-of_z at c.point-in-Tai-Tdb.ensures.low in
    let q = simp to_z-of_z at c.point-in-Tai-Tdb.ensures.high in
    omega (arith, ints, p, q, c.add-in-Tai-Tdb.ensures.low, c.add-in-Tai-Tdb.ensures.high, c.delta_ta-in-Tai-Tdb.ensures, d.delta_low, d.delta_high, c.tdb_of.ensures.narrow)

pub returns-in-Tai-Tdb-clause-low_near : goal.returns-in-Tai-Tdb-clause-low_near
returns-in-Tai-Tdb-clause-low_near c =
    let d = c.args.c.now in
    let y : FitsSigned w128 c.delta_ta-in-Tai-Tdb.result = omega (arith, ints, c.delta_ta-in-Tai-Tdb.ensures, d.delta_low, d.delta_high) in
    let p = simp to_z-of_z at c.point-in-Tai-Tdb.ensures.low in
    let q = simp to_z-of_z at c.point-in-Tai-Tdb.ensures.high in
    omega (arith, ints, p, q, c.add-in-Tai-Tdb.ensures.low, c.add-in-Tai-Tdb.ensures.high, c.delta_ta-in-Tai-Tdb.ensures, d.delta_low, d.delta_high, c.tdb_of.ensures.low_near)

pub returns-in-Tai-Tdb-clause-high_near : goal.returns-in-Tai-Tdb-clause-high_near
returns-in-Tai-Tdb-clause-high_near c =
    let d = c.args.c.now in
    let y : FitsSigned w128 c.delta_ta-in-Tai-Tdb.result = omega (arith, ints, c.delta_ta-in-Tai-Tdb.ensures, d.delta_low, d.delta_high) in
    let p = simp to_z-of_z at c.point-in-Tai-Tdb.ensures.low in
    let q = simp to_z-of_z at c.point-in-Tai-Tdb.ensures.high in
    omega (arith, ints, p, q, c.add-in-Tai-Tdb.ensures.low, c.add-in-Tai-Tdb.ensures.high, c.delta_ta-in-Tai-Tdb.ensures, d.delta_low, d.delta_high, c.tdb_of.ensures.high_near)

pub returns-in-Tt-Tai-clause-contains : goal.returns-in-Tt-Tai-clause-contains
returns-in-Tt-Tai-clause-contains c x px within =
    let d = c.args.c.now in
    let y : FitsSigned w128 c.delta_ta-in-Tt-Tai.result = omega (arith, ints, c.delta_ta-in-Tt-Tai.ensures, d.delta_low, d.delta_high) in
    let p = simp to_z-of_z at c.point-in-Tt-Tai.ensures.low in
    let q = simp to_z-of_z at c.point-in-Tt-Tai.ensures.high in
    let s = shifted c.args.r.lo c.args.r.hi (neg_ℤ d.delta_ta) c.sub.result.lo c.sub.result.hi x (omega (arith, ints, q, c.sub.ensures.low, c.delta_ta-in-Tt-Tai.ensures)) (omega (arith, ints, p, c.sub.ensures.high, c.delta_ta-in-Tt-Tai.ensures)) within in
    rw (c.in-Tt-Tai.is-0, c.in-Tt-Tai.is-1) (record { at_least = s.from; at_most = s.to })

pub returns-in-Tt-Tdb-clause-contains : goal.returns-in-Tt-Tdb-clause-contains
returns-in-Tt-Tdb-clause-contains c x px within =
    rw (c.in-Tt-Tdb.is-0, c.in-Tt-Tdb.is-1) (record { at_least = c.tdb_of-in-Tt-Tdb.ensures.at_least x px within; at_most = c.tdb_of-in-Tt-Tdb.ensures.at_most x px within })

pub returns-in-Tdb-Tai-clause-contains : goal.returns-in-Tdb-Tai-clause-contains
returns-in-Tdb-Tai-clause-contains c x px within =
    let d = c.args.c.now in
    let y : FitsSigned w128 c.delta_ta-in-Tdb-Tai.result = omega (arith, ints, c.delta_ta-in-Tdb-Tai.ensures, d.delta_low, d.delta_high) in
    let p = simp to_z-of_z at c.point-in-Tdb-Tai.ensures.low in
    let q = simp to_z-of_z at c.point-in-Tdb-Tai.ensures.high in
    rw (c.in-Tdb-Tai.is-0, c.in-Tdb-Tai.is-1) (record {
      at_least = shifted_back_low d c.sub-in-Tdb-Tai.result.lo c.tt_of.result.lo d.delta_ta x px (omega (arith, ints, q, c.sub-in-Tdb-Tai.ensures.low, c.delta_ta-in-Tdb-Tai.ensures)) (c.tt_of.ensures.at_least x px within);
      at_most = shifted_back_high d c.sub-in-Tdb-Tai.result.hi c.tt_of.result.hi d.delta_ta x px (omega (arith, ints, p, c.sub-in-Tdb-Tai.ensures.high, c.delta_ta-in-Tdb-Tai.ensures)) (c.tt_of.ensures.at_most x px within);
    })

pub returns-in-Tdb-Tai-clause-exact : goal.returns-in-Tdb-Tai-clause-exact
returns-in-Tdb-Tai-clause-exact c =
    let d = c.args.c.now in
    let y : FitsSigned w128 c.delta_ta-in-Tdb-Tai.result = omega (arith, ints, c.delta_ta-in-Tdb-Tai.ensures, d.delta_low, d.delta_high) in
    let p = simp to_z-of_z at c.point-in-Tdb-Tai.ensures.low in
    let q = simp to_z-of_z at c.point-in-Tdb-Tai.ensures.high in
    rw (c.in-Tdb-Tai.is-0, c.in-Tdb-Tai.is-1) (λ h. crossing h (λ k.
    let e = c.tt_of.ensures.exact k in
    (omega (arith, ints, e.0, q, c.sub-in-Tdb-Tai.ensures.low, c.delta_ta-in-Tdb-Tai.ensures), omega (arith, ints, e.1, p, c.sub-in-Tdb-Tai.ensures.high, c.delta_ta-in-Tdb-Tai.ensures))))

pub returns-in-Tdb-Tai-clause-narrow : goal.returns-in-Tdb-Tai-clause-narrow
returns-in-Tdb-Tai-clause-narrow c =
    let d = c.args.c.now in
    let y : FitsSigned w128 c.delta_ta-in-Tdb-Tai.result = omega (arith, ints, c.delta_ta-in-Tdb-Tai.ensures, d.delta_low, d.delta_high) in
    let p = simp to_z-of_z at c.point-in-Tdb-Tai.ensures.low in
    let q = simp to_z-of_z at c.point-in-Tdb-Tai.ensures.high in
    omega (arith, ints, p, q, c.sub-in-Tdb-Tai.ensures.low, c.sub-in-Tdb-Tai.ensures.high, c.delta_ta-in-Tdb-Tai.ensures, d.delta_low, d.delta_high, c.tt_of.ensures.narrow)

pub returns-in-Tdb-Tai-clause-low_near : goal.returns-in-Tdb-Tai-clause-low_near
returns-in-Tdb-Tai-clause-low_near c =
    let d = c.args.c.now in
    let y : FitsSigned w128 c.delta_ta-in-Tdb-Tai.result = omega (arith, ints, c.delta_ta-in-Tdb-Tai.ensures, d.delta_low, d.delta_high) in
    let p = simp to_z-of_z at c.point-in-Tdb-Tai.ensures.low in
    let q = simp to_z-of_z at c.point-in-Tdb-Tai.ensures.high in
    omega (arith, ints, p, q, c.sub-in-Tdb-Tai.ensures.low, c.sub-in-Tdb-Tai.ensures.high, c.delta_ta-in-Tdb-Tai.ensures, d.delta_low, d.delta_high, c.tt_of.ensures.low_near)

pub returns-in-Tdb-Tai-clause-high_near : goal.returns-in-Tdb-Tai-clause-high_near
returns-in-Tdb-Tai-clause-high_near c =
    let d = c.args.c.now in
    let y : FitsSigned w128 c.delta_ta-in-Tdb-Tai.result = omega (arith, ints, c.delta_ta-in-Tdb-Tai.ensures, d.delta_low, d.delta_high) in
    let p = simp to_z-of_z at c.point-in-Tdb-Tai.ensures.low in
    let q = simp to_z-of_z at c.point-in-Tdb-Tai.ensures.high in
    omega (arith, ints, p, q, c.sub-in-Tdb-Tai.ensures.low, c.sub-in-Tdb-Tai.ensures.high, c.delta_ta-in-Tdb-Tai.ensures, d.delta_low, d.delta_high, c.tt_of.ensures.high_near)

pub returns-in-Tdb-Tt-clause-contains : goal.returns-in-Tdb-Tt-clause-contains
returns-in-Tdb-Tt-clause-contains c x px within =
    rw (c.in-Tdb-Tt.is-0, c.in-Tdb-Tt.is-1) (record { at_least = c.tt_of-in-Tdb-Tt.ensures.at_least x px within; at_most = c.tt_of-in-Tdb-Tt.ensures.at_most x px within })
