use Rattle.std.proofs.Common.{◌^◌, ◌<◌, lit<, mul-pos, rules}
use Rattle.std.specs.Int.{w128}
use Rattle.std.specs.Int.RustNames.{FitsSigned}
use Rattle.std.proofs.lemmas.Int.{to_z-of_z}
use Rattle.st_fraction.specs.Fraction.{units, ◌+ᶠ◌, ◌*ᶠ◌}
use Rattle.st_sine.specs.Anomaly.{mean_anomaly}
use Rattle.st_sine.proofs.Eccentric.{has_anomaly_sine}
use Rattle.st_sine.proofs.anomaly.anomaly_sine.Goals as goal

pub returns-clause-contains : goal.returns-clause-contains
returns-clause-contains c =
    let t = c.ranges.t in
    let u : 0 < 10 ^ 18 = lit< tt in
    let o = c.args.orbit.now in
    let m0 : FitsSigned w128 o.m0 = search rules in
    let m1 : FitsSigned w128 o.m1 = search rules in
    let eb : FitsSigned w128 o.eb = search rules in
    let mean = simp to_z-of_z at c.mean_of-mean.ensures.contains in
    let both = simp to_z-of_z at c.eccentric_of-eccentric.ensures.contains in
    let x = mean_anomaly o.m0 o.m1 (units c.args.t) in
    let px : 0 < x.den = mul-pos u (mul-pos u u) in
    has_anomaly_sine o.eb o.m0 o.m1 (units c.args.t) c.sine_of-inner.result.lo c.sine_of-inner.result.hi c.sine_of.result.lo c.sine_of.result.hi
    (record { positive = u }) o.eb_low c.sine_of-inner.result.ordered (c.sine_of-inner.ensures.sine x (record { positive = px }) mean)
    (λ s ps h. c.sine_of.ensures.sine (x +ᶠ s *ᶠ units o.eb) (record { positive = mul-pos px (mul-pos ps.positive u) }) (both x s mean h))
