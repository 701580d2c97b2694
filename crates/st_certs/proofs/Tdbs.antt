-- What a sine proof shows: TDB of its TT value lies between the ends that are computed.
use Rattle.std.proofs.Common.{◌≡◌, ℕ, ◌*◌, ◌^◌, ◌<◌, ℤ, pos, ◌+ℤ◌, ◌*ℤ◌, ◌≤ℤ◌, refl, arith, lit<, mul-pos}
use Rattle.st_fraction.specs.Fraction.{Fraction, IsFraction, ◌≤ᶠ◌, units, ◌+ᶠ◌, ◌*ᶠ◌, LiesWithin}
use Rattle.st_fraction.proofs.Order.{le_f_refl}
use Rattle.st_enclosure.specs.Interval.{point, ◌*ᵢ◌}
use Rattle.st_enclosure.specs.declared.interval.Interval.{Interval}
use Rattle.st_enclosure.proofs.Contained.{sum_lies}
use Rattle.st_enclosure.proofs.Exact.{product_contains}
use Rattle.st_sine.specs.Anomaly.{mean_anomaly, HasAnomalySine}
use Rattle.st_sine.proofs.Added.{product_turned}
use Rattle.st_sine.proofs.Eccentric.{has_anomaly_sine}
use Rattle.st_scales.specs.declared.deltet.Deltet.{Deltet}
use Rattle.st_scales.specs.Tdb.{TdbIsAtLeast, TdbIsAtMost}
use Rattle.st_scales.proofs.Units.{units_rise, units_are, tdb_at_least, tdb_at_most}
use Rattle.st_certs.specs.Sound.{mean, eccentric, eccentric_at, tdb, shown, AreConstants, IsProof}
use Rattle.st_certs.specs.Verdict.{AreNamed}
use Rattle.st_certs.specs.declared.certificate.Constants.{Constants}
use Rattle.st_certs.specs.declared.certificate.SineProof.{SineProof}
use Rattle.st_certs.proofs.Chains.{Holds, chain_shows, shown_order}

one : 0 < 10 ^ 18
one = lit< tt

pub point_has : (z : ℤ) → LiesWithin z z (units z)
point_has z = record { from = le_f_refl (units z); to = le_f_refl (units z) }

first_has : (a : Interval) → a.lo ≤ℤ a.hi → LiesWithin a.lo a.hi (units a.lo)
first_has a h = record { from = le_f_refl (units a.lo); to = units_rise a.lo a.hi h }

last_has : (a : Interval) → a.lo ≤ℤ a.hi → LiesWithin a.lo a.hi (units a.hi)
last_has a h = record { from = units_rise a.lo a.hi h; to = le_f_refl (units a.hi) }

-- a number times what an interval contains
turned_has : (k : ℤ) (a : Interval) (s : Fraction) → LiesWithin a.lo a.hi s → LiesWithin (point k *ᵢ a).lo (point k *ᵢ a).hi (s *ᶠ units k)
turned_has k a s h = product_turned (point k *ᵢ a).lo (point k *ᵢ a).hi (units k) s (product_contains (point k) a (units k) s (point_has k) h)

mean_lies : (k : Constants) (t : ℤ) → LiesWithin (mean k t).lo (mean k t).hi (mean_anomaly k.m0 k.m1 (units t))
mean_lies k t =
    let p = point k.m1 *ᵢ point t in
    sum_lies k.m0 k.m0 p.lo p.hi (units k.m0) (units t *ᶠ units k.m1) (point_has k.m0) (turned_has k.m1 (point t) (units t) (point_has t))

eccentric_lies : (k : Constants) (a b : Interval) (x s : Fraction) → LiesWithin a.lo a.hi x → LiesWithin b.lo b.hi s
    → LiesWithin (eccentric k a b).lo (eccentric k a b).hi (x +ᶠ s *ᶠ units k.eb)
eccentric_lies k a b x s h g =
    let p = point k.eb *ᵢ b in
    sum_lies a.lo a.hi p.lo p.hi x (s *ᶠ units k.eb) h (turned_has k.eb b s g)

pub record ProofHolds (p : SineProof) : Type 0 where
  pub range : IsProof p
  pub m : Holds p.m
  pub e : Holds p.e

sine_has : (k : Constants) (p : SineProof) → AreConstants k → ProofHolds p
    → HasAnomalySine k.eb k.m0 k.m1 (units p.t) (shown p.e (eccentric_at k p)).lo (shown p.e (eccentric_at k p)).hi
sine_has k p named h =
    let a = mean k p.t in
    let s = shown p.m a in
    let b = eccentric_at k p in
    let u = shown p.e b in
    let x = mean_anomaly k.m0 k.m1 (units p.t) in
    let px : 0 < x.den = mul-pos one (mul-pos one one) in
    let lies = mean_lies k p.t in
    has_anomaly_sine k.eb k.m0 k.m1 (units p.t) s.lo s.hi u.lo u.hi (units_are p.t) named.eb.0 (shown_order p.m a h.range.m h.m.some)
    (chain_shows p.m a x h.range.m h.m (record { positive = px }) lies)
    (λ y py within. chain_shows p.e b (x +ᶠ y *ᶠ units k.eb) h.range.e h.e (record { positive = mul-pos px (mul-pos py.positive one) }) (eccentric_lies k a s x y lies within))

pub record HasTdb (d : Deltet) (t : ℤ) (a : Interval) : Type 0 where
  pub at_least : TdbIsAtLeast d (units t) (units a.lo)
  pub at_most : TdbIsAtMost d (units t) (units a.hi)

pub proof_shows_tdb : (k : Constants) (d : Deltet) (p : SineProof) → AreConstants k → AreNamed k d → ProofHolds p → HasTdb d p.t (tdb k p)
proof_shows_tdb k d p range n h =
    let u = shown p.e (eccentric_at k p) in
    let order = shown_order p.e (eccentric_at k p) h.range.e h.e.some in
    let m = point k.k *ᵢ u in
    let sine : HasAnomalySine d.orbit.eb d.orbit.m0 d.orbit.m1 (units p.t) u.lo u.hi = rw (n.eb, n.m0, n.m1) (sine_has k p range h) in
    let low : units m.lo ≤ᶠ (units u.lo *ᶠ units d.k) = rw n.k_same ((turned_has k.k u (units u.lo) (first_has u order)).from) in
    let high : (units u.hi *ᶠ units d.k) ≤ᶠ units m.hi = rw n.k_same ((turned_has k.k u (units u.hi) (last_has u order)).to) in
    record { at_least = tdb_at_least d p.t u.lo m.lo (p.t +ℤ m.lo) sine.at_least low refl; at_most = tdb_at_most d p.t u.hi m.hi (p.t +ℤ m.hi) sine.at_most high refl }
