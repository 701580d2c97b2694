-- A tick has one time, and records of which each is before the next one are rising.
use Rattle.std.proofs.Common.{◌≡◌, ℕ, zero, suc, ◌+◌, ◌-◌, ◌^◌, ◌<◌, ℤ, ◌<ℤ◌, List, Some, slice_get, subst, arith, lit<, mul-pos}
use Rattle.st_fraction.specs.Fraction.{Fraction, IsFraction, ◌≈ᶠ◌}
use Rattle.st_fraction.proofs.Ring.{lin}
use Rattle.st_fraction.proofs.Order.{same_sym, same_trans}
use Rattle.st_clock.specs.declared.coefficient.Coefficient.{Coefficient}
use Rattle.st_clock.specs.Clock.{Clock, tpm, AreRising, IsClock, IsLast, StartsBy, IsTimeOf, line_time}
use Rattle.st_clock.proofs.Faces.{tpm_some}
use Rattle.st_clock.proofs.Lasts.{same_record, last_in_order, next_there}

-- there is one last record with a property
pub last_is_one : (P : Coefficient → Type 0) (records : List Coefficient) (i j : ℕ) (r s : Coefficient) → IsLast P records i r → IsLast P records j s → r ≡ s
last_is_one P records i j r s a b =
    let u = last_in_order P P records i j r s a b (λ t p. p) in
    let v = last_in_order P P records j i s r b a (λ t p. p) in
    let e : j ≡ i = omega arith in
    same_record records i r s a.here (subst (λ n. slice_get records n ≡ Some s) e b.here)

pub line_time-den : (tpm : ℕ) (r : Coefficient) (k : ℕ) → 0 < tpm → 0 < (line_time tpm r k).den
line_time-den tpm r k p =
    let unit : 0 < 10 ^ 18 = lit< tt in
    mul-pos unit (mul-pos unit p)

pub time_is_one : (c : Clock) (k : ℕ) (u v : Fraction) → IsClock c → IsFraction u → IsFraction v → IsTimeOf c k u → IsTimeOf c k v → u ≈ᶠ v
time_is_one c k u v is pu pv a b =
    let e = last_is_one (StartsBy k) c.records a.place b.place a.by b.by a.last b.last in
    let h : u ≈ᶠ line_time (tpm c) b.by k = subst (λ (r : Coefficient). u ≈ᶠ line_time (tpm c) r k) e a.value in
    same_trans u (line_time (tpm c) b.by k) v (line_time-den (tpm c) b.by k (tpm_some c is)) h (same_sym v (line_time (tpm c) b.by k) b.value)

abbrev Steps : List Coefficient → Type 0
Steps records =
    (i : ℕ) (r s : Coefficient) → slice_get records i ≡ Some r → slice_get records (i + 1) ≡ Some s → (r.ticks < s.ticks) × (r.time <ℤ s.time)

by_distance : (records : List Coefficient) → Steps records → (d i : ℕ) (r s : Coefficient) → slice_get records i ≡ Some r
    → slice_get records (i + 1 + d) ≡ Some s → (r.ticks < s.ticks) × (r.time <ℤ s.time)
by_distance records steps zero i r s h k =
    let e : i + 1 + 0 ≡ i + 1 = omega arith in
    steps i r s h (subst (λ n. slice_get records n ≡ Some s) e k)
by_distance records steps (suc d) i r s h k =
    let t = next_there records i (i + 1 + suc d) s (omega arith) k in
    let e : i + 1 + suc d ≡ i + 1 + 1 + d = omega arith in
    let a = steps i r t.0 h t.1 in
    let b = by_distance records steps d (i + 1) t.0 s t.1 (subst (λ n. slice_get records n ≡ Some s) e k) in
    (less r.ticks t.0.ticks s.ticks a.0 b.0, earlier r.time t.0.time s.time a.1 b.1)
  where
    less : (a b c : ℕ) → a < b → b < c → a < c
    less a b c h k = omega arith

    earlier : (a b c : ℤ) → a <ℤ b → b <ℤ c → a <ℤ c
    earlier a b c h k = omega (arith, lin)

pub steps_rise : (records : List Coefficient) → Steps records → AreRising records
steps_rise records steps i j r s l h k =
    let e : j ≡ i + 1 + (j - (i + 1)) = omega arith in
    by_distance records steps (j - (i + 1)) i r s h (subst (λ n. slice_get records n ≡ Some s) e k)
