-- A time of units and a part of a unit, as a fraction.
use Rattle.std.proofs.Common.{◌≡◌, ℕ, ◌*◌, ◌^◌, ◌<◌, ℤ, pos, neg_ℤ, ◌+ℤ◌, ◌*ℤ◌, ◌≤ℤ◌, ◌<ℤ◌, refl, arith, lit<, mul-pos}
use Rattle.std.proofs.lemmas.Int.{ints, by_lt_z}
use Rattle.st_fraction.specs.Fraction.{Fraction, IsFraction, ◌≤ᶠ◌, ◌<ᶠ◌, over, units, ◌+ᶠ◌}
use Rattle.std.specs.Int.Signed.{le_z_yes}
use Rattle.st_fraction.proofs.Order.{le_f_trans}
use Rattle.st_fraction.proofs.Ring.{add-mul_z, one-mul_z, le-mul_z}
use Rattle.st_fraction.proofs.Scale.{IsAt, at_self, at_add, le_at, at_le}
use Rattle.st_fraction.proofs.Linear.{at_factor}
use Rattle.st_fraction.proofs.Strict.{lt_at}
use Rattle.st_dates.specs.Range.{range_start, range_end}
use Rattle.st_clock.specs.Time.{IsInRange, value_of}
use Rattle.st_clock.specs.declared.point.Point.{Point}
use Rattle.st_routes.specs.Laws.{TimeIsSource}
use Rattle.st_routes.specs.Route.{IsSource}

-- u units and a d-th parts of a unit
abbrev pub parted : ℤ → ℕ → ℕ → Fraction
parted u a d = units u +ᶠ over (pos a) (10 ^ 18 * d)

units_at : (u : ℤ) (d : ℕ) → IsAt (10 ^ 18 * d) (units u) (u *ℤ pos d)
units_at u d = at_factor (units u) d (10 ^ 18 * d) refl

parted_at : (u : ℤ) (a d : ℕ) → IsAt (10 ^ 18 * d) (parted u a d) (u *ℤ pos d +ℤ pos a)
parted_at u a d = at_add (10 ^ 18 * d) (units u) (over (pos a) (10 ^ 18 * d)) (u *ℤ pos d) (pos a) (units_at u d) (at_self (over (pos a) (10 ^ 18 * d)))

scale_some : (d : ℕ) → 0 < d → 0 < 10 ^ 18 * d
scale_some d p = let unit : 0 < 10 ^ 18 = lit< tt in mul-pos unit p

pub parted-den : (u : ℤ) (a d : ℕ) → 0 < d → 0 < (parted u a d).den
parted-den u a d p = let unit : 0 < 10 ^ 18 = lit< tt in mul-pos unit (scale_some d p)

pub shifted-den : (u s : ℤ) (a d : ℕ) → 0 < d → 0 < (parted u a d +ᶠ units s).den
shifted-den u s a d p = let unit : 0 < 10 ^ 18 = lit< tt in mul-pos (parted-den u a d p) unit

shifted_at : (u s : ℤ) (a d : ℕ) → IsAt (10 ^ 18 * d) (parted u a d +ᶠ units s) (u *ℤ pos d +ℤ pos a +ℤ s *ℤ pos d)
shifted_at u s a d = at_add (10 ^ 18 * d) (parted u a d) (units s) (u *ℤ pos d +ℤ pos a) (s *ℤ pos d) (parted_at u a d) (units_at s d)

-- a shifted time lies from its shifted units on, and before the next unit
pub from_unit : (u s : ℤ) (a d : ℕ) → 0 < d → units (u +ℤ s) ≤ᶠ (parted u a d +ᶠ units s)
from_unit u s a d p =
    le_at (10 ^ 18 * d) (units (u +ℤ s)) (parted u a d +ᶠ units s) ((u +ℤ s) *ℤ pos d) (u *ℤ pos d +ℤ pos a +ℤ s *ℤ pos d) (scale_some d p)
    (units_at (u +ℤ s) d) (shifted_at u s a d) (go _ (u *ℤ pos d) (s *ℤ pos d) a (add-mul_z u s (pos d)))
  where
    go : (z x y : ℤ) (a : ℕ) → z ≡ x +ℤ y → z ≤ℤ (x +ℤ pos a +ℤ y)
    go z x y a e = omega (arith, ints, e)

pub before_next : (u s : ℤ) (a d : ℕ) → a < d → (parted u a d +ᶠ units s) <ᶠ units (u +ℤ s +ℤ pos 1)
before_next u s a d l =
    let p : 0 < d = omega arith in
    let e = add-mul_z (u +ℤ s) (pos 1) (pos d) in
    let f = add-mul_z u s (pos d) in
    let g = one-mul_z (pos d) in
    lt_at (10 ^ 18 * d) (parted u a d +ᶠ units s) (units (u +ℤ s +ℤ pos 1)) (u *ℤ pos d +ℤ pos a +ℤ s *ℤ pos d) ((u +ℤ s +ℤ pos 1) *ℤ pos d)
    (shifted-den u s a d p) (lit< tt) (shifted_at u s a d) (units_at (u +ℤ s +ℤ pos 1) d)
    (go _ _ (u *ℤ pos d) (s *ℤ pos d) (pos 1 *ℤ pos d) a d l e f g)
  where
    go : (z y x s o : ℤ) (a d : ℕ) → a < d → z ≡ y +ℤ o → y ≡ x +ℤ s → o ≡ pos d → (x +ℤ pos a +ℤ s) <ℤ z
    go z y x s o a d l e f g = omega (arith, ints, e, f, g)

-- the units of a time that a clock answers
low_units : (lo u : ℤ) (a d : ℕ) → a < d → units lo ≤ᶠ parted u a d → lo ≤ℤ u
low_units lo u a d l h =
    let p : 0 < d = omega arith in
    let k = at_le (10 ^ 18 * d) (units lo) (parted u a d) (lo *ℤ pos d) (u *ℤ pos d +ℤ pos a) (lit< tt) (parted-den u a d p) (units_at lo d) (parted_at u a d) h in
    by_lt_z u lo (λ (s : u <ℤ lo).
    let m = le-mul_z (u +ℤ pos 1) lo d (omega (arith, ints, s)) in
    let e = add-mul_z u (pos 1) (pos d) in
    let f = one-mul_z (pos d) in
    absurd (never (u *ℤ pos d) (lo *ℤ pos d) a d l k (rw (e, f) at m)))
    (λ (s : lo ≤ℤ u). s)
  where
    never : (x y : ℤ) (a d : ℕ) → a < d → y ≤ℤ (x +ℤ pos a) → (x +ℤ pos d) ≤ℤ y → ⊥
    never x y a d l h k = omega (arith, ints)

high_units : (hi u : ℤ) (a d : ℕ) → a < d → parted u a d ≤ᶠ units hi → u ≤ℤ hi
high_units hi u a d l h =
    let p : 0 < d = omega arith in
    let k = at_le (10 ^ 18 * d) (parted u a d) (units hi) (u *ℤ pos d +ℤ pos a) (hi *ℤ pos d) (parted-den u a d p) (lit< tt) (parted_at u a d) (units_at hi d) h in
    by_lt_z hi u (λ (s : hi <ℤ u).
    let m = le-mul_z (hi +ℤ pos 1) u d (omega (arith, ints, s)) in
    let e = add-mul_z hi (pos 1) (pos d) in
    let f = one-mul_z (pos d) in
    absurd (never (u *ℤ pos d) (hi *ℤ pos d) a d l k (rw (e, f) at m)))
    (λ (s : u ≤ℤ hi). s)
  where
    never : (x y : ℤ) (a d : ℕ) → a < d → (x +ℤ pos a) ≤ℤ y → (y +ℤ pos d) ≤ℤ x → ⊥
    never x y a d l h k = omega (arith, ints)

pub source_of_range : (time : Point) → time.part < time.of → IsInRange (value_of time) → IsSource time.units
source_of_range time l r =
    let a = low_units range_start time.units time.part time.of l r.from in
    let b = high_units range_end time.units time.part time.of l r.to in
    (omega (arith, ints, a), omega (arith, ints, b))

pub value_is : (time : Point) → time.part < time.of → IsFraction (value_of time)
value_is time l = record { positive = parted-den time.units time.part time.of (omega arith) }

pub time_is_source : TimeIsSource
time_is_source clock k time g =
    let range = g.1.0 in
    let part = g.1.1.0 in (
      source_of_range time part range,
      value_is time part,
      record {
        from = le_f_trans (units (neg_ℤ (pos 6_311_391_400_000_000_000_000_000_000))) (units range_start) (value_of time) (lit< tt) (record { le = le_z_yes tt }) range.from;
        to = le_f_trans (value_of time) (units range_end) (units (pos 6_311_391_400_000_000_000_000_000_001)) (lit< tt) range.to (record { le = le_z_yes tt });
      },
    )
