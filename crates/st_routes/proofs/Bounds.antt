-- The bounds of a value along a route.
use Rattle.std.proofs.Common.{◌≡◌, ◌⊎◌, inl, inr, ◌*◌, ◌^◌, ◌<◌, ℤ, pos, ◌+ℤ◌, ◌*ℤ◌, ◌≤ℤ◌, ◌<ℤ◌, refl, arith, lit<, mul-pos, mul_comm}
use Rattle.std.proofs.lemmas.Bool.{cases_Bool}
use Rattle.std.proofs.lemmas.Int.{ints, by_lt_z}
use Rattle.st_fraction.specs.Fraction.{Fraction, IsFraction, ◌≤ᶠ◌, whole, units, ◌+ᶠ◌, ◌-ᶠ◌}
use Rattle.st_fraction.proofs.Linear.{at_factor, whole_at}
use Rattle.st_fraction.proofs.Order.{le_f_trans, le_f_move_back}
use Rattle.st_fraction.proofs.Scale.{IsAt, at_self, at_add, le_at}
use Rattle.st_scales.specs.Laws.{RouteAgrees, RouteIsExact, RouteIsNear}
use Rattle.st_scales.specs.Route.{crosses}
use Rattle.st_routes.specs.Route.{IsAtLeast, IsAtMost, HasSineOnIt, HasNoSineOnIt, shifted}
use Rattle.st_routes.specs.declared.route.Route.{Route}
use Rattle.st_routes.specs.declared.route.Route.TheVariants.{Same, Scales}

pub sine_or_none : (route : Route) → HasSineOnIt route ⊎ HasNoSineOnIt route
sine_or_none Same = inr tt
sine_or_none (Scales c from to) = elim (cases_Bool (crosses from to)) [
  | inl e ↦ by_lt_z c.k (pos 0) (λ (l : c.k <ℤ pos 0). inl (record { crosses = e; k_some = λ z. below c.k l z }))
      (λ (h : pos 0 ≤ℤ c.k). by_lt_z (pos 0) c.k (λ (l : pos 0 <ℤ c.k). inl (record { crosses = e; k_some = λ z. above c.k l z }))
      (λ (k : c.k ≤ℤ pos 0). inr (inr (none c.k h k))))
  | inr e ↦ inr (inl e)
]
  where
    below : (k : ℤ) → k <ℤ pos 0 → k ≡ pos 0 → ⊥
    below k l z = omega (arith, ints, l, z)

    above : (k : ℤ) → pos 0 <ℤ k → k ≡ pos 0 → ⊥
    above k l z = omega (arith, ints, l, z)

    none : (k : ℤ) → pos 0 ≤ℤ k → k ≤ℤ pos 0 → k ≡ pos 0
    none k a b = omega (arith, ints, a, b)

-- what the value is at least is no more than what it is at most
pub agrees : RouteAgrees → (route : Route) (r a b : Fraction) → IsFraction r → IsFraction a → IsFraction b → IsAtLeast route r a → IsAtMost route r b → a ≤ᶠ b
agrees law Same r a b pr pa pb h k = le_f_trans a r b pr.positive h k
agrees law (Scales c from to) r a b pr pa pb h k = law c from to r a b pr pa pb h k

pub shifted_is : (route : Route) (r : Fraction) → IsFraction r → IsFraction (shifted route r)
shifted_is route r p = record { positive = let unit : 0 < 10 ^ 18 = lit< tt in mul-pos p.positive unit }

source_at : (r : Fraction) → IsAt (r.den * 10 ^ 18) r (r.num *ℤ pos (10 ^ 18))
source_at r = at_factor r (10 ^ 18) (r.den * 10 ^ 18) refl

shift_at : (r : Fraction) (s : ℤ) → IsAt (r.den * 10 ^ 18) (units s) (s *ℤ pos r.den)
shift_at r s = at_factor (units s) r.den (r.den * 10 ^ 18) (mul_comm (10 ^ 18) r.den)

-- shifted by nothing it is the same
shifted_at : (r : Fraction) → IsAt (r.den * 10 ^ 18) (r +ᶠ units (pos 0)) (r.num *ℤ pos (10 ^ 18) +ℤ pos 0 *ℤ pos r.den)
shifted_at r = at_add (r.den * 10 ^ 18) r (units (pos 0)) (r.num *ℤ pos (10 ^ 18)) (pos 0 *ℤ pos r.den) (source_at r) (shift_at r (pos 0))

scale_some : (r : Fraction) → IsFraction r → 0 < r.den * 10 ^ 18
scale_some r p = let unit : 0 < 10 ^ 18 = lit< tt in mul-pos p.positive unit

is_shifted : (r : Fraction) → IsFraction r → r ≤ᶠ (r +ᶠ units (pos 0))
is_shifted r p = le_at (r.den * 10 ^ 18) r (r +ᶠ units (pos 0)) _ _ (scale_some r p) (source_at r) (shifted_at r) (omega (arith, ints))

shifted_is_it : (r : Fraction) → IsFraction r → (r +ᶠ units (pos 0)) ≤ᶠ r
shifted_is_it r p = le_at (r.den * 10 ^ 18) (r +ᶠ units (pos 0)) r _ _ (scale_some r p) (shifted_at r) (source_at r) (omega (arith, ints))

-- without a sine the shifted source is both
pub exact_bounds : RouteIsExact → (route : Route) (r : Fraction) → IsFraction r → HasNoSineOnIt route → IsAtLeast route r (shifted route r) × IsAtMost route r (shifted route r)
exact_bounds law Same r p none = (shifted_is_it r p, is_shifted r p)
exact_bounds law (Scales c from to) r p none = law c from to r p none

with_more : (r : Fraction) → IsFraction r → r ≤ᶠ (whole (pos 101) +ᶠ r)
with_more r p =
    le_at r.den r (whole (pos 101) +ᶠ r) r.num (pos 101 *ℤ pos r.den +ℤ r.num) p.positive (at_self r)
    (at_add r.den (whole (pos 101)) r (pos 101 *ℤ pos r.den) r.num (whole_at (pos 101) r.den) (at_self r)) (omega (arith, ints))

-- the value is not far below the source
pub near_below : RouteIsNear → (route : Route) (r : Fraction) → IsFraction r → IsAtLeast route r (r -ᶠ whole (pos 101))
near_below law Same r p = le_f_move_back r (whole (pos 101)) r (lit< tt) (with_more r p)
near_below law (Scales c from to) r p = (law c from to r p).0
