-- The laws of the scales, each for all constants, for every way and for all fractions.
use Rattle.std.specs.Prelude.{pos, List, Result}
use Rattle.st_decimal.specs.declared.number.Dec.{Dec}
use Rattle.st_fraction.specs.Fraction.{Fraction, IsFraction, ◌≤ᶠ◌, ◌<ᶠ◌, whole, units, ◌+ᶠ◌, ◌-ᶠ◌, ◌*ᶠ◌}
use Rattle.st_scales.specs.declared.deltet.Deltet.{Deltet}
use Rattle.st_scales.specs.declared.fault.DeltetFault.{DeltetFault}
use Rattle.st_scales.specs.declared.scale.Scale.{Scale}
use Rattle.st_scales.specs.declared.scale.Scale.TheVariants.{Tdb}
use Rattle.st_scales.specs.Constants.{GiveConstants}
use Rattle.st_scales.specs.Route.{IsAtLeast, IsAtMost, shift, HasNoSineOnIt}

-- A time has one value: what it is at least is no more than what it is at most.
abbrev pub RouteAgrees : Type 0
RouteAgrees = (c : Deltet) (from to : Scale) (r a b : Fraction) → IsFraction r → IsFraction a → IsFraction b
    → IsAtLeast c from to r a → IsAtMost c from to r b → a ≤ᶠ b

-- It has a value: for every e above 0 two fractions, e apart, between which it lies. They are near the source.
pub record IsKnownTo (c : Deltet) (from to : Scale) (r e : Fraction) : Type 0 where
  pub low : Fraction
  pub high : Fraction
  pub low_is : IsFraction low
  pub high_is : IsFraction high
  pub at_least : IsAtLeast c from to r low
  pub at_most : IsAtMost c from to r high
  pub close : high ≤ᶠ (low +ᶠ e)
  pub low_near : r ≤ᶠ (low +ᶠ (whole (pos 101) +ᶠ e))
  pub high_near : high ≤ᶠ (r +ᶠ (whole (pos 101) +ᶠ e))

abbrev pub RouteIsKnown : Type 0
RouteIsKnown = (c : Deltet) (from to : Scale) (r e : Fraction) → IsFraction r → IsFraction e → whole (pos 0) <ᶠ e → IsKnownTo c from to r e

-- Where no sine stands on the way, the value is the shifted source.
abbrev pub RouteIsExact : Type 0
RouteIsExact = (c : Deltet) (from to : Scale) (r : Fraction) → IsFraction r → HasNoSineOnIt c from to
    → IsAtLeast c from to r (r +ᶠ units (shift c from to)) × IsAtMost c from to r (r +ᶠ units (shift c from to))

-- The value is within 101 s of the source,
abbrev pub RouteIsNear : Type 0
RouteIsNear = (c : Deltet) (from to : Scale) (r : Fraction) → IsFraction r
    → IsAtLeast c from to r (r -ᶠ whole (pos 101)) × IsAtMost c from to r (r +ᶠ whole (pos 101))

-- and it rises with the source.
abbrev pub RouteRises : Type 0
RouteRises = (c : Deltet) (from to : Scale) (r s a : Fraction) → IsFraction r → IsFraction s → IsFraction a → r ≤ᶠ s
    → (IsAtLeast c from to r a → IsAtLeast c from to s a) × (IsAtMost c from to s a → IsAtMost c from to r a)

-- What is at least b is at least a smaller a, and what is at most a is at most a greater b.
abbrev pub RouteLoosens : Type 0
RouteLoosens = (c : Deltet) (from to : Scale) (r a b : Fraction) → IsFraction r → IsFraction a → IsFraction b → a ≤ᶠ b
    → (IsAtLeast c from to r b → IsAtLeast c from to r a) × (IsAtMost c from to r a → IsAtMost c from to r b)

-- The way back: where TDB of u lies within h of x, the value of x in u's scale lies within q of u, for every q that is one
-- and a half times h or more.
abbrev pub RouteReturns : Type 0
RouteReturns = (c : Deltet) (from : Scale) (u x h q a b : Fraction) → IsFraction u → IsFraction x → IsFraction h → IsFraction q → IsFraction a → IsFraction b
    → whole (pos 0) ≤ᶠ h → (whole (pos 3) *ᶠ h) ≤ᶠ (whole (pos 2) *ᶠ q)
    → IsAtLeast c from Tdb u (x -ᶠ h) → IsAtMost c from Tdb u (x +ᶠ h)
    → IsAtLeast c Tdb from x a → IsAtMost c Tdb from x b → (a ≤ᶠ (u +ᶠ q)) × (u ≤ᶠ (b +ᶠ q))

-- Whatever the numbers of the four variables are, they are constants or have a first fault.
abbrev pub ConstantsAreFound : Type 0
ConstantsAreFound = (delta_ta k eb m : List Dec) → (answer : Result Deltet DeltetFault) × GiveConstants delta_ta k eb m answer
