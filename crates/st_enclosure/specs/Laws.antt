-- The ends of products to the last unit: an interval that contains all products, and whose ends are each less than one unit
-- beyond one of the products of ends, is the product of the intervals.
use Rattle.std.specs.Prelude.{◌≡◌, ◌^◌, ℤ, pos, ◌+ℤ◌, ◌-ℤ◌, ◌*ℤ◌, ◌≤ℤ◌, ◌<ℤ◌}
use Rattle.st_fraction.specs.Fraction.{Fraction, over, ◌*ᶠ◌, LiesWithin}
use Rattle.st_enclosure.specs.Ends.{IsProductOfEnds, IsEither}
use Rattle.st_enclosure.specs.Interval.{point, ◌*ᵢ◌}
use Rattle.st_enclosure.specs.declared.interval.Interval.{Interval}

-- of two intervals,
abbrev pub ProductIsExact : Type 0
ProductIsExact = (a b p : Interval) → a.lo ≤ℤ a.hi → b.lo ≤ℤ b.hi
    → ((x y : Fraction) → LiesWithin a.lo a.hi x → LiesWithin b.lo b.hi y → LiesWithin p.lo p.hi (x *ᶠ y))
    → ((m : ℤ) × (IsProductOfEnds a.lo a.hi b.lo b.hi m × (m <ℤ ((p.lo +ℤ pos 1) *ℤ pos (10 ^ 18)))))
    → ((m : ℤ) × (IsProductOfEnds a.lo a.hi b.lo b.hi m × (((p.hi -ℤ pos 1) *ℤ pos (10 ^ 18)) <ℤ m)))
    → p ≡ a *ᵢ b

-- and of an interval and a number k, in units.
abbrev pub ScaledIsExact : Type 0
ScaledIsExact = (a p : Interval) (k : ℤ) → a.lo ≤ℤ a.hi
    → ((x : Fraction) → LiesWithin a.lo a.hi x → LiesWithin p.lo p.hi (x *ᶠ over k (10 ^ 18)))
    → ((e : ℤ) × (IsEither a.lo a.hi e × ((e *ℤ k) <ℤ ((p.lo +ℤ pos 1) *ℤ pos (10 ^ 18)))))
    → ((e : ℤ) × (IsEither a.lo a.hi e × (((p.hi -ℤ pos 1) *ℤ pos (10 ^ 18)) <ℤ (e *ℤ k))))
    → p ≡ point k *ᵢ a

-- A product contains the products of all that the intervals contain.
abbrev pub ProductContains : Type 0
ProductContains = (a b : Interval) (x y : Fraction) → LiesWithin a.lo a.hi x → LiesWithin b.lo b.hi y
    → LiesWithin (a *ᵢ b).lo (a *ᵢ b).hi (x *ᶠ y)
