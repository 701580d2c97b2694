-- The way of a time from the scale of its source to that of its target. The value there is known through the fractions that it
-- is at least, and at most; all are in seconds past J2000. Source: NAIF's Time Required Reading.
use Rattle.std.specs.Prelude.{ℤ, pos, neg_ℤ, ◌≤ℤ◌, ⊤}
use Rattle.st_fraction.specs.Fraction.{Fraction, ◌≤ᶠ◌, units, ◌+ᶠ◌}
use Rattle.st_scales.specs.Route as scales
use Rattle.st_routes.specs.declared.route.Route.{Route}
use Rattle.st_routes.specs.declared.route.Route.TheVariants.{Same, Scales}

-- of the source r the target's value is at least a
abbrev pub IsAtLeast : Route → Fraction → Fraction → Type 0
IsAtLeast Same r a = a ≤ᶠ r
IsAtLeast (Scales constants from to) r a = scales.IsAtLeast constants from to r a

-- and at most b
abbrev pub IsAtMost : Route → Fraction → Fraction → Type 0
IsAtMost Same r b = r ≤ᶠ b
IsAtMost (Scales constants from to) r b = scales.IsAtMost constants from to r b

-- a sine stands on the way, since it crosses to or from TDB and K isn't 0
abbrev pub HasSineOnIt : Route → Type 0
HasSineOnIt Same = ⊥
HasSineOnIt (Scales constants from to) = scales.HasSineOnIt constants from to

abbrev pub HasNoSineOnIt : Route → Type 0
HasNoSineOnIt Same = ⊤
HasNoSineOnIt (Scales constants from to) = scales.HasNoSineOnIt constants from to

-- how far the target's scale is ahead of the source's, in units, where TDB is taken as TT
abbrev pub shift : Route → ℤ
shift Same = pos 0
shift (Scales constants from to) = scales.shift constants from to

-- the source, shifted: the exact value where no sine stands on the way
abbrev pub shifted : Route → Fraction → Fraction
shifted route r = r +ᶠ units (shift route)

-- a source that calls take: at most 6,311,391,400 s in magnitude, in units of 10^-18 s
abbrev pub IsSource : ℤ → Type 0
IsSource u =
    (neg_ℤ (pos 6_311_391_400_000_000_000_000_000_000) ≤ℤ u)
    × (u ≤ℤ pos 6_311_391_400_000_000_000_000_000_000)

-- the same of a fraction of seconds
pub record IsNearby (r : Fraction) : Type 0 where
  pub from : units (neg_ℤ (pos 6_311_391_400_000_000_000_000_000_000)) ≤ᶠ r
  pub to : r ≤ᶠ units (pos 6_311_391_400_000_000_000_000_000_001)
