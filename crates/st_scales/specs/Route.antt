-- The value of a time in another scale, after NAIF's Time Required Reading: TT = TAI + DELTA_T_A, and TDB of TT by the
-- formula. The source is any fraction, in seconds past J2000; the value is known through what it is at least, and at most.
use Rattle.std.specs.Prelude.{◌≡◌, ◌≢◌, ℤ, pos, neg_ℤ, Bool, true, false, ◌⊎◌}
use Rattle.st_fraction.specs.Fraction.{Fraction, ◌≤ᶠ◌, units, ◌+ᶠ◌, ◌-ᶠ◌}
use Rattle.st_scales.specs.declared.deltet.Deltet.{Deltet}
use Rattle.st_scales.specs.declared.scale.Scale.{Scale}
use Rattle.st_scales.specs.declared.scale.Scale.TheVariants.{Tai, Tt, Tdb}
use Rattle.st_scales.specs.Tdb.{TdbIsAtLeast, TdbIsAtMost, TtIsAtLeast, TtIsAtMost}

-- of the source r in the first scale, the value in the second is at least a
abbrev pub IsAtLeast : Deltet → Scale → Scale → Fraction → Fraction → Type 0
IsAtLeast c Tai Tai r a = a ≤ᶠ r
IsAtLeast c Tai Tt r a = a ≤ᶠ (r +ᶠ units c.delta_ta)
IsAtLeast c Tai Tdb r a = TdbIsAtLeast c (r +ᶠ units c.delta_ta) a
IsAtLeast c Tt Tai r a = a ≤ᶠ (r -ᶠ units c.delta_ta)
IsAtLeast c Tt Tt r a = a ≤ᶠ r
IsAtLeast c Tt Tdb r a = TdbIsAtLeast c r a
IsAtLeast c Tdb Tai r a = TtIsAtLeast c r (a +ᶠ units c.delta_ta)
IsAtLeast c Tdb Tt r a = TtIsAtLeast c r a
IsAtLeast c Tdb Tdb r a = a ≤ᶠ r

-- and at most b
abbrev pub IsAtMost : Deltet → Scale → Scale → Fraction → Fraction → Type 0
IsAtMost c Tai Tai r b = r ≤ᶠ b
IsAtMost c Tai Tt r b = (r +ᶠ units c.delta_ta) ≤ᶠ b
IsAtMost c Tai Tdb r b = TdbIsAtMost c (r +ᶠ units c.delta_ta) b
IsAtMost c Tt Tai r b = (r -ᶠ units c.delta_ta) ≤ᶠ b
IsAtMost c Tt Tt r b = r ≤ᶠ b
IsAtMost c Tt Tdb r b = TdbIsAtMost c r b
IsAtMost c Tdb Tai r b = TtIsAtMost c r (b +ᶠ units c.delta_ta)
IsAtMost c Tdb Tt r b = TtIsAtMost c r b
IsAtMost c Tdb Tdb r b = r ≤ᶠ b

-- the interval from lo to hi, in units, has the value of r
pub record HasValue (c : Deltet) (from to : Scale) (lo hi : ℤ) (r : Fraction) : Type 0 where
  pub at_least : IsAtLeast c from to r (units lo)
  pub at_most : IsAtMost c from to r (units hi)

-- how far the second scale is ahead of the first, in units, where TDB is taken as TT
abbrev pub shift : Deltet → Scale → Scale → ℤ
shift c Tai Tai = pos 0
shift c Tai Tt = c.delta_ta
shift c Tai Tdb = c.delta_ta
shift c Tt Tai = neg_ℤ c.delta_ta
shift c Tt Tt = pos 0
shift c Tt Tdb = pos 0
shift c Tdb Tai = neg_ℤ c.delta_ta
shift c Tdb Tt = pos 0
shift c Tdb Tdb = pos 0

-- whether TDB is one of the two scales, and not the other
abbrev pub crosses : Scale → Scale → Bool
crosses Tai Tai = false
crosses Tai Tt = false
crosses Tai Tdb = true
crosses Tt Tai = false
crosses Tt Tt = false
crosses Tt Tdb = true
crosses Tdb Tai = true
crosses Tdb Tt = true
crosses Tdb Tdb = false

-- a sine stands on the way, since it crosses to or from TDB and K isn't 0
pub record HasSineOnIt (c : Deltet) (from to : Scale) : Type 0 where
  pub crosses : crosses from to ≡ true
  pub k_some : c.k ≢ pos 0

abbrev pub HasNoSineOnIt : Deltet → Scale → Scale → Type 0
HasNoSineOnIt c from to = (crosses from to ≡ false) ⊎ (c.k ≡ pos 0)
