-- The floor of a fraction.
use Rattle.std.specs.Prelude.{ℤ, pos, ◌+ℤ◌}
use Rattle.st_fraction.specs.Fraction.{Fraction, ◌≤ᶠ◌, ◌<ᶠ◌, whole}

-- n is the greatest whole number that is at most x
pub record IsFloor (x : Fraction) (n : ℤ) : Type 0 where
  pub at_most : whole n ≤ᶠ x
  pub below_next : x <ᶠ whole (n +ℤ pos 1)
