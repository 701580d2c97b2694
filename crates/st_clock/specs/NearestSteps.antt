-- What the code finds of a floor: the floor itself, or that it is far.
use Rattle.std.specs.Prelude.{ℕ, ◌+◌, ◌^◌, ◌≤◌, ◌⊎◌, pos}
use Rattle.st_fraction.specs.Fraction.{Fraction, ◌≤ᶠ◌, ◌<ᶠ◌, whole}

-- n is the floor of x, or both are 10^19 or more
pub record IsFloorOrFar (x : Fraction) (n : ℕ) : Type 0 where
  pub at_most : whole (pos n) ≤ᶠ x
  pub next : (x <ᶠ whole (pos (n + 1))) ⊎ (10 ^ 19 ≤ n)
