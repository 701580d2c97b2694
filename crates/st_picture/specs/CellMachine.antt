-- The numbers that the code keeps within bounds on its way to a cell.
use Rattle.std.specs.Prelude.{ℤ, pos, neg_ℤ, ◌≤ℤ◌}

-- a value with half of a unit added
pub record IsShifted (v : ℤ) : Type 0 where
  pub from : neg_ℤ (pos 6_311_400_000_000_000_000_000_000_000) ≤ℤ v
  pub to : v ≤ℤ pos 6_311_450_000_000_000_000_000_000_000
