-- A decimal's value as a count of a unit, or as a whole number.
use Rattle.std.specs.Prelude.{◌≡◌, suc, ℤ, pos, negsuc, ◌+ℤ◌, ◌*ℤ◌, ◌^◌, ◌<◌, unsigned_abs, FitsSigned}
use Rattle.std.specs.Int.{w64}
use Rattle.st_decimal.specs.Limits.{units_bound}
use Rattle.st_decimal.specs.declared.number.Dec.{Dec}

-- u is n times ten to the power, where that is whole
abbrev pub IsTimesTen : ℤ → ℤ → ℤ → Type 0
IsTimesTen n (pos k) u = u ≡ (n *ℤ pos (10 ^ k))
IsTimesTen n (negsuc k) u = (u *ℤ pos (10 ^ suc k)) ≡ n

-- u is the decimal's value in units of 10^-18, of a magnitude below 10^38
pub record IsUnits18 (d : Dec) (u : ℤ) : Type 0 where
  pub value : IsTimesTen d.digits (d.tens +ℤ pos 18) u
  pub below : unsigned_abs u < units_bound

-- n is the decimal's value, within 64 bits
pub record IsWhole (d : Dec) (n : ℤ) : Type 0 where
  pub value : IsTimesTen d.digits d.tens n
  pub fits : FitsSigned w64 n
