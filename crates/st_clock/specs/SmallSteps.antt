-- The bounds within which a clock's numbers lie, which are a choice of this project.
use Rattle.std.specs.Prelude.{◌≡◌, ℕ, ◌^◌, ◌≤◌, unsigned_abs, List, Some}
use Rattle.std.specs.List.{slice_get}
use Rattle.st_clock.specs.declared.coefficient.Coefficient.{Coefficient}

-- a tick to 10^18; a time to 10^10 s in magnitude and a rate to 10^5 s, both in units of 10^-18 s
pub record IsSmall (r : Coefficient) : Type 0 where
  pub ticks : r.ticks ≤ 10 ^ 18
  pub time : unsigned_abs r.time ≤ 10 ^ 28
  pub rate : r.rate ≤ 10 ^ 23

abbrev pub AreSmall : List Coefficient → Type 0
AreSmall records = (i : ℕ) (r : Coefficient) → slice_get records i ≡ Some r → IsSmall r
