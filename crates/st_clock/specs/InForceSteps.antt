-- The record in force, and the one after it.
use Rattle.std.specs.Prelude.{◌≡◌, ℕ, ◌+◌, List, Option}
use Rattle.std.specs.List.{slice_get}
use Rattle.st_clock.specs.declared.coefficient.Coefficient.{Coefficient}
use Rattle.st_clock.specs.Clock.{IsLast}

-- r is the last record with P, and next is the one after it, where there is one
pub record IsInForce (P : Coefficient → Type 0) (records : List Coefficient) (r : Coefficient) (next : Option Coefficient) : Type 0 where
  pub place : ℕ
  pub last : IsLast P records place r
  pub behind : next ≡ slice_get records (place + 1)
