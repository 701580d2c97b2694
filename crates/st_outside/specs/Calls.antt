-- Calls of a form in memory: which of them fail, and how many there were. The definitions are this
-- project's own.
use Rattle.std.specs.Prelude.{◌≡◌, ◌==◌, ℕ, ◌+◌, ◌-◌, ◌^◌, min, List, Bool}
use Rattle.std.specs.List.{list_any}
use Rattle.st_outside.specs.Causes.{raised_if}
use Rattle.st_outside.specs.declared.calls.Calls.{Calls}

-- the number of the next call, counted from 1
abbrev pub next_call : Calls → ℕ
next_call calls = min (calls.made + 1) (2 ^ 64 - 1)

-- whether the next call is listed as one that fails
abbrev pub fails_next : Calls → Bool
fails_next calls = list_any (λ call. call == next_call calls) calls.failing.items

-- no call was made yet, and those of this list will fail
pub record IsFresh (calls : Calls) (failing : List ℕ) : Type 0 where
  pub none : calls.made ≡ 0
  pub never : calls.failed ≡ 0
  pub listed : calls.failing.items ≡ failing

-- one more call was made, which counts as failed exactly where it was listed, and the list is as
-- before
pub record Counted (before now : Calls) : Type 0 where
  pub made : now.made ≡ next_call before
  pub failed : now.failed ≡ raised_if (fails_next before) before.failed
  pub listed : now.failing.items ≡ before.failing.items
