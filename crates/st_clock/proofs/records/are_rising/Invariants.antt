use Rattle.std.proofs.Common.{◌≡◌, ℕ, ◌+◌, ◌<◌, ◌<ℤ◌, Some, slice_get}
use Rattle.st_clock.specs.declared.coefficient.Coefficient.{Coefficient}
use Rattle.st_clock.proofs.records.are_rising.Given as goal

abbrev pub invariant-loop-i : goal.invariant-loop-i
invariant-loop-i l =
    (k : ℕ) (r s : Coefficient) → k < l.i → slice_get l.records k ≡ Some r → slice_get l.records (k + 1) ≡ Some s
    → (r.ticks < s.ticks) × (r.time <ℤ s.time)
