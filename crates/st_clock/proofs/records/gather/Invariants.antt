use Rattle.std.proofs.Common.{◌≡◌, ℕ, Some, slice_get, length}
use Rattle.st_clock.specs.declared.coefficient.Coefficient.{Coefficient}
use Rattle.st_clock.specs.Parts.{IsRecordAt}
use Rattle.st_clock.proofs.records.gather.Given as goal

abbrev pub invariant-loop-i : goal.invariant-loop-i
invariant-loop-i l = record {
  count : length l.records.items ≡ l.i;
  each : (j : ℕ) (r : Coefficient) → slice_get l.records.items j ≡ Some r → IsRecordAt l.values j r;
}
