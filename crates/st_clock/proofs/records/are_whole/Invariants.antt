use Rattle.std.proofs.Common.{◌≡◌, ℕ, ◌+◌, ◌*◌, ◌<◌, Some, slice_get}
use Rattle.st_decimal.specs.declared.number.Dec.{Dec}
use Rattle.st_clock.specs.Parts.{HasNumber}
use Rattle.st_clock.proofs.records.are_whole.Given as goal

abbrev pub invariant-loop-i : goal.invariant-loop-i
invariant-loop-i l = (k : ℕ) (d : Dec) → k < l.i → slice_get l.values (3 * k + l.place) ≡ Some d → HasNumber d
