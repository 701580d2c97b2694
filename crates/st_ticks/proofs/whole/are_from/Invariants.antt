use Rattle.std.proofs.Common.{take}
use Rattle.std.specs.List.{All}
use Rattle.st_ticks.specs.Variables.{IsFrom}
use Rattle.st_ticks.proofs.whole.are_from.Given as goal

abbrev pub invariant-loop-value : goal.invariant-loop-value
invariant-loop-value l = All (IsFrom l.low l.high) (take l.value-index l.values)
