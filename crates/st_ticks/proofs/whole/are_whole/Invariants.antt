use Rattle.std.proofs.Common.{take}
use Rattle.std.specs.List.{All}
use Rattle.st_ticks.specs.Variables.{IsWholeNumber}
use Rattle.st_ticks.proofs.whole.are_whole.Given as goal

abbrev pub invariant-loop-value : goal.invariant-loop-value
invariant-loop-value l = All IsWholeNumber (take l.value-index l.values)
