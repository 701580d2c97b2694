use Rattle.std.proofs.Common.{◌≡◌, drop}
use Rattle.st_ticks.specs.ReadingMachine as machine
use Rattle.st_ticks.proofs.count.are_from_offsets.Given as goal

abbrev pub invariant-loop-i : goal.invariant-loop-i
invariant-loop-i l = machine.from_offsets (drop l.i l.fields) (drop l.i l.values) ≡ machine.from_offsets l.fields l.values
