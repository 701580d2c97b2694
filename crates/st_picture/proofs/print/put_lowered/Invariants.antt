use Rattle.std.proofs.Common.{◌≡◌, ◌++◌, drop}
use Rattle.st_dates.specs.Names.{lowered}
use Rattle.st_picture.proofs.print.put_lowered.Given as goal

abbrev pub invariant-loop-byte : goal.invariant-loop-byte
invariant-loop-byte l = l.out.items ++ lowered (drop l.byte-index l.text) ≡ l.fn.out.items ++ lowered l.text
