use Rattle.std.proofs.Common.{◌≡◌, min, take}
use Rattle.st_text.specs.Bytes.{number_of}
use Rattle.st_ticks.proofs.values.capped_number.Given as goal

abbrev pub invariant-loop-byte : goal.invariant-loop-byte
invariant-loop-byte l = l.number ≡ min (number_of (take l.byte-index l.digits)) 2_000_000_000_000_000_001
