use Rattle.std.proofs.Common.{◌≡◌, min, take}
use Rattle.st_text.specs.Bytes.{number_of}
use Rattle.st_routes.proofs.ticks.capped_number.Given as goal

abbrev pub invariant-loop-byte : goal.invariant-loop-byte
invariant-loop-byte l = l.number ≡ min (number_of (take l.byte-index l.digits)) 1_000_000_000_000_000_001
