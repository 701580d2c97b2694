use Rattle.std.proofs.Common.{◌≡◌, ◌+◌, ◌≤◌, drop}
use Rattle.st_kernel_text.specs.PiecesMachine.{bytes_of}
use Rattle.st_kernel_text.proofs.lines.Reading.read.Given as goal

abbrev pub invariant-loop-byte : goal.invariant-loop-byte
invariant-loop-byte l =
    (bytes_of l.self (drop l.byte-index l.bytes) ≡ bytes_of l.fn.self l.bytes)
    × (l.self.number ≤ l.fn.self.number + l.byte-index)
