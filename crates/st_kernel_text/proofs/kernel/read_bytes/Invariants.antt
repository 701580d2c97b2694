use Rattle.std.proofs.Common.{◌≡◌, drop}
use Rattle.st_kernel_text.specs.File.{numbered}
use Rattle.st_kernel_text.specs.ParserMachine.{steps_of}
use Rattle.st_kernel_text.proofs.kernel.read_bytes.Given as goal

abbrev pub invariant-loop-byte : goal.invariant-loop-byte
invariant-loop-byte l =
    steps_of l.parser (numbered l.number (drop l.byte-index l.line)) ≡ steps_of l.fn.parser (numbered l.number l.line)
