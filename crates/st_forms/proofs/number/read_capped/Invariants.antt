use Rattle.std.proofs.Common.{◌≡◌, take}
use Rattle.st_forms.specs.NumberMachine.{capped}
use Rattle.st_forms.proofs.number.read_capped.Given as goal

abbrev pub invariant-loop-byte : goal.invariant-loop-byte
invariant-loop-byte l = l.number ≡ capped (take l.byte-index l.digits)
