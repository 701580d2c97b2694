use Rattle.std.proofs.Common.{◌≡◌, ◌<◌, ◌^◌, take}
use Rattle.st_text.specs.Bytes.{number_of}
use Rattle.st_text.proofs.digits.read_wide_digits.Given as goal

abbrev pub invariant-loop-byte : goal.invariant-loop-byte
invariant-loop-byte l = record {
  value : l.number ≡ number_of (take l.byte-index l.text);
  below : l.number < 10 ^ l.byte-index;
}
