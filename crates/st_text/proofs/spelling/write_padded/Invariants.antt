use Rattle.std.proofs.Common.{◌≡◌, ◌+◌, ◌-◌, ◌≤◌, ◌++◌, length, take, drop}
use Rattle.std.specs.Int.Digits.{digits_of}
use Rattle.st_text.specs.Bytes.{padded}
use Rattle.st_text.proofs.spelling.write_padded.Given as goal

abbrev pub invariant-loop-rest : goal.invariant-loop-rest
invariant-loop-rest l = record {
  written : padded (l.width - (l.end - l.at)) l.rest ++ drop l.at l.buffer ≡ padded l.width l.number ++ drop l.end l.fn.buffer;
  kept : take l.at l.buffer ≡ take l.at l.fn.buffer;
  before : l.at ≤ l.end;
  room : length (digits_of 10 l.rest) + (l.end - l.at) ≤ 39;
}

abbrev pub decreases-loop-rest : goal.decreases-loop-rest
decreases-loop-rest l = l.at

abbrev pub invariant-loop-short : goal.invariant-loop-short
invariant-loop-short l = record {
  written : padded (l.width - (l.end - l.at)) l.short ++ drop l.at l.buffer ≡ padded l.width l.number ++ drop l.end l.fn.buffer;
  kept : take l.at l.buffer ≡ take l.at l.fn.buffer;
  before : l.at ≤ l.end;
  room : length (digits_of 10 l.short) + (l.end - l.at) ≤ 39;
}

abbrev pub decreases-loop-short : goal.decreases-loop-short
decreases-loop-short l = l.at
