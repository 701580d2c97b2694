use Rattle.std.proofs.Common.{◌≡◌, ◌+◌, length}
use Rattle.std.specs.Prelude.{map, string_bytes}
use Rattle.st_words.specs.Cut.{nothing}
use Rattle.st_words.specs.WordsMachine as machine
use Rattle.st_words.proofs.reading.read_options.Given as goal

abbrev pub invariant-loop-rest : goal.invariant-loop-rest
invariant-loop-rest l = record {
  read : machine.read l.options l.place 0 (map string_bytes l.rest) ≡ machine.read nothing 1 0 (map string_bytes l.words);
  place : l.place + length l.rest ≡ length l.words + 1;
}

abbrev pub decreases-loop-rest : goal.decreases-loop-rest
decreases-loop-rest l = length l.rest
