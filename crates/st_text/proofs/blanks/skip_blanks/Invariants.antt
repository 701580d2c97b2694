use Rattle.std.proofs.Common.{◌≡◌, length}
use Rattle.st_text.specs.Lines as lines
use Rattle.st_text.proofs.blanks.skip_blanks.Given as goal

abbrev pub invariant-loop-rest : goal.invariant-loop-rest
invariant-loop-rest l = lines.skip_blanks l.rest ≡ lines.skip_blanks l.text

abbrev pub decreases-loop-rest : goal.decreases-loop-rest
decreases-loop-rest l = length l.rest
