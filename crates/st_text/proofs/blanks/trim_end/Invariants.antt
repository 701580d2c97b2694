use Rattle.std.proofs.Common.{◌≡◌, length}
use Rattle.st_text.specs.Lines as lines
use Rattle.st_text.proofs.blanks.trim_end.Given as goal

abbrev pub invariant-loop-rest : goal.invariant-loop-rest
invariant-loop-rest l = lines.without_end_blanks l.rest ≡ lines.without_end_blanks l.text

abbrev pub decreases-loop-rest : goal.decreases-loop-rest
decreases-loop-rest l = length l.rest
