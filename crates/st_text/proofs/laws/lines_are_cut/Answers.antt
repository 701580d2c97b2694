use Rattle.st_text.proofs.LineLaws.{last-line, line-ends, no-line}
use Rattle.st_text.proofs.laws.lines_are_cut.Goals as goal

pub returns-clause-none : goal.returns-clause-none
returns-clause-none c = no-line

pub returns-clause-first : goal.returns-clause-first
returns-clause-first c = line-ends

pub returns-clause-last : goal.returns-clause-last
returns-clause-last c = last-line
