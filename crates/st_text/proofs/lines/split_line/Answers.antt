use Rattle.std.proofs.Common.{rules}
use Rattle.st_text.proofs.Splits.{first_line, only_line}
use Rattle.st_text.proofs.lines.split_line.Goals as goal

pub returns-in-Some-clause-first : goal.returns-in-Some-clause-first
returns-in-Some-clause-first c = first_line c.args.bytes.now c.in-Some.end (search rules)

pub returns-in-None-clause-first : goal.returns-in-None-clause-first
returns-in-None-clause-first c = only_line c.args.bytes.now c.requires (search rules)
