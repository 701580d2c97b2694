use Rattle.std.proofs.Common.{◌∙◌}
use Rattle.st_dates.proofs.DecimalLaws.{spelled_by, decimals_only}
use Rattle.st_dates.proofs.decimals.read_decimals.Goals as goal

pub returns-clause-reads : goal.returns-clause-reads
returns-clause-reads c = spelled_by c.args.text.now c.find_decimals.result c.find_decimals.ensures.value

pub returns-clause-only : goal.returns-clause-only
returns-clause-only c = λ units h. c.find_decimals.ensures.value ∙ decimals_only c.args.text.now units h
