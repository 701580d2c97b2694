use Rattle.std.proofs.Common.{◌∙◌}
use Rattle.st_dates.proofs.NameLaws.{named, only}
use Rattle.st_dates.proofs.names.month_of.Goals as goal

pub returns-clause-value : goal.returns-clause-value
returns-clause-value c = named c.find_month.result c.args.name.now c.find_month.ensures

pub returns-clause-only : goal.returns-clause-only
returns-clause-only c = λ m h. c.find_month.ensures ∙ only c.args.name.now m h
