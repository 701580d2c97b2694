use Rattle.std.proofs.Common.{rules}
use Rattle.st_dates.proofs.RangeLaws.{in_range_is}
use Rattle.st_dates.proofs.label.is_in_range.Goals as goal

pub returns-in-Some-clause-lies : goal.returns-in-Some-clause-lies
returns-in-Some-clause-lies c = in_range_is c.args.label c.is_ranged.result (search rules)
