use Rattle.st_leaps.proofs.CountLaws.{tables_count}
use Rattle.st_leaps.proofs.laws.tables_count.Goals as goal

pub returns : goal.returns
returns c = tables_count
