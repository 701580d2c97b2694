use Rattle.st_leaps.proofs.CountLaws.{tables_count}
use Rattle.st_leaps.proofs.laws.each_table_counts.Goals as goal

pub returns : goal.returns
returns c = λ table. tables_count table.pairs.items table.is_table
