use Rattle.st_leaps.specs.OfTable.{count_of}
use Rattle.st_routes.proofs.Instants.{source_of_answer}
use Rattle.st_routes.proofs.instant.utc_instant.Goals as goal

pub returns-clause-range : goal.returns-clause-range
returns-clause-range c =
    source_of_answer (count_of c.args.table.now) c.args.label c.tai_of.result (c.each_table_counts.ensures c.args.table.now) c.requires c.tai_of.ensures
