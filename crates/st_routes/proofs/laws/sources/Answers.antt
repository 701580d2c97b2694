use Rattle.st_routes.proofs.Instants.{instant_is_source}
use Rattle.st_routes.proofs.Values.{time_is_source}
use Rattle.st_routes.proofs.laws.sources.Goals as goal

pub returns-clause-instant : goal.returns-clause-instant
returns-clause-instant c = instant_is_source c.one_answer.ensures c.each_table_counts.ensures c.even_days_count.ensures

pub returns-clause-time : goal.returns-clause-time
returns-clause-time c = time_is_source
