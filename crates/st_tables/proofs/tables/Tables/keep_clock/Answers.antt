use Rattle.std.proofs.Common.{ap, ◌∙◌}
use Rattle.st_tables.specs.Kept.{Kept}
use Rattle.st_tables.proofs.tables.Tables.keep_clock.Goals as goal

pub returns-clause-no_memory : goal.returns-clause-no_memory
returns-clause-no_memory c = λ has. c.keep.ensures.no_memory has.0 (ap (λ (k : Kept). k.clock) c.self.view_is ∙ has.1)
