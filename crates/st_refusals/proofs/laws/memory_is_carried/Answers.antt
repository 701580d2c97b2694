use Rattle.st_refusals.proofs.RefusalLaws.{tables-name-no-memory, times-name-no-memory}
use Rattle.st_refusals.proofs.laws.memory_is_carried.Goals as goal

pub returns-clause-tables : goal.returns-clause-tables
returns-clause-tables c = tables-name-no-memory

pub returns-clause-times : goal.returns-clause-times
returns-clause-times c = times-name-no-memory
