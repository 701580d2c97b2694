use Rattle.st_tables.proofs.FoundLaws.{leaps_found, constants_found, clock_found}
use Rattle.st_tables.proofs.laws.each_gives.Goals as goal

pub returns-clause-leaps : goal.returns-clause-leaps
returns-clause-leaps c = leaps_found

pub returns-clause-constants : goal.returns-clause-constants
returns-clause-constants c = constants_found

pub returns-clause-clock : goal.returns-clause-clock
returns-clause-clock c = clock_found
