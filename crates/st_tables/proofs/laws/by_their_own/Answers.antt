use Rattle.st_tables.proofs.ThreeLaws.{leaps_own, constants_own, clock_own}
use Rattle.st_tables.proofs.laws.by_their_own.Goals as goal

pub returns-clause-leaps : goal.returns-clause-leaps
returns-clause-leaps c = leaps_own

pub returns-clause-constants : goal.returns-clause-constants
returns-clause-constants c = constants_own

pub returns-clause-clock : goal.returns-clause-clock
returns-clause-clock c = clock_own
