use Rattle.st_tables.proofs.ThreeLaws.{leaps_one, constants_one, clock_one}
use Rattle.st_tables.proofs.laws.one_answer.Goals as goal

pub returns-clause-leaps : goal.returns-clause-leaps
returns-clause-leaps c = leaps_one

pub returns-clause-constants : goal.returns-clause-constants
returns-clause-constants c = constants_one

pub returns-clause-clock : goal.returns-clause-clock
returns-clause-clock c = clock_one
