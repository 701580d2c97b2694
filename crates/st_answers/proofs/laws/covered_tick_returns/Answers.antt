use Rattle.st_answers.proofs.Returned.{covered-tick-returns, tdb-tick-returns, way-back-gives-tick}
use Rattle.st_answers.proofs.laws.covered_tick_returns.Goals as goal

pub returns-clause-way_back : goal.returns-clause-way_back
returns-clause-way_back c = way-back-gives-tick

pub returns-clause-answers : goal.returns-clause-answers
returns-clause-answers c = covered-tick-returns

pub returns-clause-tdb : goal.returns-clause-tdb
returns-clause-tdb c = tdb-tick-returns
