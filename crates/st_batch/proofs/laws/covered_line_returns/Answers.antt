use Rattle.st_batch.proofs.ClockLines.{covered-line-returns, tdb-line-returns}
use Rattle.st_batch.proofs.laws.covered_line_returns.Goals as goal

pub returns-clause-answers : goal.returns-clause-answers
returns-clause-answers c = covered-line-returns

pub returns-clause-tdb : goal.returns-clause-tdb
returns-clause-tdb c = tdb-line-returns
