use Rattle.st_batch.proofs.ReturnedOutput.{covered-output-returns, tdb-output-returns}
use Rattle.st_batch.proofs.laws.covered_output_returns.Goals as goal

pub returns-clause-answers : goal.returns-clause-answers
returns-clause-answers c = covered-output-returns

pub returns-clause-tdb : goal.returns-clause-tdb
returns-clause-tdb c = tdb-output-returns
