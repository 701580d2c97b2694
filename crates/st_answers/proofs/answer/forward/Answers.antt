use Rattle.std.proofs.Common.{subst}
use Rattle.st_tables.specs.Variables.{Loaded}
use Rattle.st_answers.specs.Asked.{AreTables}
use Rattle.st_answers.specs.AskedSteps.{shown}
use Rattle.st_answers.proofs.LentLaws.{have-asked}
use Rattle.st_answers.proofs.Sourced.{one-way, table-refuses}
use Rattle.st_answers.proofs.answer.forward.Goals as goal

pub returns-in_err-find_tables-clause-err : goal.returns-in_err-find_tables-clause-err
returns-in_err-find_tables-clause-err c =
    table-refuses c.args.job.now c.args.kernels.now.loaded c.args.text.now c.in_err-find_tables.field-0.0 c.from_residual.result c.from_residual.ensures.1
    c.in_err-find_tables.ensures.err

pub answer_by-requires-clause-asked : goal.answer_by-requires-clause-asked
answer_by-requires-clause-asked c = have-asked c.args.job.now _ (shown c.lend-tables.result) c.lend-tables.ensures

pub returns-in_err-answer_by-clause-err : goal.returns-in_err-answer_by-clause-err
returns-in_err-answer_by-clause-err c =
    one-way c.args.job.now c.args.kernels.now.loaded c.args.text.now (shown c.lend-tables.result) c.in_err-answer_by.field-0.0 _
    (subst (λ (l : Loaded). AreTables c.args.job.now l (shown c.lend-tables.result)) c.in_ok-find_tables.ensures.loaded c.lend-tables.ensures)
    c.from_residual-in_err-answer_by.ensures.1 c.in_err-answer_by.ensures.err

pub returns-clause-ok : goal.returns-clause-ok
returns-clause-ok c = (
  shown c.lend-tables.result,
  subst (λ (l : Loaded). AreTables c.args.job.now l (shown c.lend-tables.result)) c.in_ok-find_tables.ensures.loaded c.lend-tables.ensures,
  c.in_ok-answer_by.ensures.ok,
)
