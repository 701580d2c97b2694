use Rattle.std.proofs.Common.{List, ◌∙◌, subst, Err}
use Rattle.st_decimal.specs.declared.number.Dec.{Dec}
use Rattle.st_scales.specs.Constants.{GiveConstants}
use Rattle.st_ticks.specs.declared.variable.Var.TheVariants.{DeltaTa, K, Eb, M}
use Rattle.st_tables.specs.TablesMachine.{list_at}
use Rattle.st_tables.specs.Variables.{numbers_of}
use Rattle.st_tables.proofs.LeapLaws.{carried}
use Rattle.st_tables.proofs.constants.make.Goals as goal

pub returns-in_err-table-clause-err : goal.returns-in_err-table-clause-err
returns-in_err-table-clause-err c =
    let fault = c.in_err-table.field-0.0 in
    carried (numbers_of c.args.pool.now DeltaTa) (numbers_of c.args.pool.now K) (numbers_of c.args.pool.now Eb) (numbers_of c.args.pool.now M)
    c.from_residual-in_err-table.result fault c.from_residual-in_err-table.ensures.1
    (subst (λ (l : List (List Dec)). GiveConstants (list_at l 0) (list_at l 1) (list_at l 2) (list_at l 3) (Err fault)) (c.as_slice.ensures ∙ c.in_ok-numbers.ensures) c.in_err-table.ensures)
