use Rattle.std.proofs.Common.{List, length, ◌∙◌, ap, subst, Ok}
use Rattle.st_decimal.specs.declared.number.Dec.{Dec}
use Rattle.st_ticks.specs.declared.variable.ClockVar.{ClockVar}
use Rattle.st_ticks.specs.declared.variable.Var.TheVariants.{Clock}
use Rattle.st_ticks.specs.declared.variable.Var.{Var}
use Rattle.st_tables.specs.Tables.{ClockMade}
use Rattle.st_tables.specs.TablesMachine.{clock_numbers}
use Rattle.st_tables.specs.Variables.{all_numbers, numbers_of}
use Rattle.st_tables.proofs.ClockLaws.{carried, in_order}
use Rattle.st_tables.proofs.clock.make.Goals as goal

pub returns-in_err-table-clause-err : goal.returns-in_err-table-clause-err
returns-in_err-table-clause-err c =
    let of : ClockVar → List Dec = λ v. numbers_of c.args.pool.now (Clock v c.args.n) in
    let given = c.as_slice.ensures ∙ c.in_ok-numbers.ensures ∙ ap (λ (vars : List Var). all_numbers c.args.pool.now vars) c.clock_vars.ensures in
    carried (clock_numbers c.as_slice.result.now) of c.from_residual-in_err-table.result c.in_err-table.field-0.0
    (in_order c.args.pool.now c.args.n c.as_slice.result.now given) c.from_residual-in_err-table.ensures.1 c.in_err-table.ensures

pub invariant_of-result : goal.invariant_of-result
invariant_of-result c = record {
  lists = ap (λ (l : List (List Dec)). length l) c.in_ok-numbers.ensures ∙ ap (λ (vars : List Var). length (all_numbers c.args.pool.now vars)) c.clock_vars.ensures;
  made = subst (λ (l : List (List Dec)). ClockMade (clock_numbers l) (Ok c.in_ok-table.table)) c.as_slice.ensures c.in_ok-table.ensures;
}
