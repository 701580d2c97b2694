use Rattle.st_rules.proofs.First.{none_broken}
use Rattle.st_tables.specs.Variables.{Keeps, constant_vars, rules_of_all}
use Rattle.st_tables.proofs.ThreeLaws.{constants_fault}
use Rattle.st_tables.proofs.constants.keep.Goals as goal

pub returns-in-Some-clause-no_memory : goal.returns-in-Some-clause-no_memory
returns-in-Some-clause-no_memory c = λ kept same.
    absurd (none_broken (Keeps c.args.pool.now) (rules_of_all constant_vars) c.in-Some.fault kept c.in-Some.ensures)

pub returns-in_err-make-clause-fault : goal.returns-in_err-make-clause-fault
returns-in_err-make-clause-fault c =
    constants_fault c.args.pool.now c.from_residual.result c.in_err-make.field-0.0 c.from_residual.ensures.1 c.in_default.ensures c.in_err-make.ensures.err
