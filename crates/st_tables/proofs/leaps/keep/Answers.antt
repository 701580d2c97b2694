use Rattle.st_rules.proofs.First.{none_broken}
use Rattle.st_tables.specs.Variables.{Keeps, leap_vars, rules_of_all}
use Rattle.st_tables.proofs.leaps.keep.Goals as goal

pub returns-in-Some-clause-no_memory : goal.returns-in-Some-clause-no_memory
returns-in-Some-clause-no_memory c = λ kept same.
    absurd (none_broken (Keeps c.args.pool.now) (rules_of_all leap_vars) c.in-Some.fault kept c.in-Some.ensures)
