use Rattle.std.proofs.Common.{subst, List}
use Rattle.st_rules.specs.Rules.{IsFirstBroken}
use Rattle.st_ticks.specs.declared.variable.Var.{Var}
use Rattle.st_tables.specs.Variables.{Keeps, clock_vars, rules_of_all}
use Rattle.st_rules.proofs.First.{none_broken}
use Rattle.st_tables.proofs.clock.keep.Goals as goal

pub returns-in-Some-clause-no_memory : goal.returns-in-Some-clause-no_memory
returns-in-Some-clause-no_memory c = λ kept same.
    absurd (none_broken (Keeps c.args.pool.now) (rules_of_all (clock_vars c.args.n)) c.in-Some.fault kept
    (subst (λ (vars : List Var). IsFirstBroken (Keeps c.args.pool.now) (rules_of_all vars) c.in-Some.fault) c.clock_vars.ensures c.in-Some.ensures))
