use Rattle.std.proofs.Common.{◌≡◌, ◌++◌}
use Rattle.st_pool.specs.Variable.{loaded_values}
use Rattle.st_tables.specs.Names.{var_name}
use Rattle.st_tables.specs.Variables.{numbers_in}
use Rattle.st_tables.proofs.numbers.numbers_of.Given as goal

abbrev pub invariant-loop-value : goal.invariant-loop-value
invariant-loop-value l = l.list ++ numbers_in l.value-iterator ≡ numbers_in (loaded_values (var_name l.fn.var) l.pool)
