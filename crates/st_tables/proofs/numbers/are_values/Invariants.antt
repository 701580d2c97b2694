use Rattle.std.proofs.Common.{◌≡◌, take, map, ◌++◌}
use Rattle.st_kernel_text.specs.declared.value.Value.TheVariants.{Number}
use Rattle.st_pool.specs.Variable.{loaded_values}
use Rattle.st_tables.specs.Names.{var_name}
use Rattle.st_tables.proofs.numbers.are_values.Given as goal

abbrev pub invariant-loop-number : goal.invariant-loop-number
invariant-loop-number l = loaded_values (var_name l.fn.var) l.pool ≡ map Number (take l.number-index l.numbers) ++ l.values
