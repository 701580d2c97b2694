use Rattle.std.proofs.Common.{◌≡◌, take}
use Rattle.st_tables.specs.Variables.{all_numbers}
use Rattle.st_tables.proofs.numbers.read_numbers.Given as goal

abbrev pub invariant-loop-var : goal.invariant-loop-var
invariant-loop-var l = l.numbers ≡ all_numbers l.pool (take l.var-index l.vars)
