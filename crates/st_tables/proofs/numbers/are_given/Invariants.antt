use Rattle.std.proofs.Common.{◌≡◌, take}
use Rattle.st_tables.specs.Variables.{all_numbers}
use Rattle.st_tables.proofs.numbers.are_given.Given as goal

abbrev pub invariant-loop-i : goal.invariant-loop-i
invariant-loop-i l = take l.i l.numbers ≡ all_numbers l.pool (take l.i l.vars)
