-- The values of the variables as the code hands them on, and the rules that it looks at before it reads the ends.
use Rattle.st_ticks.specs.Variables as variables
use Rattle.st_ticks.specs.declared.numbers.Numbers.{Numbers}
use Rattle.st_ticks.specs.declared.variable.ClockFault.{ClockFault}
use Rattle.st_ticks.specs.declared.variable.ClockVar.{ClockVar}
use Rattle.st_ticks.specs.declared.variable.ClockVar.TheVariants.{End}
use Rattle.st_ticks.specs.declared.variable.ClockWhy.{ClockWhy}
use Rattle.st_ticks.specs.declared.variable.ClockWhy.TheVariants.{Range, Product}

abbrev pub numbers_of : Numbers → variables.Numbers
numbers_of n = record {
  n_fields = n.n_fields.now;
  moduli = n.moduli.now;
  offsets = n.offsets.now;
  delim = n.delim.now;
  starts = n.starts.now;
  ends = n.ends.now;
}

abbrev pub IsEarlyOf : ClockVar → ClockWhy → Type 0
IsEarlyOf End Range = ⊥
IsEarlyOf End Product = ⊥
IsEarlyOf _ _ = Unit {0}

abbrev pub IsEarly : ClockFault → Type 0
IsEarly fault = IsEarlyOf fault.var fault.why
