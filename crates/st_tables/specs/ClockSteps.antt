-- The numbers of a clock as the code hands them on, and what is made of them.
use Rattle.std.specs.Prelude.{◌≢◌, List, Result, Ok, Err, MatchResult}
use Rattle.st_clock.specs.Clock.{Clock}
use Rattle.st_decimal.specs.declared.number.Dec.{Dec}
use Rattle.st_ticks.specs.declared.variable.ClockVar.{ClockVar}
use Rattle.st_ticks.specs.declared.variable.ClockVar.TheVariants.{DataType, TimeSystem, NFields, Moduli, Offsets, Delim, Start, End, Coefficients}
use Rattle.st_tables.specs.declared.clock.ClockLists.{ClockLists}
use Rattle.st_tables.specs.declared.fault.TableFault.{TableFault}
use Rattle.st_tables.specs.declared.fault.TableFault.TheVariants.{OutOfMemory}
use Rattle.st_tables.specs.Tables.{ClockMade}

abbrev pub by_var : ClockLists → ClockVar → List Dec
by_var lists DataType = lists.data_type.now
by_var lists TimeSystem = lists.time_system.now
by_var lists NFields = lists.n_fields.now
by_var lists Moduli = lists.moduli.now
by_var lists Offsets = lists.offsets.now
by_var lists Delim = lists.delim.now
by_var lists Start = lists.starts.now
by_var lists End = lists.ends.now
by_var lists Coefficients = lists.coefficients.now

-- the clock of the numbers or their first fault, unless memory was refused
abbrev pub ClockAnswers : (ClockVar → List Dec) → Result Clock TableFault → Type 0
ClockAnswers numbers result =
    MatchResult result (λ clock. ClockMade numbers (Ok clock)) (λ fault. fault ≢ OutOfMemory → ClockMade numbers (Err fault))
