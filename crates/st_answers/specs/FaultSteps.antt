-- How the faults below are carried: want of memory is a fault of its own.
use Rattle.st_routes.specs.declared.fault.TimeFault.{TimeFault}
use Rattle.st_routes.specs.declared.fault.TimeFault.TheVariants as time
use Rattle.st_tables.specs.declared.fault.TableFault.{TableFault}
use Rattle.st_tables.specs.declared.fault.TableFault.TheVariants as table
use Rattle.st_answers.specs.declared.fault.AnswerFault.{AnswerFault}
use Rattle.st_answers.specs.declared.fault.AnswerFault.TheVariants.{Table, Time, OutOfMemory}

abbrev pub of_table : TableFault → AnswerFault
of_table table.OutOfMemory = OutOfMemory
of_table fault = Table fault

abbrev pub of_time : TimeFault → AnswerFault
of_time time.OutOfMemory = OutOfMemory
of_time fault = Time fault
