use Rattle.st_tables.specs.ClockSteps.{by_var}
use Rattle.st_tables.specs.TablesMachine.{clock_numbers}
use Rattle.st_tables.proofs.ClockLaws.{same_answers}
use Rattle.st_tables.proofs.clock.clock_of.Goals as goal

pub returns : goal.returns
returns c = same_answers (by_var c.lists_of-lists.result) (clock_numbers c.args.numbers.now) c.clock_by.result c.lists_of-lists.ensures c.clock_by.ensures
