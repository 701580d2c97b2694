use Rattle.st_tables.proofs.NumberLaws.{numbers_are_all}
use Rattle.st_tables.proofs.laws.numbers_are_all.Goals as goal

pub returns : goal.returns
returns c = numbers_are_all
