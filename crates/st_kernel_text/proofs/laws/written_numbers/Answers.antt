use Rattle.st_kernel_text.proofs.WrittenNumbers.{date-spells, fixed-spells}
use Rattle.st_kernel_text.proofs.laws.written_numbers.Goals as goal

pub returns-clause-fixed : goal.returns-clause-fixed
returns-clause-fixed c = fixed-spells

pub returns-clause-date : goal.returns-clause-date
returns-clause-date c = date-spells
