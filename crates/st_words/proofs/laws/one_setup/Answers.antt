use Rattle.st_words.proofs.OneSetup.{one-clock, one-files}
use Rattle.st_words.proofs.laws.one_setup.Goals as goal

pub returns-clause-clock : goal.returns-clause-clock
returns-clause-clock c = one-clock

pub returns-clause-files : goal.returns-clause-files
returns-clause-files c = one-files
