use Rattle.st_outside.proofs.StateLaws.{AreLater-same, KeepsFiles-same, KeepsFiles-trans}
use Rattle.st_outside.proofs.laws.files_are_kept.Goals as goal

pub returns-clause-counts : goal.returns-clause-counts
returns-clause-counts c = AreLater-same

pub returns-clause-none : goal.returns-clause-none
returns-clause-none c = KeepsFiles-same

pub returns-clause-both : goal.returns-clause-both
returns-clause-both c = KeepsFiles-trans
