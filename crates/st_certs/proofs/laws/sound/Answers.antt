use Rattle.st_certs.proofs.Ways.{constants_are, sound_is_told}
use Rattle.st_certs.proofs.laws.sound.Goals as goal

pub returns-clause-constants : goal.returns-clause-constants
returns-clause-constants c = constants_are

pub returns-clause-is_true : goal.returns-clause-is_true
returns-clause-is_true c = sound_is_told
