use Rattle.st_refusals.proofs.RefusalLaws.{times-have-no-cause}
use Rattle.st_refusals.proofs.laws.times_have_no_cause.Goals as goal

pub returns : goal.returns
returns c = times-have-no-cause
