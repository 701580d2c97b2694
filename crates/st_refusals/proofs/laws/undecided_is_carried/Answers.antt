use Rattle.st_refusals.proofs.RefusalLaws.{undecided-is-carried}
use Rattle.st_refusals.proofs.laws.undecided_is_carried.Goals as goal

pub returns : goal.returns
returns c = undecided-is-carried
