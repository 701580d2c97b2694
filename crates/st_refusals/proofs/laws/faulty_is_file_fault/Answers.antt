use Rattle.st_refusals.proofs.RefusalLaws.{faulty-is-file-fault}
use Rattle.st_refusals.proofs.laws.faulty_is_file_fault.Goals as goal

pub returns : goal.returns
returns c = faulty-is-file-fault
