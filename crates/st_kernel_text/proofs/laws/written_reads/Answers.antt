use Rattle.st_kernel_text.proofs.WrittenLaws.{written-reads}
use Rattle.st_kernel_text.proofs.laws.written_reads.Goals as goal

pub returns : goal.returns
returns c = written-reads
