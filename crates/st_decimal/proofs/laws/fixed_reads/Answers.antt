use Rattle.st_decimal.proofs.FixedReads.{fixed-reads}
use Rattle.st_decimal.proofs.laws.fixed_reads.Goals as goal

pub returns : goal.returns
returns c = fixed-reads
