use Rattle.st_dates.proofs.WrittenDates.{date-reads}
use Rattle.st_dates.proofs.laws.date_reads.Goals as goal

pub returns : goal.returns
returns c = date-reads
