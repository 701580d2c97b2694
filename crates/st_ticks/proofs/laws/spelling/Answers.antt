use Rattle.st_ticks.proofs.CanonicalLaws.{canonical_reads}
use Rattle.st_ticks.proofs.FaceLaws.{canonical_is_one}
use Rattle.st_ticks.proofs.laws.spelling.Goals as goal

pub returns : goal.returns
returns c = record { one = canonical_is_one; reads = canonical_reads }
