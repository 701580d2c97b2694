use Rattle.st_picture.proofs.Fronts.{length_hashes}
use Rattle.st_picture.proofs.front.hashes_len.Goals as goal

pub returns-else-places-eq0-clause-value : goal.returns-else-places-eq0-clause-value
returns-else-places-eq0-clause-value c = length_hashes c.args.places c.if-places-eq0.false
