use Rattle.st_batch.proofs.CutLaws.{cut_at, no_feed_from}
use Rattle.st_batch.proofs.input.ended_line.Goals as goal

pub returns-in-Some : goal.returns-in-Some
returns-in-Some c = cut_at c.args.text.now c.in-Some.end (cc)

pub returns-in-None : goal.returns-in-None
returns-in-None c = no_feed_from c.args.text.now (cc)
