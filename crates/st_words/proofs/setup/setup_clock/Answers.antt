use Rattle.st_words.proofs.SetupLaws.{one_clock}
use Rattle.st_words.proofs.setup.setup_clock.Goals as goal

pub returns-clause-only : goal.returns-clause-only
returns-clause-only c = λ answer h. one_clock c.args.pool.now c.named_clock.result answer c.named_clock.ensures.finds c.named_clock.ensures.gives h
