use Rattle.std.proofs.Common.{Ok, refl, ap}
use Rattle.st_tables.specs.Kernels.{Kernels}
use Rattle.st_batch.proofs.SessionLaws.{load-refused, refused-caused}
use Rattle.st_batch.proofs.command.load_named.Goals as goal

pub returns-in-Ok-clause-answered : goal.returns-in-Ok-clause-answered
returns-in-Ok-clause-answered g c =
    record { result = Ok c.load_file.new.kernels.loaded; given = c.in-Ok.ensures.ok; answered = c.in_ok-answer.ensures; left = refl }

pub returns-in-Err-clause-answered : goal.returns-in-Err-clause-answered
returns-in-Err-clause-answered g c = load-refused _ _ _ _ _ c.refused.result c.refused.ensures c.in-Err.ensures.err (ap (λ (k : Kernels). k.loaded) c.in-Err.ensures.refused)

pub returns-in-Err-clause-cause : goal.returns-in-Err-clause-cause
returns-in-Err-clause-cause g c = refused-caused _ _ _ c.refused.result c.refused.ensures c.in-Err.ensures.cause
