use Rattle.std.proofs.Common.{option_map}
use Rattle.st_routes.proofs.Instants.{one_instant}
use Rattle.st_routes.proofs.instant.read_instant.Goals as goal

pub returns-clause-only : goal.returns-clause-only
returns-clause-only c answer =
    one_instant c.one_answer.ensures c.args.system c.args.form (option_map (λ t. t.now) c.args.leaps) c.args.text.now c.find_instant.result answer c.find_instant.ensures.gives
