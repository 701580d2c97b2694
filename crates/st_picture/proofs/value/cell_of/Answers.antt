use Rattle.std.proofs.Common.{arith}
use Rattle.std.proofs.lemmas.Int.{ints}
use Rattle.st_picture.proofs.ValueLaws.{rounded}
use Rattle.st_picture.proofs.value.cell_of.Goals as goal

pub returns-then-rounds-clause-cell : goal.returns-then-rounds-clause-cell
returns-then-rounds-clause-cell c = rounded c.args.unit c.args.rounds _ c.args.value c.half_of.result _ c.truncated.result c.if-rounds.true c.half_of.ensures.half
    (let from = c.half_of.ensures.from in let to = c.half_of.ensures.to in let low = c.requires.range.0 in let high = c.requires.range.1 in omega (arith, ints))
    c.truncated.ensures.cell
