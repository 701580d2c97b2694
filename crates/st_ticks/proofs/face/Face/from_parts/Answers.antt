use Rattle.st_ticks.specs.Variables.{Numbers}
use Rattle.st_ticks.proofs.OnlyLaws.{makes_one}
use Rattle.st_ticks.proofs.face.Face.from_parts.Goals as goal

pub returns-clause-only : goal.returns-clause-only
returns-clause-only c = λ answer h.
    let n : Numbers = record {
      n_fields = c.args.n_fields.now;
      moduli = c.args.moduli.now;
      offsets = c.args.offsets.now;
      delim = c.args.delim.now;
      starts = c.args.starts.now;
      ends = c.args.ends.now;
    } in
    makes_one n c.made.result answer c.made.ensures h
