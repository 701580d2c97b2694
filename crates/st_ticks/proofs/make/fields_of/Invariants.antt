use Rattle.std.proofs.Common.{take}
use Rattle.st_ticks.specs.Variables.{HaveModuli, HaveOffsets}
use Rattle.st_ticks.proofs.make.fields_of.Given as goal

abbrev pub invariant-loop-i : goal.invariant-loop-i
invariant-loop-i l = HaveModuli (take l.i l.moduli) l.fields.items × HaveOffsets (take l.i l.offsets) l.fields.items
