use Rattle.std.proofs.Common.{◌≡◌, ◌*◌, drop}
use Rattle.st_ticks.specs.Face.{span}
use Rattle.st_ticks.proofs.make.product.Given as goal

abbrev pub invariant-loop-field : goal.invariant-loop-field
invariant-loop-field l = l.product * span (drop l.field-index l.fields) ≡ span l.fields
