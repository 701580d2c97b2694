use Rattle.std.proofs.Common.{inl, inr}
use Rattle.std.proofs.lemmas.Int.{to_z-of_z}
use Rattle.st_enclosure.proofs.rounding.least.Goals as goal
use Rattle.st_enclosure.proofs.rounding.least.Goals.{then-c-d, else-c-d}

pub returns-else-x-y-clause-reached : goal.returns-else-x-y-clause-reached
returns-else-x-y-clause-reached c =
    let f = c.ranges.c in
    let g = c.ranges.d in
    elim c.if-c-d.branch [ then-c-d w ↦ inr (inr (inl (simp to_z-of_z at w.y-is))) | else-c-d w ↦ inr (inr (inr (simp to_z-of_z at w.y-is))) ]
