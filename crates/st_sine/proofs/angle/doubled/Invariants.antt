use Rattle.st_sine.proofs.Doubled.{AreDoubled}
use Rattle.st_sine.proofs.angle.doubled.Given as goal

abbrev pub invariant-loop-i : goal.invariant-loop-i
invariant-loop-i l = AreDoubled l.start l.i l.sine.lo l.sine.hi l.cosine.lo l.cosine.hi
