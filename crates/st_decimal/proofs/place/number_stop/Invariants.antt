use Rattle.std.proofs.Common.{◌≡◌, drop}
use Rattle.st_decimal.specs.NumberMachine.{stop_of}
use Rattle.st_decimal.specs.declared.place.Place.TheVariants.{Start}
use Rattle.st_decimal.proofs.place.number_stop.Given as goal

abbrev pub invariant-loop-i : goal.invariant-loop-i
invariant-loop-i l = stop_of l.place l.i (drop l.i l.text) ≡ stop_of Start 0 l.text
