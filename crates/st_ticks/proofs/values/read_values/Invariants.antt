use Rattle.std.proofs.Common.{◌≡◌, ◌+◌, ◌≤◌, ℕ, List, length}
use Rattle.st_ticks.specs.TextMachine.{runs}
use Rattle.st_ticks.specs.ValuesSteps.{HoldsFields}
use Rattle.st_ticks.proofs.RunLaws.{ahead}
use Rattle.st_ticks.proofs.values.read_values.Given as goal

abbrev pub invariant-loop-digits : goal.invariant-loop-digits
invariant-loop-digits l =
    (done : List (List ℕ)) × HoldsFields done (record { numbers = l.values.numbers; count = l.values.count })
    × (runs l.text ≡ ahead done (runs l.rest)) × (l.values.count + length l.rest ≤ length l.text)

abbrev pub decreases-loop-digits : goal.decreases-loop-digits
decreases-loop-digits l = length l.rest
