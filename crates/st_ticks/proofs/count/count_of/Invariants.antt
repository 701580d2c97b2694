use Rattle.std.proofs.Common.{◌≡◌, ◌+◌, ◌*◌, ◌^◌, ◌≤◌, drop}
use Rattle.st_ticks.specs.Face.{span}
use Rattle.st_ticks.specs.Reading as reading
use Rattle.st_ticks.proofs.count.count_of.Given as goal

abbrev pub invariant-loop-i : goal.invariant-loop-i
invariant-loop-i l = record {
  counted : l.count + reading.count_of (drop l.i l.fields) (drop l.i l.values) ≡ reading.count_of l.fields l.values;
  spans : l.span ≡ span (drop l.i l.fields);
  small : l.count ≤ l.i * (2 * 10 ^ 30);
}
