use Rattle.std.proofs.Common.{◌≤ℤ◌, ap, of_z}
use Rattle.std.specs.Int.{w128}
use Rattle.std.proofs.lemmas.Int.{to_z-of_z}
use Rattle.st_dates.specs.Range.{range_start, range_end}
use Rattle.st_clock.proofs.Ranges.{decided, less_of_test, test_of_less, at_least_of_test}
use Rattle.st_clock.proofs.line.is_in_range.Goals as goal

pub returns : goal.returns
returns c =
    let e = to_z-of_z w128 c.args.count c.ranges.count in
    let low : range_start ≤ℤ c.args.count = at_least_of_test c.args.count range_start (rw e at c.if-count-lt-FIRST.false) in
    let both = decided range_start range_end c.args.count c.args.part c.args.of c.requires low (λ q. c.if-count-eq-LAST.false (ap (of_z w128) q)) in
    rw e (
      λ t. let r = both.0 (less_of_test c.args.count range_end t) in record { from = r.0; to = r.1 },
      λ r. test_of_less c.args.count range_end (both.1 r.to),
    )
