use Rattle.std.proofs.Common.{◌≡◌, ℕ, ◌<◌, ◌≤◌, true, false, nat_le, get_or, arith, rules}
use Rattle.std.proofs.lemmas.Bool.Decides.{nat_tests}
use Rattle.std.proofs.lemmas.List.Sorted.{IsPartitionedBy-leb, IsPartitionPoint-from_clause}
use Rattle.st_ticks.proofs.place.begun.Goals as goal

at_most : (a b : ℕ) → nat_le a b ≡ true → a ≤ b
at_most a b h = grind (arith, nat_tests)

above : (a b : ℕ) → nat_le a b ≡ false → b < a
above a b h = grind (arith, nat_tests)

pub returns-clause-before : goal.returns-clause-before
returns-clause-before c =
    let point = IsPartitionPoint-from_clause (λ (b : ℕ). nat_le b c.args.ticks) _ _ c.partition_point.ensures.partitioned
    (IsPartitionedBy-leb (λ (b : ℕ). b) c.args.begins.now c.args.ticks c.requires.rising) (λ a r q k. search rules) in
    λ i l. at_most (get_or c.args.begins.now i 0) c.args.ticks (point.0 i 0 (omega arith) l)

pub returns-clause-after : goal.returns-clause-after
returns-clause-after c =
    let point = IsPartitionPoint-from_clause (λ (b : ℕ). nat_le b c.args.ticks) _ _ c.partition_point.ensures.partitioned
    (IsPartitionedBy-leb (λ (b : ℕ). b) c.args.begins.now c.args.ticks c.requires.rising) (λ a r q k. search rules) in
    λ i l m. above (get_or c.args.begins.now i 0) c.args.ticks (point.1 i 0 l m)
