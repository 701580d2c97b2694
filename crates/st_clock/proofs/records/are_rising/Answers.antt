use Rattle.std.proofs.Common.{◌+◌, ◌<◌, ◌≤◌, ◌-◌, length, get_or, pos, refl, arith}
use Rattle.std.specs.Int.{w128}
use Rattle.std.proofs.lemmas.Int.{to_z-of_z}
use Rattle.st_clock.specs.declared.coefficient.Coefficient.{Coefficient}
use Rattle.st_clock.proofs.RecordLaws.{one_more_step, all_steps, small_at}
use Rattle.st_clock.proofs.records.are_rising.Goals as goal

pub loop-i-preserved : goal.loop-i-preserved
loop-i-preserved c =
    let more : c.loop-i.i + 1 < length c.args.records.now = omega (arith, c.loop-i-test.true, c.saturating_sub-i-end.ensures) in
    let none : Coefficient = record { ticks = 0; time = pos 0; rate = 0 } in
    let first = small_at c.args.records.now c.loop-i.i none c.requires (omega arith) in
    let second = small_at c.args.records.now (c.loop-i.i + 1) none c.requires more in
    let step = rw (
      to_z-of_z w128 (get_or c.args.records.now c.loop-i.i none).time first,
      to_z-of_z w128 (get_or c.args.records.now (c.loop-i.i + 1) none).time second,
    ) at (c.is_before.ensures.0 c.if-not-is_before.false) in
    one_more_step c.args.records.now c.loop-i.i none none more c.loop-i.invariant step

pub returns : goal.returns
returns c =
    let end : length c.args.records.now - 1 ≤ c.loop-i.i = omega (arith, c.loop-i-test.false, c.saturating_sub-i-end.ensures) in
    (λ e. all_steps c.args.records.now c.loop-i.i end c.loop-i.invariant, λ h. refl)
