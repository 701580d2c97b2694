use Rattle.std.proofs.Common.{◌≡◌, length, Bool, true, false}
use Rattle.st_clock.proofs.PartLaws.{type_not_one, type_range, system_not_one, system_range}
use Rattle.st_clock.proofs.Wholes.{not_empty}
use Rattle.st_clock.proofs.system.judged.Goals as goal

differ : (b : Bool) → b ≡ true → b ≡ false → ⊥
differ b t f = cc

pub returns-then-data_type-ne1 : goal.returns-then-data_type-ne1
returns-then-data_type-ne1 c = rw c.fault.ensures (type_not_one c.args.data_type.now c.args.time_system.now c.if-data_type-ne1.true)

pub returns-then-not-is_one : goal.returns-then-not-is_one
returns-then-not-is_one c =
    rw c.fault-then-not-is_one.ensures
    (type_range c.args.data_type.now c.args.time_system.now _ c.if-data_type-ne1.false (λ h. differ c.is_one.result (c.is_one.ensures.1 h) c.if-not-is_one.true))

pub returns-then-time_system-gt1 : goal.returns-then-time_system-gt1
returns-then-time_system-gt1 c =
    rw c.fault-then-time_system-gt1.ensures
    (system_not_one c.args.data_type.now c.args.time_system.now _ c.if-data_type-ne1.false (c.is_one.ensures.0 c.if-not-is_one.false) c.if-time_system-gt1.true)

pub returns-in-None : goal.returns-in-None
returns-in-None c =
    let one : length c.args.time_system.now ≡ 1 = not_empty (length c.args.time_system.now) c.if-time_system-gt1.false c.if-is_empty.ensures in
    rw c.fault-in-None.ensures
    (system_range c.args.data_type.now c.args.time_system.now _ _ c.if-data_type-ne1.false (c.is_one.ensures.0 c.if-not-is_one.false) one c.in-None.ensures.none)
