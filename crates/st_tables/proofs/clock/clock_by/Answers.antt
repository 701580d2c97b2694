use Rattle.st_tables.specs.ClockSteps.{by_var}
use Rattle.st_tables.specs.TablesMachine.{fault_of_face}
use Rattle.st_tables.specs.declared.fault.TableFault.TheVariants.{Clock}
use Rattle.st_tables.proofs.ClockLaws.{exits, system_breaks, face_exit, records_exit, found}
use Rattle.st_tables.proofs.clock.clock_by.Goals as goal

pub returns-in_err-check_system : goal.returns-in_err-check_system
returns-in_err-check_system c =
    let n = by_var c.args.lists.now in
    exits n c.from_residual.result (Clock c.in_err-check_system.field-0.0) c.from_residual.ensures.1 (λ other. system_breaks n c.in_err-check_system.field-0.0 c.in_err-check_system.ensures.gives)

pub returns-in_err-face : goal.returns-in_err-face
returns-in_err-face c =
    let n = by_var c.args.lists.now in
    exits n c.from_residual-in_err-face.result (fault_of_face c.in_err-face.field-0.0) c.from_residual-in_err-face.ensures.1
    (face_exit n c.in_ok-check_system.field-0 c.in_err-face.field-0.0 c.in_ok-check_system.ensures.gives c.in_err-face.ensures.makes)

pub returns-in_err-clock : goal.returns-in_err-clock
returns-in_err-clock c =
    let n = by_var c.args.lists.now in
    exits n c.from_residual-in_err-clock.result (fault_of_face c.in_err-clock.field-0.0) c.from_residual-in_err-clock.ensures.1
    (records_exit n c.in_ok-check_system.field-0 c.in_ok-face.face c.in_err-clock.field-0.0 c.in_ok-check_system.ensures.gives c.in_ok-face.ensures.makes c.in_err-clock.ensures.gives)

pub returns : goal.returns
returns c = found (by_var c.args.lists.now) c.in_ok-face.face c.in_ok-clock.clock c.in_ok-face.ensures.makes c.in_ok-clock.ensures.gives
