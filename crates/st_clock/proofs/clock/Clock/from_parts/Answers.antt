use Rattle.std.proofs.Common.{Ok, Err}
use Rattle.st_ticks.specs.declared.fault.FaceFault.TheVariants.{Bad}
use Rattle.st_clock.specs.KeptSteps.{seen}
use Rattle.st_clock.proofs.ClockLaws.{system_fault, record_fault, clock_found, clock_sound, clock_answer_is_one}
use Rattle.st_clock.proofs.clock.Clock.from_parts.Goals as goal

pub returns-in-Err-clause-gives : goal.returns-in-Err-clause-gives
returns-in-Err-clause-gives c =
    system_fault c.args.face c.args.data_type.now c.args.time_system.now c.args.coefficients.now c.in-Err.fault c.in-Err.ensures.gives

pub returns-in-Err-clause-only : goal.returns-in-Err-clause-only
returns-in-Err-clause-only c =
    λ answer h. clock_answer_is_one c.args.face c.args.data_type.now c.args.time_system.now c.args.coefficients.now (Err (Bad c.in-Err.fault)) answer (system_fault c.args.face c.args.data_type.now c.args.time_system.now c.args.coefficients.now c.in-Err.fault c.in-Err.ensures.gives) h

pub returns-in-Err-read_records-clause-gives : goal.returns-in-Err-read_records-clause-gives
returns-in-Err-read_records-clause-gives c =
    record_fault c.args.face c.args.data_type.now c.args.time_system.now c.args.coefficients.now c.in-Ok.scale c.in-Err-read_records.fault c.in-Ok.ensures.gives c.in-Err-read_records.ensures.err

pub returns-in-Err-read_records-clause-only : goal.returns-in-Err-read_records-clause-only
returns-in-Err-read_records-clause-only c =
    λ answer h. clock_answer_is_one c.args.face c.args.data_type.now c.args.time_system.now c.args.coefficients.now (Err c.in-Err-read_records.fault) answer (record_fault c.args.face c.args.data_type.now c.args.time_system.now c.args.coefficients.now c.in-Ok.scale c.in-Err-read_records.fault c.in-Ok.ensures.gives c.in-Err-read_records.ensures.err) h

pub invariant_of-result : goal.invariant_of-result
invariant_of-result c =
    clock_sound c.args.face c.in-Ok.scale c.args.coefficients.now c.in-Ok-read_records.records.items c.total-total.ensures.face c.in-Ok-read_records.ensures.ok

pub returns-clause-only : goal.returns-clause-only
returns-clause-only c =
    λ answer h. clock_answer_is_one c.args.face c.args.data_type.now c.args.time_system.now c.args.coefficients.now (Ok (seen c.args.face c.in-Ok.scale c.in-Ok-read_records.records.items)) answer (clock_found c.args.face c.args.data_type.now c.args.time_system.now c.args.coefficients.now c.in-Ok.scale c.in-Ok-read_records.records.items c.in-Ok.ensures.gives c.in-Ok-read_records.ensures.ok) h
