use Rattle.std.proofs.Common.{ℤ, Ok, FitsSigned, to_z-of_z, sym, subst, arith}
use Rattle.std.proofs.lemmas.Int.{ints}
use Rattle.std.specs.Int.{w128}
use Rattle.st_routes.specs.declared.ticks.TickForm.TheVariants as tick
use Rattle.st_words.specs.declared.job.FromKind.TheVariants as from
use Rattle.st_answers.specs.AskedSteps.{SourceIs, shown}
use Rattle.st_answers.proofs.LentSteps.{source-is-refused}
use Rattle.st_answers.proofs.Sourced.{clock-read, strings-are, ticks-are, time-read, time-refused}
use Rattle.st_answers.proofs.source.read_source.Goals as goal

pub returns-in_err-units-in-Time-clause-gives : goal.returns-in_err-units-in-Time-clause-gives
returns-in_err-units-in-Time-clause-gives c =
    source-is-refused c.args.job.now c.args.text.now (shown c.args.tables.now) c.in_err-units-in-Time.field-0.0 _ c.from_residual.ensures.1
    (time-refused c.args.job.now c.in-Time.form c.args.text.now c.in_err-units-in-Time.field-0.0 (shown c.args.tables.now) c.in-Time.is c.in_err-units-in-Time.ensures.gives)

pub returns-in_ok-units-in-Time-clause-gives : goal.returns-in_ok-units-in-Time-clause-gives
returns-in_ok-units-in-Time-clause-gives c =
    let u = c.in_ok-units-in-Time.units in
    let range = c.in_ok-units-in-Time.ensures.range in
    let fits : FitsSigned w128 u = omega (arith, ints, range.0, range.1) in
    let P : ℤ → Type 0 = λ z. SourceIs c.args.job.now c.args.text.now (shown c.args.tables.now) (Ok (record { units = z; part = 0; of = 1 })) in
    subst P (sym (to_z-of_z fits)) (time-read c.args.job.now c.in-Time.form c.args.text.now u (shown c.args.tables.now) c.in-Time.is c.in_ok-units-in-Time.ensures.gives)

pub returns-in-Clock-clause-gives : goal.returns-in-Clock-clause-gives
returns-in-Clock-clause-gives c =
    clock-read c.args.job.now tick.Clock c.args.text.now from.Clock (shown c.args.tables.now) c.read_clock_time.result c.in-Clock.is
    (strings-are c.args.job.now c.requires.ready.source c.in-Clock.is) (λ x h. h) c.read_clock_time.ensures.part c.read_clock_time.ensures.gives

pub returns-in-Ticks-clause-gives : goal.returns-in-Ticks-clause-gives
returns-in-Ticks-clause-gives c =
    clock-read c.args.job.now tick.Ticks c.args.text.now from.Ticks (shown c.args.tables.now) c.read_clock_time-in-Ticks.result c.in-Ticks.is
    (ticks-are c.args.job.now c.requires.ready.source c.in-Ticks.is) (λ x h. h) c.read_clock_time-in-Ticks.ensures.part c.read_clock_time-in-Ticks.ensures.gives
