use Rattle.std.proofs.Common.{refl, Ok}
use Rattle.st_tables.specs.Kept.{HasClockOf, with_clock}
use Rattle.st_tables.specs.Tables.{ClockGives}
use Rattle.st_tables.proofs.AnswerLaws.{refused, clock_found}
use Rattle.st_tables.proofs.ThreeLaws.{clock_one}
use Rattle.st_tables.proofs.tables.Tables.clock.Goals as goal

pub returns-in_err-keep_clock : goal.returns-in_err-keep_clock
returns-in_err-keep_clock c =
    let loaded = c.args.pool.now in
    let a = refused (λ x. x) (ClockGives c.args.n loaded) (HasClockOf c.args.n loaded c.args.self.now) c.args.self.now (with_clock c.args.n loaded c.args.self.now) (clock_one c.args.n loaded)
    c.from_residual.result c.in_err-keep_clock.field-0.0 c.keep_clock.new.self c.from_residual.ensures.1 c.in_err-keep_clock.ensures.keep c.in_err-keep_clock.ensures.fault
    c.in_err-keep_clock.ensures.no_memory in
    ((refl, λ _. tt, a.keep), record { gives = a.gives; only = a.only; no_memory = a.no_memory; kept = tt })

pub returns : goal.returns
returns c =
    let loaded = c.args.pool.now in
    let gives = clock_found c.args.n loaded c.args.self.now c.keep_clock.new.self c.kept_clock.result.now c.in_ok-keep_clock.ensures.keep c.in_ok-keep_clock.ensures.kinds c.kept_clock.ensures in
    ((refl, λ _. tt, c.in_ok-keep_clock.ensures.keep), record { gives = gives; only = λ answer other. clock_one c.args.n loaded (Ok c.kept_clock.result.now) answer gives other; no_memory = λ _. refl; kept = tt })
