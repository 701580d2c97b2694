use Rattle.std.proofs.Common.{ℤ, FitsSigned, to_z-of_z, subst, arith}
use Rattle.std.proofs.lemmas.Int.{ints}
use Rattle.std.specs.Int.{w128}
use Rattle.st_routes.specs.declared.ticks.TickForm.TheVariants as tick
use Rattle.st_answers.specs.AskedSteps.{ClockPrintIs, shown}
use Rattle.st_answers.proofs.Printed.{picture-printed, strings-printed, ticks-printed}
use Rattle.st_answers.proofs.target.print.Goals as goal

pub returns-in-Pictured : goal.returns-in-Pictured
returns-in-Pictured c =
    picture-printed c.args.job.now c.args.route.now c.args.time c.in-Pictured.picture c.print_time.result (shown c.args.tables.now) c.in-Pictured.is
    c.requires.part c.print_time.ensures.gives

pub returns-in-Clock : goal.returns-in-Clock
returns-in-Clock c =
    let fits : FitsSigned w128 c.args.time.units = omega (arith, ints, c.requires.range.0, c.requires.range.1) in
    let P : ℤ → Type 0 = λ z. ClockPrintIs c.args.route.now z tick.Clock (shown c.args.tables.now) c.print_clock.result in
    strings-printed c.args.job.now c.args.route.now c.args.time (shown c.args.tables.now) c.print_clock.result c.requires.ready.target c.in-Clock.is c.requires.one
    (subst P (to_z-of_z fits) c.print_clock.ensures)

pub returns-in-Ticks : goal.returns-in-Ticks
returns-in-Ticks c =
    let fits : FitsSigned w128 c.args.time.units = omega (arith, ints, c.requires.range.0, c.requires.range.1) in
    let P : ℤ → Type 0 = λ z. ClockPrintIs c.args.route.now z tick.Ticks (shown c.args.tables.now) c.print_clock-in-Ticks.result in
    ticks-printed c.args.job.now c.args.route.now c.args.time (shown c.args.tables.now) c.print_clock-in-Ticks.result c.requires.ready.target c.in-Ticks.is
    c.requires.one (subst P (to_z-of_z fits) c.print_clock-in-Ticks.ensures)
