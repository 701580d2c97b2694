use Rattle.std.proofs.Common.{ap, ◌∙◌, unsigned_abs, ℤ, FitsSigned, w32, to_z, of_z, to_z-of_z}
use Rattle.st_dates.specs.CalendarMachine.{calendar_day}
use Rattle.st_dates.proofs.CalendarLaws.{exact}
use Rattle.st_dates.proofs.day.day_of.Goals as goal

pub returns-clause-exact : goal.returns-clause-exact
returns-clause-exact c =
    let fits : FitsSigned w32 c.args.year = c.ranges.year in
    exact c.find_day.result (unsigned_abs (to_z w32 (of_z w32 c.args.year))) c.args.month c.args.day c.find_day.ensures.some c.find_day.ensures.value
    ∙ ap (λ (z : ℤ). calendar_day (unsigned_abs z) c.args.month c.args.day) (to_z-of_z fits)
