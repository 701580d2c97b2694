use Rattle.std.proofs.Common.{ap, ◌∙◌, unsigned_abs, ℤ, FitsSigned, w32, to_z, of_z, to_z-of_z}
use Rattle.st_dates.specs.CalendarMachine.{day_in_year}
use Rattle.st_dates.proofs.CalendarLaws.{place_exact}
use Rattle.st_dates.proofs.day.day_of_doy.Goals as goal

pub returns-clause-exact : goal.returns-clause-exact
returns-clause-exact c =
    let fits : FitsSigned w32 c.args.year = c.ranges.year in
    place_exact c.find_day_of_year.result (unsigned_abs (to_z w32 (of_z w32 c.args.year))) c.args.doy c.find_day_of_year.ensures.some c.find_day_of_year.ensures.value
    ∙ ap (λ (z : ℤ). day_in_year (unsigned_abs z) c.args.doy) (to_z-of_z fits)
