use Rattle.std.proofs.Common.{FitsSigned, w32}
use Rattle.st_dates.proofs.CivilLaws.{place_is}
use Rattle.st_dates.proofs.day.find_day_of_year.Goals as goal

pub returns-in-Ok-clause-value : goal.returns-in-Ok-clause-value
returns-in-Ok-clause-value c =
    let date = c.in-Ok.date in
    let value = c.in-Ok.ensures.value in
    let fits : FitsSigned w32 c.number_of.result = record { sfits = c.number_of.type_inv } in
    place_is c.number_of.result c.args.year date.year date.month date.day c.args.doy c.requires.year_from c.requires.year_to c.if-doy-gt366.false date.day_in.0 fits c.number_of.ensures value.0 value.1
