use Rattle.std.proofs.Common.{◌%◌, ◌+◌, ◌∙◌, sym, subst, ℤ}
use Rattle.st_dates.specs.Civil.{IsCivil}
use Rattle.st_dates.proofs.CivilLaws.{civil_is, year_cast}
use Rattle.st_dates.proofs.civil.parts_of.Goals as goal

pub returns : goal.returns
returns c =
    let date = c.from_days_since_min-date.result in
    let made = civil_is c.args.day date.year date.month date.day c.day_of_year.result c.index.result c.requires.from c.requires.to (date.year_in, date.month_in, date.day_in) c.from_days_since_min-date.ensures c.day_of_year.ensures.value (c.index.ensures.value ∙ c.weekday.ensures) in
    subst (λ (y : ℤ). IsCivil c.args.day (record { year = y; month = date.month; day = date.day; doy = c.day_of_year.result; weekday = (c.index.result + 1) % 7 })) (sym (year_cast date.year c.from.result date.year_in c.from.ensures)) made
