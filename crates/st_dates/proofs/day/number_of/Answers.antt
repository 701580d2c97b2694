use Rattle.st_dates.proofs.DayLemmas.{number_is}
use Rattle.st_dates.proofs.day.number_of.Goals as goal

pub returns : goal.returns
returns c =
    let date = c.args.date in
    number_is c.to_unix_epoch_day.result date.year date.month date.day c.requires date.day_in.0 c.to_unix_epoch_day.ensures.value c.to_unix_epoch_day.ensures.bound
