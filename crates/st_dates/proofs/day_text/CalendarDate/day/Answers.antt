use Rattle.std.proofs.Common.{◌∙◌}
use Rattle.st_dates.proofs.DayReads.{number_found, numbered}
use Rattle.st_dates.proofs.day_text.CalendarDate.day.Goals as goal

pub returns-clause-some : goal.returns-clause-some
returns-clause-some c = numbered c.args.self c.find_number.result c.find_number.ensures

pub returns-clause-only : goal.returns-clause-only
returns-clause-only c = λ n h. c.find_number.ensures ∙ number_found c.args.self n h
