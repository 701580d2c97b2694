use Rattle.std.proofs.Common.{◌≡◌, ◌-◌, drop}
use Rattle.st_dates.specs.Names.{month_names, lowered}
use Rattle.st_dates.specs.NamesMachine.{month_from, month_named}
use Rattle.st_dates.proofs.names.find_month.Given as goal

abbrev pub invariant-loop-month : goal.invariant-loop-month
invariant-loop-month l = month_from l.month (lowered l.name) (drop (l.month - 1) month_names) ≡ month_named l.name
