-- What is shown is printed: a month and a weekday have names, and an hour is one of a day.
use Rattle.std.specs.Prelude.{◌≤◌}
use Rattle.st_picture.specs.declared.shown.Shown.{Shown}

pub record IsNamed (s : Shown) : Type 0 where
  pub month_from : 1 ≤ s.civil.month
  pub month_to : s.civil.month ≤ 12
  pub weekday : s.civil.weekday ≤ 6
  pub hour : s.hour ≤ 23
