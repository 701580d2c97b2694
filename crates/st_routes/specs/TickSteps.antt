-- The ticks that are spelled.
use Rattle.std.specs.Prelude.{◌≤◌, ⊤}
use Rattle.st_clock.specs.Clock.{Clock, total}
use Rattle.st_clock.specs.declared.ticks.Ticks.{Ticks}
use Rattle.st_clock.specs.declared.ticks.Ticks.TheVariants.{Before, At, After}

-- a tick is one of the clock
abbrev pub IsWithin : Clock → Ticks → Type 0
IsWithin clock Before = ⊤
IsWithin clock (At k) = k ≤ total clock
IsWithin clock After = ⊤
