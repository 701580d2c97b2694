-- The laws of the crates below that the laws of routes stand on.
use Rattle.st_leaps.specs.Laws.{EachTableCounts, EvenDaysCount, OneLabel}
use Rattle.st_picture.specs.Laws.{CellsAreOfUnit, CellsNeverFall, EachHasCell, OneText}
use Rattle.st_scales.specs.Laws.{RouteAgrees, RouteIsExact, RouteIsKnown, RouteIsNear}
use Rattle.st_ticks.specs.Laws.{CanonicalIsOne}
use Rattle.st_clock.specs.Laws.{TickIsFound, TickRises}

-- what the crates below say of values, cells and ticks
pub record AreKnown : Type 0 where
  pub agree : RouteAgrees
  pub exact : RouteIsExact
  pub known : RouteIsKnown
  pub near : RouteIsNear
  pub tables : EachTableCounts
  pub even : EvenDaysCount
  pub one_label : OneLabel
  pub cells_rise : CellsNeverFall
  pub cell_found : EachHasCell
  pub cell_of_unit : CellsAreOfUnit
  pub one_text : OneText
  pub ticks_rise : TickRises
  pub tick_found : TickIsFound
  pub canonical : CanonicalIsOne
