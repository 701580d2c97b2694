-- What the bounds that the code finds print.
use Rattle.std.proofs.Common.{◌≡◌, ◌≢◌, inl, inr, ℕ, ◌<◌, ℤ, pos, ◌+ℤ◌, ◌-ℤ◌, ◌≤ℤ◌, List, Option, Ok, Err, ap, subst, arith, lit<}
use Rattle.std.proofs.lemmas.Int.{ints}
use Rattle.st_fraction.specs.Fraction.{Fraction, IsFraction, units}
use Rattle.st_leaps.specs.declared.table.LeapTable.{LeapTable}
use Rattle.st_picture.specs.Cell.{IsCellOf, IsUnit, days_of, leaps_for}
use Rattle.st_picture.specs.Laws.{CellOfFloor}
use Rattle.st_picture.specs.Picture.{Picture}
use Rattle.st_picture.specs.Printing.{PrintsIn}
use Rattle.st_picture.specs.Text.{IsTextOf}
use Rattle.st_picture.specs.declared.cell.Cell.{Cell}
use Rattle.st_picture.specs.declared.fault.PrintFault.TheVariants as prints
use Rattle.st_scales.specs.Laws.{RouteIsExact}
use Rattle.st_clock.specs.Clock.{Clock, IsClock}
use Rattle.st_clock.specs.Laws.{TickIsOne}
use Rattle.st_clock.specs.Tick.{TickOf, GivesTicks}
use Rattle.st_clock.specs.Time.{value_of}
use Rattle.st_clock.specs.declared.point.Point.{Point}
use Rattle.st_clock.specs.declared.ticks.Ticks.{Ticks}
use Rattle.st_clock.specs.declared.ticks.TicksUndecided.{TicksUndecided}
use Rattle.st_routes.specs.Outcome.{Outcome, Target, in_cell, at_tick, by_picture, by_clock, IsOutcome, MayPrint, MayBeUndecided, RouteGives}
use Rattle.st_routes.specs.Route.{IsAtLeast, IsAtMost, HasSineOnIt, HasNoSineOnIt, shift, shifted}
use Rattle.st_routes.specs.declared.route.Route.{Route}
use Rattle.st_routes.specs.declared.ticks.TickForm.{TickForm}
use Rattle.st_routes.proofs.Bounds.{exact_bounds, shifted_is, sine_or_none}
use Rattle.st_routes.proofs.Values.{parted-den, from_unit, before_next}

-- both bounds have the outcome
pub between : (route : Route) (r : Fraction) (target : Target) (outcome : Outcome) (lo hi : ℤ) → IsAtLeast route r (units lo) → IsAtMost route r (units hi)
    → IsOutcome target (units lo) outcome → IsOutcome target (units hi) outcome → MayPrint route r target outcome
between route r target outcome lo hi l h a b = record {
  low = units lo;
  high = units hi;
  low_is = record { positive = lit< tt };
  high_is = record { positive = lit< tt };
  at_least = l;
  at_most = h;
  low_has = a;
  high_has = b;
}

-- they have different ones
pub undecided : (route : Route) (r : Fraction) (target : Target) (a b : Outcome) (lo hi : ℤ) → HasSineOnIt route → IsAtLeast route r (units lo) → IsAtMost route r (units hi)
    → lo ≤ℤ hi → (hi -ℤ lo) ≤ℤ pos 1001 → IsOutcome target (units lo) a → IsOutcome target (units hi) b → a ≢ b → MayBeUndecided route r target
undecided route r target a b lo hi sine l h ordered narrow has_a has_b differ = record {
  sine = sine;
  low = units lo;
  high = units hi;
  low_is = record { positive = lit< tt };
  high_is = record { positive = lit< tt };
  ordered = record { le = omega (arith, ints, ordered) };
  close = record { le = omega (arith, ints, narrow) };
  at_least = l;
  at_most = h;
  lower = a;
  upper = b;
  low_has = has_a;
  high_has = has_b;
  differ = differ;
}

-- the cell that an outcome is, or another
cell_in : Cell → Outcome → Cell
cell_in other (in_cell cell) = cell
cell_in other (at_tick ticks) = other

ticks_at : Ticks → Outcome → Ticks
ticks_at other (in_cell cell) = other
ticks_at other (at_tick ticks) = ticks

pub cells_differ : (a b : Cell) → a ≢ b → in_cell a ≢ in_cell b
unfolding cell_in
cells_differ a b differ e = differ (ap (cell_in a) e)

pub ticks_differ : (a b : Ticks) → a ≢ b → at_tick a ≢ at_tick b
unfolding ticks_at
ticks_differ a b differ e = differ (ap (ticks_at a) e)

-- a known value, by a picture
pub known_prints : (route : Route) (r : Fraction) (picture : Picture) (leaps : Option LeapTable) (lo hi : ℤ) (text : List ℕ) → IsAtLeast route r (units lo) → IsAtMost route r (units hi)
    → PrintsIn picture leaps lo hi (Ok text) → RouteGives route r (by_picture picture leaps) (Ok text)
known_prints route r picture leaps lo hi text l h (cell, a, b, t) = (in_cell cell, between route r (by_picture picture leaps) (in_cell cell) lo hi l h a b, t)

pub known_differs : (route : Route) (r : Fraction) (picture : Picture) (leaps : Option LeapTable) (lo hi : ℤ) (a b : Cell) → HasSineOnIt route
    → IsAtLeast route r (units lo) → IsAtMost route r (units hi) → lo ≤ℤ hi → (hi -ℤ lo) ≤ℤ pos 1001
    → PrintsIn picture leaps lo hi (Err (prints.Undecided a b)) → MayBeUndecided route r (by_picture picture leaps)
known_differs route r picture leaps lo hi a b sine l h ordered narrow (has_a, has_b, differ) =
    undecided route r (by_picture picture leaps) (in_cell a) (in_cell b) lo hi sine l h ordered narrow has_a has_b (cells_differ a b differ)

-- an exact value, by a picture: the cell of its lower unit
pub exact_prints : RouteIsExact → CellOfFloor → (route : Route) (time : Point) (picture : Picture) (leaps : Option LeapTable) (lo : ℤ) (cell : Cell) (text : List ℕ)
    → HasNoSineOnIt route → time.part < time.of → lo ≡ time.units +ℤ shift route → IsUnit picture.unit → IsCellOf picture leaps (units lo) cell
    → IsTextOf picture.pieces cell text → RouteGives route (value_of time) (by_picture picture leaps) (Ok text)
exact_prints exact floor route time picture leaps lo cell text none part is unit has spelled =
    let some : 0 < time.of = omega arith in
    let r = value_of time in
    let v = shifted route r in
    let r_is : IsFraction r = record { positive = parted-den time.units time.part time.of some } in
    let bounds = exact_bounds exact route r r_is none in
    let has_lo = subst (λ (z : ℤ). IsCellOf picture leaps (units z) cell) is has in
    let has_v = floor picture.unit picture.rounds (days_of (leaps_for picture.system leaps)) v (time.units +ℤ shift route) cell unit (shifted_is route r r_is)
    (from_unit time.units (shift route) time.part time.of some) (before_next time.units (shift route) time.part time.of part) has_lo in (
      in_cell cell,
      record {
        low = v;
        high = v;
        low_is = shifted_is route r r_is;
        high_is = shifted_is route r r_is;
        at_least = bounds.0;
        at_most = bounds.1;
        low_has = has_v;
        high_has = has_v;
      },
      spelled,
    )

-- a value by a clock
pub ticks_print : (route : Route) (r : Fraction) (clock : Clock) (form : TickForm) (lo hi : ℤ) (t : Ticks) → IsAtLeast route r (units lo) → IsAtMost route r (units hi)
    → GivesTicks clock (units lo) (units hi) (Ok t) → MayPrint route r (by_clock clock form) (at_tick t)
ticks_print route r clock form lo hi t l h (a, b) = between route r (by_clock clock form) (at_tick t) lo hi l h a b

pub ticks_undecided : TickIsOne → (route : Route) (r : Fraction) (clock : Clock) (form : TickForm) (lo hi : ℤ) (e : TicksUndecided) → IsClock clock
    → IsAtLeast route r (units lo) → IsAtMost route r (units hi) → lo ≤ℤ hi → (hi -ℤ lo) ≤ℤ pos 1001 → (HasNoSineOnIt route → lo ≡ hi)
    → GivesTicks clock (units lo) (units hi) (Err e) → MayBeUndecided route r (by_clock clock form)
ticks_undecided one route r clock form lo hi e is l h ordered narrow exact (a, (b, differ)) = elim (sine_or_none route) [
  | inl sine ↦ undecided route r (by_clock clock form) (at_tick e.lo) (at_tick e.hi) lo hi sine l h ordered narrow a b (ticks_differ e.lo e.hi differ)
  | inr none ↦ absurd (differ (one clock (units hi) e.lo e.hi is (record { positive = lit< tt }) (subst (λ (z : ℤ). TickOf clock (units z) e.lo) (exact none) a) b))
]
