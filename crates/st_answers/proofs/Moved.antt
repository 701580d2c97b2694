-- What is answered of a source is that of an equal source, and tables of the same pairs answer alike.
use Rattle.std.proofs.Common.{◌≡◌, ℕ, ℤ, ◌<◌, Option, Some, None, option_map, Result, Ok, Err, List, refl, ap, subst, arith}
use Rattle.std.proofs.lemmas.Int.{ints}
use Rattle.st_clock.specs.Time.{value_of}
use Rattle.st_clock.specs.declared.point.Point.{Point}
use Rattle.st_dates.specs.declared.system.System.{System}
use Rattle.st_dates.specs.declared.system.System.TheVariants.{Utc, Tai, Tt, Tdb, Sclk}
use Rattle.st_fraction.proofs.Order.{le_f_trans, le_of_same, same_sym}
use Rattle.st_scales.proofs.Routes.{route_rises}
use Rattle.st_forms.specs.declared.form.Form.{Form}
use Rattle.st_forms.specs.declared.time.TimeText.{TimeText}
use Rattle.st_forms.specs.declared.time.TimeText.TheVariants.{Label as OfLabel, Instant, NoSecond}
use Rattle.st_fraction.specs.Fraction.{Fraction, IsFraction, ◌≈ᶠ◌, units}
use Rattle.st_leaps.specs.Label.{IsLabel, IsLabelOf, in_units}
use Rattle.st_leaps.specs.OfTable.{pairs_of}
use Rattle.st_leaps.specs.Table.{count_on}
use Rattle.st_leaps.specs.declared.pair.LeapPair.{LeapPair}
use Rattle.st_leaps.specs.declared.table.LeapTable.{LeapTable}
use Rattle.st_picture.specs.Cell.{IsCell, days_of, leaps_for}
use Rattle.st_picture.specs.Picture.{Picture}
use Rattle.st_routes.specs.Outcome.{IsOutcome, MayBeUndecided, MayPrint, Outcome, RouteGives, Spells, Target, by_picture, in_cell, at_tick}
use Rattle.st_routes.specs.Source.{HasNoSecond, InstantGives, IsInstant}
use Rattle.st_routes.specs.declared.fault.TimeFault.{TimeFault}
use Rattle.st_routes.specs.declared.fault.TimeFault.TheVariants.{BadTime, WrongSystem, NoSuchDay, OutOfRange, NoSuchSecond, BadClockText, BeforeClock, AfterClock, Undecided, OutOfMemory}
use Rattle.st_routes.specs.Route.{IsAtLeast, IsAtMost}
use Rattle.st_routes.specs.declared.route.Route.{Route}
use Rattle.st_routes.specs.declared.route.Route.TheVariants.{Same, Scales}

-- the bounds of a value are those of an equal source
at-least : (route : Route) (r s a : Fraction) → IsFraction r → IsFraction s → IsFraction a → r ≈ᶠ s → IsAtLeast route r a → IsAtLeast route s a
at-least Same r s a pr ps pa e h = le_f_trans a r s pr.positive h (le_of_same r s e)
at-least (Scales c from to) r s a pr ps pa e h = (route_rises c from to r s a pr ps pa (le_of_same r s e)).0 h

at-most : (route : Route) (r s b : Fraction) → IsFraction r → IsFraction s → IsFraction b → r ≈ᶠ s → IsAtMost route r b → IsAtMost route s b
at-most Same r s b pr ps pb e h = le_f_trans s r b pr.positive (le_of_same s r (same_sym r s e)) h
at-most (Scales c from to) r s b pr ps pb e h = (route_rises c from to s r b ps pr pb (le_of_same s r (same_sym r s e))).1 h

may-print : (route : Route) (r s : Fraction) (target : Target) (o : Outcome) → IsFraction r → IsFraction s → r ≈ᶠ s → MayPrint route r target o → MayPrint route s target o
may-print route r s target o pr ps e h = record {
  low = h.low;
  high = h.high;
  low_is = h.low_is;
  high_is = h.high_is;
  at_least = at-least route r s h.low pr ps h.low_is e h.at_least;
  at_most = at-most route r s h.high pr ps h.high_is e h.at_most;
  low_has = h.low_has;
  high_has = h.high_has;
}

may-be : (route : Route) (r s : Fraction) (target : Target) → IsFraction r → IsFraction s → r ≈ᶠ s → MayBeUndecided route r target → MayBeUndecided route s target
may-be route r s target pr ps e h = record {
  sine = h.sine;
  low = h.low;
  high = h.high;
  low_is = h.low_is;
  high_is = h.high_is;
  ordered = h.ordered;
  close = h.close;
  at_least = at-least route r s h.low pr ps h.low_is e h.at_least;
  at_most = at-most route r s h.high pr ps h.high_is e h.at_most;
  lower = h.lower;
  upper = h.upper;
  low_has = h.low_has;
  high_has = h.high_has;
  differ = h.differ;
}

pub same-source : (route : Route) (r s : Fraction) (target : Target) (x : Result (List ℕ) TimeFault) → IsFraction r → IsFraction s → r ≈ᶠ s
    → RouteGives route r target x → RouteGives route s target x
same-source route r s target (Err Undecided) pr ps e h = may-be route r s target pr ps e h
same-source route r s target (Err OutOfMemory) pr ps e h = h
same-source route r s target (Ok text) pr ps e (o, may, spells) = (o, may-print route r s target o pr ps e may, spells)
same-source route r s target (Err other) pr ps e (o, may, spells) = (o, may-print route r s target o pr ps e may, spells)

-- a point is a fraction, and one with no part of a unit is so many units
pub point-is : (time : Point) → time.part < time.of → IsFraction (value_of time)
point-is time h = record { positive = omega (arith, h) }

pub units-are : (u : ℤ) → IsFraction (units u)
units-are u = record { positive = omega arith }

pub whole-point : (u : ℤ) → units u ≈ᶠ value_of (record { units = u; part = 0; of = 1 })
whole-point u = record { same = omega (arith, ints) }

-- the days of a table are told by its pairs
pub same-days : (system : System) (a b : Option LeapTable) → option_map pairs_of a ≡ option_map pairs_of b → days_of (leaps_for system a) ≡ days_of (leaps_for system b)
same-days Utc None None e = refl
same-days Utc None (Some y) e = absurd cc
same-days Utc (Some x) None e = absurd cc
same-days Utc (Some x) (Some y) e = ap count_on (same (pairs_of x) (pairs_of y) e)
  where
    same : (p q : List LeapPair) → ◌≡◌ {A = Option (List LeapPair)} (Some p) (Some q) → p ≡ q
    same p q h = cc
same-days Tai a b e = refl
same-days Tt a b e = refl
same-days Tdb a b e = refl
same-days Sclk a b e = refl

instant-is : (system : System) (a b : Option LeapTable) (time : TimeText) (u : ℤ) → days_of (leaps_for system a) ≡ days_of (leaps_for system b) → IsInstant system a time u → IsInstant system b time u
instant-is system a b (OfLabel l) u e h = subst (λ (d : ℤ → ℤ). IsLabelOf d (units u) (in_units l)) e h
instant-is system a b (Instant z) u e h = h
instant-is system a b NoSecond u e h = absurd h

second-is : (system : System) (a b : Option LeapTable) (time : TimeText) → days_of (leaps_for system a) ≡ days_of (leaps_for system b) → HasNoSecond system a time → HasNoSecond system b time
second-is system a b (OfLabel l) e h = subst (λ (d : ℤ → ℤ). IsLabel d (in_units l) → ⊥) e h
second-is system a b (Instant z) e h = absurd h
second-is system a b NoSecond e h = h

pub same-instant : (system : System) (form : Form) (a b : Option LeapTable) (text : List ℕ) (r : Result ℤ TimeFault) → option_map pairs_of a ≡ option_map pairs_of b
    → InstantGives system form a text r → InstantGives system form b text r
same-instant system form a b text (Ok u) e (time, reads, is) = (time, reads, instant-is system a b time u (same-days system a b e) is)
same-instant system form a b text (Err NoSuchSecond) e (time, reads, is) = (time, reads, second-is system a b time (same-days system a b e) is)
same-instant system form a b text (Err other) e h = h

-- an outcome by a picture is that by a table of the same pairs
outcome-is : (p : Picture) (a b : Option LeapTable) (v : Fraction) (o : Outcome) → option_map pairs_of a ≡ option_map pairs_of b
    → IsOutcome (by_picture p a) v o → IsOutcome (by_picture p b) v o
outcome-is p a b v (in_cell cell) e h = subst (λ (d : ℤ → ℤ). IsCell p.unit p.rounds d v cell) (same-days p.system a b e) h
outcome-is p a b v (at_tick t) e h = absurd h

printed : (route : Route) (r : Fraction) (p : Picture) (a b : Option LeapTable) (o : Outcome) → option_map pairs_of a ≡ option_map pairs_of b
    → MayPrint route r (by_picture p a) o → MayPrint route r (by_picture p b) o
printed route r p a b o e h = record {
  low = h.low;
  high = h.high;
  low_is = h.low_is;
  high_is = h.high_is;
  at_least = h.at_least;
  at_most = h.at_most;
  low_has = outcome-is p a b h.low o e h.low_has;
  high_has = outcome-is p a b h.high o e h.high_has;
}

undecided : (route : Route) (r : Fraction) (p : Picture) (a b : Option LeapTable) → option_map pairs_of a ≡ option_map pairs_of b
    → MayBeUndecided route r (by_picture p a) → MayBeUndecided route r (by_picture p b)
undecided route r p a b e h = record {
  sine = h.sine;
  low = h.low;
  high = h.high;
  low_is = h.low_is;
  high_is = h.high_is;
  ordered = h.ordered;
  close = h.close;
  at_least = h.at_least;
  at_most = h.at_most;
  lower = h.lower;
  upper = h.upper;
  low_has = outcome-is p a b h.low h.lower e h.low_has;
  high_has = outcome-is p a b h.high h.upper e h.high_has;
  differ = h.differ;
}

spelled : (p : Picture) (a b : Option LeapTable) (o : Outcome) (r : Result (List ℕ) TimeFault) → Spells (by_picture p a) o r → Spells (by_picture p b) o r
spelled p a b (in_cell cell) (Ok text) h = h
spelled p a b (in_cell cell) (Err f) h = absurd h
spelled p a b (at_tick t) r h = absurd h

pub same-printed : (route : Route) (r : Fraction) (p : Picture) (a b : Option LeapTable) (x : Result (List ℕ) TimeFault) → option_map pairs_of a ≡ option_map pairs_of b
    → RouteGives route r (by_picture p a) x → RouteGives route r (by_picture p b) x
same-printed route r p a b (Ok text) e (o, may, spells) = (o, printed route r p a b o e may, spelled p a b o (Ok text) spells)
same-printed route r p a b (Err Undecided) e h = undecided route r p a b e h
same-printed route r p a b (Err OutOfMemory) e h = h
same-printed route r p a b (Err other) e (o, may, spells) = (o, printed route r p a b o e may, spelled p a b o (Err other) spells)
