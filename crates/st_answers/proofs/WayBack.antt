-- The way back of a number that may be printed for a covered tick.
use Rattle.std.proofs.Common.{◌≡◌, ◌≢◌, ◌≤◌, inl, inr, ℕ, ℤ, Bool, Result, Ok, Err, List, refl, sym, ap, ◌∙◌, subst}
use Rattle.st_clock.specs.Clock.{Clock as TheClock}
use Rattle.st_clock.specs.Return.{IsPrinted, printed}
use Rattle.st_clock.specs.Tick.{TickOf}
use Rattle.st_clock.specs.declared.ticks.Ticks.TheVariants.{At}
use Rattle.st_clock.proofs.Falls.{tick_is_one}
use Rattle.st_clock.proofs.Returns.{tick_returns, way_back_is_decided}
use Rattle.st_decimal.proofs.FixedDecimals.{power_some}
use Rattle.st_fraction.specs.Fraction.{Fraction, IsFraction, ◌≈ᶠ◌, units}
use Rattle.st_fraction.proofs.Order.{le_of_same, same_sym}
use Rattle.st_routes.specs.Outcome.{IsOutcome, MayBeUndecided, MayPrint, Outcome, Prints, RouteGives, Spells, Target, at_tick, by_clock, in_cell}
use Rattle.st_routes.specs.Route.{IsNearby}
use Rattle.st_routes.specs.declared.fault.TimeFault.{TimeFault}
use Rattle.st_routes.specs.declared.fault.TimeFault.TheVariants as faults
use Rattle.st_routes.specs.declared.route.Route.{Route}
use Rattle.st_routes.specs.declared.route.Route.TheVariants.{Scales}
use Rattle.st_routes.specs.declared.ticks.TickForm.TheVariants as tick
use Rattle.st_routes.proofs.Texts.{each_has_answer}
use Rattle.st_scales.specs.declared.deltet.Deltet.{Deltet}
use Rattle.st_scales.specs.declared.scale.Scale.TheVariants as scales
use Rattle.st_scales.specs.Route.{IsAtLeast, IsAtMost}
use Rattle.st_scales.proofs.Routes.{route_rises}
use Rattle.st_ticks.specs.Tick.{IsCanonical}
use Rattle.st_answers.proofs.FixedRead.{instant, same-value}
use Rattle.st_answers.proofs.Known.{known}
use Rattle.st_answers.proofs.Routed.{one-of}

-- a canonical spelling, and nothing else, is told of a tick
abbrev pub TellsTick : TheClock → ℕ → Result (List ℕ) TimeFault → Type 0
TellsTick clock k x = (back : List ℕ) × IsCanonical clock.face k back × (x ≡ Ok back)

tick-told : (clock : TheClock) (k : ℕ) (x : Result (List ℕ) TimeFault) → Spells (by_clock clock tick.Clock) (at_tick (At k)) x → TellsTick clock k x
tick-told clock k (Ok back) h = (back, h, refl)
tick-told clock k (Err f) h = absurd h

-- The way back of the number m with so many places.
module _ (d : Deltet) (clock : TheClock) (k places : ℕ) (rounds : Bool) (m : ℤ) (few : places ≤ 9) (is : IsPrinted d clock k places rounds m) where
  abbrev behind : Route
  behind = Scales d scales.Tdb clock.scale

  abbrev aimed : Target
  aimed = by_clock clock tick.Clock

  abbrev source : Fraction
  source = units (instant m places)

  source-is : IsFraction source
  source-is = record { positive = power_some 18 }

  number-is : IsFraction (printed places m)
  number-is = record { positive = power_some places }

  same : source ≈ᶠ printed places m
  same = record { same = sym (same-value m places few) }

  low-is : (a : Fraction) → IsFraction a → IsAtLeast d scales.Tdb clock.scale source a → IsAtLeast d scales.Tdb clock.scale (printed places m) a
  low-is a pa = (route_rises d scales.Tdb clock.scale source (printed places m) a source-is number-is pa (le_of_same source (printed places m) same)).0

  high-is : (b : Fraction) → IsFraction b → IsAtMost d scales.Tdb clock.scale source b → IsAtMost d scales.Tdb clock.scale (printed places m) b
  high-is b pb = (route_rises d scales.Tdb clock.scale (printed places m) source b number-is source-is pb (le_of_same (printed places m) source (same_sym source (printed places m) same))).1

  -- no other tick may be printed
  only-tick : (o : Outcome) → MayPrint behind source aimed o → o ≡ at_tick (At k)
  only-tick (in_cell cell) may = absurd may.low_has
  only-tick (at_tick t) may =
      ap at_tick (tick_returns d clock k places rounds m is may.low may.high t may.low_is may.high_is (low-is may.low may.low_is may.at_least)
      (high-is may.high may.high_is may.at_most) may.low_has may.high_has)

  -- and it is never undecided
  has-tick : (v : Fraction) (o : Outcome) → IsFraction v → TickOf clock v (At k) → IsOutcome aimed v o → o ≡ at_tick (At k)
  has-tick v (in_cell cell) pv here has = absurd has
  has-tick v (at_tick t) pv here has = ap at_tick (tick_is_one clock v t (At k) is.is_clock pv has here)

  decided : MayBeUndecided behind source aimed → ⊥
  decided may =
      let both = way_back_is_decided d clock k places rounds m few is may.low may.high may.low_is may.high_is (low-is may.low may.low_is may.at_least)
      (high-is may.high may.high_is may.at_most) may.close in
      may.differ (has-tick may.low may.lower may.low_is both.0 may.low_has ∙ sym (has-tick may.high may.upper may.high_is both.1 may.high_has))

  pub back-only : (x : Result (List ℕ) TimeFault) → x ≢ Err faults.OutOfMemory → RouteGives behind source aimed x → TellsTick clock k x
  back-only x some g = elim (one-of behind source aimed x g) [
    | inl p ↦ tick-told clock k x (subst (λ (o : Outcome). Spells aimed o x) (only-tick p.0 p.1) p.2)
    | inr (inl u) ↦ absurd (decided u.0)
    | inr (inr e) ↦ absurd (some e)
  ]

  pub back-found : (back : List ℕ) → IsCanonical clock.face k back → IsNearby source → Prints behind source aimed (Ok back)
  back-found back canonical near = elim (each_has_answer known behind source aimed is.is_clock source-is near) [
    | inl p ↦ (at_tick (At k), subst (λ (o : Outcome). MayPrint behind source aimed o) (only-tick p.1.0 p.1.1) p.1.1, canonical)
    | inr u ↦ absurd (decided u)
  ]
