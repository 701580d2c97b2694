-- What is answered by tables is answered by tables of the same pairs, constants and clock.
use Rattle.std.proofs.Common.{◌≡◌, ℕ, Bool, true, false, inl, inr, Option, Some, None, option_map, Result, Ok, Err, List, refl, subst}
use Rattle.st_clock.specs.Clock.{Clock}
use Rattle.st_dates.specs.declared.system.System.{System}
use Rattle.st_dates.specs.declared.system.System.TheVariants.{Utc, Tai, Tt, Tdb, Sclk}
use Rattle.st_fraction.specs.Fraction.{Fraction}
use Rattle.st_leaps.specs.OfTable.{pairs_of}
use Rattle.st_leaps.specs.declared.table.LeapTable.{LeapTable}
use Rattle.st_routes.specs.Outcome.{RouteGives, Target, by_picture}
use Rattle.st_routes.specs.declared.fault.TimeFault.{TimeFault}
use Rattle.st_routes.specs.declared.route.Route.{Route}
use Rattle.st_scales.specs.declared.deltet.Deltet.{Deltet}
use Rattle.st_scales.specs.declared.scale.Scale.{Scale}
use Rattle.st_words.specs.declared.job.FromKind.{FromKind}
use Rattle.st_words.specs.declared.job.FromKind.TheVariants as from
use Rattle.st_words.specs.declared.job.Job.{Job}
use Rattle.st_words.specs.declared.job.ToKind.{ToKind}
use Rattle.st_words.specs.declared.job.ToKind.TheVariants as to
use Rattle.st_answers.specs.Answer.{GivesBy, IsRouteBy, IsScaleOf, IsTargetOf, SourceGives}
use Rattle.st_answers.specs.Asked.{Tables}
use Rattle.st_answers.proofs.Moved.{same-instant, same-printed}

abbrev with : Option LeapTable → Option Deltet → Option Clock → Tables
with leaps constants clock = record { leaps = leaps; constants = constants; clock = clock }

-- tables of leap seconds of the same pairs
module _ (l m : Option LeapTable) (c : Option Deltet) (k : Option Clock) (same : option_map pairs_of l ≡ option_map pairs_of m) where
  source-moved : (form : FromKind) (system : System) (text : List ℕ) (x : Result Fraction TimeFault) → SourceGives form system (with l c k) text x
      → SourceGives form system (with m c k) text x
  source-moved (from.Time form) system text (Ok r) (u, gives, is) = (u, same-instant system form l m text (Ok u) same gives, is)
  source-moved (from.Time form) system text (Err fault) h = same-instant system form l m text (Err fault) same h
  source-moved from.Clock system text x h = h
  source-moved from.Ticks system text x h = h

  scale-moved : (system : System) (scale : Scale) → IsScaleOf system (with l c k) scale → IsScaleOf system (with m c k) scale
  scale-moved Utc scale h = h
  scale-moved Tai scale h = h
  scale-moved Tt scale h = h
  scale-moved Tdb scale h = h
  scale-moved Sclk scale h = h

  route-moved : (constants : Option Deltet) (source target : System) (route : Route) → IsRouteBy constants source target (with l c k) route
      → IsRouteBy constants source target (with m c k) route
  route-moved None source target route h = h
  route-moved (Some x) source target route (a, b, from-a, to-b, is) = (a, b, scale-moved source a from-a, scale-moved target b to-b, is)

  target-moved : (shape : ToKind) (route : Route) (r : Fraction) (target : Target) (x : Result (List ℕ) TimeFault) → IsTargetOf shape (with l c k) target
      → RouteGives route r target x → (other : Target) × IsTargetOf shape (with m c k) other × RouteGives route r other x
  target-moved (to.Pictured picture) route r target x is gives =
      (by_picture picture m, refl, same-printed route r picture l m x same (subst (λ (t : Target). RouteGives route r t x) is gives))
  target-moved to.Clock route r target x is gives = (target, is, gives)
  target-moved to.Ticks route r target x is gives = (target, is, gives)

  leaps-moved : (b : Bool) (job : Job) (text : List ℕ) (x : Result (List ℕ) TimeFault) → GivesBy b job (with l c k) text x → GivesBy b job (with m c k) text x
  leaps-moved true job text x h = h
  leaps-moved false job text x (inl (fault, source, is)) = inl (fault, source-moved job.form job.from text (Err fault) source, is)
  leaps-moved false job text x (inr (r, route, target, source, way, aim, gives)) =
      let t = target-moved job.shape route r target x aim gives in
      inr (r, route, t.0, source-moved job.form job.from text (Ok r) source, route-moved c job.from job.to route way, t.1, t.2)

pub gives-moved : (b : Bool) (job : Job) (t u : Tables) (text : List ℕ) (x : Result (List ℕ) TimeFault) → option_map pairs_of t.leaps ≡ option_map pairs_of u.leaps
    → t.constants ≡ u.constants → t.clock ≡ u.clock → GivesBy b job t text x → GivesBy b job u text x
gives-moved b job t u text x pairs constants clock h =
    let P : Option Deltet → Type 0 = λ c. GivesBy b job (with t.leaps c t.clock) text x in
    let Q : Option Clock → Type 0 = λ k. GivesBy b job (with t.leaps u.constants k) text x in
    leaps-moved t.leaps u.leaps u.constants u.clock pairs b job text x (subst Q clock (subst P constants h))
