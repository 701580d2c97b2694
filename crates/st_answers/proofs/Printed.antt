-- What a point is printed as by the target of a job.
use Rattle.std.proofs.Common.{◌≡◌, ℕ, ◌<◌, Bool, true, false, ◌&&◌, Result, List, refl, sym, ◌∙◌, subst}
use Rattle.std.proofs.lemmas.Bool.{false≢true}
use Rattle.st_clock.specs.Time.{value_of}
use Rattle.st_clock.specs.declared.point.Point.{Point}
use Rattle.st_fraction.proofs.Order.{same_sym}
use Rattle.st_fraction.specs.Fraction.{Fraction}
use Rattle.st_picture.specs.Picture.{Picture}
use Rattle.st_routes.specs.Outcome.{RouteGives, by_clock, by_picture}
use Rattle.st_routes.specs.declared.fault.TimeFault.{TimeFault}
use Rattle.st_routes.specs.declared.route.Route.{Route}
use Rattle.st_routes.specs.declared.ticks.TickForm.TheVariants as tick
use Rattle.st_words.specs.declared.job.Job.{Job}
use Rattle.st_words.specs.declared.job.ToKind.{ToKind}
use Rattle.st_words.specs.declared.job.ToKind.TheVariants as to
use Rattle.st_words.specs.Job.{IsTarget}
use Rattle.st_answers.specs.Answer.{IsTargetOf}
use Rattle.st_answers.specs.Asked.{Tables}
use Rattle.st_answers.specs.AskedSteps.{ClockPrintIs, PrintIs}
use Rattle.st_answers.specs.Sides.{is_clock}
use Rattle.st_answers.proofs.Moved.{point-is, same-source}
use Rattle.st_answers.proofs.Sides.{target-clock, target-ticks}

pub picture-printed : (job : Job) (route : Route) (time : Point) (picture : Picture) (x : Result (List ℕ) TimeFault) (tables : Tables)
    → job.shape ≡ to.Pictured picture → time.part < time.of → RouteGives route (value_of time) (by_picture picture tables.leaps) x → PrintIs job route time tables x
picture-printed job route time picture x tables shape part gives = λ r point.
    let target = by_picture picture tables.leaps in
    let P : ToKind → Type 0 = λ s. IsTargetOf s tables target in
    (target, subst P (sym shape) refl, same-source route (value_of time) r target x (point-is time part) point.positive (same_sym r (value_of time) point.same) gives)

and-left : (a b : Bool) → (a && b) ≡ false → b ≡ true → a ≡ false
and-left true b e t = absurd (false≢true (sym e ∙ t))
and-left false b e t = refl

clock-target : (job : Job) (kind : ToKind) → (IsTarget job.to kind → is_clock job.to ≡ true) → IsTarget job.to job.shape → job.shape ≡ kind
    → (is_clock job.from && is_clock job.to) ≡ false → is_clock job.from ≡ false
clock-target job kind is target shape one = and-left (is_clock job.from) (is_clock job.to) one (is (subst (λ (k : ToKind). IsTarget job.to k) shape target))

pub strings-printed : (job : Job) (route : Route) (time : Point) (tables : Tables) (x : Result (List ℕ) TimeFault) → IsTarget job.to job.shape → job.shape ≡ to.Clock
    → (is_clock job.from && is_clock job.to) ≡ false → ClockPrintIs route time.units tick.Clock tables x → PrintIs job route time tables x
strings-printed job route time tables x target shape one (clock, is, gives) = λ s point.
    let not = clock-target job to.Clock (target-clock job.to) target shape one in (
      by_clock clock tick.Clock,
      subst (λ (k : ToKind). IsTargetOf k tables (by_clock clock tick.Clock)) (sym shape) (clock, is, refl),
      subst (λ (v : Fraction). RouteGives route v (by_clock clock tick.Clock) x) (sym (point.whole not)) gives,
    )

pub ticks-printed : (job : Job) (route : Route) (time : Point) (tables : Tables) (x : Result (List ℕ) TimeFault) → IsTarget job.to job.shape → job.shape ≡ to.Ticks
    → (is_clock job.from && is_clock job.to) ≡ false → ClockPrintIs route time.units tick.Ticks tables x → PrintIs job route time tables x
ticks-printed job route time tables x target shape one (clock, is, gives) = λ s point.
    let not = clock-target job to.Ticks (target-ticks job.to) target shape one in (
      by_clock clock tick.Ticks,
      subst (λ (k : ToKind). IsTargetOf k tables (by_clock clock tick.Ticks)) (sym shape) (clock, is, refl),
      subst (λ (v : Fraction). RouteGives route v (by_clock clock tick.Ticks) x) (sym (point.whole not)) gives,
    )
