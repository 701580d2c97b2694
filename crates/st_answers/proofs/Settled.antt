-- Of one route, source and target one settled answer is given: one that is neither left undecided nor want of memory.
use Rattle.std.proofs.Common.{◌≡◌, ◌≢◌, ℕ, Result, Ok, Err, List, refl}
use Rattle.st_fraction.specs.Fraction.{Fraction, IsFraction}
use Rattle.st_routes.specs.Laws.{IsTarget}
use Rattle.st_routes.specs.Outcome.{Prints, RouteGives, Target}
use Rattle.st_routes.specs.declared.fault.TimeFault.{TimeFault}
use Rattle.st_routes.specs.declared.fault.TimeFault.TheVariants.{BadTime, WrongSystem, NoSuchDay, OutOfRange, NoSuchSecond, BadClockText, BeforeClock, AfterClock, Undecided, OutOfMemory}
use Rattle.st_routes.specs.declared.route.Route.{Route}
use Rattle.st_routes.proofs.Texts.{one_answer}
use Rattle.st_answers.proofs.Known.{known}

pub record IsSettled (answer : Result (List ℕ) TimeFault) : Type 0 where
  pub decided : answer ≢ Err Undecided
  pub memory : answer ≢ Err OutOfMemory

-- a settled answer tells an outcome
prints : (route : Route) (r : Fraction) (target : Target) (answer : Result (List ℕ) TimeFault) → IsSettled answer → RouteGives route r target answer → Prints route r target answer
prints route r target (Ok text) s g = g
prints route r target (Err Undecided) s g = absurd (s.decided refl)
prints route r target (Err OutOfMemory) s g = absurd (s.memory refl)
prints route r target (Err other) s g = g

pub one-settled : (route : Route) (r : Fraction) (target : Target) (a b : Result (List ℕ) TimeFault) → IsTarget target → IsFraction r → IsSettled a → IsSettled b
    → RouteGives route r target a → RouteGives route r target b → a ≡ b
one-settled route r target a b is p sa sb g h = one_answer known route r target a b is p (prints route r target a sa g) (prints route r target b sb h)
