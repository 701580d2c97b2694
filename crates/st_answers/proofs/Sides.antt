-- The sides of a job that is ready.
use Rattle.std.proofs.Common.{◌≡◌, ◌≢◌, ℕ, Bool, true, false, ◌||◌, Option, Some, None, Result, Ok, refl, sym, ap, ◌∙◌, subst}
use Rattle.std.proofs.lemmas.Bool.{false≢true}
use Rattle.st_clock.specs.Clock.{Clock}
use Rattle.st_dates.specs.declared.system.System.{System}
use Rattle.st_dates.specs.declared.system.System.TheVariants.{Utc, Tai, Tt, Tdb, Sclk}
use Rattle.st_picture.specs.Picture.{Picture}
use Rattle.st_scales.specs.declared.deltet.Deltet.{Deltet}
use Rattle.st_scales.specs.declared.scale.Scale.{Scale}
use Rattle.st_routes.specs.declared.route.Route.TheVariants.{Scales}
use Rattle.st_tables.specs.Tables.{ClockGives}
use Rattle.st_tables.specs.Variables.{Loaded}
use Rattle.st_tables.specs.declared.fault.TableFault.{TableFault}
use Rattle.st_words.specs.Job.{IsSource, IsTarget}
use Rattle.st_words.specs.Kinds.{from_kind, is_type_of}
use Rattle.st_words.specs.declared.job.FromKind.{FromKind}
use Rattle.st_words.specs.declared.job.FromKind.TheVariants as from
use Rattle.st_words.specs.declared.job.Job.{Job}
use Rattle.st_words.specs.declared.job.ToKind.TheVariants as to
use Rattle.st_words.specs.declared.time_type.TimeType.{TimeType}
use Rattle.st_words.specs.declared.time_type.TimeType.TheVariants.{Scet, Seconds as InSeconds, Sclk as InStrings, Ticks as InTicks}
use Rattle.st_answers.specs.Answer.{IsRouteBy, IsRouteOf, IsScaleOf, back_job}
use Rattle.st_answers.specs.Asked.{AreTables, GivesWhere, Tables}
use Rattle.st_answers.specs.AskedSteps.{ClockScaleIs, HasClockFor, scale_with}
use Rattle.st_answers.specs.Ready.{IsReady}
use Rattle.st_answers.specs.Sides.{has_clock, is_clock}

-- a clock's times are strings or ticks, and those of no other system are
abbrev pub is_of_clock : FromKind → Bool
is_of_clock (from.Time form) = false
is_of_clock from.Clock = true
is_of_clock from.Ticks = true

by-type : (system : System) (given : Option TimeType) → ((kind : TimeType) → given ≡ Some kind → is_type_of system kind ≡ true)
    → is_of_clock (from_kind system given) ≡ is_clock system
by-type Utc None h = refl
by-type Tai None h = refl
by-type Tt None h = refl
by-type Tdb None h = refl
by-type Sclk None h = refl
by-type Utc (Some Scet) h = refl
by-type Tai (Some Scet) h = refl
by-type Tt (Some Scet) h = refl
by-type Tdb (Some Scet) h = refl
by-type Sclk (Some Scet) h = absurd (false≢true (h Scet refl))
by-type Utc (Some InSeconds) h = refl
by-type Tai (Some InSeconds) h = refl
by-type Tt (Some InSeconds) h = refl
by-type Tdb (Some InSeconds) h = refl
by-type Sclk (Some InSeconds) h = absurd (false≢true (h InSeconds refl))
by-type Utc (Some InStrings) h = absurd (false≢true (h InStrings refl))
by-type Tai (Some InStrings) h = absurd (false≢true (h InStrings refl))
by-type Tt (Some InStrings) h = absurd (false≢true (h InStrings refl))
by-type Tdb (Some InStrings) h = absurd (false≢true (h InStrings refl))
by-type Sclk (Some InStrings) h = refl
by-type Utc (Some InTicks) h = absurd (false≢true (h InTicks refl))
by-type Tai (Some InTicks) h = absurd (false≢true (h InTicks refl))
by-type Tt (Some InTicks) h = absurd (false≢true (h InTicks refl))
by-type Tdb (Some InTicks) h = absurd (false≢true (h InTicks refl))
by-type Sclk (Some InTicks) h = refl

pub source-kind : (system : System) (form : FromKind) → IsSource system form → is_of_clock form ≡ is_clock system
source-kind system form (None, given, is) = ap is_of_clock is ∙ by-type system None (λ kind e. absurd cc)
source-kind system form (Some kind, given, is) = ap is_of_clock is ∙ by-type system (Some kind) (λ k e. subst (λ (x : TimeType). is_type_of system x ≡ true) (same kind k e) given)
  where
    same : (a b : TimeType) → ◌≡◌ {A = Option TimeType} (Some a) (Some b) → a ≡ b
    same a b e = cc

pub no-clock : (system : System) → is_clock system ≡ false → system ≢ Sclk
no-clock system not = λ e. false≢true (sym not ∙ ap is_clock e)

-- the target of a clock is told by strings or ticks, and no other is; a picture was read for its target
pub target-clock : (system : System) → IsTarget system to.Clock → is_clock system ≡ true
target-clock system e = ap is_clock e

pub target-ticks : (system : System) → IsTarget system to.Ticks → is_clock system ≡ true
target-ticks system e = ap is_clock e

pub target-picture : (system : System) (picture : Picture) → IsTarget system (to.Pictured picture) → picture.system ≡ system
target-picture Utc picture (text, reads) = reads.0
target-picture Tai picture (text, reads) = reads.0
target-picture Tt picture (text, reads) = reads.0
target-picture Tdb picture (text, reads) = reads.0
target-picture Sclk picture h = absurd h

-- where a side is a clock there is one
pub has-table : (job : Job) (loaded : Loaded) (tables : Tables) → AreTables job loaded tables → has_clock job ≡ true → (k : Clock) × (tables.clock ≡ Some k)
has-table job loaded tables are asks = by (has_clock job) (λ r. (n : ℕ) × (job.clock ≡ Some n) × ClockGives n loaded r) asks tables.clock are.clock
  where
    by : (b : Bool) (P : Result Clock TableFault → Type 0) → b ≡ true → (o : Option Clock) → GivesWhere b P (Ok o) → (k : Clock) × (o ≡ Some k)
    by true P e None h = absurd h
    by true P e (Some k) h = (k, refl)
    by false P e o h = absurd (false≢true e)

-- the scale of a side
pub scale-is : (system : System) (tables : Tables) (scale : Scale) → ClockScaleIs tables scale → (is_clock system ≡ true → (k : Clock) × (tables.clock ≡ Some k))
    → IsScaleOf system tables (scale_with system scale)
scale-is Utc tables scale is has = refl
scale-is Tai tables scale is has = refl
scale-is Tt tables scale is has = refl
scale-is Tdb tables scale is has = refl
scale-is Sclk tables scale is has =
    let k = has refl in
    (k.0, k.1, is k.0 k.1)

or-left : (a b : Bool) → a ≡ true → (a || b) ≡ true
or-left true b e = refl
or-left false b e = absurd (false≢true e)

or-right : (a b : Bool) → b ≡ true → (a || b) ≡ true
or-right true b e = refl
or-right false b e = e

pub from-asks : (job : Job) → is_clock job.from ≡ true → has_clock job ≡ true
from-asks job e = or-left (is_clock job.from) (is_clock job.to) e

pub to-asks : (job : Job) → is_clock job.to ≡ true → has_clock job ≡ true
to-asks job e = or-right (is_clock job.from) (is_clock job.to) e

-- the way back is ready
pub back-ready : (job : Job) → IsReady job → job.back ≡ true → IsReady (back_job job)
back-ready job ready back =
    let way = ready.back back in
    record {
      source = (Some InSeconds, refl, refl);
      target = refl;
      clock = ready.clock;
      known = λ e. ready.known (from-asks job (ap is_clock way.from));
      back = λ e. absurd (false≢true e);
    }

pub route-is : (job : Job) (tables : Tables) (x : Deltet) (scale a b : Scale) → HasClockFor tables (has_clock job) → tables.constants ≡ Some x
    → ClockScaleIs tables scale → a ≡ scale_with job.from scale → b ≡ scale_with job.to scale → IsRouteOf job tables (Scales x a b)
route-is job tables x scale a b has some is from to =
    let P : Option Deltet → Type 0 = λ c. IsRouteBy c job.from job.to tables (Scales x a b) in
    let From : Scale → Type 0 = λ s. IsScaleOf job.from tables s in
    let To : Scale → Type 0 = λ s. IsScaleOf job.to tables s in
    subst P (sym some) (
      a,
      b,
      subst From (sym from) (scale-is job.from tables scale is (λ e. has (from-asks job e))),
      subst To (sym to) (scale-is job.to tables scale is (λ e. has (to-asks job e))),
      refl,
    )
