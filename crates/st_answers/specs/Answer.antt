-- The answer of a time text for a job, by the tables that the loaded kernels give: the first refusal, or the text of what
-- it stands for.
use Rattle.std.specs.Prelude.{◌≡◌, ◌≢◌, ℕ, ℤ, Bool, true, false, ◌&&◌, Option, Some, None, Result, Ok, Err, List, [], ◌++◌, codes, ◌⊎◌}
use Rattle.st_clock.specs.Clock.{Clock}
use Rattle.st_clock.specs.Time.{value_of}
use Rattle.st_clock.specs.declared.point.Point.{Point}
use Rattle.st_dates.specs.declared.system.System.{System}
use Rattle.st_dates.specs.declared.system.System.TheVariants.{Tdb, Sclk}
use Rattle.st_forms.specs.declared.form.Form.TheVariants.{Seconds}
use Rattle.st_fraction.specs.Fraction.{Fraction, units}
use Rattle.st_scales.specs.declared.deltet.Deltet.{Deltet}
use Rattle.st_scales.specs.declared.scale.Scale.{Scale}
use Rattle.st_tables.specs.Variables.{Loaded}
use Rattle.st_words.specs.declared.job.FromKind.{FromKind}
use Rattle.st_words.specs.declared.job.FromKind.TheVariants as from
use Rattle.st_words.specs.declared.job.Job.{Job}
use Rattle.st_words.specs.declared.job.ToKind.{ToKind}
use Rattle.st_words.specs.declared.job.ToKind.TheVariants as to
use Rattle.st_words.specs.declared.job.Work.TheVariants.{Batch}
use Rattle.st_answers.specs.Asked.{AreTables, Tables, TablesRefuse}
use Rattle.st_routes.specs.Outcome.{IsTickText, RouteGives, Target, by_clock, by_picture}
use Rattle.st_answers.specs.Sides.{is_clock, scale_of}
use Rattle.st_routes.specs.Source.{InstantGives, TickGives, TimeGives}
use Rattle.st_answers.specs.declared.fault.AnswerFault.{AnswerFault}
use Rattle.st_answers.specs.declared.fault.AnswerFault.TheVariants.{Table, Time, OutOfMemory}
use Rattle.st_routes.specs.declared.fault.TimeFault.{TimeFault}
use Rattle.st_routes.specs.declared.fault.TimeFault.TheVariants.{OutOfMemory as NoMemory}
use Rattle.st_routes.specs.declared.route.Route.{Route}
use Rattle.st_routes.specs.declared.route.Route.TheVariants.{Same, Scales}
use Rattle.st_routes.specs.declared.ticks.TickForm.{TickForm}
use Rattle.st_routes.specs.declared.ticks.TickForm.TheVariants as tick

-- the time of a tick that a text is, in the clock's scale; a text that is none is refused so
abbrev pub TickTimeGives : Clock → Result ℕ TimeFault → Result Fraction TimeFault → Type 0
TickTimeGives clock (Err fault) result = result ≡ Err fault
TickTimeGives clock (Ok k) (Ok r) = (time : Point) × TimeGives clock k (Ok time) × (r ≡ value_of time)
TickTimeGives clock (Ok k) (Err fault) = TimeGives clock k (Err fault)

abbrev pub ClockTimeGives : Tables → TickForm → List ℕ → Result Fraction TimeFault → Type 0
ClockTimeGives tables form text result =
    (clock : Clock) × (read : Result ℕ TimeFault) × (tables.clock ≡ Some clock) × TickGives clock form text read × TickTimeGives clock read result

-- what a text of the source stands for: a value in the source's scale, in seconds past J2000
abbrev pub SourceGives : FromKind → System → Tables → List ℕ → Result Fraction TimeFault → Type 0
SourceGives (from.Time form) system tables text (Ok r) = (u : ℤ) × InstantGives system form tables.leaps text (Ok u) × (r ≡ units u)
SourceGives (from.Time form) system tables text (Err fault) = InstantGives system form tables.leaps text (Err fault)
SourceGives from.Clock system tables text result = ClockTimeGives tables tick.Clock text result
SourceGives from.Ticks system tables text result = ClockTimeGives tables tick.Ticks text result

-- the scale of a system's times: a clock has its own
abbrev pub IsScaleOf : System → Tables → Scale → Type 0
IsScaleOf Sclk tables scale = (clock : Clock) × (tables.clock ≡ Some clock) × (scale ≡ clock.scale)
IsScaleOf system tables scale = scale ≡ scale_of system

-- the way from the source's scale to the target's; without constants it is one scale
abbrev pub IsRouteBy : Option Deltet → System → System → Tables → Route → Type 0
IsRouteBy None source target tables route = route ≡ Same
IsRouteBy (Some constants) source target tables route =
    (a b : Scale) × IsScaleOf source tables a × IsScaleOf target tables b × (route ≡ Scales constants a b)

abbrev pub IsRouteOf : Job → Tables → Route → Type 0
IsRouteOf job tables route = IsRouteBy tables.constants job.from job.to tables route

-- what a value is printed by
abbrev pub IsTargetOf : ToKind → Tables → Target → Type 0
IsTargetOf (to.Pictured picture) tables target = target ≡ by_picture picture tables.leaps
IsTargetOf to.Clock tables target = (clock : Clock) × (tables.clock ≡ Some clock) × (target ≡ by_clock clock tick.Clock)
IsTargetOf to.Ticks tables target = (clock : Clock) × (tables.clock ≡ Some clock) × (target ≡ by_clock clock tick.Ticks)

-- a text is refused by the source, or its value is printed by the target
abbrev pub ConvertGives : Job → Tables → List ℕ → Result (List ℕ) TimeFault → Type 0
ConvertGives job tables text result =
    ((fault : TimeFault) × SourceGives job.form job.from tables text (Err fault) × (result ≡ Err fault))
    ⊎ ((r : Fraction) × (route : Route) × (target : Target) × SourceGives job.form job.from tables text (Ok r)
    × IsRouteOf job tables route × IsTargetOf job.shape tables target × RouteGives route r target result)

-- the forms of ticks
abbrev pub source_form : FromKind → TickForm
source_form (from.Time form) = tick.Clock
source_form from.Clock = tick.Clock
source_form from.Ticks = tick.Ticks

abbrev pub target_form : ToKind → TickForm
target_form (to.Pictured picture) = tick.Clock
target_form to.Clock = tick.Clock
target_form to.Ticks = tick.Ticks

abbrev pub IsTickSpelled : Clock → TickForm → Result ℕ TimeFault → Result (List ℕ) TimeFault → Type 0
IsTickSpelled clock form (Err fault) result = result ≡ Err fault
IsTickSpelled clock form (Ok k) (Ok said) = IsTickText clock form k said
IsTickSpelled clock form (Ok k) (Err fault) = ⊥

-- from a clock to the same clock the tick itself is spelled; no time is asked for
abbrev pub SpellGives : Job → Tables → List ℕ → Result (List ℕ) TimeFault → Type 0
SpellGives job tables text result =
    (clock : Clock) × (read : Result ℕ TimeFault) × (tables.clock ≡ Some clock) × TickGives clock (source_form job.form) text read
    × IsTickSpelled clock (target_form job.shape) read result

abbrev pub GivesBy : Bool → Job → Tables → List ℕ → Result (List ℕ) TimeFault → Type 0
GivesBy true job tables text result = SpellGives job tables text result
GivesBy false job tables text result = ConvertGives job tables text result

abbrev pub HasGiven : Job → Loaded → List ℕ → Result (List ℕ) TimeFault → Type 0
HasGiven job loaded text result =
    (tables : Tables) × AreTables job loaded tables × GivesBy (is_clock job.from && is_clock job.to) job tables text result

-- One way: the first table's refusal, else what the text is answered by the tables. Want of memory answers no text.
abbrev pub ForwardGives : Job → Loaded → List ℕ → Result (List ℕ) AnswerFault → Type 0
ForwardGives job loaded text (Ok said) = HasGiven job loaded text (Ok said)
ForwardGives job loaded text (Err (Table fault)) = TablesRefuse job loaded fault
ForwardGives job loaded text (Err (Time fault)) = (fault ≢ NoMemory) × HasGiven job loaded text (Err fault)
ForwardGives job loaded text (Err OutOfMemory) = ⊥

-- the job of the way back: from ET in seconds to the strings of the same clock; it has no setup and no lines of its own
abbrev pub back_job : Job → Job
back_job job = record {
  setup = [];
  from = Tdb;
  form = from.Time Seconds;
  to = Sclk;
  shape = to.Clock;
  clock = job.clock;
  work = Batch;
  back = false;
}

abbrev pub there_and_back : List ℕ → List ℕ → List ℕ
there_and_back there back = there ++ (codes " back " ++ back)

-- There and back: the text of one way is a line of the way back; a refusal of either is the whole answer.
abbrev pub BackGives : Job → Loaded → List ℕ → Result (List ℕ) AnswerFault → Type 0
BackGives job loaded text (Ok said) =
    (there back : List ℕ) × ForwardGives job loaded text (Ok there) × ForwardGives (back_job job) loaded there (Ok back)
    × (said ≡ there_and_back there back)
BackGives job loaded text (Err fault) =
    ForwardGives job loaded text (Err fault)
    ⊎ ((there : List ℕ) × ForwardGives job loaded text (Ok there) × ForwardGives (back_job job) loaded there (Err fault))

abbrev pub AnswerBy : Bool → Job → Loaded → List ℕ → Result (List ℕ) AnswerFault → Type 0
AnswerBy false job loaded text result = ForwardGives job loaded text result
AnswerBy true job loaded text result = BackGives job loaded text result

-- What a time text is answered.
abbrev pub AnswerGives : Job → Loaded → List ℕ → Result (List ℕ) AnswerFault → Type 0
AnswerGives job loaded text result = AnswerBy job.back job loaded text result
