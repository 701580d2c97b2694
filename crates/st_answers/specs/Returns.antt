-- There and back: a tick of a clock whose time is printed in TDB comes back from the printed text, where the tick is covered
-- and lasts at least four units of the last printed place. That this holds is the subject of laws.
use Rattle.std.specs.Prelude.{◌≡◌, ◌↔◌, ◌⊎◌, ℕ, ℤ, pos, ◌^◌, true, List, Some, Result, Ok, Err}
use Rattle.st_clock.specs.Clock.{Clock, tpm}
use Rattle.st_clock.specs.Covered.{IsCovered, tick_length}
use Rattle.st_clock.specs.Return.{printed}
use Rattle.st_clock.specs.Time.{IsInRange}
use Rattle.st_clock.specs.declared.coefficient.Coefficient.{Coefficient}
use Rattle.st_decimal.specs.Fixed.{fixed}
use Rattle.st_fraction.specs.Fraction.{Fraction, ◌≤ᶠ◌, over}
use Rattle.st_picture.specs.Picture.{Picture, Stands}
use Rattle.st_picture.specs.declared.mark.Mark.TheVariants.{Seconds}
use Rattle.st_routes.specs.Outcome.{MayBeUndecided, Target}
use Rattle.st_routes.specs.Source.{TickGives}
use Rattle.st_routes.specs.declared.fault.TimeFault.TheVariants.{Undecided}
use Rattle.st_routes.specs.declared.route.Route.{Route}
use Rattle.st_scales.specs.declared.scale.Scale.TheVariants.{Tdb}
use Rattle.st_tables.specs.Variables.{Loaded}
use Rattle.st_ticks.specs.Tick.{IsCanonical}
use Rattle.st_words.specs.declared.job.Job.{Job}
use Rattle.st_words.specs.declared.job.ToKind.TheVariants.{Pictured}
use Rattle.st_answers.specs.Answer.{AnswerGives, ForwardGives, IsRouteOf, IsTargetOf, SourceGives, back_job, source_form, there_and_back}
use Rattle.st_answers.specs.Asked.{AreTables, Tables}
use Rattle.st_answers.specs.Ready.{IsReady}
use Rattle.st_answers.specs.declared.fault.AnswerFault.{AnswerFault}
use Rattle.st_answers.specs.declared.fault.AnswerFault.TheVariants.{Time}

-- The job leads there and back: since it is ready, from a clock to seconds past J2000 in TDB, with so many decimals and nothing
-- else that prints.
pub record LeadsBack (job : Job) (places : ℕ) : Type 0 where
  pub ready : IsReady job
  pub back : job.back ≡ true
  pub picture : Picture
  pub shape : job.shape ≡ Pictured picture
  pub seconds : Stands picture.pieces (Seconds places)

-- By the clock that the loaded kernels give, the text is read to the covered tick k, which lasts at least four units of the last
-- printed place.
pub record ReadsCovered (job : Job) (loaded : Loaded) (text : List ℕ) (clock : Clock) (k places : ℕ) : Type 0 where
  pub way : LeadsBack job places
  pub tables : Tables
  pub given : AreTables job loaded tables
  pub has_clock : tables.clock ≡ Some clock
  pub reads : TickGives clock (source_form job.form) text (Ok k)
  pub place : ℕ
  pub by : Coefficient
  pub covered : IsCovered clock k place by
  pub long : over (pos 4) (10 ^ places) ≤ᶠ tick_length (tpm clock) by

-- the text is a number with so many decimals that lies in the range of times
pub record TellsInRange (places : ℕ) (text : List ℕ) : Type 0 where
  pub number : ℤ
  pub spelled : text ≡ fixed number places
  pub in_range : IsInRange (printed places number)

-- the answer is the printed time, and after it the canonical spelling of the tick k
abbrev pub IsReturned : Clock → ℕ → List ℕ → Result (List ℕ) AnswerFault → Type 0
IsReturned clock k there answer =
    (back : List ℕ) × IsCanonical clock.face k back × (answer ≡ Ok (there_and_back there back))

-- The time that the text stands for may be left undecided on the way there, and so a sine stands on it.
pub record CanBeUndecided (job : Job) (loaded : Loaded) (text : List ℕ) : Type 0 where
  pub tables : Tables
  pub given : AreTables job loaded tables
  pub time : Fraction
  pub route : Route
  pub target : Target
  pub stands_for : SourceGives job.form job.from tables text (Ok time)
  pub by_route : IsRouteOf job tables route
  pub by_target : IsTargetOf job.shape tables target
  pub undecided : MayBeUndecided route time target

-- The way back of a printed time is never UNDECIDED: it gives the canonical spelling of the tick that was read, and nothing else.
abbrev pub WayBackGivesTick : Type 0
WayBackGivesTick =
    (job : Job) (loaded : Loaded) (text there : List ℕ) (clock : Clock) (k places : ℕ) (answer : Result (List ℕ) AnswerFault)
    → ReadsCovered job loaded text clock k places → ForwardGives job loaded text (Ok there) → TellsInRange places there
    → ForwardGives (back_job job) loaded there answer ↔ ((back : List ℕ) × IsCanonical clock.face k back × (answer ≡ Ok back))

-- So the answers are the printed time with that spelling, and UNDECIDED where the way there may be.
abbrev pub CoveredTickReturns : Type 0
CoveredTickReturns =
    (job : Job) (loaded : Loaded) (text there : List ℕ) (clock : Clock) (k places : ℕ) (answer : Result (List ℕ) AnswerFault)
    → ReadsCovered job loaded text clock k places → ForwardGives job loaded text (Ok there) → TellsInRange places there
    → AnswerGives job loaded text answer ↔ (IsReturned clock k there answer ⊎ ((answer ≡ Err (Time Undecided)) × CanBeUndecided job loaded text))

-- Of a clock that is kept in TDB the first is the answer.
abbrev pub TdbTickReturns : Type 0
TdbTickReturns =
    (job : Job) (loaded : Loaded) (text there : List ℕ) (clock : Clock) (k places : ℕ) (answer : Result (List ℕ) AnswerFault)
    → ReadsCovered job loaded text clock k places → clock.scale ≡ Tdb → ForwardGives job loaded text (Ok there) → TellsInRange places there
    → AnswerGives job loaded text answer ↔ IsReturned clock k there answer
