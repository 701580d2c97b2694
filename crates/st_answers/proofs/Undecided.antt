-- An answer is left undecided only where a sine stands on the way, there or back.
use Rattle.std.proofs.Common.{◌≡◌, ℕ, Bool, true, false, ◌&&◌, inl, inr, Result, Ok, Err, List, refl, sym, ◌∙◌, subst}
use Rattle.std.proofs.lemmas.Bool.{false≢true}
use Rattle.st_clock.specs.Clock.{Clock as TheClock}
use Rattle.st_dates.specs.declared.system.System.{System}
use Rattle.st_routes.specs.Route.{HasNoSineOnIt, HasSineOnIt}
use Rattle.st_routes.specs.Source.{TickGives}
use Rattle.st_routes.specs.declared.fault.TimeFault.{TimeFault}
use Rattle.st_routes.specs.declared.fault.TimeFault.TheVariants.{Undecided}
use Rattle.st_routes.specs.declared.route.Route.{Route}
use Rattle.st_routes.specs.declared.route.Route.TheVariants.{Same, Scales}
use Rattle.st_routes.specs.declared.ticks.TickForm.{TickForm}
use Rattle.st_routes.specs.declared.ticks.TickForm.TheVariants as tick
use Rattle.st_tables.specs.Variables.{Loaded}
use Rattle.st_words.specs.declared.job.FromKind.{FromKind}
use Rattle.st_words.specs.declared.job.FromKind.TheVariants as from
use Rattle.st_words.specs.declared.job.Job.{Job}
use Rattle.st_answers.specs.Answer.{AnswerBy, AnswerGives, ClockTimeGives, ConvertGives, ForwardGives, GivesBy, IsRouteOf, SourceGives, SpellGives, back_job}
use Rattle.st_answers.specs.Asked.{Tables}
use Rattle.st_answers.specs.Laws.{ExactIsDecided, HasNoSine, HasSine, HasSineThereOrBack, UndecidedHasASine}
use Rattle.st_answers.specs.Sides.{is_clock}
use Rattle.st_answers.specs.declared.fault.AnswerFault.{AnswerFault}
use Rattle.st_answers.specs.declared.fault.AnswerFault.TheVariants.{Time}

is-undecided : {A : Type 0} (f : TimeFault) → ◌≡◌ {A = Result A TimeFault} (Err Undecided) (Err f) → f ≡ Undecided
is-undecided f e = cc

-- no text of a clock, and no source, is refused so
tick-decided : (clock : TheClock) (form : TickForm) (text : List ℕ) (f : TimeFault) → f ≡ Undecided → TickGives clock form text (Err f) → ⊥
tick-decided clock form text f e h = subst (λ (x : TimeFault). TickGives clock form text (Err x)) e h

clock-decided : (tables : Tables) (form : TickForm) (text : List ℕ) → ClockTimeGives tables form text (Err Undecided) → ⊥
clock-decided tables form text (clock, Ok k, has, ticks, time) = time
clock-decided tables form text (clock, Err f, has, ticks, time) = tick-decided clock form text f (is-undecided f time) ticks

source-decided : (form : FromKind) (system : System) (tables : Tables) (text : List ℕ) → SourceGives form system tables text (Err Undecided) → ⊥
source-decided (from.Time form) system tables text h = h
source-decided from.Clock system tables text h = clock-decided tables tick.Clock text h
source-decided from.Ticks system tables text h = clock-decided tables tick.Ticks text h

-- a sine on the way by these tables
abbrev HasSineBy : Job → Tables → Type 0
HasSineBy job tables = (route : Route) × IsRouteOf job tables route × HasSineOnIt route

convert-sine : (job : Job) (tables : Tables) (text : List ℕ) → ConvertGives job tables text (Err Undecided) → HasSineBy job tables
convert-sine job tables text (inl (f, source, e)) =
    let P : TimeFault → Type 0 = λ x. SourceGives job.form job.from tables text (Err x) in
    absurd (source-decided job.form job.from tables text (subst P (is-undecided f e) source))
convert-sine job tables text (inr (r, route, target, source, way, aim, may)) = (route, way, may.sine)

spell-decided : (job : Job) (tables : Tables) (text : List ℕ) → SpellGives job tables text (Err Undecided) → ⊥
spell-decided job tables text (clock, Ok k, has, ticks, says) = says
spell-decided job tables text (clock, Err f, has, ticks, says) = tick-decided clock _ text f (is-undecided f says) ticks

given-sine : (b : Bool) (job : Job) (tables : Tables) (text : List ℕ) → GivesBy b job tables text (Err Undecided) → HasSineBy job tables
given-sine true job tables text h = absurd (spell-decided job tables text h)
given-sine false job tables text h = convert-sine job tables text h

forward-sine : (job : Job) (loaded : Loaded) (text : List ℕ) → ForwardGives job loaded text (Err (Time Undecided)) → HasSine job loaded
forward-sine job loaded text (not, (t, are, gives)) =
    let s = given-sine (is_clock job.from && is_clock job.to) job t text gives in
    record { tables = t; route = s.0; given = are; way = s.1; sine = s.2 }

pub undecided-sine : UndecidedHasASine
undecided-sine job loaded text = by job.back refl
  where
    by : (way : Bool) → job.back ≡ way → AnswerBy way job loaded text (Err (Time Undecided)) → HasSineThereOrBack job loaded
    by false e h = inl (forward-sine job loaded text h)
    by true e (inl h) = inl (forward-sine job loaded text h)
    by true e (inr (there, g, h)) = inr (e, forward-sine (back_job job) loaded there h)

no-sine : (route : Route) → HasNoSineOnIt route → HasSineOnIt route → ⊥
no-sine Same none sine = sine
no-sine (Scales c from to) (inl e) sine = absurd (false≢true (sym e ∙ sine.crosses))
no-sine (Scales c from to) (inr e) sine = absurd (sine.k_some e)

without : (job : Job) (loaded : Loaded) → HasNoSine job loaded → HasSine job loaded → ⊥
without job loaded none s = no-sine s.route (none s.tables s.route s.given s.way) s.sine

pub exact-decided : ExactIsDecided
exact-decided job loaded text answer exact h = λ e.
    let P : Result (List ℕ) AnswerFault → Type 0 = λ x. AnswerGives job loaded text x in
    by (undecided-sine job loaded text (subst P e h))
  where
    by : HasSineThereOrBack job loaded → ⊥
    by (inl s) = without job loaded exact.there s
    by (inr (back, s)) = without (back_job job) loaded (exact.back back) s
