-- Every text has an answer.
use Rattle.std.proofs.Common.{◌≡◌, ◌≢◌, ℕ, ℤ, Bool, true, false, ◌&&◌, inl, inr, Option, Some, None, Result, Ok, Err, List, refl, sym, ap, ◌∙◌, subst}
use Rattle.std.proofs.lemmas.Bool.{false≢true}
use Rattle.st_clock.specs.Clock.{Clock as TheClock, IsClock}
use Rattle.st_clock.specs.Time.{value_of}
use Rattle.st_clock.specs.declared.point.Point.{Point}
use Rattle.st_clock.specs.declared.ticks.Ticks.TheVariants.{Before, At, After}
use Rattle.st_dates.specs.declared.system.System.{System}
use Rattle.st_dates.specs.declared.system.System.TheVariants.{Utc, Tai, Tt, Tdb, Sclk}
use Rattle.st_fraction.specs.Fraction.{Fraction, units}
use Rattle.st_routes.specs.Outcome.{Outcome, Prints, RouteGives, Spells, Target, at_tick, by_clock, by_picture, in_cell}
use Rattle.st_routes.specs.Source.{InstantGives, TickGives, TimeGives}
use Rattle.st_routes.specs.declared.fault.TimeFault.{TimeFault}
use Rattle.st_routes.specs.declared.fault.TimeFault.TheVariants as faults
use Rattle.st_routes.specs.declared.route.Route.{Route}
use Rattle.st_routes.specs.declared.route.Route.TheVariants.{Same, Scales}
use Rattle.st_routes.specs.declared.ticks.TickForm.{TickForm}
use Rattle.st_routes.specs.declared.ticks.TickForm.TheVariants as tick
use Rattle.st_routes.proofs.Texts.{each_has_answer}
use Rattle.st_scales.specs.declared.deltet.Deltet.{Deltet}
use Rattle.st_scales.specs.declared.scale.Scale.{Scale}
use Rattle.st_tables.specs.Variables.{Loaded}
use Rattle.st_words.specs.Job.{IsTarget}
use Rattle.st_words.specs.declared.job.FromKind.{FromKind}
use Rattle.st_words.specs.declared.job.FromKind.TheVariants as from
use Rattle.st_words.specs.declared.job.Job.{Job}
use Rattle.st_words.specs.declared.job.ToKind.{ToKind}
use Rattle.st_words.specs.declared.job.ToKind.TheVariants as to
use Rattle.st_answers.specs.Answer.{AnswerBy, BackGives, ClockTimeGives, ConvertGives, ForwardGives, GivesBy, IsRouteBy, IsScaleOf, IsTargetOf, SourceGives, SpellGives, TickTimeGives, back_job, source_form, target_form, there_and_back}
use Rattle.st_answers.specs.Asked.{Tables}
use Rattle.st_answers.specs.Laws.{EachTextHasAnswer, HasTables}
use Rattle.st_answers.specs.Ready.{IsReady}
use Rattle.st_answers.specs.Sides.{is_clock, scale_of}
use Rattle.st_answers.specs.declared.fault.AnswerFault.{AnswerFault}
use Rattle.st_answers.specs.declared.fault.AnswerFault.TheVariants.{Table, Time}
use Rattle.st_answers.proofs.Known.{clock-is, known}
use Rattle.st_answers.proofs.OneGiven.{HasClocks, err-same, instant-found, ok-err, source-near, target-is, tick-found}
use Rattle.st_answers.proofs.Sides.{back-ready, from-asks, has-table, is_of_clock, source-kind, target-clock, target-ticks, to-asks}
use Rattle.st_answers.proofs.Timed.{tick-text-found, tick-timed}
use Rattle.st_answers.proofs.ToldTables.{job-is-told}

-- there is a clock where one is asked for
abbrev HasClockFor : Tables → Bool → Type 0
HasClockFor tables asked = asked ≡ true → (clock : TheClock) × (tables.clock ≡ Some clock)

-- what a text of the source stands for is found
tick-time-found : (clock : TheClock) (read : Result ℕ TimeFault) → IsClock clock → (x : Result Fraction TimeFault) × TickTimeGives clock read x
tick-time-found clock (Err fault) is = (Err fault, refl)
tick-time-found clock (Ok k) is = let t = tick-timed clock k is in by t.0 t.1
  where
    by : (time : Result Point TimeFault) → TimeGives clock k time → (x : Result Fraction TimeFault) × TickTimeGives clock (Ok k) x
    by (Ok p) g = (Ok (value_of p), (p, g, refl))
    by (Err f) g = (Err f, g)

clock-time-found : (tables : Tables) (form : TickForm) (text : List ℕ) → HasClocks tables → ((clock : TheClock) × (tables.clock ≡ Some clock))
    → (x : Result Fraction TimeFault) × ClockTimeGives tables form text x
clock-time-found tables form text clocks (clock, has) =
    let read = tick-found clock form text (clocks clock has) in
    let time = tick-time-found clock read.0 (clocks clock has) in
    (time.0, (clock, read.0, has, read.1, time.1))

source-found : (form : FromKind) (system : System) (tables : Tables) (text : List ℕ) → HasClocks tables → HasClockFor tables (is_of_clock form)
    → (x : Result Fraction TimeFault) × SourceGives form system tables text x
source-found (from.Time form) system tables text clocks has = let r = instant-found system form tables.leaps text in by r.0 r.1
  where
    by : (read : Result ℤ TimeFault) → InstantGives system form tables.leaps text read → (x : Result Fraction TimeFault) × SourceGives (from.Time form) system tables text x
    by (Ok u) g = (Ok (units u), (u, g, refl))
    by (Err f) g = (Err f, g)
source-found from.Clock system tables text clocks has = clock-time-found tables tick.Clock text clocks (has refl)
source-found from.Ticks system tables text clocks has = clock-time-found tables tick.Ticks text clocks (has refl)

-- and is no want of memory
tick-not-out : (clock : TheClock) (form : TickForm) (text : List ℕ) (f : TimeFault) → TickGives clock form text (Err f) → f ≢ faults.OutOfMemory
tick-not-out clock form text f g e = subst (λ (z : TimeFault). TickGives clock form text (Err z)) e g

clock-time-not-out : (tables : Tables) (form : TickForm) (text : List ℕ) → ClockTimeGives tables form text (Err faults.OutOfMemory) → ⊥
clock-time-not-out tables form text (clock, Ok k, has, ticks, time) = time
clock-time-not-out tables form text (clock, Err f, has, ticks, e) = tick-not-out clock form text f ticks (err-same {A = Fraction} f faults.OutOfMemory (sym e))

out-of-source : (form : FromKind) (system : System) (tables : Tables) (text : List ℕ) → SourceGives form system tables text (Err faults.OutOfMemory) → ⊥
out-of-source (from.Time form) system tables text h = h
out-of-source from.Clock system tables text h = clock-time-not-out tables tick.Clock text h
out-of-source from.Ticks system tables text h = clock-time-not-out tables tick.Ticks text h

source-not-out : (form : FromKind) (system : System) (tables : Tables) (text : List ℕ) (f : TimeFault) → SourceGives form system tables text (Err f) → f ≢ faults.OutOfMemory
source-not-out form system tables text f g e =
    out-of-source form system tables text (subst (λ (z : TimeFault). SourceGives form system tables text (Err z)) e g)

-- the way and the target are found
scale-found : (system : System) (tables : Tables) → HasClockFor tables (is_clock system) → (scale : Scale) × IsScaleOf system tables scale
scale-found Utc tables has = (scale_of Utc, refl)
scale-found Tai tables has = (scale_of Tai, refl)
scale-found Tt tables has = (scale_of Tt, refl)
scale-found Tdb tables has = (scale_of Tdb, refl)
scale-found Sclk tables has = let k = has refl in (k.0.scale, (k.0, k.1, refl))

route-found : (constants : Option Deltet) (source target : System) (tables : Tables) → HasClockFor tables (is_clock source) → HasClockFor tables (is_clock target)
    → (route : Route) × IsRouteBy constants source target tables route
route-found None source target tables a b = (Same, refl)
route-found (Some x) source target tables a b =
    let s = scale-found source tables a in
    let t = scale-found target tables b in
    (Scales x s.0 t.0, (s.0, t.0, s.1, t.1, refl))

target-found : (system : System) (shape : ToKind) (tables : Tables) → IsTarget system shape → HasClockFor tables (is_clock system) → (target : Target) × IsTargetOf shape tables target
target-found system (to.Pictured picture) tables is has = (by_picture picture tables.leaps, refl)
target-found system to.Clock tables is has = let k = has (target-clock system is) in (by_clock k.0 tick.Clock, (k.0, k.1, refl))
target-found system to.Ticks tables is has = let k = has (target-ticks system is) in (by_clock k.0 tick.Ticks, (k.0, k.1, refl))

-- what tells an outcome is neither undecided nor want of memory
not-undecided : (target : Target) (o : Outcome) → Spells target o (Err faults.Undecided) → ⊥
not-undecided (by_picture p l) (in_cell c) h = h
not-undecided (by_picture p l) (at_tick t) h = h
not-undecided (by_clock c form) (in_cell k) h = h
not-undecided (by_clock c form) (at_tick Before) h = h
not-undecided (by_clock c form) (at_tick (At k)) h = h
not-undecided (by_clock c form) (at_tick After) h = h

not-out : (target : Target) (o : Outcome) → Spells target o (Err faults.OutOfMemory) → ⊥
not-out (by_picture p l) (in_cell c) h = h
not-out (by_picture p l) (at_tick t) h = h
not-out (by_clock c form) (in_cell k) h = h
not-out (by_clock c form) (at_tick Before) h = h
not-out (by_clock c form) (at_tick (At k)) h = h
not-out (by_clock c form) (at_tick After) h = h

prints-gives : (route : Route) (r : Fraction) (target : Target) (x : Result (List ℕ) TimeFault) → Prints route r target x → RouteGives route r target x
prints-gives route r target (Ok text) h = h
prints-gives route r target (Err faults.Undecided) h = absurd (not-undecided target h.0 h.2)
prints-gives route r target (Err faults.OutOfMemory) h = tt
prints-gives route r target (Err other) h = h

prints-not-out : (route : Route) (r : Fraction) (target : Target) (x : Result (List ℕ) TimeFault) → Prints route r target x → x ≢ Err faults.OutOfMemory
prints-not-out route r target x h e = not-out target h.0 (subst (λ (z : Result (List ℕ) TimeFault). Spells target h.0 z) e h.2)

-- an answer that is no want of memory
abbrev Found : (Result (List ℕ) TimeFault → Type 0) → Type 0
Found Gives = (x : Result (List ℕ) TimeFault) × (x ≢ Err faults.OutOfMemory) × Gives x

err-not : (f : TimeFault) → f ≢ faults.OutOfMemory → ◌≢◌ {A = Result (List ℕ) TimeFault} (Err f) (Err faults.OutOfMemory)
err-not f not e = not (err-same f faults.OutOfMemory e)

undecided-not : ◌≢◌ {A = TimeFault} faults.Undecided faults.OutOfMemory
undecided-not e = absurd cc

module _ (job : Job) (tables : Tables) (text : List ℕ) (ready : IsReady job) (clocks : HasClocks tables) (source : HasClockFor tables (is_clock job.from))
    (target : HasClockFor tables (is_clock job.to)) where
  printed : (r : Fraction) → SourceGives job.form job.from tables text (Ok r) → Found (ConvertGives job tables text)
  printed r g =
      let way = route-found tables.constants job.from job.to tables source target in
      let aim = target-found job.to job.shape tables ready.target target in
      let near = source-near job.form job.from tables text r g in
      elim (each_has_answer known way.0 r aim.0 (target-is job.to job.shape tables aim.0 clocks ready.target aim.1) near.0 near.1) [
        | inl p ↦ (p.0, prints-not-out way.0 r aim.0 p.0 p.1, inr (r, way.0, aim.0, g, way.1, aim.1, prints-gives way.0 r aim.0 p.0 p.1))
        | inr u ↦ (Err faults.Undecided, err-not faults.Undecided undecided-not, inr (r, way.0, aim.0, g, way.1, aim.1, u))
      ]

  convert-found : Found (ConvertGives job tables text)
  convert-found =
      let s = source-found job.form job.from tables text clocks (λ e. source (sym (source-kind job.from job.form ready.source) ∙ e)) in
      by s.0 s.1
    where
      by : (x : Result Fraction TimeFault) → SourceGives job.form job.from tables text x → Found (ConvertGives job tables text)
      by (Ok r) g = printed r g
      by (Err f) g = (Err f, err-not f (source-not-out job.form job.from tables text f g), inl (f, g, refl))

  spell-found : is_clock job.from ≡ true → Found (SpellGives job tables text)
  spell-found e =
      let k = source e in
      let read = tick-found k.0 (source_form job.form) text (clocks k.0 k.1) in
      by k.0 k.1 read.0 read.1
    where
      by : (clock : TheClock) → tables.clock ≡ Some clock → (read : Result ℕ TimeFault) → TickGives clock (source_form job.form) text read → Found (SpellGives job tables text)
      by clock has (Ok n) g =
          let s = tick-text-found clock (target_form job.shape) n (clocks clock has) in
          (Ok s.0, (λ e. ok-err s.0 faults.OutOfMemory e), (clock, Ok n, has, g, s.1))
      by clock has (Err f) g = (Err f, err-not f (tick-not-out clock (source_form job.form) text f g), (clock, Err f, has, g, refl))

  given-found : (b : Bool) → (is_clock job.from && is_clock job.to) ≡ b → Found (GivesBy b job tables text)
  given-found true e = spell-found (left (is_clock job.from) (is_clock job.to) e)
    where
      left : (a b : Bool) → (a && b) ≡ true → a ≡ true
      left true b e = refl
      left false b e = absurd (false≢true e)
  given-found false e = convert-found

forward-found : (job : Job) (loaded : Loaded) (text : List ℕ) → IsReady job → HasTables job loaded → (result : Result (List ℕ) AnswerFault) × ForwardGives job loaded text result
forward-found job loaded text ready (inr (fault, refuse)) = (Err (Table fault), refuse)
forward-found job loaded text ready (inl (tables, are)) =
    let g = given-found job tables text ready (λ clock is. clock-is job loaded tables clock are is) (λ e. has-table job loaded tables are (from-asks job e))
    (λ e. has-table job loaded tables are (to-asks job e)) (is_clock job.from && is_clock job.to) refl in
    by g.0 g.1 g.2
  where
    by : (x : Result (List ℕ) TimeFault) → x ≢ Err faults.OutOfMemory → GivesBy (is_clock job.from && is_clock job.to) job tables text x
        → (result : Result (List ℕ) AnswerFault) × ForwardGives job loaded text result
    by (Ok said) not g = (Ok said, (tables, are, g))
    by (Err f) not g = (Err (Time f), (λ e. not (ap Err e), (tables, are, g)))

back-found : (job : Job) (loaded : Loaded) (text : List ℕ) → IsReady job → IsReady (back_job job) → HasTables job loaded → HasTables (back_job job) loaded
    → (result : Result (List ℕ) AnswerFault) × BackGives job loaded text result
back-found job loaded text ready behind has returns = let f = forward-found job loaded text ready has in by f.0 f.1
  where
    both : (there : List ℕ) → ForwardGives job loaded text (Ok there) → (back : Result (List ℕ) AnswerFault) → ForwardGives (back_job job) loaded there back
        → (result : Result (List ℕ) AnswerFault) × BackGives job loaded text result
    both there g (Ok back) h = (Ok (there_and_back there back), (there, back, g, h, refl))
    both there g (Err f) h = (Err f, inr (there, g, h))

    by : (x : Result (List ℕ) AnswerFault) → ForwardGives job loaded text x → (result : Result (List ℕ) AnswerFault) × BackGives job loaded text result
    by (Ok there) g = let b = forward-found (back_job job) loaded there behind returns in both there g b.0 b.1
    by (Err f) g = (Err f, inl g)

pub each-has-answer : EachTextHasAnswer
each-has-answer job loaded text ready = by job.back refl
  where
    by : (way : Bool) → job.back ≡ way → (result : Result (List ℕ) AnswerFault) × AnswerBy way job loaded text result
    by false e = forward-found job loaded text ready (job-is-told job loaded ready)
    by true e =
        let behind = back-ready job ready e in
        back-found job loaded text ready behind (job-is-told job loaded ready) (job-is-told (back_job job) loaded behind)
