-- A covered tick's printed time leads back to it.
use Rattle.std.proofs.Common.{◌≡◌, ◌≢◌, ◌↔◌, ◌⊎◌, ◌≤◌, inl, inr, ℕ, ℤ, Bool, true, false, ◌&&◌, Option, None, Some, Result, Ok, Err, List, refl, sym, ap, ◌∙◌, subst}
use Rattle.std.specs.Prelude.{not}
use Rattle.std.proofs.lemmas.Bool.{false≢true}
use Rattle.st_clock.specs.Clock.{Clock as TheClock, IsClock, IsTimeOf}
use Rattle.st_clock.specs.Return.{IsCell as IsClockCell, IsPrinted}
use Rattle.st_dates.specs.Range.{IsInRange}
use Rattle.st_dates.specs.declared.system.System.{System}
use Rattle.st_dates.specs.declared.system.System.TheVariants.{Tdb, Sclk}
use Rattle.st_decimal.specs.Fixed.{fixed}
use Rattle.st_forms.specs.Reading.{ReadsTime}
use Rattle.st_forms.specs.declared.form.Form.TheVariants.{Seconds as InSeconds}
use Rattle.st_forms.specs.declared.time.TimeText.TheVariants.{Instant}
use Rattle.st_fraction.specs.Fraction.{Fraction, units}
use Rattle.st_picture.specs.Cell.{IsCell, days_of, leaps_for}
use Rattle.st_picture.specs.Picture.{Picture}
use Rattle.st_picture.specs.Reading.{IsSecondsAlone}
use Rattle.st_picture.specs.Text.{IsTextOf}
use Rattle.st_picture.specs.declared.cell.Cell.{Cell}
use Rattle.st_picture.specs.declared.cell.Cell.TheVariants as cells
use Rattle.st_picture.specs.declared.unit.LeastUnit.{LeastUnit}
use Rattle.st_picture.specs.declared.unit.LeastUnit.TheVariants as least
use Rattle.st_routes.specs.Outcome.{IsOutcome, MayPrint, Outcome, Prints, Spells, Target, at_tick, by_clock, by_picture, in_cell}
use Rattle.st_routes.specs.Route.{HasSineOnIt}
use Rattle.st_routes.specs.Source.{InstantGives, TickGives}
use Rattle.st_routes.specs.declared.fault.TimeFault.{TimeFault}
use Rattle.st_routes.specs.declared.fault.TimeFault.TheVariants as faults
use Rattle.st_routes.specs.declared.route.Route.{Route}
use Rattle.st_routes.specs.declared.route.Route.TheVariants.{Scales}
use Rattle.st_routes.specs.declared.ticks.TickForm.TheVariants as tick
use Rattle.st_routes.proofs.Texts.{one_answer}
use Rattle.st_scales.specs.declared.deltet.Deltet.{Deltet}
use Rattle.st_scales.specs.declared.scale.Scale.{Scale}
use Rattle.st_scales.specs.declared.scale.Scale.TheVariants as scales
use Rattle.st_scales.specs.Route.{crosses}
use Rattle.st_tables.specs.Tables.{ConstantsGive}
use Rattle.st_tables.specs.Variables.{Loaded}
use Rattle.st_ticks.specs.Tick.{IsCanonical}
use Rattle.st_words.specs.Job.{IsTarget as IsJobTarget, IsWayBack}
use Rattle.st_words.specs.declared.job.FromKind.TheVariants as from
use Rattle.st_words.specs.declared.job.Job.{Job}
use Rattle.st_words.specs.declared.job.ToKind.{ToKind}
use Rattle.st_words.specs.declared.job.ToKind.TheVariants as to
use Rattle.st_answers.specs.Answer.{AnswerBy, AnswerGives, BackGives, ClockTimeGives, ConvertGives, ForwardGives, GivesBy, HasGiven, IsRouteBy, IsRouteOf, IsTargetOf, SourceGives, TickTimeGives, back_job, source_form, there_and_back}
use Rattle.st_answers.specs.Asked.{AreTables, Tables}
use Rattle.st_answers.specs.Returns.{CoveredTickReturns, CanBeUndecided, IsReturned, ReadsCovered, TdbTickReturns, TellsInRange, WayBackGivesTick}
use Rattle.st_answers.specs.Sides.{is_clock, needs_constants}
use Rattle.st_answers.specs.declared.fault.AnswerFault.{AnswerFault}
use Rattle.st_answers.specs.declared.fault.AnswerFault.TheVariants.{Table, Time, OutOfMemory}
use Rattle.st_answers.proofs.BackTables.{asks-constants, back-tables, clock-source, has-some, one-clock, same-picture}
use Rattle.st_answers.proofs.FixedRead.{fixed-read, in-range, instant, one-number}
use Rattle.st_answers.proofs.Found.{some-is}
use Rattle.st_answers.proofs.Known.{clock-is, known}
use Rattle.st_answers.proofs.MovedTables.{gives-moved}
use Rattle.st_answers.proofs.OneGiven.{HasClocks, err-same, instant-near, ok-err, ok-same, source-near, tick-one}
use Rattle.st_answers.proofs.OneTables.{never-both, same-clock, same-constants, same-pairs}
use Rattle.st_answers.proofs.Routed.{one-of, routed}
use Rattle.st_answers.proofs.SecondsAlone.{alone-cell, alone-text, alone-unit, few-places}
use Rattle.st_answers.proofs.Sides.{source-kind}
use Rattle.st_answers.proofs.WayBack.{TellsTick, back-found, back-only}

same-count : (n m : ℤ) → cells.Count n ≡ cells.Count m → n ≡ m
same-count n m e = cc

undecided-not : ◌≢◌ {A = TimeFault} faults.Undecided faults.OutOfMemory
undecided-not e = cc

ok-is : (a b : List ℕ) → ◌≡◌ {A = Result (List ℕ) AnswerFault} (Ok a) (Ok b) → a ≡ b
ok-is a b e = cc

ok-is-not : (a : List ℕ) (f : AnswerFault) → ◌≡◌ {A = Result (List ℕ) AnswerFault} (Ok a) (Err f) → ⊥
ok-is-not a f e = cc

err-not : (f : TimeFault) → f ≢ faults.OutOfMemory → ◌≢◌ {A = Result (List ℕ) TimeFault} (Err f) (Err faults.OutOfMemory)
err-not f not e = not (err-same f faults.OutOfMemory e)

-- What the text of such a job stands for, and how its value is printed.
module _ (job : Job) (loaded : Loaded) (text : List ℕ) (clock : TheClock) (k places : ℕ) (h : ReadsCovered job loaded text clock k places) where
  abbrev tables : Tables
  tables = h.tables

  abbrev picture : Picture
  picture = h.way.picture

  way : IsWayBack job
  way = h.way.ready.back h.way.back

  is-clock : IsClock clock
  is-clock = clock-is job loaded tables clock h.given h.has_clock

  clocks : HasClocks tables
  clocks = λ c is. clock-is job loaded tables c h.given is

  alone : IsSecondsAlone picture.pieces
  alone = subst (λ (p : Picture). IsSecondsAlone p.pieces) (same-picture way.picture picture (sym way.shape ∙ h.way.shape)) way.alone

  aimed-at : IsJobTarget Tdb (to.Pictured picture)
  aimed-at =
      let P : ToKind → Type 0 = λ s. IsJobTarget job.to s in
      subst (λ (s : System). IsJobTarget s (to.Pictured picture)) way.to (subst P h.way.shape h.way.ready.target)

  few : places ≤ 9
  few = few-places Tdb aimed-at.0 picture places aimed-at.1 h.way.seconds

  unit-is : picture.unit ≡ least.Count places
  unit-is = alone-unit picture.pieces places picture.unit alone h.way.seconds aimed-at.1.2

  constants : (d : Deltet) × (tables.constants ≡ Some d)
  constants = has-some (needs_constants job) (ConstantsGive loaded) (asks-constants job way.from way.to) tables.constants h.given.constants

  abbrev ahead : Route
  ahead = Scales constants.0 clock.scale scales.Tdb

  abbrev target : Target
  target = by_picture picture tables.leaps

  is-route : IsRouteOf job tables ahead
  is-route =
      let P : Option Deltet → Type 0 = λ o. IsRouteBy o job.from job.to tables ahead in
      let Q : System → Type 0 = λ s. IsRouteBy (Some constants.0) s job.to tables ahead in
      let R : System → Type 0 = λ s. IsRouteBy (Some constants.0) Sclk s tables ahead in
      subst P (sym constants.1) (subst Q (sym way.from) (subst R (sym way.to) (clock.scale, scales.Tdb, (clock, h.has_clock, refl), refl, refl)))

  is-target : IsTargetOf job.shape tables target
  is-target = let P : ToKind → Type 0 = λ s. IsTargetOf s tables target in subst P (sym h.way.shape) refl

  -- what is given by other tables of the loaded kernels is given by these
  converts : (x : Result (List ℕ) TimeFault) → HasGiven job loaded text x → ConvertGives job tables text x
  converts x (u, also, tells) =
      subst (λ (b : Bool). GivesBy b job tables text x) (one-clock job way.from way.to)
      (gives-moved (is_clock job.from && is_clock job.to) job u tables text x (same-pairs job loaded u tables also h.given)
      (same-constants job loaded u tables also h.given) (same-clock job loaded u tables also h.given) tells)

  behind-given : AreTables (back_job job) loaded tables
  behind-given = back-tables job loaded tables way.from way.to h.given

  converts-back : (line : List ℕ) (x : Result (List ℕ) TimeFault) → HasGiven (back_job job) loaded line x → ConvertGives (back_job job) tables line x
  converts-back line x (u, also, tells) =
      gives-moved false (back_job job) u tables line x (same-pairs (back_job job) loaded u tables also behind-given)
      (same-constants (back_job job) loaded u tables also behind-given) (same-clock (back_job job) loaded u tables also behind-given) tells

  -- the text stands for the time of the tick k
  timed : (r : Fraction) → ClockTimeGives tables (source_form job.form) text (Ok r) → IsTimeOf clock k r
  timed r (c, read, has, ticks, time) =
      let same : c ≡ clock = some-is c clock (sym has ∙ h.has_clock) in
      let P : TheClock → Type 0 = λ x. TickGives x (source_form job.form) text read in
      let e : read ≡ Ok k = tick-one clock (source_form job.form) text read (Ok k) (subst P same ticks) h.reads in
      let Q : TheClock → Type 0 = λ x. TickTimeGives x read (Ok r) in
      let R : Result ℕ TimeFault → Type 0 = λ x. TickTimeGives clock x (Ok r) in
      let found = subst R e (subst Q same time) in
      subst (IsTimeOf clock k) (sym found.2) found.1.0

  source-time : (r : Fraction) → SourceGives job.form job.from tables text (Ok r) → IsTimeOf clock k r
  source-time r g = timed r (clock-source job.form job.from tables text r (source-kind job.from job.form h.way.ready.source ∙ ap is_clock way.from) g)

  -- what is printed there, with the source that the text stands for
  record IsThere (there : List ℕ) : Type 0 where
    time : Fraction
    stands_for : SourceGives job.form job.from tables text (Ok time)
    prints : Prints ahead time target (Ok there)

  is-there : (there : List ℕ) → ForwardGives job loaded text (Ok there) → IsThere there
  is-there there g = by (converts (Ok there) g)
    where
      by : ConvertGives job tables text (Ok there) → IsThere there
      by (inl (f, refused, e)) = absurd (ok-err there f e)
      by (inr (r, route, aim, source, other, aims, gives)) = record {
        time = r;
        stands_for = source;
        prints = routed job tables text r ahead target (Ok there) clocks source is-route is-target (inr (r, route, aim, source, other, aims, gives));
      }

  -- it is a number that may be printed for the tick's time
  record IsNumber (there : List ℕ) : Type 0 where
    number : ℤ
    spelled : there ≡ fixed number places
    printed : IsPrinted constants.0 clock k places picture.rounds number

  is-cell : (v : Fraction) (cell : Cell) → IsOutcome target v (in_cell cell) → (n : ℤ) × IsClockCell places picture.rounds v n × (cell ≡ cells.Count n)
  is-cell v cell has =
      let count : ℤ → ℤ = days_of (leaps_for picture.system tables.leaps) in
      let P : LeastUnit → Type 0 = λ u. IsCell u picture.rounds count v cell in
      alone-cell places picture.rounds count v cell (subst P unit-is has)

  is-number : (there : List ℕ) → IsThere there → IsNumber there
  is-number there t = by t.prints.0 t.prints.1 t.prints.2
    where
      by : (o : Outcome) → MayPrint ahead t.time target o → Spells target o (Ok there) → IsNumber there
      by (at_tick x) may says = absurd may.low_has
      by (in_cell cell) may says =
          let low = is-cell may.low cell may.low_has in
          let high = is-cell may.high cell may.high_has in
          let same : high.0 ≡ low.0 = same-count high.0 low.0 (sym high.2 ∙ low.2) in
          record {
            number = low.0;
            spelled = alone-text picture.pieces places low.0 there alone h.way.seconds (subst (λ (c : Cell). IsTextOf picture.pieces c there) low.2 says);
            printed = record {
              is_clock = is-clock;
              place = h.place;
              by = h.by;
              covered = h.covered;
              time = t.time;
              time_is = (source-near job.form job.from tables text t.time t.stands_for).0;
              is_time = source-time t.time t.stands_for;
              long = h.long;
              prints = record {
                low = may.low;
                high = may.high;
                low_is = may.low_is;
                high_is = may.high_is;
                at_least = may.at_least;
                at_most = may.at_most;
                low_cell = low.1;
                high_cell = subst (λ (n : ℤ). IsClockCell places picture.rounds may.high n) same high.1;
              };
            };
          }

  -- the text that is printed there is one
  there-one : (a b : List ℕ) → ForwardGives job loaded text (Ok a) → ForwardGives job loaded text (Ok b) → a ≡ b
  there-one a b f g =
      let t = is-there a f in
      let gives = routed job tables text t.time ahead target (Ok b) clocks t.stands_for is-route is-target (converts (Ok b) g) in
      ok-same a b (one_answer known ahead t.time target (Ok a) (Ok b) (Tdb, aimed-at.0, aimed-at.1) (source-near job.form job.from tables text t.time t.stands_for).0 t.prints gives)

  -- where one is printed there, nothing else may come than UNDECIDED
  left-undecided : (there : List ℕ) (f : AnswerFault) → ForwardGives job loaded text (Ok there) → ForwardGives job loaded text (Err f)
      → (f ≡ Time faults.Undecided) × CanBeUndecided job loaded text
  left-undecided there (Table f) g refused = absurd (never-both job loaded f tables refused h.given)
  left-undecided there OutOfMemory g refused = absurd refused
  left-undecided there (Time f) g (some, gives) =
      let t = is-there there g in
      elim (one-of ahead t.time target (Err f) (routed job tables text t.time ahead target (Err f) clocks t.stands_for is-route is-target (converts (Err f) gives))) [
        | inl p ↦ absurd (none p.0 p.1 p.2)
        | inr (inl u) ↦ (
          ap Time (err-same f faults.Undecided u.1),
          record {
            tables = tables;
            given = h.given;
            time = t.time;
            route = ahead;
            target = target;
            stands_for = t.stands_for;
            by_route = is-route;
            by_target = is-target;
            undecided = u.0;
          },
        )
        | inr (inr e) ↦ absurd (err-not f some e)
      ]
    where
      none : {r : Fraction} (o : Outcome) → MayPrint ahead r target o → Spells target o (Err f) → ⊥
      none (in_cell cell) may says = says
      none (at_tick x) may says = may.low_has

  -- The way back of the text.
  module _ (there : List ℕ) (g : ForwardGives job loaded text (Ok there)) (range : TellsInRange places there) where
    abbrev number : ℤ
    number = range.number

    units-in : IsInRange (instant number places)
    units-in = in-range number places few range.in_range

    may-be-printed : IsPrinted constants.0 clock k places picture.rounds number
    may-be-printed =
        let n = is-number there (is-there there g) in
        subst (λ (x : ℤ). IsPrinted constants.0 clock k places picture.rounds x) (one-number n.number number places few units-in (sym n.spelled ∙ range.spelled)) n.printed

    reads-back : InstantGives Tdb InSeconds tables.leaps there (Ok (instant number places))
    reads-back =
        (Instant (instant number places), subst (λ (t : List ℕ). ReadsTime t Tdb InSeconds (Ok (Instant (instant number places)))) (sym range.spelled) (fixed-read number places few units-in), refl)

    back-source : SourceGives (from.Time InSeconds) Tdb tables there (Ok (units (instant number places)))
    back-source = (instant number places, reads-back, refl)

    abbrev behind : Route
    behind = Scales constants.0 scales.Tdb clock.scale

    abbrev aimed : Target
    aimed = by_clock clock tick.Clock

    back-route : IsRouteOf (back_job job) tables behind
    back-route =
        let P : Option Deltet → Type 0 = λ o. IsRouteBy o Tdb Sclk tables behind in
        subst P (sym constants.1) (scales.Tdb, clock.scale, refl, (clock, h.has_clock, refl), refl)

    back-target : IsTargetOf to.Clock tables aimed
    back-target = (clock, h.has_clock, refl)

    back-told : (x : Result (List ℕ) TimeFault) → x ≢ Err faults.OutOfMemory → HasGiven (back_job job) loaded there x → TellsTick clock k x
    back-told x some gives =
        back-only constants.0 clock k places picture.rounds number few may-be-printed x some
        (routed (back_job job) tables there (units (instant number places)) behind aimed x clocks back-source back-route back-target (converts-back there x gives))

    -- the answers of the way back
    abbrev Spelled : Result (List ℕ) AnswerFault → Type 0
    Spelled x = (back : List ℕ) × IsCanonical clock.face k back × (x ≡ Ok back)

    back-to : (x : Result (List ℕ) AnswerFault) → ForwardGives (back_job job) loaded there x → Spelled x
    back-to (Ok back) gives =
        let t = back-told (Ok back) (λ e. ok-err back faults.OutOfMemory e) gives in
        (t.0, t.1, ap Ok (ok-same back t.0 t.2))
    back-to (Err (Table f)) gives = absurd (never-both (back_job job) loaded f tables gives behind-given)
    back-to (Err (Time f)) (some, gives) = let t = back-told (Err f) (err-not f some) gives in absurd (ok-err t.0 f (sym t.2))
    back-to (Err OutOfMemory) gives = absurd gives

    back-from : (x : Result (List ℕ) AnswerFault) → Spelled x → ForwardGives (back_job job) loaded there x
    back-from x (back, canonical, e) =
        let near = (instant-near Tdb InSeconds tables.leaps there (instant number places) reads-back).1 in
        let prints = back-found constants.0 clock k places picture.rounds number few may-be-printed back canonical near in
        let P : Result (List ℕ) AnswerFault → Type 0 = λ z. ForwardGives (back_job job) loaded there z in
        subst P (sym e) (tables, behind-given, inr (units (instant number places), behind, aimed, back-source, back-route, back-target, prints))

    -- and those of there and back
    abbrev Answers : Result (List ℕ) AnswerFault → Type 0
    Answers x = IsReturned clock k there x ⊎ ((x ≡ Err (Time faults.Undecided)) × CanBeUndecided job loaded text)

    moved-back : (other : List ℕ) (x : Result (List ℕ) AnswerFault) → ForwardGives job loaded text (Ok other) → ForwardGives (back_job job) loaded other x → Spelled x
    moved-back other x f gives = back-to x (subst (λ (t : List ℕ). ForwardGives (back_job job) loaded t x) (there-one other there f g) gives)

    answers-to : (x : Result (List ℕ) AnswerFault) → BackGives job loaded text x → Answers x
    answers-to (Ok said) (other, back, f, gives, is) =
        let s = moved-back other (Ok back) f gives in
        let spelled : back ≡ s.0 = ok-is back s.0 s.2 in
        inl (s.0, s.1, ap Ok (is ∙ ap (λ (t : List ℕ). there_and_back t back) (there-one other there f g) ∙ ap (λ (t : List ℕ). there_and_back there t) spelled))
    answers-to (Err f) (inl refused) = let u = left-undecided there f g refused in inr (ap Err u.0, u.1)
    answers-to (Err f) (inr (other, there-is, gives)) = let s = moved-back other (Err f) there-is gives in absurd (ok-is-not s.0 f (sym s.2))

    answers-from : (x : Result (List ℕ) AnswerFault) → Answers x → BackGives job loaded text x
    answers-from x (inl (back, canonical, e)) =
        let P : Result (List ℕ) AnswerFault → Type 0 = λ z. BackGives job loaded text z in
        subst P (sym e) (there, back, g, back-from (Ok back) (back, canonical, refl), refl)
    answers-from x (inr (e, u)) =
        let P : Result (List ℕ) AnswerFault → Type 0 = λ z. BackGives job loaded text z in
        let Q : Bool → Type 0 = λ b. GivesBy b job u.tables text (Err faults.Undecided) in
        let converted : ConvertGives job u.tables text (Err faults.Undecided) = inr (u.time, u.route, u.target, u.stands_for, u.by_route, u.by_target, u.undecided) in
        subst P (sym e) (inl (undecided-not, (u.tables, u.given, subst Q (sym (one-clock job way.from way.to)) converted)))

    answers : (x : Result (List ℕ) AnswerFault) → AnswerGives job loaded text x ↔ Answers x
    answers x = (
      λ a. answers-to x (subst (λ (b : Bool). AnswerBy b job loaded text x) h.way.back a),
      λ a. subst (λ (b : Bool). AnswerBy b job loaded text x) (sym h.way.back) (answers-from x a),
    )

  -- where the clock is kept in TDB, no sine stands on the way there
  no-sine : clock.scale ≡ scales.Tdb → CanBeUndecided job loaded text → ⊥
  no-sine kept u = by u.tables.constants u.route (subst (λ (s : System). IsRouteBy u.tables.constants s Tdb u.tables u.route) way.from (subst (λ (s : System). IsRouteBy u.tables.constants job.from s u.tables u.route) way.to u.by_route)) u.undecided.sine
    where
      by : (o : Option Deltet) (route : Route) → IsRouteBy o Sclk Tdb u.tables route → HasSineOnIt route → ⊥
      by None route is sine = subst HasSineOnIt is sine
      by (Some d) route (a, b, (c, has, from-a), to-b, is) sine =
          let same : c ≡ clock = some-is c clock (sym has ∙ same-clock job loaded u.tables tables u.given h.given ∙ h.has_clock) in
          let crossing : crosses a b ≡ true = (subst HasSineOnIt is sine).crosses in
          let start : a ≡ scales.Tdb = from-a ∙ ap (λ (x : TheClock). x.scale) same ∙ kept in
          false≢true (sym (ap (λ (s : Scale). crosses s b) start ∙ ap (λ (s : Scale). crosses scales.Tdb s) to-b) ∙ crossing)

pub way-back-gives-tick : WayBackGivesTick
way-back-gives-tick job loaded text there clock k places x h g range =
    (back-to job loaded text clock k places h there g range x, back-from job loaded text clock k places h there g range x)

pub covered-tick-returns : CoveredTickReturns
covered-tick-returns job loaded text there clock k places x h g range = answers job loaded text clock k places h there g range x

pub tdb-tick-returns : TdbTickReturns
tdb-tick-returns job loaded text there clock k places x h kept g range =
    let both = answers job loaded text clock k places h there g range x in (
      λ a. elim (both.0 a) [
        | inl r ↦ r
        | inr u ↦ absurd (no-sine job loaded text clock k places h kept u.1)
      ],
      λ r. both.1 (inl r),
    )
