-- By one job's tables a text has one answer that is settled: neither left undecided nor want of memory.
use Rattle.std.proofs.Common.{◌≡◌, ℕ, Bool, true, false, inl, inr, Option, Some, None, Result, Ok, Err, List, sym, ap, ◌∙◌, subst}
use Rattle.st_clock.specs.Clock.{Clock as TheClock, IsClock}
use Rattle.st_clock.specs.Time.{value_of}
use Rattle.st_dates.specs.declared.system.System.{System}
use Rattle.st_dates.specs.declared.system.System.TheVariants.{Utc, Tai, Tt, Tdb, Sclk}
use Rattle.st_forms.proofs.AnswerLaws.{each_has_answer as each-is-read, one_answer as one-reading}
use Rattle.st_fraction.specs.Fraction.{Fraction, IsFraction, units}
use Rattle.st_leaps.specs.declared.table.LeapTable.{LeapTable}
use Rattle.st_picture.specs.Picture.{Picture}
use Rattle.st_routes.specs.Laws.{EachTextGivesInstant, EachTextGivesTick, InstantIsSource, IsTarget, OneInstant, OneTick}
use Rattle.st_routes.specs.Outcome.{RouteGives, Target, by_clock, by_picture}
use Rattle.st_routes.specs.Route.{IsNearby}
use Rattle.st_routes.specs.Source.{TickGives}
use Rattle.st_routes.specs.declared.fault.TimeFault.{TimeFault}
use Rattle.st_routes.specs.declared.route.Route.{Route}
use Rattle.st_routes.specs.declared.route.Route.TheVariants.{Scales}
use Rattle.st_routes.specs.declared.ticks.TickForm.{TickForm}
use Rattle.st_routes.specs.declared.ticks.TickForm.TheVariants as tick
use Rattle.st_routes.proofs.Instants.{each_gives, instant_is_source, one_instant}
use Rattle.st_routes.proofs.Numbers.{each_gives_tick, one_tick}
use Rattle.st_routes.proofs.Values.{time_is_source}
use Rattle.st_scales.specs.declared.deltet.Deltet.{Deltet}
use Rattle.st_scales.specs.declared.scale.Scale.{Scale}
use Rattle.st_ticks.proofs.JudgeLaws.{reading_is_found}
use Rattle.st_ticks.proofs.ReadingLaws.{reading_is_one}
use Rattle.st_words.specs.Job.{IsTarget as IsJobTarget}
use Rattle.st_words.specs.declared.job.FromKind.{FromKind}
use Rattle.st_words.specs.declared.job.FromKind.TheVariants as from
use Rattle.st_words.specs.declared.job.Job.{Job}
use Rattle.st_words.specs.declared.job.ToKind.{ToKind}
use Rattle.st_words.specs.declared.job.ToKind.TheVariants as to
use Rattle.st_answers.specs.Answer.{ClockTimeGives, ConvertGives, GivesBy, IsRouteBy, IsScaleOf, IsTargetOf, IsTickSpelled, SourceGives, SpellGives, TickTimeGives, source_form, target_form}
use Rattle.st_answers.specs.Asked.{Tables}
use Rattle.st_answers.proofs.Found.{some-is}
use Rattle.st_answers.proofs.Known.{even-days-count, tables-count}
use Rattle.st_answers.proofs.Moved.{units-are}
use Rattle.st_answers.proofs.Settled.{IsSettled, one-settled}
use Rattle.st_answers.proofs.Timed.{one-tick-text, one-time}

pub instant-found : EachTextGivesInstant
instant-found = each_gives each-is-read

pub instant-one : OneInstant
instant-one = one_instant one-reading

pub instant-near : InstantIsSource
instant-near = instant_is_source one-reading tables-count even-days-count

pub tick-found : EachTextGivesTick
tick-found = each_gives_tick reading_is_found

pub tick-one : OneTick
tick-one = one_tick reading_is_one

pub ok-same : {A : Type 0} (x y : A) → ◌≡◌ {A = Result A TimeFault} (Ok x) (Ok y) → x ≡ y
ok-same x y e = cc

pub ok-err : {A : Type 0} (x : A) (f : TimeFault) → ◌≡◌ {A = Result A TimeFault} (Ok x) (Err f) → ⊥
ok-err x f e = absurd cc

pub err-ok : {A : Type 0} (f : TimeFault) (x : A) → ◌≡◌ {A = Result A TimeFault} (Err f) (Ok x) → ⊥
err-ok f x e = absurd cc

pub err-same : {A : Type 0} (f g : TimeFault) → ◌≡◌ {A = Result A TimeFault} (Err f) (Err g) → f ≡ g
err-same f g e = cc

-- the clock of the tables is one
abbrev pub HasClocks : Tables → Type 0
HasClocks tables = (clock : TheClock) → tables.clock ≡ Some clock → IsClock clock

tick-time-one : (clock : TheClock) (read : Result ℕ TimeFault) (x y : Result Fraction TimeFault) → IsClock clock → TickTimeGives clock read x → TickTimeGives clock read y → x ≡ y
tick-time-one clock (Err fault) x y is g h = g ∙ sym h
tick-time-one clock (Ok k) (Ok r) (Ok s) is (p, gp, rp) (q, gq, sq) =
    ap Ok (rp ∙ ap value_of (ok-same p q (one-time clock k (Ok p) (Ok q) is gp gq)) ∙ sym sq)
tick-time-one clock (Ok k) (Ok r) (Err g) is (p, gp, rp) h = absurd (ok-err p g (one-time clock k (Ok p) (Err g) is gp h))
tick-time-one clock (Ok k) (Err f) (Ok s) is g (q, gq, sq) = absurd (err-ok f q (one-time clock k (Err f) (Ok q) is g gq))
tick-time-one clock (Ok k) (Err f) (Err g) is h j = ap Err (err-same f g (one-time clock k (Err f) (Err g) is h j))

clock-time-one : (tables : Tables) (form : TickForm) (text : List ℕ) (x y : Result Fraction TimeFault) → HasClocks tables → ClockTimeGives tables form text x
    → ClockTimeGives tables form text y → x ≡ y
clock-time-one tables form text x y clocks (c, read, has, ticks, time) (d, other, has2, ticks2, time2) =
    let same : d ≡ c = some-is d c (sym has2 ∙ has) in
    let P : TheClock → Type 0 = λ k. TickGives k form text other in
    let Q : TheClock → Type 0 = λ k. TickTimeGives k other y in
    let R : Result ℕ TimeFault → Type 0 = λ z. TickTimeGives c z y in
    tick-time-one c read x y (clocks c has) time (subst R (tick-one c form text other read (subst P same ticks2) ticks) (subst Q same time2))

pub source-one : (form : FromKind) (system : System) (tables : Tables) (text : List ℕ) (x y : Result Fraction TimeFault) → HasClocks tables
    → SourceGives form system tables text x → SourceGives form system tables text y → x ≡ y
source-one (from.Time form) system tables text (Ok r) (Ok s) clocks (u, gu, ru) (v, gv, sv) =
    ap Ok (ru ∙ ap units (ok-same u v (instant-one system form tables.leaps text (Ok u) (Ok v) gu gv)) ∙ sym sv)
source-one (from.Time form) system tables text (Ok r) (Err g) clocks (u, gu, ru) h =
    absurd (ok-err u g (instant-one system form tables.leaps text (Ok u) (Err g) gu h))
source-one (from.Time form) system tables text (Err f) (Ok s) clocks h (v, gv, sv) =
    absurd (err-ok f v (instant-one system form tables.leaps text (Err f) (Ok v) h gv))
source-one (from.Time form) system tables text (Err f) (Err g) clocks h j = ap Err (err-same f g (instant-one system form tables.leaps text (Err f) (Err g) h j))
source-one from.Clock system tables text x y clocks h j = clock-time-one tables tick.Clock text x y clocks h j
source-one from.Ticks system tables text x y clocks h j = clock-time-one tables tick.Ticks text x y clocks h j

-- a value of a source is a fraction, and near enough
abbrev pub IsNear : Fraction → Type 0
IsNear r = IsFraction r × IsNearby r

clock-time-near : (tables : Tables) (form : TickForm) (text : List ℕ) (r : Fraction) → ClockTimeGives tables form text (Ok r) → IsNear r
clock-time-near tables form text r (c, Ok k, has, ticks, (p, time, is)) = let s = time_is_source c k p time in subst IsNear (sym is) (s.1, s.2)
clock-time-near tables form text r (c, Err f, has, ticks, e) = absurd (ok-err r f e)

pub source-near : (form : FromKind) (system : System) (tables : Tables) (text : List ℕ) (r : Fraction) → SourceGives form system tables text (Ok r) → IsNear r
source-near (from.Time form) system tables text r (u, gives, is) = subst IsNear (sym is) (units-are u, (instant-near system form tables.leaps text u gives).1)
source-near from.Clock system tables text r h = clock-time-near tables tick.Clock text r h
source-near from.Ticks system tables text r h = clock-time-near tables tick.Ticks text r h

scale-one : (system : System) (tables : Tables) (a b : Scale) → IsScaleOf system tables a → IsScaleOf system tables b → a ≡ b
scale-one Utc tables a b g h = g ∙ sym h
scale-one Tai tables a b g h = g ∙ sym h
scale-one Tt tables a b g h = g ∙ sym h
scale-one Tdb tables a b g h = g ∙ sym h
scale-one Sclk tables a b (c, has, is) (d, also, other) = is ∙ ap (λ (k : TheClock). k.scale) (some-is c d (sym has ∙ also)) ∙ sym other

pub route-one : (constants : Option Deltet) (source target : System) (tables : Tables) (x y : Route) → IsRouteBy constants source target tables x
    → IsRouteBy constants source target tables y → x ≡ y
route-one None source target tables x y g h = g ∙ sym h
route-one (Some k) source target tables x y (a, b, from-a, to-b, is) (c, d, from-c, to-d, other) =
    is ∙ ap (λ (s : Scale). Scales k s b) (scale-one source tables a c from-a from-c) ∙ ap (λ (s : Scale). Scales k c s) (scale-one target tables b d to-b to-d) ∙ sym other

pub target-one : (shape : ToKind) (tables : Tables) (x y : Target) → IsTargetOf shape tables x → IsTargetOf shape tables y → x ≡ y
target-one (to.Pictured picture) tables x y g h = g ∙ sym h
target-one to.Clock tables x y (c, has, is) (d, also, other) = is ∙ ap (λ (k : TheClock). by_clock k tick.Clock) (some-is c d (sym has ∙ also)) ∙ sym other
target-one to.Ticks tables x y (c, has, is) (d, also, other) = is ∙ ap (λ (k : TheClock). by_clock k tick.Ticks) (some-is c d (sym has ∙ also)) ∙ sym other

-- what is printed by is a target
picture-is : (system : System) (picture : Picture) (leaps : Option LeapTable) → IsJobTarget system (to.Pictured picture) → IsTarget (by_picture picture leaps)
picture-is Utc picture leaps (text, reads) = (Utc, text, reads)
picture-is Tai picture leaps (text, reads) = (Tai, text, reads)
picture-is Tt picture leaps (text, reads) = (Tt, text, reads)
picture-is Tdb picture leaps (text, reads) = (Tdb, text, reads)
picture-is Sclk picture leaps h = absurd h

pub target-is : (system : System) (shape : ToKind) (tables : Tables) (target : Target) → HasClocks tables → IsJobTarget system shape → IsTargetOf shape tables target → IsTarget target
target-is system (to.Pictured picture) tables target clocks is e = subst IsTarget (sym e) (picture-is system picture tables.leaps is)
target-is system to.Clock tables target clocks is (c, has, e) = subst IsTarget (sym e) (clocks c has)
target-is system to.Ticks tables target clocks is (c, has, e) = subst IsTarget (sym e) (clocks c has)

convert-one : (job : Job) (tables : Tables) (text : List ℕ) (x y : Result (List ℕ) TimeFault) → HasClocks tables → IsJobTarget job.to job.shape
    → IsSettled x → IsSettled y
    → ConvertGives job tables text x → ConvertGives job tables text y → x ≡ y
convert-one job tables text x y clocks aimed sx sy (inl (f, s, e)) (inl (g, t, h)) =
    e ∙ ap Err (err-same f g (source-one job.form job.from tables text (Err f) (Err g) clocks s t)) ∙ sym h
convert-one job tables text x y clocks aimed sx sy (inl (f, s, e)) (inr (r, route, target, t, way, aim, gives)) =
    absurd (err-ok f r (source-one job.form job.from tables text (Err f) (Ok r) clocks s t))
convert-one job tables text x y clocks aimed sx sy (inr (r, route, target, t, way, aim, gives)) (inl (f, s, e)) =
    absurd (ok-err r f (source-one job.form job.from tables text (Ok r) (Err f) clocks t s))
convert-one job tables text x y clocks aimed sx sy (inr (r, route, target, t, way, aim, gives)) (inr (s, path, mark, u, other, aims, tells)) =
    let value : s ≡ r = ok-same s r (source-one job.form job.from tables text (Ok s) (Ok r) clocks u t) in
    let ways : path ≡ route = route-one tables.constants job.from job.to tables path route other way in
    let targets : mark ≡ target = target-one job.shape tables mark target aims aim in
    let P : Fraction → Type 0 = λ z. RouteGives path z mark y in
    let Q : Route → Type 0 = λ z. RouteGives z r mark y in
    let R : Target → Type 0 = λ z. RouteGives route r z y in
    one-settled route r target x y (target-is job.to job.shape tables target clocks aimed aim) (source-near job.form job.from tables text r t).0 sx sy gives
    (subst R targets (subst Q ways (subst P value tells)))

spelled-one : (clock : TheClock) (form : TickForm) (read : Result ℕ TimeFault) (x y : Result (List ℕ) TimeFault) → IsClock clock → IsTickSpelled clock form read x
    → IsTickSpelled clock form read y → x ≡ y
spelled-one clock form (Err f) x y is g h = g ∙ sym h
spelled-one clock form (Ok k) (Ok a) (Ok b) is g h = ap Ok (one-tick-text clock form k a b is g h)
spelled-one clock form (Ok k) (Ok a) (Err f) is g h = absurd h
spelled-one clock form (Ok k) (Err f) y is g h = absurd g

spell-one : (job : Job) (tables : Tables) (text : List ℕ) (x y : Result (List ℕ) TimeFault) → HasClocks tables → SpellGives job tables text x → SpellGives job tables text y → x ≡ y
spell-one job tables text x y clocks (c, read, has, ticks, says) (d, other, has2, ticks2, says2) =
    let same : d ≡ c = some-is d c (sym has2 ∙ has) in
    let P : TheClock → Type 0 = λ k. TickGives k (source_form job.form) text other in
    let Q : TheClock → Type 0 = λ k. IsTickSpelled k (target_form job.shape) other y in
    let R : Result ℕ TimeFault → Type 0 = λ z. IsTickSpelled c (target_form job.shape) z y in
    spelled-one c (target_form job.shape) read x y (clocks c has) says
    (subst R (tick-one c (source_form job.form) text other read (subst P same ticks2) ticks) (subst Q same says2))

pub given-one : (b : Bool) (job : Job) (tables : Tables) (text : List ℕ) (x y : Result (List ℕ) TimeFault) → HasClocks tables → IsJobTarget job.to job.shape
    → IsSettled x → IsSettled y
    → GivesBy b job tables text x → GivesBy b job tables text y → x ≡ y
given-one true job tables text x y clocks aimed sx sy g h = spell-one job tables text x y clocks g h
given-one false job tables text x y clocks aimed sx sy g h = convert-one job tables text x y clocks aimed sx sy g h
