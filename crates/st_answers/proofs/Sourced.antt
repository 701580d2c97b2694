-- What a text of the source stands for, and the answer one way.
use Rattle.std.proofs.Common.{◌≡◌, ◌≢◌, ℕ, ◌<◌, ℤ, inr, true, ◌&&◌, Result, Ok, Err, IfOk, IfErr, List, refl, sym, ap, ◌∙◌, subst}
use Rattle.std.proofs.lemmas.Bool.{false≢true}
use Rattle.std.specs.Result.{IsErrAnd}
use Rattle.st_clock.specs.Time.{value_of}
use Rattle.st_clock.specs.declared.point.Point.{Point}
use Rattle.st_forms.specs.declared.form.Form.{Form}
use Rattle.st_fraction.specs.Fraction.{Fraction, units}
use Rattle.st_routes.specs.Source.{InstantGives}
use Rattle.st_routes.specs.declared.fault.TimeFault.{TimeFault}
use Rattle.st_routes.specs.declared.fault.TimeFault.TheVariants as time
use Rattle.st_routes.specs.declared.route.Route.{Route}
use Rattle.st_routes.specs.declared.ticks.TickForm.{TickForm}
use Rattle.st_tables.specs.Variables.{Loaded}
use Rattle.st_tables.specs.declared.fault.TableFault.{TableFault}
use Rattle.st_tables.specs.declared.fault.TableFault.TheVariants as table
use Rattle.st_words.specs.Job.{IsSource}
use Rattle.st_words.specs.declared.job.FromKind.{FromKind}
use Rattle.st_words.specs.declared.job.FromKind.TheVariants as from
use Rattle.st_words.specs.declared.job.Job.{Job}
use Rattle.st_answers.specs.Answer.{ClockTimeGives, ConvertGives, ForwardGives, GivesBy, IsRouteOf, SourceGives}
use Rattle.st_answers.specs.Asked.{AreTables, FirstRefusal, Tables}
use Rattle.st_answers.specs.AskedSteps.{ClockTimeIs, IsPointOf, PrintIs, SourceIs}
use Rattle.st_answers.specs.FaultSteps.{of_table, of_time}
use Rattle.st_answers.specs.Sides.{is_clock}
use Rattle.st_answers.specs.declared.fault.AnswerFault.{AnswerFault}
use Rattle.st_answers.specs.declared.fault.AnswerFault.TheVariants.{OutOfMemory}
use Rattle.st_answers.proofs.Moved.{point-is, units-are, whole-point}
use Rattle.st_answers.proofs.Sides.{is_of_clock, source-kind}

pub time-refused : (job : Job) (form : Form) (text : List ℕ) (fault : TimeFault) (tables : Tables) → job.form ≡ from.Time form
    → InstantGives job.from form tables.leaps text (Err fault) → SourceIs job text tables (Err fault)
time-refused job form text fault tables kind gives =
    let P : FromKind → Type 0 = λ k. SourceGives k job.from tables text (Err fault) in
    subst P (sym kind) gives

pub time-read : (job : Job) (form : Form) (text : List ℕ) (u : ℤ) (tables : Tables) → job.form ≡ from.Time form → InstantGives job.from form tables.leaps text (Ok u)
    → SourceIs job text tables (Ok (record { units = u; part = 0; of = 1 }))
time-read job form text u tables kind gives =
    let P : FromKind → Type 0 = λ k. SourceGives k job.from tables text (Ok (units u)) in (
      units u,
      subst P (sym kind) (u, gives, refl),
      record { positive = units-are u; same = whole-point u; whole = λ not. refl },
    )

clock-point : (job : Job) (time : Point) → is_clock job.from ≡ true → time.part < time.of → IsPointOf job (value_of time) time
clock-point job time clock part = record {
  positive = point-is time part;
  same = record { same = refl };
  whole = λ not. absurd (false≢true (sym not ∙ clock));
}

-- the kind of a source whose texts are a clock's
is-clock : (job : Job) (kind : FromKind) → IsSource job.from job.form → job.form ≡ kind → is_of_clock kind ≡ true → is_clock job.from ≡ true
is-clock job kind source is of = sym (source-kind job.from job.form source) ∙ ap is_of_clock is ∙ of

pub clock-read : (job : Job) (form : TickForm) (text : List ℕ) (kind : FromKind) (tables : Tables) (r : Result Point TimeFault) → job.form ≡ kind → is_clock job.from ≡ true
    → ((x : Result Fraction TimeFault) → ClockTimeGives tables form text x → SourceGives kind job.from tables text x)
    → IfOk r (λ time. time.part < time.of) → ClockTimeIs form text tables r → SourceIs job text tables r
clock-read job form text kind tables (Ok time) is clock by part h =
    let P : FromKind → Type 0 = λ k. SourceGives k job.from tables text (Ok (value_of time)) in
    (value_of time, subst P (sym is) (by (Ok (value_of time)) h), clock-point job time clock part)
clock-read job form text kind tables (Err fault) is clock by part h =
    let P : FromKind → Type 0 = λ k. SourceGives k job.from tables text (Err fault) in
    subst P (sym is) (by (Err fault) h)

pub strings-are : (job : Job) → IsSource job.from job.form → job.form ≡ from.Clock → is_clock job.from ≡ true
strings-are job source is = is-clock job from.Clock source is refl

pub ticks-are : (job : Job) → IsSource job.from job.form → job.form ≡ from.Ticks → is_clock job.from ≡ true
ticks-are job source is = is-clock job from.Ticks source is refl

-- an answer by the tables is one of the loaded kernels
pub one-way : (job : Job) (loaded : Loaded) (text : List ℕ) (tables : Tables) (fault : TimeFault) (r : Result (List ℕ) AnswerFault) → AreTables job loaded tables
    → IsErrAnd r (λ f. f ≡ of_time fault) → (fault ≢ time.OutOfMemory → GivesBy (is_clock job.from && is_clock job.to) job tables text (Err fault))
    → IfErr r (λ f. f ≢ OutOfMemory → ForwardGives job loaded text (Err f))
one-way job loaded text tables fault (Ok said) are h gives = tt
one-way job loaded text tables fault (Err f) are h gives = λ not.
    subst (λ (x : AnswerFault). ForwardGives job loaded text (Err x)) (sym h) (by fault gives (λ e. not (h ∙ e)))
  where
    by : (t : TimeFault) → (t ≢ time.OutOfMemory → GivesBy (is_clock job.from && is_clock job.to) job tables text (Err t)) → of_time t ≢ OutOfMemory
        → ForwardGives job loaded text (Err (of_time t))
    by time.OutOfMemory g not = absurd (not refl)
    by other g not = ((λ e. cc), (tables, are, g (λ e. cc)))

-- the first refusal of a table is the answer
pub table-refuses : (job : Job) (loaded : Loaded) (text : List ℕ) (fault : TableFault) (r : Result (List ℕ) AnswerFault) → IsErrAnd r (λ f. f ≡ of_table fault)
    → FirstRefusal job loaded fault → IfErr r (λ f. f ≢ OutOfMemory → ForwardGives job loaded text (Err f))
table-refuses job loaded text fault (Ok said) h first = tt
table-refuses job loaded text fault (Err f) h first = λ not.
    subst (λ (x : AnswerFault). ForwardGives job loaded text (Err x)) (sym h) (by fault first (λ e. not (h ∙ e)))
  where
    by : (t : TableFault) → FirstRefusal job loaded t → of_table t ≢ OutOfMemory → ForwardGives job loaded text (Err (of_table t))
    by (table.NoVariable v) g not = ((λ e. cc), g)
    by (table.WrongKind v) g not = ((λ e. cc), g)
    by (table.Leaps l) g not = ((λ e. cc), g)
    by (table.Deltet d) g not = ((λ e. cc), g)
    by (table.Clock c) g not = ((λ e. cc), g)
    by table.OutOfMemory g not = absurd (not refl)

-- a text that is read and printed is converted
pub converted : (job : Job) (tables : Tables) (text : List ℕ) (time : Point) (route : Route) (x : Result (List ℕ) TimeFault) → SourceIs job text tables (Ok time)
    → IsRouteOf job tables route → PrintIs job route time tables x → ConvertGives job tables text x
converted job tables text time route x (r, source, point) way prints =
    let t = prints r point in inr (r, route, t.0, source, way, t.1, t.2)
