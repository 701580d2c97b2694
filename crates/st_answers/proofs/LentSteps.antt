-- What a text is answered by the tables that are lent.
use Rattle.std.proofs.Common.{◌≡◌, ◌≢◌, ℕ, Bool, true, false, Option, Some, None, Result, Ok, Err, IfOk, IfErr, List, inl, refl, sym, ap, ◌∙◌, subst}
use Rattle.std.specs.Result.{IsErrAnd}
use Rattle.st_clock.specs.Clock.{Clock}
use Rattle.st_clock.specs.declared.point.Point.{Point}
use Rattle.st_routes.specs.Source.{TickGives, TimeGives}
use Rattle.st_routes.specs.declared.fault.TimeFault.{TimeFault}
use Rattle.st_routes.specs.declared.fault.TimeFault.TheVariants as time
use Rattle.st_routes.specs.declared.ticks.TickForm.{TickForm}
use Rattle.st_words.specs.declared.job.Job.{Job}
use Rattle.st_answers.specs.Answer.{ConvertGives, GivesBy, SpellGives}
use Rattle.st_answers.specs.Asked.{Tables}
use Rattle.st_answers.specs.AskedSteps.{ClockScaleIs, ClockTimeIs, SourceIs}
use Rattle.st_scales.specs.declared.scale.Scale.{Scale}
use Rattle.st_answers.proofs.Found.{some-is}

none-some : {A : Type 0} (x : A) → ◌≡◌ {A = Option A} None (Some x) → ⊥
none-some x e = absurd cc

-- the time of a tick that is read
pub tick-timed : (form : TickForm) (text : List ℕ) (tables : Tables) (clock : Clock) (k : ℕ) (r : Result Point TimeFault) → tables.clock ≡ Some clock
    → TickGives clock form text (Ok k) → TimeGives clock k r → ClockTimeIs form text tables r
tick-timed form text tables clock k (Ok time) is read gives = (clock, Ok k, is, read, (time, gives, refl))
tick-timed form text tables clock k (Err fault) is read gives = (clock, Ok k, is, read, gives)

-- a text that is no tick
pub tick-refused : (form : TickForm) (text : List ℕ) (tables : Tables) (clock : Clock) (fault : TimeFault) (r : Result Point TimeFault) → tables.clock ≡ Some clock
    → IsErrAnd r (λ x. x ≡ fault) → TickGives clock form text (Err fault) → ClockTimeIs form text tables r
tick-refused form text tables clock fault (Ok time) is h read = absurd h
tick-refused form text tables clock fault (Err x) is h read =
    subst (λ (y : TimeFault). ClockTimeIs form text tables (Err y)) (sym h) (clock, Err fault, is, read, refl)

-- a refusal of the source is the answer
pub source-refused : (job : Job) (text : List ℕ) (tables : Tables) (fault : TimeFault) (r : Result (List ℕ) TimeFault)
    → IsErrAnd r (λ x. x ≡ fault) → SourceIs job text tables (Err fault) → ConvertGives job tables text r
source-refused job text tables fault (Ok said) h gives = absurd h
source-refused job text tables fault (Err x) h gives =
    subst (λ (y : TimeFault). ConvertGives job tables text (Err y)) (sym h) (inl (fault, gives, refl))

pub source-is-refused : (job : Job) (text : List ℕ) (tables : Tables) (fault : TimeFault) (r : Result Point TimeFault)
    → IsErrAnd r (λ x. x ≡ fault) → SourceIs job text tables (Err fault) → SourceIs job text tables r
source-is-refused job text tables fault (Ok said) h gives = absurd h
source-is-refused job text tables fault (Err x) h gives = subst (λ (y : TimeFault). SourceIs job text tables (Err y)) (sym h) gives

-- an answer by the way that the job goes
pub spells : (job : Job) (tables : Tables) (text : List ℕ) (both : Bool) (r : Result (List ℕ) TimeFault) → both ≡ true
    → SpellGives job tables text r → GivesBy both job tables text r
spells job tables text both r e gives = subst (λ (b : Bool). GivesBy b job tables text r) (sym e) gives

pub converts : (job : Job) (tables : Tables) (text : List ℕ) (both : Bool) (r : Result (List ℕ) TimeFault) → both ≡ false
    → ConvertGives job tables text r → GivesBy both job tables text r
converts job tables text both r e gives = subst (λ (b : Bool). GivesBy b job tables text r) (sym e) gives

pub converts-ok : (job : Job) (tables : Tables) (text : List ℕ) (both : Bool) (r : Result (List ℕ) TimeFault) → both ≡ false
    → ConvertGives job tables text r → IfOk r (λ said. GivesBy both job tables text (Ok said))
converts-ok job tables text both (Ok said) e gives = converts job tables text both (Ok said) e gives
converts-ok job tables text both (Err fault) e gives = tt

pub converts-err : (job : Job) (tables : Tables) (text : List ℕ) (both : Bool) (r : Result (List ℕ) TimeFault) → both ≡ false
    → ConvertGives job tables text r → IfErr r (λ fault. fault ≢ time.OutOfMemory → GivesBy both job tables text (Err fault))
converts-err job tables text both (Ok said) e gives = tt
converts-err job tables text both (Err fault) e gives = λ not. converts job tables text both (Err fault) e gives

pub spells-ok : (job : Job) (tables : Tables) (text : List ℕ) (both : Bool) (r : Result (List ℕ) TimeFault) → both ≡ true
    → IfOk r (λ said. SpellGives job tables text (Ok said)) → IfOk r (λ said. GivesBy both job tables text (Ok said))
spells-ok job tables text both (Ok said) e gives = spells job tables text both (Ok said) e gives
spells-ok job tables text both (Err fault) e gives = tt

pub spells-err : (job : Job) (tables : Tables) (text : List ℕ) (both : Bool) (r : Result (List ℕ) TimeFault) → both ≡ true
    → IfErr r (λ fault. fault ≢ time.OutOfMemory → SpellGives job tables text (Err fault))
    → IfErr r (λ fault. fault ≢ time.OutOfMemory → GivesBy both job tables text (Err fault))
spells-err job tables text both (Ok said) e gives = tt
spells-err job tables text both (Err fault) e gives = λ not. spells job tables text both (Err fault) e (gives not)

-- the clock's own scale
pub clock-scale : (tables : Tables) (clock : Clock) (scale : Scale) → tables.clock ≡ Some clock → scale ≡ clock.scale → ClockScaleIs tables scale
clock-scale tables clock scale is e = λ other has. e ∙ ap (λ (k : Clock). k.scale) (some-is clock other (sym is ∙ has))

pub no-clock-scale : (tables : Tables) (scale : Scale) → tables.clock ≡ None → ClockScaleIs tables scale
no-clock-scale tables scale is = λ clock has. absurd (none-some clock (sym is ∙ has))
