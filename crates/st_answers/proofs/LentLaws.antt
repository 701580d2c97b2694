-- Tables that are found, as what the job asks for; and tables that are lent.
use Rattle.std.proofs.Common.{◌≡◌, ℕ, Bool, true, false, Option, Some, None, IsSome, IfSome, IfErr, OnOk, Result, Ok, Err, List, inl, inr, refl, sym, ap, ◌∙◌, subst}
use Rattle.std.proofs.lemmas.Bool.{false≢true}
use Rattle.std.specs.Prelude.{⊤}
use Rattle.std.specs.Result.{IsErrAnd}
use Rattle.st_clock.specs.Clock.{Clock}
use Rattle.st_leaps.specs.OfTable.{pairs_of}
use Rattle.st_leaps.specs.declared.table.LeapTable.{LeapTable}
use Rattle.st_scales.specs.declared.deltet.Deltet.{Deltet}
use Rattle.st_tables.specs.Kernels.{Kernels, Find, FindsLeaps as GiveLeaps, FindsConstants as GiveConstants, FindsClock as GiveClock, found_clock, found_constants, found_leaps, refused_clock, refused_constants, refused_leaps}
use Rattle.st_tables.specs.Tables.{ClockGives, ConstantsGive, LeapsGive}
use Rattle.st_tables.specs.Variables.{Loaded}
use Rattle.st_tables.specs.declared.fault.TableFault.{TableFault}
use Rattle.st_words.specs.declared.job.Job.{Job}
use Rattle.st_answers.specs.Answer.{AnswerBy, AnswerGives, BackGives, ForwardGives, back_job, there_and_back}
use Rattle.st_answers.specs.Asked.{ClockOf, ConstantsOf, FirstRefusal, GivesWhere, LeapsOf, Tables, AreTables, in_pairs}
use Rattle.st_answers.specs.AskedSteps.{FindsClock, FindsConstants, FindsLeaps, HasAsked, HasFound, IsLater}
use Rattle.st_answers.specs.Ready.{IsReady}
use Rattle.st_answers.specs.Sides.{has_clock, has_utc, needs_constants}
use Rattle.st_answers.proofs.Sides.{has-table}

-- a table that is asked for
pub lent-where : {T : Type 0} (asked : Bool) (Gives : Result T TableFault → Type 0) (table : T) → asked ≡ true → Gives (Ok table)
    → GivesWhere asked Gives (Ok (Some table))
lent-where true Gives table e gives = gives
lent-where false Gives table e gives = absurd (false≢true e)

-- a table that isn't
pub unlent-where : {T : Type 0} (asked : Bool) (Gives : Result T TableFault → Type 0) → asked ≡ false → GivesWhere asked Gives (Ok None)
unlent-where true Gives e = absurd (false≢true (sym e))
unlent-where false Gives e = refl

refused-where : {T : Type 0} (asked : Bool) (Gives : Result T TableFault → Type 0) (fault : TableFault) → asked ≡ true → Gives (Err fault)
    → GivesWhere asked Gives (Err fault)
refused-where true Gives fault e gives = gives
refused-where false Gives fault e gives = absurd (false≢true e)

pub leaps-lent : (job : Job) (loaded : Loaded) (table : LeapTable) → has_utc job ≡ true → LeapsGive loaded (Ok (pairs_of table)) → LeapsOf job loaded (Ok (Some table))
leaps-lent job loaded table e gives = lent-where (has_utc job) (λ r. LeapsGive loaded (in_pairs r)) table e gives

pub leaps-unlent : (job : Job) (loaded : Loaded) → has_utc job ≡ false → LeapsOf job loaded (Ok None)
leaps-unlent job loaded e = unlent-where (has_utc job) (λ r. LeapsGive loaded (in_pairs r)) e

pub constants-lent : (job : Job) (loaded : Loaded) (table : Deltet) → needs_constants job ≡ true → ConstantsGive loaded (Ok table) → ConstantsOf job loaded (Ok (Some table))
constants-lent job loaded table e gives = lent-where (needs_constants job) (ConstantsGive loaded) table e gives

pub constants-unlent : (job : Job) (loaded : Loaded) → needs_constants job ≡ false → ConstantsOf job loaded (Ok None)
constants-unlent job loaded e = unlent-where (needs_constants job) (ConstantsGive loaded) e

-- the clock of the job, which is found
pub clock-lent : (job : Job) (k : Kernels) (clock : Clock) → IsReady job → HasFound job k → has_clock job ≡ true → IfSome k.clock (λ n. ClockGives n k.loaded (Ok clock))
    → ClockOf job k.loaded (Ok (Some clock))
clock-lent job k clock ready found e gives =
    let n = ready.known e in
    let P : Option ℕ → Type 0 = λ o. IfSome o (λ m. ClockGives m k.loaded (Ok clock)) in
    lent-where (has_clock job) (λ r. (m : ℕ) × (job.clock ≡ Some m) × ClockGives m k.loaded r) clock e
    (n.0, n.1, subst P (found.clock e ∙ n.1) gives)

pub clock-unlent : (job : Job) (loaded : Loaded) → has_clock job ≡ false → ClockOf job loaded (Ok None)
clock-unlent job loaded e = unlent-where (has_clock job) (λ r. (n : ℕ) × (job.clock ≡ Some n) × ClockGives n loaded r) e

-- a clock that is asked for is found
pub clock-is-some : (job : Job) (k : Kernels) → IsReady job → HasFound job k → has_clock job ≡ true → IsSome k.clock
clock-is-some job k ready found e =
    let n = ready.known e in
    subst (λ (o : Option ℕ). IsSome o) (sym (found.clock e ∙ n.1)) refl

-- what the kernels give where a table is asked for
pub finds-leaps : (job : Job) (loaded : Loaded) (r : Result ⊤ TableFault) → has_utc job ≡ true → GiveLeaps loaded r → FindsLeaps job loaded r
finds-leaps job loaded (Ok done) e (table, gives) = (Some table, leaps-lent job loaded table e gives)
finds-leaps job loaded (Err fault) e gives = refused-where (has_utc job) (λ r. LeapsGive loaded (in_pairs r)) fault e gives

pub finds-constants : (job : Job) (loaded : Loaded) (r : Result ⊤ TableFault) → needs_constants job ≡ true → GiveConstants loaded r → FindsConstants job loaded r
finds-constants job loaded (Ok done) e (table, gives) = (Some table, constants-lent job loaded table e gives)
finds-constants job loaded (Err fault) e gives = refused-where (needs_constants job) (ConstantsGive loaded) fault e gives

pub finds-clock : (job : Job) (loaded : Loaded) (n : ℕ) (r : Result ⊤ TableFault) → has_clock job ≡ true → job.clock ≡ Some n → GiveClock n loaded r
    → FindsClock job loaded r
finds-clock job loaded n (Ok done) e is (clock, gives) =
    (Some clock, lent-where (has_clock job) (λ r. (n : ℕ) × (job.clock ≡ Some n) × ClockGives n loaded r) clock e (n, is, gives))
finds-clock job loaded n (Err fault) e is gives =
    refused-where (has_clock job) (λ r. (n : ℕ) × (job.clock ≡ Some n) × ClockGives n loaded r) fault e (n, is, gives)

none-some : (n : ℕ) → ◌≡◌ {A = Option ℕ} None (Some n) → ⊥
none-some n e = absurd cc

-- where no clock is named none is asked for
pub no-clock-asked : (job : Job) → IsReady job → job.clock ≡ None → has_clock job ≡ false
no-clock-asked job ready none = by (has_clock job) (λ e. ready.known e)
  where
    by : (b : Bool) → (b ≡ true → (n : ℕ) × (job.clock ≡ Some n)) → b ≡ false
    by false h = refl
    by true h = absurd (none-some (h refl).0 (sym none ∙ (h refl).1))

-- finding a table keeps what was found
pub later-leaps : (r : Result ⊤ TableFault) (before after : Kernels) → Find r (refused_leaps before) (found_leaps before) after → IsLater before after
later-leaps (Ok done) before after e =
    subst (λ (k : Kernels). IsLater before k) (sym e) (record { loaded = refl; leaps = λ x. refl; constants = λ x. x })
later-leaps (Err fault) before after e =
    subst (λ (k : Kernels). IsLater before k) (sym e) (record { loaded = refl; leaps = λ x. x; constants = λ x. x })

pub later-constants : (r : Result ⊤ TableFault) (before after : Kernels) → Find r (refused_constants before) (found_constants before) after → IsLater before after
later-constants (Ok done) before after e =
    subst (λ (k : Kernels). IsLater before k) (sym e) (record { loaded = refl; leaps = λ x. x; constants = λ x. refl })
later-constants (Err fault) before after e =
    subst (λ (k : Kernels). IsLater before k) (sym e) (record { loaded = refl; leaps = λ x. x; constants = λ x. x })

pub later-clock : (n : ℕ) (r : Result ⊤ TableFault) (before after : Kernels) → Find r (refused_clock n before) (found_clock n before) after → IsLater before after
later-clock n (Ok done) before after e =
    subst (λ (k : Kernels). IsLater before k) (sym e) (record { loaded = refl; leaps = λ x. x; constants = λ x. x })
later-clock n (Err fault) before after e =
    subst (λ (k : Kernels). IsLater before k) (sym e) (record { loaded = refl; leaps = λ x. x; constants = λ x. x })

-- a side that is UTC has its table
pub leaps-are : (job : Job) (loaded : Loaded) (tables : Tables) → AreTables job loaded tables → has_utc job ≡ true → IsSome tables.leaps
leaps-are job loaded tables are asks = by (has_utc job) (λ r. LeapsGive loaded (in_pairs r)) asks tables.leaps are.leaps
  where
    by : (b : Bool) (P : Result LeapTable TableFault → Type 0) → b ≡ true → (o : Option LeapTable) → GivesWhere b P (Ok o) → IsSome o
    by true P e None h = absurd h
    by true P e (Some k) h = refl
    by false P e o h = absurd (false≢true e)

-- tables that the loaded kernels give are all that a job asks for
pub have-asked : (job : Job) (loaded : Loaded) (tables : Tables) → AreTables job loaded tables → HasAsked job tables
have-asked job loaded tables are = record {
  leaps = leaps-are job loaded tables are;
  clock = has-table job loaded tables are;
}

-- what is found after a table was asked for
pub found-leaps : (asked : Bool) (r : Result ⊤ TableFault) (before after : Kernels) → Find r (refused_leaps before) (found_leaps before) after → OnOk r (asked ≡ true → after.leaps ≡ true)
found-leaps asked (Ok done) before after e = λ _. ap (λ (k : Kernels). k.leaps) e
found-leaps asked (Err fault) before after e = tt

pub found-constants : (asked : Bool) (r : Result ⊤ TableFault) (before after : Kernels) → Find r (refused_constants before) (found_constants before) after
    → OnOk r (asked ≡ true → after.constants ≡ true)
found-constants asked (Ok done) before after e = λ _. ap (λ (k : Kernels). k.constants) e
found-constants asked (Err fault) before after e = tt

pub found-clock : (asked : Bool) (n : ℕ) (clock : Option ℕ) (r : Result ⊤ TableFault) (before after : Kernels) → clock ≡ Some n
    → Find r (refused_clock n before) (found_clock n before) after → OnOk r (asked ≡ true → after.clock ≡ clock)
found-clock asked n clock (Ok done) before after is e = λ _. ap (λ (k : Kernels). k.clock) e ∙ sym is
found-clock asked n clock (Err fault) before after is e = tt

-- the first refusal, of each table in turn
pub leaps-refuse : (job : Job) (loaded : Loaded) (fault : TableFault) (r : Result ⊤ TableFault) → IsErrAnd r (λ x. x ≡ fault)
    → FindsLeaps job loaded (Err fault) → IfErr r (FirstRefusal job loaded)
leaps-refuse job loaded fault (Ok done) h gives = tt
leaps-refuse job loaded fault (Err x) h gives = subst (λ (y : TableFault). FirstRefusal job loaded y) (sym h) (inl gives)

pub constants-refuse : (job : Job) (before loaded : Loaded) (fault : TableFault) (r : Result ⊤ TableFault) → loaded ≡ before → IsErrAnd r (λ x. x ≡ fault)
    → ((leaps : Option LeapTable) × LeapsOf job before (Ok leaps)) → FindsConstants job loaded (Err fault) → IfErr r (FirstRefusal job before)
constants-refuse job before loaded fault (Ok done) same h leaps gives = tt
constants-refuse job before loaded fault (Err x) same h (leaps, are) gives =
    subst (λ (y : TableFault). FirstRefusal job before y) (sym h)
    (inr (inl (leaps, are, subst (λ (l : Loaded). ConstantsOf job l (Err fault)) same gives)))

pub clock-refuses : (job : Job) (before loaded later : Loaded) (r : Result ⊤ TableFault) → loaded ≡ before → later ≡ before
    → ((leaps : Option LeapTable) × LeapsOf job before (Ok leaps)) → ((constants : Option Deltet) × ConstantsOf job loaded (Ok constants))
    → FindsClock job later r → IfErr r (FirstRefusal job before)
clock-refuses job before loaded later (Ok done) same last leaps constants gives = tt
clock-refuses job before loaded later (Err fault) same last (leaps, are) (constants, too) gives =
    inr (inr (leaps, constants, are, subst (λ (l : Loaded). ConstantsOf job l (Ok constants)) same too, subst (λ (l : Loaded). ClockOf job l (Err fault)) last gives))

-- the way back by the kernels that the way there left as they were loaded
pub there-and-back : (job : Job) (loaded after : Loaded) (text there back source first second said : List ℕ) → job.back ≡ true → after ≡ loaded
    → source ≡ there → first ≡ there → second ≡ back
    → ForwardGives job loaded text (Ok there) → ForwardGives (back_job job) after source (Ok back) → said ≡ there_and_back first second
    → AnswerGives job loaded text (Ok said)
there-and-back job loaded after text there back source first second said is same a b d one two e =
    let P : List ℕ → Loaded → Type 0 = λ t l. ForwardGives (back_job job) l t (Ok back) in
    let way : P there loaded = subst (λ (l : Loaded). P there l) same (subst (λ (t : List ℕ). P t after) a two) in
    let joined : said ≡ there_and_back there back = e ∙ ap (λ (t : List ℕ). there_and_back t second) b ∙ ap (λ (t : List ℕ). there_and_back there t) d in
    by job.back is (there, back, one, way, joined)
  where
    by : (b : Bool) → b ≡ true → BackGives job loaded text (Ok said) → AnswerBy b job loaded text (Ok said)
    by true e h = h
    by false e h = absurd (false≢true e)
