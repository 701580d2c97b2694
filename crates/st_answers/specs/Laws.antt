-- What the answers of time texts say by themselves, as laws.
use Rattle.std.specs.Prelude.{◌≡◌, ◌≢◌, ◌⊎◌, ℕ, List, Result, Err, true}
use Rattle.st_routes.specs.Route.{HasNoSineOnIt, HasSineOnIt}
use Rattle.st_routes.specs.declared.fault.TimeFault.TheVariants.{Undecided}
use Rattle.st_routes.specs.declared.route.Route.{Route}
use Rattle.st_tables.specs.Variables.{Loaded}
use Rattle.st_tables.specs.declared.fault.TableFault.{TableFault}
use Rattle.st_words.specs.declared.job.Job.{Job}
use Rattle.st_answers.specs.Answer.{AnswerGives, IsRouteOf, back_job}
use Rattle.st_answers.specs.Asked.{AreTables, Tables, TablesRefuse}
use Rattle.st_answers.specs.Ready.{IsReady}
use Rattle.st_answers.specs.declared.fault.AnswerFault.{AnswerFault}
use Rattle.st_answers.specs.declared.fault.AnswerFault.TheVariants.{Time}

-- the loaded kernels give the tables that a job asks for, or refuse one
abbrev pub HasTables : Job → Loaded → Type 0
HasTables job loaded = ((tables : Tables) × AreTables job loaded tables) ⊎ ((fault : TableFault) × TablesRefuse job loaded fault)

-- For a job that is ready any loaded kernels do.
abbrev pub EachJobIsTold : Type 0
EachJobIsTold = (job : Job) (loaded : Loaded) → IsReady job → HasTables job loaded

-- So every text has an answer.
abbrev pub EachTextHasAnswer : Type 0
EachTextHasAnswer =
    (job : Job) (loaded : Loaded) (text : List ℕ) → IsReady job
    → (result : Result (List ℕ) AnswerFault) × AnswerGives job loaded text result

-- an answer that isn't left undecided
abbrev pub IsDecided : Result (List ℕ) AnswerFault → Type 0
IsDecided answer = answer ≢ Err (Time Undecided)

-- Whatever stands on the way, a text has at most one answer that isn't left undecided: one text may be printed, or one refusal.
abbrev pub OneDecidedAnswer : Type 0
OneDecidedAnswer =
    (job : Job) (loaded : Loaded) (text : List ℕ) (a b : Result (List ℕ) AnswerFault) → IsReady job → IsDecided a → IsDecided b
    → AnswerGives job loaded text a → AnswerGives job loaded text b → a ≡ b

-- by tables that the loaded kernels give a sine stands on the job's way
pub record HasSine (job : Job) (loaded : Loaded) : Type 0 where
  pub tables : Tables
  pub route : Route
  pub given : AreTables job loaded tables
  pub way : IsRouteOf job tables route
  pub sine : HasSineOnIt route

-- on the way there or, where that is asked for, on the way back
abbrev pub HasSineThereOrBack : Job → Loaded → Type 0
HasSineThereOrBack job loaded = HasSine job loaded ⊎ ((job.back ≡ true) × HasSine (back_job job) loaded)

-- Where an answer is left undecided a sine stands on the way.
abbrev pub UndecidedHasASine : Type 0
UndecidedHasASine =
    (job : Job) (loaded : Loaded) (text : List ℕ) → AnswerGives job loaded text (Err (Time Undecided)) → HasSineThereOrBack job loaded

-- by the tables that the loaded kernels give the job's way has no sine
abbrev pub HasNoSine : Job → Loaded → Type 0
HasNoSine job loaded =
    (tables : Tables) (route : Route) → AreTables job loaded tables → IsRouteOf job tables route → HasNoSineOnIt route

-- nor has the way back, where it is asked for
pub record IsExact (job : Job) (loaded : Loaded) : Type 0 where
  pub there : HasNoSine job loaded
  pub back : job.back ≡ true → HasNoSine (back_job job) loaded

-- Where no sine stands on the way no answer is left undecided,
abbrev pub ExactIsDecided : Type 0
ExactIsDecided =
    (job : Job) (loaded : Loaded) (text : List ℕ) (answer : Result (List ℕ) AnswerFault) → IsExact job loaded
    → AnswerGives job loaded text answer → IsDecided answer

-- and so a text has one answer.
abbrev pub OneExactAnswer : Type 0
OneExactAnswer =
    (job : Job) (loaded : Loaded) (text : List ℕ) (a b : Result (List ℕ) AnswerFault) → IsReady job → IsExact job loaded
    → AnswerGives job loaded text a → AnswerGives job loaded text b → a ≡ b
