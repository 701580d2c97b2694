-- A run whose words, setup and input are good is answered.
use Rattle.std.proofs.Common.{◌≡◌, ◌≢◌, ℕ, ◌<◌, ◌≤◌, ◌⊎◌, inl, inr, Some, Ok, List, length, arith, refl, ap, subst}
use Rattle.st_outside.specs.Entries.{Entries}
use Rattle.st_refusals.specs.declared.fault.LineFault.{LineFault}
use Rattle.st_refusals.specs.Causes.{FileCause, Faulty, cause_of}
use Rattle.st_words.specs.Reading.{WordsGive}
use Rattle.st_words.specs.declared.job.Job.{Job}
use Rattle.st_batch.specs.declared.status.Status.TheVariants.{Done, SomeRefused, BadWords, BadSetup, ReadFault, WriteFault, OutOfMemory, InputTooLong}
use Rattle.st_batch.specs.Laws.{GoodRunIsAnswered, IsAnsweredOrCut}
use Rattle.st_batch.specs.Outcome.{IsLongInput, Outside, SetupRefused, over}
use Rattle.st_batch.specs.Setting.{State}
use Rattle.st_batch.specs.Setup.{SetupGives}
use Rattle.st_batch.proofs.OneSetup.{not-both}
use Rattle.st_batch.proofs.WordsLaws.{one-job, one-or-none}

not-long : (o : Outside) (input : List ℕ) → o.input.left ≡ Some input → length input ≤ 67_108_864 → IsLongInput o.input.left → ⊥
not-long o input read short h =
    let many : 67_108_864 < length input = subst IsLongInput read h in
    absurd (omega (arith, short, many))

-- a cause is a faulty file, or another
faulty-or : (cause : FileCause) → (cause ≡ Faulty) ⊎ (cause ≢ Faulty)
faulty-or Faulty = inl refl
faulty-or other = inr (λ e. cc)

-- a setup that loads is refused for a fault of the files alone
setup-fault : (o : Outside) (files : Entries) (words : List (List ℕ)) (job : Job) (session : State) (cause : LineFault) (bytes : List ℕ) → o.files.map ≡ Some files
    → WordsGive words (Ok job) → SetupGives (over o job) (Ok session) → SetupRefused o words cause bytes → IsAnsweredOrCut (BadSetup cause)
setup-fault o files words job session cause bytes told asked given k = by (faulty-or (cause_of cause))
  where
    by : (cause_of cause ≡ Faulty) ⊎ (cause_of cause ≢ Faulty) → IsAnsweredOrCut (BadSetup cause)
    by (inl is) = is
    by (inr not) =
        let P : Job → Type 0 = λ j. SetupGives (over o j) (Ok session) in
        absurd (not-both (over o k.job) files session cause told (λ e. not (ap cause_of e)) (subst P (one-job words job k.job asked k.asked) given) k.given)

-- a good run is answered, unless its setup meets a fault or it is cut off
pub good-run : GoodRunIsAnswered
good-run o files input words job session Done bytes told read asked given short h = tt
good-run o files input words job session SomeRefused bytes told read asked given short h = tt
good-run o files input words job session (BadWords fault) bytes told read asked given short h = one-or-none words job fault asked h.given
good-run o files input words job session (BadSetup cause) bytes told read asked given short h = setup-fault o files words job session cause bytes told asked given h
good-run o files input words job session ReadFault bytes told read asked given short h = tt
good-run o files input words job session WriteFault bytes told read asked given short h = tt
good-run o files input words job session OutOfMemory bytes told read asked given short h = tt
good-run o files input words job session InputTooLong bytes told read asked given short h = not-long o input read short h.lines.1
