-- What a run wrote is what it may write, by how it ended.
use Rattle.std.proofs.Common.{◌≡◌, ◌≢◌, ℕ, inl, inr, Option, Ok, Err, List, [], refl, sym, ◌∙◌, subst}
use Rattle.std.proofs.KnownBytes.{Appends-nil}
use Rattle.st_outside.specs.States.{FilesState, InputState}
use Rattle.st_words.specs.Reading.{WordsGive}
use Rattle.st_words.specs.declared.fault.WordFault.{WordFault}
use Rattle.st_refusals.specs.declared.fault.LineFault.{LineFault}
use Rattle.st_words.specs.declared.job.Job.{Job}
use Rattle.st_words.specs.declared.job.Work.TheVariants.{Batch}
use Rattle.st_batch.specs.declared.status.Status.{Status}
use Rattle.st_batch.specs.declared.status.Status.TheVariants.{Done, SomeRefused, BadWords, BadSetup, ReadFault, WriteFault, OutOfMemory, InputTooLong}
use Rattle.st_batch.specs.Causes.{IsCaused}
use Rattle.st_batch.specs.Outcome.{Outside, LinesOutcome, IsAnswered, IsCutOff, Outcome, ReadsNothing, Took, around, over}
use Rattle.st_batch.specs.OutputSteps.{Delivers, IsCut}
use Rattle.st_batch.specs.Setting.{State}
use Rattle.st_batch.specs.Setup.{SetupGives}
use Rattle.st_batch.specs.Texts.{setup_line, words_line}
use Rattle.st_batch.proofs.InputLaws.{Ends}

-- a job was opened, and its lines answered as far as the run came
lines-ended : (o : Outside) (words : List (List ℕ)) (job : Job) (session : State) (status : Status) (bytes : List ℕ)
    → WordsGive words (Ok job) → SetupGives (over o job) (Ok session) → LinesOutcome o session.job session.loaded status bytes → Outcome o words status bytes
lines-ended o words job session Done bytes asked setup h = record { job = job; session = session; asked = asked; setup = setup; lines = h }
lines-ended o words job session SomeRefused bytes asked setup h = record { job = job; session = session; asked = asked; setup = setup; lines = h }
lines-ended o words job session (BadWords w) bytes asked setup h = absurd h
lines-ended o words job session (BadSetup c) bytes asked setup h = absurd h
lines-ended o words job session ReadFault bytes asked setup h = record { job = job; session = session; asked = asked; setup = setup; lines = h }
lines-ended o words job session InputTooLong bytes asked setup h = record { job = job; session = session; asked = asked; setup = setup; lines = h }
lines-ended o words job session WriteFault bytes asked setup h = inl (record { job = job; session = session; asked = asked; setup = setup; lines = h })
lines-ended o words job session OutOfMemory bytes asked setup h = inl (record { job = job; session = session; asked = asked; setup = setup; lines = h })

-- the same of what the output took
pub lines-outcome : (before now : FilesState) (i j : InputState) (taken after : Option (List ℕ)) (words : List (List ℕ)) (job : Job) (session : State) (status : Status)
    → WordsGive words (Ok job) → SetupGives (record { files = before.map; job = job }) (Ok session) → Took taken after (Ends before now i j session status)
    → Took taken after (Outcome (around before now i j) words status)
lines-outcome before now i j taken after words job session status asked setup (bytes, appends, inl h) =
    (bytes, appends, lines-ended (around before now i j) words job session status bytes asked setup h)
lines-outcome before now i j taken after words job session status asked setup (bytes, appends, inr (e, nothing)) =
    let P : Status → Type 0 = λ s. Outcome (around before now i j) words s bytes in
    (bytes, appends, subst P (sym e) (inr (inr nothing)))

cut-off : (o : Outside) (words : List (List ℕ)) (status : Status) (bytes : List ℕ) → IsCut status → ((s : Status) → IsCutOff o words s bytes) → Outcome o words status bytes
cut-off o words Done bytes cut b = absurd cut
cut-off o words SomeRefused bytes cut b = absurd cut
cut-off o words (BadWords w) bytes cut b = absurd cut
cut-off o words (BadSetup c) bytes cut b = absurd cut
cut-off o words ReadFault bytes cut b = absurd cut
cut-off o words InputTooLong bytes cut b = absurd cut
cut-off o words WriteFault bytes cut b = b WriteFault
cut-off o words OutOfMemory bytes cut b = b OutOfMemory

-- a setup that was refused
pub setup-outcome : (o : Outside) (words : List (List ℕ)) (job : Job) (cause : LineFault) (status : Status) (taken after : Option (List ℕ))
    → WordsGive words (Ok job) → SetupGives (over o job) (Err cause) → IsCaused cause o.files.counts o.files_after.counts → o.input_after ≡ o.input
    → Delivers (setup_line cause) (BadSetup cause) taken after status → Took taken after (Outcome o words status)
setup-outcome o words job cause status taken after asked given caused unread (inl (appends, same)) =
    let P : Status → Type 0 = λ s. Outcome o words s (setup_line cause) in
    (setup_line cause, appends, subst P (sym same) (record { job = job; asked = asked; given = given; caused = caused; unread = unread; written = refl }))
setup-outcome o words job cause status taken after asked given caused unread (inr ((front, rest, appends, e), cut)) = (
  front,
  appends,
  cut-off o words status front cut
      (λ s. inr (inl (rest, inr (cause, record { job = job; asked = asked; given = given; caused = caused; unread = unread; written = sym e })))),
)

-- words that were refused
pub words-outcome : (o : Outside) (words : List (List ℕ)) (fault : WordFault) (status : Status) (taken after : Option (List ℕ)) → WordsGive words (Err fault)
    → Delivers (words_line fault) (BadWords fault) taken after status → Took taken after (Outcome o words status)
words-outcome o words fault status taken after given (inl (appends, same)) =
    let P : Status → Type 0 = λ s. Outcome o words s (words_line fault) in
    (words_line fault, appends, subst P (sym same) (record { given = given; written = refl }))
words-outcome o words fault status taken after given (inr ((front, rest, appends, e), cut)) =
    (front, appends, cut-off o words status front cut (λ s. inr (inl (rest, inl (fault, record { given = given; written = sym e })))))

-- memory ran out before anything was written
pub nothing-done : (o : Outside) (words : List (List ℕ)) (taken : Option (List ℕ)) → o.input_after ≡ o.input → Took taken taken (Outcome o words OutOfMemory)
nothing-done o words taken unread = ([], Appends-nil taken, inr (inr (record { unread = unread; written = refl })))

-- a run whose lines were answered had nothing to read only where its job is of one line
pub no-input : (before now : FilesState) (i j : InputState) (taken after : Option (List ℕ)) (words : List (List ℕ)) (job : Job) (session : State) (status : Status)
    → session.job.work ≡ job.work → WordsGive words (Ok job) → Took taken after (Ends before now i j session status) → ReadsNothing words status → session.job.work ≢ Batch
no-input before now i j taken after words job session status same asked (bytes, appends, ended) nothing = by status ended nothing
  where
    of : ((other : Job) → WordsGive words (Ok other) → other.work ≡ Batch → ⊥) → session.job.work ≢ Batch
    of none = λ e. none job asked (sym same ∙ e)

    by : (status : Status) → Ends before now i j session status bytes → ReadsNothing words status → session.job.work ≢ Batch
    by Done h none = of none
    by SomeRefused h none = of none
    by (BadWords w) (inl h) none = absurd h
    by (BadWords w) (inr (e, h)) none = absurd cc
    by (BadSetup c) (inl h) none = absurd h
    by (BadSetup c) (inr (e, h)) none = absurd cc
    by ReadFault h none = of none
    by WriteFault h none = of none
    by OutOfMemory h none = of none
    by InputTooLong h none = of none

-- what was to refuse a run ends it so, or cuts it off
pub not-lines : (output : List ℕ) (wanted status other : Status) (taken after : Option (List ℕ)) → (IsCut other → ⊥) → wanted ≢ other
    → Delivers output wanted taken after status → status ≢ other
not-lines output wanted status other taken after whole not (inl (appends, same)) = λ e. not (sym same ∙ e)
not-lines output wanted status other taken after whole not (inr (took, cut)) = λ e. whole (subst IsCut e cut)

pub not-answered : (output : List ℕ) (wanted status : Status) (taken after : Option (List ℕ)) → (IsAnswered wanted → ⊥)
    → Delivers output wanted taken after status → IsAnswered status → ⊥
not-answered output wanted status taken after not (inl (appends, same)) = λ h. not (subst IsAnswered same h)
not-answered output wanted status taken after not (inr (took, cut)) = cut-not status cut
  where
    cut-not : (status : Status) → IsCut status → IsAnswered status → ⊥
    cut-not Done cut h = cut
    cut-not SomeRefused cut h = cut
    cut-not (BadWords w) cut h = h
    cut-not (BadSetup c) cut h = h
    cut-not ReadFault cut h = h
    cut-not WriteFault cut h = h
    cut-not OutOfMemory cut h = h
    cut-not InputTooLong cut h = h
