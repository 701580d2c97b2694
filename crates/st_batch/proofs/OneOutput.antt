-- Where the files had no fault, two whole outputs are of answers that agree; where no sine stands on the job's way they are one.
use Rattle.std.proofs.Common.{◌≡◌, ◌≢◌, ℕ, false, ◌-◌, ◌^◌, ◌<◌, ◌⊎◌, inl, inr, count_by, Option, Some, Ok, Err, List, [], ◌∷◌, refl, sym, ap, ◌∙◌, subst, arith}
use Rattle.st_answers.specs.Laws.{IsExact}
use Rattle.st_answers.specs.Ready.{IsReady}
use Rattle.st_text.specs.Lines.{trimmed}
use Rattle.st_outside.specs.Causes.{RoseBy}
use Rattle.st_outside.specs.Entries.{Entries}
use Rattle.st_batch.specs.declared.answer.Answer.{Answer}
use Rattle.st_batch.specs.declared.answer.Answer.TheVariants.{Refused}
use Rattle.st_words.specs.Reading.{WordsGive}
use Rattle.st_words.specs.declared.fault.WordFault.{WordFault}
use Rattle.st_refusals.specs.declared.fault.LineFault.{LineFault}
use Rattle.st_refusals.specs.declared.fault.LineFault.TheVariants.{FileFault}
use Rattle.st_words.specs.declared.job.Job.{Job}
use Rattle.st_words.specs.declared.job.Work.{Work}
use Rattle.st_words.specs.declared.job.Work.TheVariants.{Time, Batch, Sample}
use Rattle.st_words.proofs.GoodJob.{good_job}
use Rattle.st_samples.proofs.JobLaws.{one-sample}
use Rattle.st_batch.specs.declared.status.Status.{Status}
use Rattle.st_batch.specs.declared.status.Status.TheVariants.{Done, SomeRefused, BadWords, BadSetup, ReadFault, WriteFault, OutOfMemory, InputTooLong}
use Rattle.st_batch.specs.Causes.{IsCaused, has_cause}
use Rattle.st_refusals.specs.Causes.{Faulty}
use Rattle.st_batch.specs.Commands.{begins_command}
use Rattle.st_batch.specs.Laws.{AgreeEach, AgreeOutputs, AreAllExact, IsComplete, IsExactRun, IsReached, IsTold, OneDecidedOutput, OneOutput}
use Rattle.st_batch.specs.Outcome.{Outside, AllAnswered, WordsRefused, SetupRefused, Outcome, output_of, over, status_of}
use Rattle.st_batch.specs.Session.{MayAnswer, RunsTo}
use Rattle.st_batch.specs.Setting.{Loaded, Setting, State}
use Rattle.st_batch.specs.Setup.{SetupGives}
use Rattle.st_batch.specs.Texts.{setup_line, words_line}
use Rattle.st_batch.specs.Lines.{AreLines, AreLinesBy}
use Rattle.st_batch.proofs.GoesOn.{counts-none}
use Rattle.st_batch.proofs.OneLine.{count-first, decided-run, line-decided, names-none, one-decided, rest-none}
use Rattle.st_batch.proofs.OneSetup.{not-both, one-refusal, one-setup}
use Rattle.st_batch.proofs.SetupSteps.{opened-ready}
use Rattle.st_batch.proofs.WordsLaws.{one-job, one-or-none}
use Rattle.st_batch.proofs.WordsLaws as words_laws

-- a count that stood still leaves no answer that names a fault
none-rose : (n before now : ℕ) → now ≡ before → before < 2 ^ 64 - 1 → RoseBy n before now → n ≡ 0
none-rose n before now same less h = omega (arith, same, less, h)

-- the loaded list itself is reached by a time that comes first, and so is what is reached from the one after a first line
reached-here : (s : Setting) (loaded : Loaded) (line : List ℕ) (lines : List (List ℕ)) → begins_command (trimmed line) ≡ false → IsReached s loaded (line ∷ lines) loaded
reached-here s loaded line lines is-time =
    record { first = []; line = line; more = lines; answers = []; among = refl; time = is-time; answered = refl; no_fault = refl }

reached-later : (s : Setting) (loaded next reached : Loaded) (line : List ℕ) (lines : List (List ℕ)) (answer : Answer) → MayAnswer s loaded line answer next → answer ≢ Refused FileFault
    → IsReached s next lines reached → IsReached s loaded (line ∷ lines) reached
reached-later s loaded next reached line lines answer may not r = record {
  first = line ∷ r.first;
  line = r.line;
  more = r.more;
  answers = answer ∷ r.answers;
  among = ap (λ (l : List (List ℕ)). line ∷ l) r.among;
  time = r.time;
  answered = (next, may, r.answered);
  no_fault = omega (arith, count-first answer r.answers, counts-none answer not, r.no_fault);
}

-- lines have one list of answers
one-run : (s : Setting) (files : Entries) (loaded : Loaded) (lines : List (List ℕ)) (a b : List Answer) (x y : Loaded) → s.files ≡ Some files → IsReady s.job → AreAllExact s loaded lines
    → RunsTo s loaded lines a x → RunsTo s loaded lines b y → count_by (has_cause Faulty) a ≡ 0 → count_by (has_cause Faulty) b ≡ 0 → a ≡ b
one-run s files loaded [] [] [] x y told ready exact h k m n = refl
one-run s files loaded [] [] (q ∷ b) x y told ready exact h k m n = absurd k
one-run s files loaded [] (p ∷ a) b x y told ready exact h k m n = absurd h
one-run s files loaded (line ∷ lines) [] b x y told ready exact h k m n = absurd h
one-run s files loaded (line ∷ lines) (p ∷ a) [] x y told ready exact h k m n = absurd k
one-run s files loaded (line ∷ lines) (p ∷ a) (q ∷ b) x y told ready exact (v, may, more) (w, can, rest) m n =
    let step = one-decided s files loaded v w line p q told ready may can (names-none p a m) (names-none q b n) in
    let here : begins_command (trimmed line) ≡ false → IsExact s.job loaded = λ t. exact loaded (reached-here s loaded line lines t) in
    let first : p ≡ q = step.0 (line-decided s loaded v line p here may) (line-decided s loaded w line q here can) in
    let P : Loaded → Type 0 = λ l. RunsTo s l lines a x in
    let later : AreAllExact s w lines = λ reached r. exact reached (reached-later s loaded w reached line lines q can (names-none q b n) r) in
    let answers = one-run s files w lines a b x y told ready later (subst P step.1 more) rest (rest-none p a m) (rest-none q b n) in
    λ i. first i ∷ answers i

one-lines : (work : Work) (job : Job) (loaded : Loaded) (input : List ℕ) (a b : List (List ℕ)) → AreLinesBy work job loaded (Some input) a → AreLinesBy work job loaded (Some input) b → a ≡ b
one-lines (Time text) job loaded input a b h k = h ∙ sym k
one-lines Batch job loaded input a b h k = h ∙ sym k
one-lines (Sample n seed) job loaded input a b h k = one-sample job loaded n seed a b h k

-- a refusal that has its cause names no fault of files that had none
no-fault : (o : Outside) (files : Entries) (input : List ℕ) (cause : LineFault) → IsTold o files input → IsCaused cause o.files.counts o.files_after.counts → cause ≢ FileFault
no-fault o files input cause told caused e =
    let rose : RoseBy 1 o.files.counts.faults o.files_after.counts.faults = subst (λ (c : LineFault). IsCaused c o.files.counts o.files_after.counts) e caused in
    absurd (omega (arith, none-rose 1 o.files.counts.faults o.files_after.counts.faults told.no_fault told.not_last rose))

-- a job that was opened to a session
record Opening (o : Outside) (words : List (List ℕ)) (job : Job) (session : State) : Type 0 where
  asked : WordsGive words (Ok job)
  setup : SetupGives (over o job) (Ok session)

-- the job of a session that was opened is ready
is-ready : (o : Outside) (words : List (List ℕ)) (job : Job) (session : State) → Opening o words job session → IsReady session.job
is-ready o words job session opening = by opening.setup
  where
    by : SetupGives (over o job) (Ok session) → IsReady session.job
    by (first, names, begins, clock, loads) = opened-ready job session.job first (good_job words job opening.asked) clock

abbrev IsSame : Status → Status → List ℕ → List ℕ → Type 0
IsSame first second one other = (first ≡ second) × (one ≡ other)

-- by the same files two openings of one run are of one setting
same-over : (o p : Outside) (files : Entries) (job other : Job) → o.files.map ≡ Some files → p.files.map ≡ Some files → job ≡ other → over o job ≡ over p other
same-over o p files job other e f same = λ i. record { files = (e ∙ sym f) i; job = same i }

-- all lines were answered twice
module _ (o p : Outside) (files : Entries) (input : List ℕ) (job : Job) (loaded : Loaded) (first second : Status) (one other : List ℕ) (told : IsTold o files input)
    (same : IsTold p files input) (ready : IsReady job) (h : AllAnswered o job loaded first one) (k : AllAnswered p job loaded second other) where
  same-lines : h.lines ≡ k.lines
  same-lines =
      let Lines : Option (List ℕ) → Type 0 = λ i. AreLines job loaded i h.lines in
      let Others : Option (List ℕ) → Type 0 = λ i. AreLines job loaded i k.lines in
      one-lines job.work job loaded input h.lines k.lines (subst Lines told.input_told h.are_lines) (subst Others same.input_told k.are_lines)

  again-runs : RunsTo (over o job) loaded h.lines k.answers k.after
  again-runs =
      let setting : over p job ≡ over o job = same-over p o files job job same.files_told told.files_told refl in
      let By : Setting → Type 0 = λ s. RunsTo s loaded k.lines k.answers k.after in
      let Over : List (List ℕ) → Type 0 = λ ls. RunsTo (over o job) loaded ls k.answers k.after in
      subst Over (sym same-lines) (subst By setting k.answered)

  run-none : count_by (has_cause Faulty) h.answers ≡ 0
  run-none = none-rose (count_by (has_cause Faulty) h.answers) o.files.counts.faults o.files_after.counts.faults told.no_fault told.not_last h.counted.faults

  again-none : count_by (has_cause Faulty) k.answers ≡ 0
  again-none = none-rose (count_by (has_cause Faulty) k.answers) p.files.counts.faults p.files_after.counts.faults same.no_fault same.not_last k.counted.faults

  agree-answers : AgreeEach h.answers k.answers
  agree-answers =
      (decided-run (over o job) files loaded h.after k.after h.lines h.answers k.answers told.files_told ready h.answered again-runs run-none again-none).0

  exact-answers : AreAllExact (over o job) loaded h.lines → IsSame first second one other
  exact-answers exact =
      let answers = one-run (over o job) files loaded h.lines h.answers k.answers h.after k.after told.files_told ready exact h.answered again-runs run-none again-none in
      (h.ended ∙ ap status_of answers ∙ sym k.ended, h.written ∙ ap (output_of job.work) answers ∙ sym k.written)

-- a run that was answered, with its job and its session
record AnsweredRun (o : Outside) (words : List (List ℕ)) (status : Status) (bytes : List ℕ) : Type 0 where
  job : Job
  session : State
  opening : Opening o words job session
  all : AllAnswered o session.job session.loaded status bytes

both-runs : (o p : Outside) (files : Entries) (input : List ℕ) (words : List (List ℕ)) (first second : Status) (one other : List ℕ) → IsTold o files input → IsTold p files input
    → AnsweredRun o words first one → AnsweredRun p words second other → AgreeOutputs o p words first second one other
both-runs o p files input words first second one other told same h k =
    let job : k.job ≡ h.job = one-job words k.job h.job k.opening.asked h.opening.asked in
    let setting = same-over p o files k.job h.job same.files_told told.files_told job in
    let Setup : Setting → Type 0 = λ s. SetupGives s (Ok k.session) in
    let session : k.session ≡ h.session = one-setup (over o h.job) files k.session h.session told.files_told (subst Setup setting k.opening.setup) h.opening.setup in
    let By : State → Type 0 = λ s. AllAnswered p s.job s.loaded second other in
    let again = subst By session k.all in
    let ready = is-ready o words h.job h.session h.opening in
    record {
      job = h.job;
      session = h.session;
      asked = h.opening.asked;
      setup = h.opening.setup;
      run = h.all;
      again = again;
      lines = same-lines o p files input h.session.job h.session.loaded first second one other told same ready h.all again;
      agree = agree-answers o p files input h.session.job h.session.loaded first second one other told same ready h.all again;
    }

-- where no sine stands on the way they have one output
exact-runs : (o p : Outside) (files : Entries) (input : List ℕ) (words : List (List ℕ)) (first second : Status) (one other : List ℕ) → IsTold o files input → IsTold p files input
    → IsExactRun o words → AgreeOutputs o p words first second one other → IsSame first second one other
exact-runs o p files input words first second one other told same exact a =
    exact-answers o p files input a.session.job a.session.loaded first second one other told same (is-ready o words a.job a.session (record { asked = a.asked; setup = a.setup })) a.run a.again
    (exact a.job a.session a.run.lines a.asked a.setup a.run.are_lines)

-- a run that was answered and one whose setup was refused don't stand together
not-one : (o p : Outside) (files : Entries) (input : List ℕ) (words : List (List ℕ)) (status : Status) (cause : LineFault) (one other : List ℕ) → IsTold o files input → IsTold p files input
    → AnsweredRun o words status one → SetupRefused p words cause other → ⊥
not-one o p files input words status cause one other told same h k =
    let setting = same-over o p files h.job k.job told.files_told same.files_told (one-job words h.job k.job h.opening.asked k.asked) in
    let Setup : Setting → Type 0 = λ s. SetupGives s (Ok h.session) in
    not-both (over p k.job) files h.session cause same.files_told (no-fault p files input cause same k.caused) (subst Setup setting h.opening.setup) k.given

both-refused : (o p : Outside) (files : Entries) (input : List ℕ) (words : List (List ℕ)) (c d : LineFault) (one other : List ℕ) → IsTold o files input → IsTold p files input
    → SetupRefused o words c one → SetupRefused p words d other → IsSame (BadSetup c) (BadSetup d) one other
both-refused o p files input words c d one other told same h k =
    let setting = same-over o p files h.job k.job told.files_told same.files_told (one-job words h.job k.job h.asked k.asked) in
    let Setup : Setting → Type 0 = λ s. SetupGives s (Err c) in
    let cause = one-refusal (over p k.job) files c d same.files_told (no-fault o files input c told h.caused) (no-fault p files input d same k.caused) (subst Setup setting h.given) k.given in
    (ap BadSetup cause, h.written ∙ ap setup_line cause ∙ sym k.written)

-- a whole run was answered, or its words or its setup refused
abbrev Ending : Outside → List (List ℕ) → Status → List ℕ → Type 0
Ending o words status bytes =
    AnsweredRun o words status bytes ⊎ (((fault : WordFault) × (status ≡ BadWords fault) × WordsRefused words fault bytes) ⊎ ((cause : LineFault) × (status ≡ BadSetup cause) × SetupRefused o words cause bytes))

ending : (o : Outside) (words : List (List ℕ)) (status : Status) (bytes : List ℕ) → IsComplete status → Outcome o words status bytes → Ending o words status bytes
ending o words Done bytes c h = inl (record { job = h.job; session = h.session; opening = record { asked = h.asked; setup = h.setup }; all = h.lines })
ending o words SomeRefused bytes c h = inl (record { job = h.job; session = h.session; opening = record { asked = h.asked; setup = h.setup }; all = h.lines })
ending o words (BadWords fault) bytes c h = inr (inl (fault, refl, h))
ending o words (BadSetup cause) bytes c h = inr (inr (cause, refl, h))
ending o words ReadFault bytes c h = absurd c
ending o words WriteFault bytes c h = absurd c
ending o words OutOfMemory bytes c h = absurd c
ending o words InputTooLong bytes c h = absurd c

both : (o p : Outside) (files : Entries) (input : List ℕ) (words : List (List ℕ)) (first second : Status) (one other : List ℕ) → IsTold o files input → IsTold p files input
    → Ending o words first one → Ending p words second other → IsSame first second one other ⊎ AgreeOutputs o p words first second one other
both o p files input words first second one other told same (inl h) (inl k) = inr (both-runs o p files input words first second one other told same h k)
both o p files input words first second one other told same (inl h) (inr (inl (fault, e, k))) = absurd (one-or-none words h.job fault h.opening.asked k.given)
both o p files input words first second one other told same (inl h) (inr (inr (cause, e, k))) = absurd (not-one o p files input words first cause one other told same h k)
both o p files input words first second one other told same (inr (inl (fault, e, h))) (inl k) = absurd (one-or-none words k.job fault k.opening.asked h.given)
both o p files input words first second one other told same (inr (inl (a, e, h))) (inr (inl (b, f, k))) =
    let fault = words_laws.one-refusal words a b h.given k.given in
    inl (e ∙ ap BadWords fault ∙ sym f, h.written ∙ ap words_line fault ∙ sym k.written)
both o p files input words first second one other told same (inr (inl (fault, e, h))) (inr (inr (cause, f, k))) = absurd (one-or-none words k.job fault k.asked h.given)
both o p files input words first second one other told same (inr (inr (cause, e, h))) (inl k) = absurd (not-one p o files input words second cause other one same told k h)
both o p files input words first second one other told same (inr (inr (cause, e, h))) (inr (inl (fault, f, k))) = absurd (one-or-none words h.job fault h.asked k.given)
both o p files input words first second one other told same (inr (inr (c, e, h))) (inr (inr (d, f, k))) =
    let refusal = both-refused o p files input words c d one other told same h k in
    inl (e ∙ refusal.0 ∙ sym f, refusal.1)

pub one-decided-output : OneDecidedOutput
one-decided-output o p files input words first second one other told same c d h k =
    both o p files input words first second one other told same (ending o words first one c h) (ending p words second other d k)

pub one-output : OneOutput
one-output o p files input words first second one other told same exact c d h k =
    by (one-decided-output o p files input words first second one other told same c d h k)
  where
    by : IsSame first second one other ⊎ AgreeOutputs o p words first second one other → IsSame first second one other
    by (inl is) = is
    by (inr a) = exact-runs o p files input words first second one other told same exact a
