-- The answer of a line as one that is counted.
use Rattle.std.proofs.Common.{◌≡◌, ◌≢◌, ℕ, ◌+◌, ◌*◌, cond, count_by, ◌∙◌, Option, Result, Ok, Err, OnOk, List, [], ◌∷◌, sym, subst, arith}
use Rattle.std.proofs.lemmas.List.Sums.{sum_by-cons}
use Rattle.st_outside.specs.Causes.{AreLater, FileCounts, RoseBy}
use Rattle.st_outside.specs.Entries.{Entries}
use Rattle.st_outside.specs.States.{FilesState}
use Rattle.st_text.specs.Lines.{trimmed}
use Rattle.st_words.specs.declared.job.Job.{Job}
use Rattle.st_samples.specs.JobLine.{IsSampleLine}
use Rattle.st_samples.specs.Summary.{Summary, with_answer}
use Rattle.st_batch.specs.declared.answer.Answer.{Answer}
use Rattle.st_refusals.specs.Causes.{FileCause, NoCause, Missing, Faulty, TooLong}
use Rattle.st_batch.specs.Causes.{AreCounted, IsAnswerCaused, IsCausedBy, answer_cause, has_cause, is_same_cause}
use Rattle.st_batch.specs.Limits.{most_file_bytes}
use Rattle.st_batch.specs.SampleSteps.{SumsLine}
use Rattle.st_batch.specs.Session.{MayAnswer}
use Rattle.st_batch.specs.Commands.{IsNoLoad}
use Rattle.st_batch.specs.Setting.{Loaded, Setting, State, setting}
use Rattle.st_batch.proofs.SampleLaws.{sample-no-load, sample-stays}
use Rattle.st_batch.specs.Texts.{as_counted}

-- an answer that has its cause is counted
record IsCounted (cause : FileCause) (before after : FileCounts) : Type 0 where
  misses : RoseBy (cond (is_same_cause Missing cause) 1 0) before.misses after.misses
  faults : RoseBy (cond (is_same_cause Faulty cause) 1 0) before.faults after.faults
  taken : RoseBy (cond (is_same_cause TooLong cause) 1 0 * (most_file_bytes + 1)) before.taken after.taken

counted-by : (cause : FileCause) (before after : FileCounts) → AreLater before after → IsCausedBy cause before after → IsCounted cause before after
counted-by Missing before after l h = record { misses = omega (arith, h.0); faults = omega (arith, l.faults); taken = omega (arith, l.taken) }
counted-by Faulty before after l h = record { misses = omega (arith, l.misses); faults = omega (arith, h); taken = omega (arith, l.taken) }
counted-by TooLong before after l h = record { misses = omega (arith, l.misses); faults = omega (arith, l.faults); taken = omega (arith, h) }
counted-by NoCause before after l h = record { misses = omega (arith, l.misses); faults = omega (arith, l.faults); taken = omega (arith, l.taken) }

count-one : (cause : FileCause) (a : Answer) → count_by (has_cause cause) (a ∷ []) ≡ cond (has_cause cause a) 1 0
count-one cause a = omega (arith, sum_by-cons (λ x. cond (has_cause cause x) 1 0) a [])

pub caused-counted : (a : Answer) (before after : FileCounts) → AreLater before after → IsAnswerCaused a before after → AreCounted before after (a ∷ [])
caused-counted a before after l h =
    let k = counted-by (answer_cause a) before after l h in
    record {
      misses = subst (λ (n : ℕ). RoseBy n before.misses after.misses) (sym (count-one Missing a)) k.misses;
      faults = subst (λ (n : ℕ). RoseBy n before.faults after.faults) (sym (count-one Faulty a)) k.faults;
      taken = subst (λ (n : ℕ). RoseBy (n * (most_file_bytes + 1)) before.taken after.taken) (sym (count-one TooLong a)) k.taken;
    }

-- the line of x was answered and its answer counted
summed-line : (s : Setting) (loaded next : Loaded) (counts : FileCounts) (x : ℕ) (text : List ℕ) (answer : Answer) (before after : Summary)
    → IsSampleLine s.job loaded x text → next ≡ loaded → MayAnswer s loaded text answer next → AreCounted counts counts (answer ∷ [])
    → after ≡ with_answer before (as_counted answer) → SumsLine s counts loaded x before after
summed-line s loaded next counts x text answer before after is left may counted h =
    let P : Loaded → Type 0 = λ l. MayAnswer s loaded text answer l in
    record { line = text; answer = answer; is_line = is; answered = subst P left may; counted = counted; summed = h }

-- the line of a session is that of the session it was before
line-of : (t session : State) (x : ℕ) (line text : List ℕ) → t ≡ session → text ≡ line → IsSampleLine session.job session.loaded x line → IsSampleLine t.job t.loaded x text
line-of t session x line text same e is =
    let P : State → Type 0 = λ a. IsSampleLine a.job a.loaded x text in
    let Q : List ℕ → Type 0 = λ l. IsSampleLine session.job session.loaded x l in
    subst P (sym same) (subst Q (sym e) is)

-- its answer leaves the files, the loaded list and the session
pub line-unread : (job : Job) (loaded : Loaded) (x : ℕ) (line text : List ℕ) → text ≡ line → IsSampleLine job loaded x line → IsNoLoad (trimmed text)
line-unread job loaded x line text e is =
    let P : List ℕ → Type 0 = λ l. IsNoLoad (trimmed l) in
    subst P (sym e) (sample-no-load job loaded x line is)

stays-here : (map : Option Entries) (t session : State) (x : ℕ) (line text : List ℕ) (answer : Answer) (after : Loaded) → t ≡ session → text ≡ line
    → IsSampleLine session.job session.loaded x line → MayAnswer (setting map t) t.loaded text answer after → after ≡ t.loaded
stays-here map t session x line text answer after same e is may = sample-stays (setting map t) t.loaded after x text answer (line-of t session x line text same e is) may

pub session-stays : (map : Option Entries) (a t session : State) (x : ℕ) (line text : List ℕ) (answer : Answer) → t ≡ session → text ≡ line
    → IsSampleLine session.job session.loaded x line → MayAnswer (setting map t) t.loaded text answer a.loaded → a.job ≡ t.job → a ≡ session
session-stays map a t session x line text answer same e is may job =
    let left : a.loaded ≡ t.loaded = stays-here map t session x line text answer a.loaded same e is may in
    let whole : a ≡ t = λ i. record { job = job i; loaded = left i } in
    whole ∙ same

pub line-summed : {E : Type 0} (r : Result (Unit {0}) E) (old new : FilesState) (a t session : State) (x : ℕ) (line text : List ℕ) (answer : Answer) (before after : Summary)
    → t ≡ session → text ≡ line → IsSampleLine session.job session.loaded x line → new ≡ old → AreLater old.counts new.counts → IsAnswerCaused answer old.counts new.counts
    → MayAnswer (setting old.map t) t.loaded text answer a.loaded → OnOk r (after ≡ with_answer before (as_counted answer))
    → OnOk r (SumsLine (setting old.map session) old.counts session.loaded x before after)
line-summed (Err error) old new a t session x line text answer before after same e is kept later caused may h = tt
line-summed (Ok u) old new a t session x line text answer before after same e is kept later caused may h =
    let P : State → Type 0 = λ s. SumsLine (setting old.map s) old.counts s.loaded x before after in
    let Q : FilesState → Type 0 = λ f. AreCounted old.counts f.counts (answer ∷ []) in
    subst P same (summed-line (setting old.map t) t.loaded a.loaded old.counts x text answer before after
    (line-of t session x line text same e is) (stays-here old.map t session x line text answer a.loaded same e is may) may
    (subst Q kept (caused-counted answer old.counts new.counts later caused)) h)
