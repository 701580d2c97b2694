-- The answering of a sample.
use Rattle.std.proofs.Common.{◌≡◌, ◌≢◌, ℕ, ◌+◌, inl, inr, Bool, true, false, cond, ◌==◌, ◌||◌, map, count_by, Option, Result, Ok, Err, IfOk, List, [], ◌∷◌, ◌++◌, codes, length, refl, sym, ap, ◌∙◌, subst, arith, suc, append-nil, length-append}
use Rattle.std.specs.Char.{is_ascii_digit}
use Rattle.std.specs.Io.KnownBytes.{Appends}
use Rattle.std.specs.List.{list_any}
use Rattle.std.proofs.KnownBytes.{Appends-nil}
use Rattle.std.proofs.lemmas.Bool.{false≢true}
use Rattle.std.proofs.lemmas.Bool.Decides.{nat_tests}
use Rattle.std.proofs.lemmas.List.Sums.{sum_by-cons}
use Rattle.st_outside.specs.Causes.{FileCounts}
use Rattle.st_outside.specs.States.{FilesState, InputState, KeepsFiles}
use Rattle.st_samples.specs.Generator.{next_of, x_of}
use Rattle.st_samples.specs.JobLine.{AreSampleLines, IsSampleLine}
use Rattle.st_samples.specs.Laws.{begins_with_digit}
use Rattle.st_samples.specs.Summary.{AnswerLine, Summary, is_refusal, summary_of, summary_text, with_answer}
use Rattle.st_samples.proofs.JobLaws.{lines-begin-with-digits, lines-go-on}
use Rattle.st_samples.proofs.SummaryLaws.{summary_grows}
use Rattle.st_text.specs.Lines.{trimmed}
use Rattle.st_words.specs.declared.job.Job.{Job}
use Rattle.st_words.specs.declared.job.Work.{Work}
use Rattle.st_words.specs.declared.job.Work.TheVariants.{Sample}
use Rattle.st_batch.specs.declared.answer.Answer.{Answer}
use Rattle.st_batch.specs.declared.answer.Answer.TheVariants.{Text, Refused}
use Rattle.st_batch.specs.declared.status.Status.{Status}
use Rattle.st_batch.specs.declared.status.Status.TheVariants.{Done, SomeRefused, BadWords, BadSetup, ReadFault, WriteFault, OutOfMemory, InputTooLong}
use Rattle.st_batch.specs.Causes.{AreCounted}
use Rattle.st_batch.specs.Commands.{IsNoLoad, begins_command}
use Rattle.st_batch.specs.Lines.{AreLinesBy, IsShortInput}
use Rattle.st_batch.specs.Outcome.{AllAnswered, IsReadWhole, LinesOutcome, MayWriteBefore, SomeAnswered, Took, around, is_refused, output_of, status_of}
use Rattle.st_batch.specs.OutputSteps.{Delivers, IsCut}
use Rattle.st_batch.specs.SampleSteps.{SampleEnds, Samples, SumsLine, SumsUp, status_for}
use Rattle.st_batch.specs.Session.{MayAnswer, RunsTo}
use Rattle.st_batch.specs.Setting.{Loaded, Setting, State}
use Rattle.st_batch.specs.Texts.{as_counted, summary_line}
use Rattle.st_batch.proofs.InputLaws.{Ends, counted-from}
use Rattle.st_batch.proofs.LinesLaws.{counted-join, counted-none, runs-join}

-- what begins with a digit is no command
no-dollar : (text : List ℕ) → begins_with_digit text ≡ true → begins_command text ≡ false
no-dollar [] h = refl
no-dollar (b ∷ bs) h = by b h
  where
    by : (b : ℕ) → is_ascii_digit b ≡ true → (b == 36) ≡ false
    by b h = grind arith

no-load : (text : List ℕ) → begins_with_digit text ≡ true → IsNoLoad text
no-load text h = λ name is. false≢true (sym (no-dollar text h) ∙ ap begins_command is.spelled)

pub sample-no-load : (job : Job) (loaded : Loaded) (x : ℕ) (line : List ℕ) → IsSampleLine job loaded x line → IsNoLoad (trimmed line)
sample-no-load job loaded x line h = no-load (trimmed line) (lines-begin-with-digits job loaded x line h)

-- so its answer leaves the loaded list
pub sample-stays : (s : Setting) (loaded after : Loaded) (x : ℕ) (line : List ℕ) (answer : Answer) → IsSampleLine s.job loaded x line → MayAnswer s loaded line answer after → after ≡ loaded
sample-stays s loaded after x line answer is (inl (long, said, left)) = left
sample-stays s loaded after x line answer is (inr (short, inl (begins, h))) =
    absurd (false≢true (sym (no-dollar (trimmed line) (lines-begin-with-digits s.job loaded x line is)) ∙ begins))
sample-stays s loaded after x line answer is (inr (short, inr (time, h, left))) = left

-- no line was answered
pub sums-none : (s : Setting) (counts : FileCounts) (loaded : Loaded) (seed : ℕ) (summary : Summary) → summary ≡ summary_of [] → SumsUp s counts loaded seed 0 summary
sums-none s counts loaded seed summary e = record {
  answers = [];
  sampled = record { lines = []; are_lines = (refl, tt); answered = refl; counted = counted-none counts };
  summed = e;
}

map-more : (answers : List Answer) (answer : Answer) → map as_counted (answers ++ answer ∷ []) ≡ map as_counted answers ++ as_counted answer ∷ []
map-more [] answer = refl
map-more (a ∷ answers) answer = ap (λ (l : List AnswerLine). as_counted a ∷ l) (map-more answers answer)

-- one more line was answered
pub sums-more : (s : Setting) (counts : FileCounts) (loaded : Loaded) (seed n m x : ℕ) (before after : Summary) → m ≡ n + 1 → x ≡ x_of seed m
    → SumsUp s counts loaded seed n before → SumsLine s counts loaded x before after → SumsUp s counts loaded seed m after
sums-more s counts loaded seed n m x before after e f h k =
    let p = h.sampled in
    let line : IsSampleLine s.job loaded (x_of seed (n + 1)) k.line = subst (λ (y : ℕ). IsSampleLine s.job loaded y k.line) (f ∙ ap (λ (j : ℕ). x_of seed j) e) k.is_line in
    let grown = summary_grows (map as_counted h.answers) (as_counted k.answer) in
    record {
      answers = h.answers ++ k.answer ∷ [];
      sampled = record {
        lines = p.lines ++ k.line ∷ [];
        are_lines = subst (λ (j : ℕ). AreSampleLines s.job loaded j seed (p.lines ++ k.line ∷ [])) (sym e) (lines-go-on s.job loaded n seed p.lines k.line p.are_lines line);
        answered = runs-join s loaded loaded loaded p.lines (k.line ∷ []) h.answers (k.answer ∷ []) p.answered (loaded, k.answered, refl);
        counted = counted-join counts counts counts h.answers (k.answer ∷ []) p.counted k.counted;
      };
      summed = k.summed ∙ ap (λ (sum : Summary). with_answer sum (as_counted k.answer)) h.summed ∙ sym grown ∙ ap summary_of (sym (map-more h.answers k.answer));
    }

-- what was answered over files and by a session that are as before was so by those before
pub sums-line-kept : (old now : FilesState) (a session : State) (x : ℕ) (before after : Summary) → now ≡ old → a ≡ session
    → SumsLine (record { files = now.map; job = a.job }) now.counts a.loaded x before after
    → SumsLine (record { files = old.map; job = session.job }) old.counts session.loaded x before after
sums-line-kept old now a session x before after files same h =
    let P : FilesState → Type 0 = λ f. SumsLine (record { files = f.map; job = session.job }) f.counts session.loaded x before after in
    let Q : State → Type 0 = λ t. SumsLine (record { files = now.map; job = t.job }) now.counts t.loaded x before after in
    subst P files (subst Q same h)

-- one answer more is one line more
pub one-more : (before : Summary) (answer : Answer) → (with_answer before (as_counted answer)).lines ≡ before.lines + 1
one-more before (Text text) = refl
one-more before (Refused cause) = refl

pub number-none : (seed n : ℕ) → n ≡ 0 → seed ≡ x_of seed n
unfolding x_of
number-none seed n e = subst (λ (m : ℕ). seed ≡ x_of seed m) (sym e) refl

pub number-more : (seed n m x y : ℕ) → m ≡ n + 1 → x ≡ x_of seed n → y ≡ next_of x → y ≡ x_of seed m
unfolding x_of
number-more seed n m x y e f g =
    let step : y ≡ x_of seed (suc n) = g ∙ ap next_of f in
    let later : suc n ≡ m = omega (arith, e) in
    subst (λ (k : ℕ). y ≡ x_of seed k) later step

pub none-summed : (summary : Summary) → summary ≡ summary_of [] → summary.lines ≡ 0
unfolding summary_of
none-summed summary e = ap (λ (s : Summary). s.lines) e

not-zero : (k : ℕ) → (suc k == 0) ≡ false
not-zero k = grind (arith, nat_tests)

-- a line was refused exactly where the count of refusals isn't 0
refusals : (answers : List Answer) → (count_by is_refusal (map as_counted answers) == 0) ≡ cond (list_any is_refused answers) false true
refusals [] = refl
refusals (Text text ∷ answers) =
    let same : count_by is_refusal (map as_counted (Text text ∷ answers)) ≡ count_by is_refusal (map as_counted answers) =
    omega (arith, sum_by-cons (λ (a : AnswerLine). cond (is_refusal a) 1 0) (as_counted (Text text)) (map as_counted answers)) in
    ap (λ (n : ℕ). n == 0) same ∙ refusals answers
refusals (Refused cause ∷ answers) =
    let more : count_by is_refusal (map as_counted (Refused cause ∷ answers)) ≡ suc (count_by is_refusal (map as_counted answers)) =
    omega (arith, sum_by-cons (λ (a : AnswerLine). cond (is_refusal a) 1 0) (as_counted (Refused cause)) (map as_counted answers)) in
    ap (λ (n : ℕ). n == 0) more ∙ not-zero (count_by is_refusal (map as_counted answers))

swapped : (b : Bool) → ◌≡◌ {A = Status} (cond (cond b false true) Done SomeRefused) (cond b SomeRefused Done)
swapped true = refl
swapped false = refl

-- the status of a summary is that of its answers
pub status-is : (answers : List Answer) (summary : Summary) → summary ≡ summary_of (map as_counted answers) → status_for summary ≡ status_of answers
unfolding summary_of
status-is answers summary e =
    ap status_for e ∙ ap (λ (b : Bool). cond b Done SomeRefused) (refusals answers) ∙ swapped (list_any is_refused answers)

-- what was answered over the files was so over them as they were before
before-samples : (before now : FilesState) (job : Job) (loaded : Loaded) (lines : List (List ℕ)) (answers : List Answer) → KeepsFiles before now
    → RunsTo (record { files = now.map; job = job }) loaded lines answers loaded → RunsTo (record { files = before.map; job = job }) loaded lines answers loaded
before-samples before now job loaded lines answers k h =
    let same : record { files = now.map; job = job } ≡ record { files = before.map; job = job } = λ i. record { files = k.map i; job = job } in
    subst (λ (s : Setting). RunsTo s loaded lines answers loaded) same h

module _ (before now : FilesState) (i : InputState) (session : State) (lines seed : ℕ) (answers : List Answer) (is : session.job.work ≡ Sample lines seed) (k : KeepsFiles before now)
    (s : Samples (record { files = now.map; job = session.job }) now.counts session.loaded seed lines answers) where
  by-work : (P : Work → Type 0) → P (Sample lines seed) → P session.job.work
  by-work P p = subst P (sym is) p

  all-answered : AllAnswered (around before now i i) session.job session.loaded (status_of answers) (summary_line answers)
  all-answered = record {
    lines = s.lines;
    answers = answers;
    after = session.loaded;
    are_lines = by-work (λ w. AreLinesBy w session.job session.loaded i.left s.lines) s.are_lines;
    whole = by-work (λ w. IsReadWhole w i.left) tt;
    short = by-work (λ w. IsShortInput w i.left) tt;
    answered = before-samples before now session.job session.loaded s.lines answers k s.answered;
    counted = counted-from before.counts now.counts now.counts answers k.counts s.counted;
    ended = refl;
    written = by-work (λ w. summary_line answers ≡ output_of w answers) refl;
  }

  some-answered : (front rest : List ℕ) → summary_line answers ≡ front ++ rest → SomeAnswered (around before now i i) session.job session.loaded front
  some-answered front rest e = record {
    lines = s.lines;
    more = [];
    answers = answers;
    after = session.loaded;
    rest = rest;
    are_lines = subst (λ (l : List (List ℕ)). AreLinesBy session.job.work session.job session.loaded i.left l) (sym (append-nil s.lines))
        (by-work (λ w. AreLinesBy w session.job session.loaded i.left s.lines) s.are_lines);
    answered = before-samples before now session.job session.loaded s.lines answers k s.answered;
    counted = counted-from before.counts now.counts now.counts answers k.counts s.counted;
    may = by-work (λ w. MayWriteBefore w []) refl;
    written = by-work (λ w. output_of w answers ≡ front ++ rest) e;
  }

  whole-end : (b : Bool) → AllAnswered (around before now i i) session.job session.loaded (cond b SomeRefused Done) (summary_line answers)
      → Ends before now i i session (cond b SomeRefused Done) (summary_line answers)
  whole-end true h = inl h
  whole-end false h = inl h

  cut-end : (status : Status) (front rest : List ℕ) → IsCut status → summary_line answers ≡ front ++ rest → Ends before now i i session status front
  cut-end WriteFault front rest cut e = inl (some-answered front rest e)
  cut-end OutOfMemory front rest cut e = inl (some-answered front rest e)
  cut-end Done front rest cut e = absurd cut
  cut-end SomeRefused front rest cut e = absurd cut
  cut-end (BadWords w) front rest cut e = absurd cut
  cut-end (BadSetup c) front rest cut e = absurd cut
  cut-end ReadFault front rest cut e = absurd cut
  cut-end InputTooLong front rest cut e = absurd cut

  delivered : (taken after : Option (List ℕ)) (status : Status) → Delivers (summary_line answers) (status_of answers) taken after status
      → Took taken after (Ends before now i i session status)
  delivered taken after status (inl (appends, ended)) =
      let P : Status → Type 0 = λ t. Ends before now i i session t (summary_line answers) in
      (summary_line answers, appends, subst P (sym ended) (whole-end (list_any is_refused answers) all-answered))
  delivered taken after status (inr ((front, rest, appends, e), cut)) = (front, appends, cut-end status front rest cut e)

-- how the answering of a sample ended is how that of its session's lines did
pub sample-ends : (before now : FilesState) (i : InputState) (session : State) (lines seed : ℕ) (taken after : Option (List ℕ)) (status : Status)
    → session.job.work ≡ Sample lines seed → KeepsFiles before now
    → SampleEnds (record { files = now.map; job = session.job }) now.counts session.loaded seed lines taken after status
    → Took taken after (Ends before now i i session status)
sample-ends before now i session lines seed taken after status is k (inl (answers, s, d)) = delivered before now i session lines seed answers is k s taken after status d
sample-ends before now i session lines seed taken after status is k (inr (memory, same)) =
    let P : Option (List ℕ) → Type 0 = λ t. Appends taken t [] in
    ([], subst P (sym same) (Appends-nil taken), inr (memory, record { unread = refl; written = refl }))

-- the same of a session that is this one, which left the files as they were
pub sample-told : (before old now : FilesState) (i : InputState) (a session : State) (lines seed : ℕ) (taken after : Option (List ℕ)) (status : Status)
    → a ≡ session → now ≡ old → session.job.work ≡ Sample lines seed → KeepsFiles before old
    → SampleEnds (record { files = old.map; job = a.job }) old.counts a.loaded seed lines taken after status → Took taken after (Ends before now i i session status)
sample-told before old now i a session lines seed taken after status same left is k h =
    let P : FilesState → Type 0 = λ f. Took taken after (Ends before f i i session status) in
    let Q : State → Type 0 = λ t. SampleEnds (record { files = old.map; job = t.job }) old.counts t.loaded seed lines taken after status in
    subst P (sym left) (sample-ends before old i session lines seed taken after status is k (subst Q same h))

-- what is summed up is written
pub summed-ends : (s : Setting) (counts : FileCounts) (loaded : Loaded) (seed n : ℕ) (summary : Summary) (before after : Option (List ℕ)) (status : Status) → SumsUp s counts loaded seed n summary
    → Delivers (summary_text summary ++ (10 ∷ [])) (status_for summary) before after status → SampleEnds s counts loaded seed n before after status
summed-ends s counts loaded seed n summary before after status h d =
    let P : Summary → Type 0 = λ t. Delivers (summary_text t ++ (10 ∷ [])) (status_for summary) before after status in
    let Q : Status → Type 0 = λ t. Delivers (summary_line h.answers) t before after status in
    inl (h.answers, h.sampled, subst Q (status-is h.answers summary h.summed) (subst P h.summed d))

-- no status of answered lines is a fault of the input, or its length
goes-on : (refused : Bool) → ((cond refused SomeRefused Done) ≢ ReadFault) × ((cond refused SomeRefused Done) ≢ InputTooLong)
goes-on true = ((λ e. cc), (λ e. cc))
goes-on false = ((λ e. cc), (λ e. cc))

cut-goes-on : (status : Status) → IsCut status → (status ≢ ReadFault) × (status ≢ InputTooLong)
cut-goes-on status cut = ((λ e. subst IsCut e cut), (λ e. subst IsCut e cut))

same-goes-on : (a b : Status) → a ≡ b → (b ≢ ReadFault) × (b ≢ InputTooLong) → (a ≢ ReadFault) × (a ≢ InputTooLong)
same-goes-on a b e h = subst (λ (t : Status). (t ≢ ReadFault) × (t ≢ InputTooLong)) (sym e) h

-- the input stops no sample
pub sample-goes-on : (old : FilesState) (a : State) (lines seed : ℕ) (taken after : Option (List ℕ)) (status : Status)
    → SampleEnds (record { files = old.map; job = a.job }) old.counts a.loaded seed lines taken after status → (status ≢ ReadFault) × (status ≢ InputTooLong)
sample-goes-on old a lines seed taken after status (inl (answers, s, inl (appends, ended))) = same-goes-on status _ ended (goes-on (list_any is_refused answers))
sample-goes-on old a lines seed taken after status (inl (answers, s, inr (front, cut))) = cut-goes-on status cut
sample-goes-on old a lines seed taken after status (inr (memory, same)) = cut-goes-on status (subst IsCut (sym memory) tt)
