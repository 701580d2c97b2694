-- What was answered of the input, and what the output took of it.
use Rattle.std.proofs.Common.{◌≡◌, ℕ, ◌+◌, ◌<◌, ◌≤◌, false, ◌||◌, cond, inl, inr, Option, Some, None, List, [], ◌∷◌, ◌++◌, length, take, refl, sym, ◌∙◌, ap, arith, subst, append-nil, length-append}
use Rattle.std.specs.Io.KnownBytes.{Appends, Consumes, IsAtEnd, Keeps}
use Rattle.std.specs.List.{flat_map, list_any}
use Rattle.std.proofs.KnownBytes.{Appends-nil, Consumes-kept, Consumes-nil, Consumes-trans}
use Rattle.st_outside.specs.Causes.{AreLater, FileCounts}
use Rattle.st_outside.specs.States.{FilesState, InputState, KeepsFiles}
use Rattle.st_outside.specs.declared.faults.SinkFault.{SinkFault}
use Rattle.st_outside.specs.declared.faults.SinkFault.TheVariants as fault
use Rattle.st_outside.proofs.StateLaws.{AreLater-same}
use Rattle.st_text.specs.Lines.{lines_of}
use Rattle.st_batch.specs.declared.answer.Answer.{Answer}
use Rattle.st_batch.specs.declared.input.TheConstants.{MAX_INPUT}
use Rattle.st_words.specs.declared.job.Job.{Job}
use Rattle.st_words.specs.declared.job.Work.{Work}
use Rattle.st_words.specs.declared.job.Work.TheVariants.{Time, Batch, Sample}
use Rattle.st_batch.specs.declared.status.Status.{Status}
use Rattle.st_batch.specs.declared.status.Status.TheVariants.{Done, SomeRefused, BadWords, BadSetup, ReadFault, WriteFault, OutOfMemory, InputTooLong}
use Rattle.st_batch.specs.Causes.{AreCounted}
use Rattle.st_batch.specs.LinesSteps.{LinesEnd, Moment, setting_at, StopsAfter, Completes, Finishes, stopped_by, Cuts, EndsLines, ReadsText, StopsInText, ReadsInput}
use Rattle.st_batch.specs.Outcome.{around, is_refused, Took, IsLongInput, IsReadWhole, AllAnswered, SomeAnswered, LinesOutcome, MayWriteBefore, output_of}
use Rattle.st_batch.specs.Session.{RunsTo}
use Rattle.st_batch.specs.Setting.{Loaded, Setting, State}
use Rattle.st_batch.specs.Texts.{line_of}
use Rattle.st_batch.specs.Lines.{AreLines, AreLinesBy, IsShortInput}
use Rattle.st_batch.proofs.CutLaws.{cuts-none, ends-cut}
use Rattle.st_batch.proofs.LinesLaws.{advances-none, finishes-after}
use Rattle.st_batch.proofs.ReadLaws.{reads-join, halts-none, halts-after}

-- what a session's answering gives that ended so
abbrev pub Gives : FilesState → FilesState → InputState → InputState → State → Status → List ℕ → Type 0
Gives before now i j session status bytes = LinesOutcome (around before now i j) session.job session.loaded status bytes

-- counts that rose from some moment on rose from an earlier one
pub counted-from : (before mid now : FileCounts) (answers : List Answer) → AreLater before mid → AreCounted mid now answers → AreCounted before now answers
counted-from before mid now answers l c = record { misses = omega (arith, c.misses, l.misses); faults = omega (arith, c.faults, l.faults); taken = omega (arith, c.taken, l.taken) }

-- what was answered from a moment on was so over the files as they were before
runs-before : (before : FilesState) (a : Moment) (lines : List (List ℕ)) (answers : List Answer) (after : Loaded) → KeepsFiles before a.files
    → RunsTo (setting_at a) a.answering.session.loaded lines answers after
    → RunsTo (record { files = before.map; job = a.answering.session.job }) a.answering.session.loaded lines answers after
runs-before before a lines answers after k h =
    let same : setting_at a ≡ record { files = before.map; job = a.answering.session.job } = λ i. record { files = k.map i; job = a.answering.session.job } in
    subst (λ (s : Setting). RunsTo s a.answering.session.loaded lines answers after) same h

-- the output took bytes that meet a condition
told : (before now : Option (List ℕ)) (bytes : List ℕ) (P : List ℕ → Type 0) → Appends before now bytes → P bytes → Took before now P
told before now bytes P p q = (bytes, p, q)

-- the answers of lines that are no sample's are written one by one, and before the last line, too
abbrev IsByLine : Work → Type 0
IsByLine (Sample n seed) = ⊥
IsByLine work = Unit {0}

each-written : (work : Work) (answers : List Answer) → IsByLine work → output_of work answers ≡ flat_map line_of answers
each-written (Time text) answers by-line = refl
each-written Batch answers by-line = refl
each-written (Sample n seed) answers by-line = absurd by-line

may-write : (work : Work) (more : List (List ℕ)) → IsByLine work → MayWriteBefore work more
may-write (Time text) more by-line = tt
may-write Batch more by-line = tt
may-write (Sample n seed) more by-line = absurd by-line

of-batch : (work : Work) → work ≡ Batch → IsByLine work
of-batch work e = subst IsByLine (sym e) tt

-- from a moment at which nothing is gathered on some first lines were answered
some-answered : (before now : FilesState) (i j : InputState) (a : Moment) (taken : Option (List ℕ)) (lines more : List (List ℕ))
    (P : List ℕ → Type 0) → ((bytes : List ℕ) → SomeAnswered (around before now i j) a.answering.session.job a.answering.session.loaded bytes → P bytes)
    → KeepsFiles before a.files → IsByLine a.answering.session.job.work → a.answering.gathered.items ≡ [] → AreLines a.answering.session.job a.answering.session.loaded i.left (lines ++ more)
    → StopsAfter a now taken lines → Took a.taken taken P
some-answered before now i j a taken lines more P gives k by-line none are s =
    told a.taken taken s.written P s.appended (gives s.written (record {
      lines = lines;
      more = more;
      answers = s.answers;
      after = s.after;
      rest = s.rest;
      are_lines = are;
      answered = runs-before before a lines s.answers s.after k s.answered;
      counted = counted-from _ _ _ s.answers k.counts s.counted;
      may = may-write a.answering.session.job.work more by-line;
      written = each-written a.answering.session.job.work s.answers by-line ∙ ap (λ (l : List ℕ). l ++ flat_map line_of s.answers) (sym none) ∙ s.gathered;
    }))

-- from such a moment on, at which no line is refused, all lines were answered
all-answered : (before now : FilesState) (i j : InputState) (a : Moment) (taken : Option (List ℕ)) (lines : List (List ℕ)) (status : Status)
    → KeepsFiles before a.files → IsByLine a.answering.session.job.work → a.answering.gathered.items ≡ [] → a.answering.refused ≡ false
    → AreLines a.answering.session.job a.answering.session.loaded i.left lines → IsReadWhole a.answering.session.job.work j.left → IsShortInput a.answering.session.job.work i.left
    → Completes a now taken lines status
    → (bytes : List ℕ) × Appends a.taken taken bytes × AllAnswered (around before now i j) a.answering.session.job a.answering.session.loaded status bytes
all-answered before now i j a taken lines status k by-line none fresh are whole short s = (
  flat_map line_of s.answers,
  subst (λ (l : List ℕ). Appends a.taken taken (l ++ flat_map line_of s.answers)) none s.appended,
  record {
    lines = lines;
    answers = s.answers;
    after = s.after;
    are_lines = are;
    whole = whole;
    short = short;
    answered = runs-before before a lines s.answers s.after k s.answered;
    counted = counted-from _ _ _ s.answers k.counts s.counted;
    ended = s.ended ∙ ap (λ t. cond (t || list_any is_refused s.answers) SomeRefused Done) fresh;
    written = sym (each-written a.answering.session.job.work s.answers by-line);
  },
)

-- lines that are at hand were answered, as far as the run came
lines-end : (before now : FilesState) (i j : InputState) (a : Moment) (taken : Option (List ℕ)) (lines : List (List ℕ)) (status : Status)
    → KeepsFiles before a.files → IsByLine a.answering.session.job.work → a.answering.gathered.items ≡ [] → a.answering.refused ≡ false
    → AreLines a.answering.session.job a.answering.session.loaded i.left lines → IsReadWhole a.answering.session.job.work j.left → IsShortInput a.answering.session.job.work i.left
    → Finishes a now taken lines status → Took a.taken taken (Gives before now i j a.answering.session status)
lines-end before now i j a taken lines Done k by-line none fresh are whole short s = all-answered before now i j a taken lines Done k by-line none fresh are whole short s
lines-end before now i j a taken lines SomeRefused k by-line none fresh are whole short s = all-answered before now i j a taken lines SomeRefused k by-line none fresh are whole short s
lines-end before now i j a taken lines WriteFault k by-line none fresh are whole short s =
    some-answered before now i j a taken s.first s.more _ (λ bytes p. p) k by-line none
    (subst (λ (l : List (List ℕ)). AreLines a.answering.session.job a.answering.session.loaded i.left l) s.among are) s.stopped
lines-end before now i j a taken lines OutOfMemory k by-line none fresh are whole short s =
    some-answered before now i j a taken s.first s.more _ (λ bytes p. p) k by-line none
    (subst (λ (l : List (List ℕ)). AreLines a.answering.session.job a.answering.session.loaded i.left l) s.among are) s.stopped
lines-end before now i j a taken lines (BadWords cause) k by-line none fresh are whole short s = absurd s
lines-end before now i j a taken lines (BadSetup cause) k by-line none fresh are whole short s = absurd s
lines-end before now i j a taken lines ReadFault k by-line none fresh are whole short s = absurd s
lines-end before now i j a taken lines InputTooLong k by-line none fresh are whole short s = absurd s

-- the one line of the words was answered
pub time-ends : (before now : FilesState) (i : InputState) (text line : List ℕ) (session : State) (a : Moment) (taken : Option (List ℕ)) (status : Status)
    → a.answering.session ≡ session → a.answering.gathered.items ≡ [] → a.answering.refused ≡ false → session.job.work ≡ Time text → line ≡ text
    → Finishes a now taken (line ∷ []) status → KeepsFiles before a.files → Took a.taken taken (Gives before now i i session status)
time-ends before now i text line session a taken status same none fresh e f s k =
    let work : a.answering.session.job.work ≡ Time text = ap (λ (t : State). t.job.work) same ∙ e in
    let Lines : Work → Type 0 = λ w. AreLinesBy w a.answering.session.job a.answering.session.loaded i.left (text ∷ []) in
    let Whole : Work → Type 0 = λ w. IsReadWhole w i.left in
    let Short : Work → Type 0 = λ w. IsShortInput w i.left in
    subst (λ (t : State). Took a.taken taken (Gives before now i i t status)) same
    (lines-end before now i i a taken (text ∷ []) status k (subst IsByLine (sym work) tt) none fresh (subst Lines (sym work) refl) (subst Whole (sym work) tt) (subst Short (sym work) tt)
    (subst (λ (l : List ℕ). Finishes a now taken (l ∷ []) status) f s))

-- the same session's answering
pub session-told : (before now : FilesState) (i j : InputState) (taken after : Option (List ℕ)) (a session : State) (status : Status) → a ≡ session
    → Took taken after (Gives before now i j a status) → Took taken after (Gives before now i j session status)
session-told before now i j taken after a session status same h = subst (λ (t : State). Took taken after (Gives before now i j t status)) same h

-- what a copy of the job's work is, its work is
pub work-is : (session : State) (job : Job) (copy given : Work) → job ≡ session.job → copy ≡ job.work → copy ≡ given → session.job.work ≡ given
work-is session job copy given same e is = sym (ap (λ (j : Job). j.work) same) ∙ sym e ∙ is

-- how the answering of a session's lines ended
abbrev pub Ends : FilesState → FilesState → InputState → InputState → State → Status → List ℕ → Type 0
Ends before now i j session status bytes = LinesEnd (around before now i j) session.job session.loaded status bytes

pub as-lines : (before now : FilesState) (i j : InputState) (taken after : Option (List ℕ)) (session : State) (status : Status)
    → Took taken after (Gives before now i j session status) → Took taken after (Ends before now i j session status)
as-lines before now i j taken after session status (bytes, appends, h) = (bytes, appends, inl h)

-- memory ran out before anything was written
pub none-answered : (before now : FilesState) (i : InputState) (session : State) (taken : Option (List ℕ)) → Took taken taken (Ends before now i i session OutOfMemory)
none-answered before now i session taken = ([], Appends-nil taken, inr (refl, record { unread = refl; written = refl }))

-- nothing of the input was read
pub input-none : (input : Option (List ℕ)) (a : Moment) (begun : List ℕ) → begun ≡ [] → ReadsInput input input a a begun 0
input-none input a begun none = record {
  text = [];
  consumed = Consumes-nil input;
  long = refl;
  read = subst (λ (l : List ℕ). ReadsText a a [] [] l) (sym none) (record { lines = []; cuts = cuts-none []; advanced = advances-none a; no_feed = refl });
}

-- one more piece of the input was read and answered
pub input-next : (input left next : Option (List ℕ)) (a b c : Moment) (y z piece : List ℕ) (n m : ℕ)
    → m ≡ n + length piece → ReadsInput input left a b y n → Consumes left next piece → ReadsText b c y piece z → ReadsInput input next a c z m
input-next input left next a b c y z piece n m long p eats q = record {
  text = p.text ++ piece;
  consumed = Consumes-trans input left next p.text piece p.consumed eats;
  long = omega (arith, length-append p.text piece, p.long, long);
  read = reads-join a b c [] y z p.text piece p.read q;
}

-- the lines of a told input begin with those that a beginning of it ends
lines-begin : (work : Work) (job : Job) (loaded : Loaded) (input left : Option (List ℕ)) (text : List ℕ) (lines : List (List ℕ)) → work ≡ Batch → Consumes input left text → EndsLines [] text lines
    → (more : List (List ℕ)) × AreLinesBy work job loaded input (lines ++ more)
lines-begin (Time line) job loaded input left text lines e p ends = absurd cc
lines-begin (Sample n seed) job loaded input left text lines e p ends = absurd cc
lines-begin Batch job loaded None left text lines e p ends = ([], tt)
lines-begin Batch job loaded (Some xs) None text lines e p ends = absurd p
lines-begin Batch job loaded (Some xs) (Some ys) text lines e p ends = ((ends ys).0, sym (ap lines_of p ∙ (ends ys).1))

-- the lines of a told input that was read to its end
lines-whole : (work : Work) (job : Job) (loaded : Loaded) (input left : Option (List ℕ)) (text begun : List ℕ) (lines : List (List ℕ)) → work ≡ Batch → Consumes input left text → IsAtEnd left
    → Cuts [] text lines begun → AreLinesBy work job loaded input (lines ++ lines_of begun)
lines-whole (Time line) job loaded input left text begun lines e p end cuts = absurd cc
lines-whole (Sample n seed) job loaded input left text begun lines e p end cuts = absurd cc
lines-whole Batch job loaded None left text begun lines e p end cuts = tt
lines-whole Batch job loaded (Some xs) None text begun lines e p end cuts = absurd p
lines-whole Batch job loaded (Some xs) (Some ys) text begun lines e p end cuts =
    sym (ap lines_of (p ∙ ap (λ (l : List ℕ). text ++ l) end) ∙ cuts [] ∙ ap (λ (l : List ℕ). lines ++ lines_of l) (append-nil begun))

-- a told input that was read to its end has as many bytes as were read
short-input : (work : Work) (input left : Option (List ℕ)) (text : List ℕ) → Consumes input left text → IsAtEnd left → length text ≤ MAX_INPUT → IsShortInput work input
short-input (Time line) input left text p end few = tt
short-input (Sample n seed) input left text p end few = tt
short-input Batch None left text p end few = tt
short-input Batch (Some xs) None text p end few = absurd p
short-input Batch (Some xs) (Some ys) text p end few = omega (arith, ap length (p ∙ ap (λ (l : List ℕ). text ++ l) end ∙ append-nil text))

whole-input : (work : Work) (left : Option (List ℕ)) → IsAtEnd left → IsReadWhole work left
whole-input (Time line) left end = tt
whole-input Batch left end = end
whole-input (Sample n seed) left end = tt

-- a told input has at least as many bytes as were read
long-input : (input left : Option (List ℕ)) (text : List ℕ) → Consumes input left text → MAX_INPUT < length text → IsLongInput input
long-input None left text p many = tt
long-input (Some xs) None text p many = absurd p
long-input (Some xs) (Some ys) text p many = omega (arith, ap length p, length-append text ys)

-- the answering of what was read stopped
input-halts : (before now : FilesState) (i j : InputState) (left : Option (List ℕ)) (a : Moment) (taken : Option (List ℕ)) (text : List ℕ)
    (P : List ℕ → Type 0) → ((bytes : List ℕ) → SomeAnswered (around before now i j) a.answering.session.job a.answering.session.loaded bytes → P bytes)
    → KeepsFiles before a.files → a.answering.session.job.work ≡ Batch → a.answering.gathered.items ≡ [] → Consumes i.left left text → StopsInText a now taken [] text → Took a.taken taken P
input-halts before now i j left a taken text P gives k batch none eats h =
    let more = lines-begin a.answering.session.job.work a.answering.session.job a.answering.session.loaded i.left left text h.lines batch eats h.ends in
    some-answered before now i j a taken h.lines more.0 P gives k (of-batch a.answering.session.job.work batch) none more.1 h.stopped

-- what was read was answered, and then nothing more
input-here : (before : FilesState) (i j : InputState) (left : Option (List ℕ)) (a b : Moment) (y : List ℕ) (n : ℕ)
    (P : List ℕ → Type 0) → ((bytes : List ℕ) → SomeAnswered (around before b.files i j) a.answering.session.job a.answering.session.loaded bytes → P bytes)
    → KeepsFiles before a.files → a.answering.session.job.work ≡ Batch → a.answering.gathered.items ≡ [] → ReadsInput i.left left a b y n → Took a.taken b.taken P
input-here before i j left a b y n P gives k batch none p =
    input-halts before b.files i j left a b.taken (p.text ++ []) P gives k batch none (subst (λ (l : List ℕ). Consumes i.left left l) (sym (append-nil p.text)) p.consumed)
    (halts-after a b b.files b.taken [] y p.text [] p.read (halts-none b b.files y [] (AreLater-same b.files.counts)))

-- a read failed when nothing was gathered
pub input-fault : (before : FilesState) (i j : InputState) (left : Option (List ℕ)) (a b : Moment) (y : List ℕ) (n : ℕ)
    → a.answering.session.job.work ≡ Batch → a.answering.gathered.items ≡ [] → b.answering.gathered.items ≡ [] → ReadsInput i.left left a b y n → Keeps left j.left → KeepsFiles before a.files
    → Took a.taken b.taken (Gives before b.files i j a.answering.session ReadFault)
input-fault before i j left a b y n batch none all p same k =
    let s = p.read.advanced in
    let more = lines-begin a.answering.session.job.work a.answering.session.job a.answering.session.loaded i.left left p.text p.read.lines batch p.consumed (ends-cut [] y p.text p.read.lines p.read.cuts) in
    told a.taken b.taken s.written _ s.appended (record {
      batch = batch;
      lines = p.read.lines;
      more = more.0;
      answers = s.answers;
      after = b.answering.session.loaded;
      are_lines = more.1;
      ended = record { read = p.text; begun = y; consumed = Consumes-kept i.left left j.left p.text p.consumed same; unended = p.read.no_feed; first = p.read.cuts };
      answered = runs-before before a p.read.lines s.answers b.answering.session.loaded k s.answered;
      counted = counted-from _ _ _ s.answers k.counts s.counted;
      written = sym (append-nil s.written) ∙ ap (λ (l : List ℕ). s.written ++ l) (sym all) ∙ sym s.gathered ∙ ap (λ (l : List ℕ). l ++ flat_map line_of s.answers) none
          ∙ sym (each-written a.answering.session.job.work s.answers (of-batch a.answering.session.job.work batch));
    })

-- the input was too long
pub input-long : (before : FilesState) (i j : InputState) (left : Option (List ℕ)) (a b : Moment) (y piece : List ℕ) (n : ℕ)
    → a.answering.session.job.work ≡ Batch → a.answering.gathered.items ≡ [] → MAX_INPUT < n + length piece → ReadsInput i.left left a b y n → Consumes left j.left piece → KeepsFiles before a.files
    → Took a.taken b.taken (Gives before b.files i j a.answering.session InputTooLong)
input-long before i j left a b y piece n batch none many p eats k =
    let long = long-input i.left j.left (p.text ++ piece) (Consumes-trans i.left left j.left p.text piece p.consumed eats) (omega (arith, length-append p.text piece, p.long)) in
    input-here before i j left a b y n _ (λ bytes s. (s, long)) k batch none p

stopped-end : (before now : FilesState) (i j : InputState) (session : State) (cause : SinkFault) (bytes : List ℕ)
    → SomeAnswered (around before now i j) session.job session.loaded bytes → Gives before now i j session (stopped_by cause) bytes
stopped-end before now i j session fault.Failed bytes s = s
stopped-end before now i j session fault.OutOfMemory bytes s = s

-- the answering of a piece stopped
pub input-stopped : (before now : FilesState) (i j : InputState) (left : Option (List ℕ)) (a b : Moment) (taken : Option (List ℕ)) (y piece : List ℕ) (n : ℕ) (cause : SinkFault) (status : Status)
    → a.answering.session.job.work ≡ Batch → a.answering.gathered.items ≡ [] → status ≡ stopped_by cause → ReadsInput i.left left a b y n → Consumes left j.left piece
    → StopsInText b now taken y piece → KeepsFiles before a.files → Took a.taken taken (Gives before now i j a.answering.session status)
input-stopped before now i j left a b taken y piece n cause status batch none f p eats h k =
    subst (λ (s : Status). Took a.taken taken (Gives before now i j a.answering.session s)) (sym f)
    (input-halts before now i j j.left a taken (p.text ++ piece) _ (stopped-end before now i j a.answering.session cause) k batch none
    (Consumes-trans i.left left j.left p.text piece p.consumed eats)
    (halts-after a b now taken [] y p.text piece p.read h))

-- the input was read to its end
pub input-ends : (before now : FilesState) (i j : InputState) (left : Option (List ℕ)) (a b : Moment) (taken : Option (List ℕ)) (y begun piece : List ℕ) (n count : ℕ) (status : Status)
    → a.answering.session.job.work ≡ Batch → a.answering.gathered.items ≡ [] → a.answering.refused ≡ false → begun ≡ y → count ≡ 0 → n ≤ MAX_INPUT
    → ReadsInput i.left left a b y n → Consumes left j.left (take count piece) → IsAtEnd j.left → Finishes b now taken (lines_of begun) status → KeepsFiles before a.files
    → Took a.taken taken (Gives before now i j a.answering.session status)
input-ends before now i j left a b taken y begun piece n count status batch none fresh f zero few p eats end s k =
    let last : Consumes left j.left [] = subst (λ (k : ℕ). Consumes left j.left (take k piece)) zero eats in
    let all : Consumes i.left j.left p.text = subst (λ (l : List ℕ). Consumes i.left j.left l) (append-nil p.text) (Consumes-trans i.left left j.left p.text [] p.consumed last) in
    let behind = subst (λ (l : List ℕ). Finishes b now taken (lines_of l) status) f s in
    lines-end before now i j a taken (p.read.lines ++ lines_of y) status k (of-batch a.answering.session.job.work batch) none fresh
    (lines-whole a.answering.session.job.work a.answering.session.job a.answering.session.loaded i.left j.left p.text y p.read.lines batch all end p.read.cuts)
    (whole-input a.answering.session.job.work j.left end)
    (short-input a.answering.session.job.work i.left j.left p.text all end (omega (arith, p.long)))
    (finishes-after a b now taken p.read.lines (lines_of y) status p.read.advanced behind)
