-- A clock string comes back after its time: what a line of a run may be answered with `-back`, as laws.
use Rattle.std.specs.Prelude.{◌≡◌, ◌↔◌, ◌⊎◌, ℕ, ◌≤◌, List, ◌∷◌, ◌++◌, length, Ok}
use Rattle.st_text.specs.Lines.{trimmed}
use Rattle.st_answers.specs.Answer.{ForwardGives, there_and_back}
use Rattle.st_answers.specs.Returns.{CanBeUndecided, ReadsCovered, TellsInRange}
use Rattle.st_clock.specs.Clock.{Clock}
use Rattle.st_scales.specs.declared.scale.Scale.TheVariants.{Tdb}
use Rattle.st_ticks.specs.Tick.{IsCanonical}
use Rattle.st_batch.specs.declared.answer.Answer.{Answer}
use Rattle.st_batch.specs.declared.answer.Answer.TheVariants.{Text, Refused}
use Rattle.st_refusals.specs.declared.fault.LineFault.TheVariants.{Undecided}
use Rattle.st_batch.specs.declared.status.Status.{Status}
use Rattle.st_words.specs.declared.job.Job.{Job}
use Rattle.st_batch.specs.Limits.{most_line_bytes}
use Rattle.st_batch.specs.Outcome.{AllAnswered, Outside, over}
use Rattle.st_batch.specs.Session.{MayAnswer, RunsTo}
use Rattle.st_batch.specs.Setting.{Loaded, Setting}

-- the answer is the printed time, and after it the canonical spelling of the tick k
abbrev pub TellsTick : Clock → ℕ → List ℕ → Answer → Type 0
TellsTick clock k there answer = (back : List ℕ) × IsCanonical clock.face k back × (answer ≡ Text (there_and_back there back))

-- A line whose text is read to a covered tick, and whose time may be printed so, is answered by the printed time with the tick's
-- canonical spelling, or UNDECIDED where the way there can be.
abbrev pub CoveredLineReturns : Type 0
CoveredLineReturns =
    (s : Setting) (loaded after : Loaded) (line there : List ℕ) (clock : Clock) (k places : ℕ) (answer : Answer) → length line ≤ most_line_bytes
    → ReadsCovered s.job loaded (trimmed line) clock k places → ForwardGives s.job loaded (trimmed line) (Ok there) → TellsInRange places there
    → MayAnswer s loaded line answer after
    ↔ ((after ≡ loaded) × (TellsTick clock k there answer ⊎ ((answer ≡ Refused Undecided) × CanBeUndecided s.job loaded (trimmed line))))

-- Of a clock that is kept in TDB the first is the answer.
abbrev pub TdbLineReturns : Type 0
TdbLineReturns =
    (s : Setting) (loaded after : Loaded) (line there : List ℕ) (clock : Clock) (k places : ℕ) (answer : Answer) → length line ≤ most_line_bytes
    → ReadsCovered s.job loaded (trimmed line) clock k places → clock.scale ≡ Tdb → ForwardGives s.job loaded (trimmed line) (Ok there)
    → TellsInRange places there → MayAnswer s loaded line answer after ↔ ((after ≡ loaded) × TellsTick clock k there answer)

-- the answer in the place of a line among the answers to all lines, with the loaded list by which it is given
pub record AnsweredAt (s : Setting) (loaded : Loaded) (before : List (List ℕ)) (line : List ℕ) (answers : List Answer) : Type 0 where
  pub reached : Loaded
  pub next : Loaded
  pub earlier : List Answer
  pub answer : Answer
  pub later : List Answer
  pub among : answers ≡ earlier ++ (answer ∷ later)
  pub led : RunsTo s loaded before earlier reached
  pub given : MayAnswer s reached line answer next

-- Of a run that answered all its lines, each such line has such an answer in its place.
abbrev pub CoveredOutputReturns : Type 0
CoveredOutputReturns =
    (o : Outside) (job : Job) (loaded : Loaded) (status : Status) (bytes : List ℕ) (all : AllAnswered o job loaded status bytes)
    (before more : List (List ℕ)) (line : List ℕ) → all.lines ≡ before ++ (line ∷ more)
    → (at : AnsweredAt (over o job) loaded before line all.answers)
    × ((there : List ℕ) (clock : Clock) (k places : ℕ) → length line ≤ most_line_bytes → ReadsCovered job at.reached (trimmed line) clock k places
    → ForwardGives job at.reached (trimmed line) (Ok there) → TellsInRange places there
    → TellsTick clock k there at.answer ⊎ ((at.answer ≡ Refused Undecided) × CanBeUndecided job at.reached (trimmed line)))

-- And by a clock that is kept in TDB the first.
abbrev pub TdbOutputReturns : Type 0
TdbOutputReturns =
    (o : Outside) (job : Job) (loaded : Loaded) (status : Status) (bytes : List ℕ) (all : AllAnswered o job loaded status bytes)
    (before more : List (List ℕ)) (line : List ℕ) → all.lines ≡ before ++ (line ∷ more)
    → (at : AnsweredAt (over o job) loaded before line all.answers)
    × ((there : List ℕ) (clock : Clock) (k places : ℕ) → length line ≤ most_line_bytes → ReadsCovered job at.reached (trimmed line) clock k places
    → clock.scale ≡ Tdb → ForwardGives job at.reached (trimmed line) (Ok there) → TellsInRange places there → TellsTick clock k there at.answer)
