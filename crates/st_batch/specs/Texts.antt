-- The lines that are written, and the numbers of statuses. They are this project's own.
use Rattle.std.specs.Prelude.{ℕ, List, [], ◌∷◌, ◌++◌, codes, map}
use Rattle.st_samples.specs.Summary as counted
use Rattle.st_samples.specs.Summary.{AnswerLine, summary_of, summary_text}
use Rattle.st_words.specs.Text.{fault_text}
use Rattle.st_words.specs.declared.fault.WordFault.{WordFault}
use Rattle.st_refusals.specs.Texts.{refusal_text}
use Rattle.st_refusals.specs.declared.fault.LineFault.{LineFault}
use Rattle.st_batch.specs.declared.answer.Answer.{Answer}
use Rattle.st_batch.specs.declared.answer.Answer.TheVariants.{Text, Refused}
use Rattle.st_batch.specs.declared.status.Status.{Status}
use Rattle.st_batch.specs.declared.status.Status.TheVariants.{Done, SomeRefused, BadWords, BadSetup, ReadFault, WriteFault, OutOfMemory, InputTooLong}

-- an answer as a line of the output; 10 is the line feed
abbrev pub line_of : Answer → List ℕ
line_of (Text text) = text ++ (10 ∷ [])
line_of (Refused cause) = codes "refused " ++ (refusal_text cause ++ (10 ∷ []))

-- an answer as a sample counts it: as it is written, without the line feed
abbrev pub as_counted : Answer → AnswerLine
as_counted (Text text) = counted.text text
as_counted (Refused cause) = counted.refusal (codes "refused " ++ refusal_text cause)

-- the line that a sample writes for its answers
abbrev pub summary_line : List Answer → List ℕ
summary_line answers = summary_text (summary_of (map as_counted answers)) ++ (10 ∷ [])

-- the line that says why the setup is refused
abbrev pub setup_line : LineFault → List ℕ
setup_line cause = codes "bad setup " ++ (refusal_text cause ++ (10 ∷ []))

-- the line that says why the words are refused
abbrev pub words_line : WordFault → List ℕ
words_line fault = codes "bad words " ++ (fault_text fault ++ (10 ∷ []))

-- the exit status
abbrev pub code_of : Status → ℕ
code_of Done = 0
code_of SomeRefused = 1
code_of (BadWords w) = 2
code_of (BadSetup c) = 3
code_of ReadFault = 4
code_of WriteFault = 5
code_of OutOfMemory = 6
code_of InputTooLong = 7
