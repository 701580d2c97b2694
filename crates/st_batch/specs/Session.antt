-- The session: each line takes the loaded list to the line's answer and to the next loaded list.
use Rattle.std.specs.Prelude.{◌≡◌, ℕ, ◌<◌, ◌≤◌, true, false, List, [], ◌∷◌, length, ◌⊎◌}
use Rattle.st_text.specs.Lines.{trimmed}
use Rattle.st_batch.specs.declared.answer.Answer.{Answer}
use Rattle.st_batch.specs.declared.answer.Answer.TheVariants.{Refused}
use Rattle.st_refusals.specs.declared.fault.LineFault.TheVariants.{LineTooLong}
use Rattle.st_batch.specs.Commands.{CommandGives, begins_command}
use Rattle.st_batch.specs.Limits.{most_line_bytes}
use Rattle.st_batch.specs.Setting.{Loaded, Setting}
use Rattle.st_batch.specs.Times.{TimeAnswered}

-- The answer of a text between the blanks of a line, with the loaded list after it. A time leaves the list.
abbrev pub TextGives : Setting → Loaded → List ℕ → Answer → Loaded → Type 0
TextGives s loaded text answer after =
    ((begins_command text ≡ true) × CommandGives s.files loaded text answer after)
    ⊎ ((begins_command text ≡ false) × TimeAnswered s.job loaded text answer × (after ≡ loaded))

-- A line may be given an answer, with this loaded list after it.
abbrev pub MayAnswer : Setting → Loaded → List ℕ → Answer → Loaded → Type 0
MayAnswer s loaded line answer after =
    ((most_line_bytes < length line) × (answer ≡ Refused LineTooLong) × (after ≡ loaded))
    ⊎ ((length line ≤ most_line_bytes) × TextGives s loaded (trimmed line) answer after)

-- each line may be given its answer, by the loaded list that the lines before it leave
abbrev pub RunsTo : Setting → Loaded → List (List ℕ) → List Answer → Loaded → Type 0
RunsTo s loaded [] [] after = after ≡ loaded
RunsTo s loaded [] (a ∷ answers) after = ⊥
RunsTo s loaded (line ∷ lines) [] after = ⊥
RunsTo s loaded (line ∷ lines) (a ∷ answers) after =
    (next : Loaded) × MayAnswer s loaded line a next × RunsTo s next lines answers after
