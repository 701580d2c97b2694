-- What the definition of a text kernel says by itself. Want of memory is no answer of a file.
use Rattle.std.specs.Prelude.{◌≡◌, ◌≢◌, ℕ, List, Result, Err}
use Rattle.st_kernel_text.specs.File.{Reads}
use Rattle.st_kernel_text.specs.declared.assignment.Assignment.{Assignment}
use Rattle.st_kernel_text.specs.declared.fault.TextFault.{TextFault}
use Rattle.st_kernel_text.specs.declared.fault.TextFault.TheVariants.{OutOfMemory}

-- Each file reads to its assignments, or has a first fault.
abbrev pub EachFileHasAnswer : Type 0
EachFileHasAnswer = (bytes : List ℕ) → (answer : Result (List Assignment) TextFault) × Reads bytes answer × (answer ≢ Err OutOfMemory)

-- And it has one answer.
abbrev pub OneAnswer : Type 0
OneAnswer =
    (bytes : List ℕ) (a b : Result (List Assignment) TextFault)
    → Reads bytes a → Reads bytes b → a ≢ Err OutOfMemory → b ≢ Err OutOfMemory → a ≡ b
