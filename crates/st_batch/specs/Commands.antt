-- The commands of a session, which are this project's own: `$load N`, `$unload N` and `$clear`.
use Rattle.std.specs.Prelude.{◌≡◌, ◌≢◌, ℕ, ◌≤◌, Bool, true, false, ◌==◌, IsTrue, IsUtf8, Option, Result, Ok, Err, List, [], ◌∷◌, ◌++◌, length, codes, ◌⊎◌}
use Rattle.st_outside.specs.Entries.{Entries}
use Rattle.st_pool.specs.Loaded.{is_loaded, without_last}
use Rattle.st_text.specs.Bytes.{are_blanks}
use Rattle.st_text.specs.Lines.{skip_blanks}
use Rattle.st_batch.specs.declared.answer.Answer.{Answer}
use Rattle.st_batch.specs.declared.answer.Answer.TheVariants.{Text, Refused}
use Rattle.st_refusals.specs.declared.kernel_fault.KernelFault.{KernelFault}
use Rattle.st_refusals.specs.declared.fault.LineFault.TheVariants.{BadCommand, NotLoaded}
use Rattle.st_batch.specs.Limits.{most_file_name_bytes}
use Rattle.st_batch.specs.Load.{LoadGives}
use Rattle.st_refusals.specs.Faults.{line_fault}
use Rattle.st_batch.specs.Setting.{Loaded}

-- a name by which a file may be loaded: UTF-8 of 1 to 255 bytes
pub record IsFileName (name : List ℕ) : Type 0 where
  pub some : 1 ≤ length name
  pub short : length name ≤ most_file_name_bytes
  pub utf8 : IsUtf8 name

-- the text is a word, some blanks, and a name, which begins after the last of them
pub record NamesFile (word text name : List ℕ) : Type 0 where
  pub blanks : List ℕ
  pub spelled : text ≡ word ++ (blanks ++ name)
  pub some : 1 ≤ length blanks
  pub blank : IsTrue (are_blanks blanks)
  pub behind : skip_blanks name ≡ name
  pub is_name : IsFileName name

abbrev pub IsLoad : List ℕ → List ℕ → Type 0
IsLoad text name = NamesFile (codes "$load") text name

abbrev pub IsUnload : List ℕ → List ℕ → Type 0
IsUnload text name = NamesFile (codes "$unload") text name

abbrev pub IsClear : List ℕ → Type 0
IsClear text = text ≡ codes "$clear"

-- the text loads no file
abbrev pub IsNoLoad : List ℕ → Type 0
IsNoLoad text = (name : List ℕ) → IsLoad text name → ⊥

-- whether a text begins with `$` (36), as commands do and times don't
abbrev pub begins_command : List ℕ → Bool
begins_command [] = false
begins_command (b ∷ bs) = b == 36

-- the text is none of the three commands
pub record IsNoCommand (text : List ℕ) : Type 0 where
  pub load : IsNoLoad text
  pub unload : (name : List ℕ) → IsUnload text name → ⊥
  pub clear : text ≢ codes "$clear"

-- what a loading is answered, by what it gives
abbrev pub load_answer : Result Loaded KernelFault → Answer
load_answer (Ok after) = Text (codes "loaded")
load_answer (Err fault) = Refused (line_fault fault)

-- the loaded list after a loading; a refusal leaves it
abbrev pub after_load : Loaded → Result Loaded KernelFault → Loaded
after_load loaded (Ok after) = after
after_load loaded (Err fault) = loaded

-- the answer of loading the file of this name, with the loaded list after it
pub record LoadAnswers (files : Option Entries) (loaded : Loaded) (name : List ℕ) (answer : Answer) (after : Loaded) : Type 0 where
  pub result : Result Loaded KernelFault
  pub given : LoadGives files loaded name result
  pub answered : answer ≡ load_answer result
  pub left : after ≡ after_load loaded result

-- what an unloading is answered, by whether a kernel of the name is loaded
abbrev pub unload_answer : Bool → Answer
unload_answer true = Text (codes "unloaded")
unload_answer false = Refused NotLoaded

-- the answer of unloading the last kernel of this name, with the loaded list after it
pub record UnloadAnswers (loaded : Loaded) (name : List ℕ) (answer : Answer) (after : Loaded) : Type 0 where
  pub answered : answer ≡ unload_answer (is_loaded name loaded)
  pub left : after ≡ without_last name loaded

-- The answer of a text that begins with `$`, with the loaded list after it: it is one of the three commands, or none.
abbrev pub CommandGives : Option Entries → Loaded → List ℕ → Answer → Loaded → Type 0
CommandGives files loaded text answer after =
    ((name : List ℕ) × IsLoad text name × LoadAnswers files loaded name answer after)
    ⊎ (((name : List ℕ) × IsUnload text name × UnloadAnswers loaded name answer after)
    ⊎ ((IsClear text × (answer ≡ Text (codes "cleared")) × (after ≡ []))
    ⊎ (IsNoCommand text × (answer ≡ Refused BadCommand) × (after ≡ loaded))))
