-- A kernel file of which the first bytes are known. A fault of the file is certain, however it goes
-- on, as soon as a line feed has ended its line, or as the begun line is too long: any other fault
-- of a begun line gives way to its length. The limit of a line is this project's own.
use Rattle.std.specs.Prelude.{◌≡◌, ℕ, ◌+◌, ◌≤◌, List, [], ◌∷◌, ◌++◌, length, false, IsTrue, Option, Some, None, Result, Ok, Err, ⊤, ◌⊎◌}
use Rattle.std.specs.List.{list_all}
use Rattle.st_text.specs.Ascii.{line_feed}
use Rattle.st_text.specs.Lines.{without_cr, lines_of}
use Rattle.st_kernel_text.specs.Faults.{Row, Stands}
use Rattle.st_kernel_text.specs.File.{AreGood, IsTooLong, data_text, HasBadLine, HasBadToken}
use Rattle.st_kernel_text.specs.Limits.{most_line_bytes}
use Rattle.st_kernel_text.specs.Values.{is_no_line_end}
use Rattle.st_kernel_text.specs.declared.fault.TextCause.{TextCause}
use Rattle.st_kernel_text.specs.declared.fault.TextFault.{TextFault}
use Rattle.st_kernel_text.specs.declared.fault.TextFault.TheVariants.{At, OutOfMemory}

-- nothing, or lines of which each is ended
abbrev pub IsEnded : List ℕ → Type 0
IsEnded bytes = (bytes ≡ []) ⊎ ((front : List ℕ) × (bytes ≡ front ++ line_feed ∷ []))

abbrev pub HasNoFeed : List ℕ → Type 0
HasNoFeed bytes = IsTrue (list_all is_no_line_end bytes)

-- the bytes are ended lines without a fault, and a line that is begun
pub record GoesOn (bytes ended begun : List ℕ) : Type 0 where
  pub row : Row
  pub ended_is : IsEnded ended
  pub begun_is : HasNoFeed begun
  pub good : AreGood false (lines_of ended)
  pub stands : Stands row (data_text false 1 (lines_of ended)) []
  pub whole : bytes ≡ ended ++ begun

-- no fault is certain: the begun line isn't too long, where a CR at its end could be that of its end
pub record HasNoFaultYet (bytes : List ℕ) : Type 0 where
  pub ended : List ℕ
  pub begun : List ℕ
  pub goes_on : GoesOn bytes ended begun
  pub short : length (without_cr begun) ≤ most_line_bytes

-- the bytes end in a line that is too long, however it goes on
pub record EndsTooLong (bytes : List ℕ) (n : ℕ) (cause : TextCause) : Type 0 where
  pub ended : List ℕ
  pub begun : List ℕ
  pub goes_on : GoesOn bytes ended begun
  pub long : IsTooLong (without_cr begun) cause
  pub number : n ≡ 1 + length (lines_of ended)

-- the fault is certain by the end of these bytes
abbrev pub FailsAtEnd : List ℕ → ℕ → TextCause → Type 0
FailsAtEnd bytes n cause =
    (IsEnded bytes × (HasBadLine bytes n cause ⊎ HasBadToken bytes n cause)) ⊎ EndsTooLong bytes n cause

-- it is certain by the end of some of the first bytes
pub record HasFaultYet (bytes : List ℕ) (n : ℕ) (cause : TextCause) : Type 0 where
  pub front : List ℕ
  pub more : List ℕ
  pub fails : FailsAtEnd front n cause
  pub whole : bytes ≡ front ++ more

-- what reading the first bytes of a file may answer
abbrev pub ReadsSoFar : List ℕ → Result (Unit {0}) TextFault → Type 0
ReadsSoFar bytes (Ok _) = HasNoFaultYet bytes
ReadsSoFar bytes (Err (At n cause)) = HasFaultYet bytes n cause
ReadsSoFar bytes (Err OutOfMemory) = ⊤

abbrev pub fault_of : {A : Type 0} → Result A TextFault → Option TextFault
fault_of (Ok _) = None
fault_of (Err fault) = Some fault
