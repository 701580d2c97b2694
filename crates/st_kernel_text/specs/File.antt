-- A kernel file by its lines, after NAIF's Kernel Required Reading: data
-- stand between the markers \begindata and \begintext, all else is commentary.
use Rattle.std.specs.Prelude.{◌≡◌, ℕ, ◌+◌, ◌<◌, ◌≤◌, Bool, true, false, ◌&&◌, List, [], ◌∷◌, ◌++◌, length, drop, map, codes, nat_eq, Result, Ok, Err, ⊤, ◌⊎◌, if◌then◌else◌}
use Rattle.std.specs.List.{list_all, starts_with}
use Rattle.st_text.specs.Ascii.{line_feed}
use Rattle.st_kernel_text.specs.Limits.{most_line_bytes}
use Rattle.st_text.specs.Bytes.{is_blank}
use Rattle.st_text.specs.Lines.{skip_blanks, lines_of}
use Rattle.st_kernel_text.specs.Bytes.{is_allowed}
use Rattle.st_kernel_text.specs.Faults.{Row, Stands, HasFault, IsUnfinished}
use Rattle.st_kernel_text.specs.Grammar.{Data, SpellsAll}
use Rattle.st_kernel_text.specs.declared.assignment.Assignment.{Assignment}
use Rattle.st_kernel_text.specs.declared.fault.TextCause.{TextCause}
use Rattle.st_kernel_text.specs.declared.fault.TextCause.TheVariants.{LineTooLong, BadByte}
use Rattle.st_kernel_text.specs.declared.fault.TextFault.{TextFault}
use Rattle.st_kernel_text.specs.declared.fault.TextFault.TheVariants.{At, OutOfMemory}

-- the word alone, with blanks around it
unfoldable pub is_marker : List ℕ → List ℕ → Bool
is_marker word line =
    starts_with nat_eq (skip_blanks line) word && list_all is_blank (drop (length word) (skip_blanks line))

abbrev pub begins_data : List ℕ → Bool
begins_data line = is_marker (codes "\\begindata") line

abbrev pub begins_text : List ℕ → Bool
begins_text line = is_marker (codes "\\begintext") line

-- whether a line stands among data, where the one before it does or not
abbrev pub is_data : Bool → List ℕ → Bool
is_data reading line = if begins_data line then false else (if begins_text line then false else reading)

-- whether the line after it does
abbrev pub reads_after : Bool → List ℕ → Bool
reads_after reading line = if begins_data line then true else (if begins_text line then false else reading)

abbrev pub reads_behind : Bool → List (List ℕ) → Bool
reads_behind reading [] = reading
reads_behind reading (line ∷ more) = reads_behind (reads_after reading line) more

-- the bytes of a line after its number
abbrev pub numbered : ℕ → List ℕ → Data
numbered n line = map (λ b. (n, b)) line

abbrev pub line_data : Bool → ℕ → List ℕ → Data
line_data reading n line = if is_data reading line then numbered n line ++ (n, line_feed) ∷ [] else []

-- the data lines among lines, of which the first has number n, each with its end
abbrev pub data_text : Bool → ℕ → List (List ℕ) → Data
data_text reading n [] = []
data_text reading n (line ∷ more) = line_data reading n line ++ data_text (reads_after reading line) (n + 1) more

-- short enough, and in data without other bytes than tab and 32 to 126
pub record IsGood (reading : Bool) (line : List ℕ) : Type 0 where
  pub short : length line ≤ most_line_bytes
  pub bytes : is_data reading line ≡ true → list_all is_allowed line ≡ true

abbrev pub AreGood : Bool → List (List ℕ) → Type 0
AreGood reading [] = ⊤
AreGood reading (line ∷ more) = IsGood reading line × AreGood (reads_after reading line) more

abbrev pub IsTooLong : List ℕ → TextCause → Type 0
IsTooLong line cause = (most_line_bytes < length line) × (cause ≡ LineTooLong)

pub record HasBadByte (reading : Bool) (line : List ℕ) (cause : TextCause) : Type 0 where
  pub short : length line ≤ most_line_bytes
  pub in_data : is_data reading line ≡ true
  pub bytes : list_all is_allowed line ≡ false
  pub cause_is : cause ≡ BadByte

-- the file reads to these assignments
pub record ReadsTo (bytes : List ℕ) (list : List Assignment) : Type 0 where
  pub good : AreGood false (lines_of bytes)
  pub spells : SpellsAll list (data_text false 1 (lines_of bytes))

-- a line that is not good, where the data of the lines before it are spelled as they should be
pub record HasBadLine (bytes : List ℕ) (n : ℕ) (cause : TextCause) : Type 0 where
  pub front : List (List ℕ)
  pub line : List ℕ
  pub more : List (List ℕ)
  pub row : Row
  pub good : AreGood false front
  pub stands : Stands row (data_text false 1 front) []
  pub bad : IsTooLong line cause ⊎ HasBadByte (reads_behind false front) line cause
  pub number : n ≡ 1 + length front
  pub whole : lines_of bytes ≡ front ++ line ∷ more

-- a token that breaks in the data of good lines
pub record HasBadToken (bytes : List ℕ) (n : ℕ) (cause : TextCause) : Type 0 where
  pub front : List (List ℕ)
  pub more : List (List ℕ)
  pub good : AreGood false front
  pub fault : HasFault (data_text false 1 front) n cause
  pub whole : lines_of bytes ≡ front ++ more

-- data that end after a sign or in a list
pub record HasNoEnd (bytes : List ℕ) (n : ℕ) (cause : TextCause) : Type 0 where
  pub row : Row
  pub good : AreGood false (lines_of bytes)
  pub stands : Stands row (data_text false 1 (lines_of bytes)) []
  pub unfinished : IsUnfinished row n cause

-- what reading a file may answer
abbrev pub Reads : List ℕ → Result (List Assignment) TextFault → Type 0
Reads bytes (Ok list) = ReadsTo bytes list
Reads bytes (Err (At n cause)) = HasBadLine bytes n cause ⊎ (HasBadToken bytes n cause ⊎ HasNoEnd bytes n cause)
Reads bytes (Err OutOfMemory) = ⊤

-- two answers are one, where memory was not refused to either
abbrev pub Agree : {A : Type 0} → Result A TextFault → Result A TextFault → Type 0
Agree (Err OutOfMemory) b = ⊤
Agree a (Err OutOfMemory) = ⊤
Agree a b = a ≡ b
