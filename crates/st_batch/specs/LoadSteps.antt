-- What the parts of a loading give: the reading of the file, and of its text.
use Rattle.std.specs.Prelude.{◌≡◌, ℕ, ◌<◌, ◌≤◌, Option, Some, None, Result, Err, List, length, ⊤}
use Rattle.std.specs.Io.KnownBytes.{Consumes}
use Rattle.st_kernel_text.specs.File.{Reads}
use Rattle.st_kernel_text.specs.Reader.{Reader, Fed}
use Rattle.st_kernel_text.specs.declared.assignment.Assignment.{Assignment}
use Rattle.st_kernel_text.specs.declared.fault.TextFault.{TextFault}
use Rattle.st_kernel_text.specs.declared.fault.TextFault.TheVariants as text
use Rattle.st_outside.specs.Entries.{Entries}
use Rattle.st_refusals.specs.declared.kernel_fault.KernelFault.{KernelFault}
use Rattle.st_refusals.specs.declared.kernel_fault.KernelFault.TheVariants.{FileFault, FileTooLong, KernelText, OutOfMemory}
use Rattle.st_batch.specs.Limits.{most_file_bytes}
use Rattle.st_batch.specs.Load.{HasFile}

-- the file of this name has bytes, no more than a file may have, that read to this
pub record FileReads (files : Option Entries) (name : List ℕ) (result : Result (List Assignment) TextFault) : Type 0 where
  pub bytes : List ℕ
  pub has : HasFile files name bytes
  pub few : length bytes ≤ most_file_bytes
  pub reads : Reads bytes result

-- what is left to read is these bytes
abbrev pub IsRest : Option (List ℕ) → List ℕ → Type 0
IsRest None bytes = ⊤
IsRest (Some left) bytes = left ≡ bytes

-- what is left to read is longer than a number of bytes
abbrev pub IsLongRest : Option (List ℕ) → ℕ → Type 0
IsLongRest None count = ⊤
IsLongRest (Some left) count = count < length left

-- what is left to read is bytes, no more than a file may have, that read to this
pub record RestReads (left : Option (List ℕ)) (result : Result (List Assignment) TextFault) : Type 0 where
  pub bytes : List ℕ
  pub rest : IsRest left bytes
  pub few : length bytes ≤ most_file_bytes
  pub reads : Reads bytes result

-- the reader was fed what was left to read, no more than a file may have
pub record FedRest (left : Option (List ℕ)) (reader : Reader) : Type 0 where
  pub bytes : List ℕ
  pub rest : IsRest left bytes
  pub few : length bytes ≤ most_file_bytes
  pub fed : Fed bytes reader

-- the reader was fed this many bytes, which were left to read before and aren't now
pub record FedPart (before now : Option (List ℕ)) (reader : Reader) (count : ℕ) : Type 0 where
  pub bytes : List ℕ
  pub consumed : Consumes before now bytes
  pub counted : length bytes ≡ count
  pub fed : Fed bytes reader

-- why the rest of an open file isn't read to its end
abbrev pub Stops : Option (List ℕ) → KernelFault → Type 0
Stops left FileFault = ⊤
Stops left FileTooLong = IsLongRest left most_file_bytes
Stops left fault = ⊥

-- why the rest of an open file gives no assignments; want of memory is free
abbrev pub RestRefuses : Option (List ℕ) → KernelFault → Type 0
RestRefuses left (KernelText line cause) = RestReads left (Err (text.At line cause))
RestRefuses left OutOfMemory = ⊤
RestRefuses left fault = Stops left fault
