-- What loading a file by its name gives. What the files hold is an option: nothing is said of files that don't tell it.
use Rattle.std.specs.Prelude.{◌≡◌, ℕ, ◌+◌, ◌<◌, ◌≤◌, Option, Some, None, Result, Ok, Err, List, [], ◌∷◌, ◌++◌, length, ⊤}
use Rattle.st_kernel_text.specs.File.{Reads}
use Rattle.st_kernel_text.specs.declared.assignment.Assignment.{Assignment}
use Rattle.st_kernel_text.specs.declared.fault.TextFault.TheVariants as text
use Rattle.st_outside.specs.Entries.{Entries, bytes_of, IsAbsent}
use Rattle.st_pool.specs.Limits.{most_kernels, most_values}
use Rattle.st_pool.specs.Loaded.{value_count, loaded_count}
use Rattle.st_pool.specs.declared.kernel.Kernel.{Kernel}
use Rattle.st_refusals.specs.declared.kernel_fault.KernelFault.{KernelFault}
use Rattle.st_refusals.specs.declared.kernel_fault.KernelFault.TheVariants.{NoFile, FileFault, FileTooLong, KernelText, TooManyKernels, TooManyValues, OutOfMemory}
use Rattle.st_batch.specs.Limits.{most_file_bytes}
use Rattle.st_batch.specs.Setting.{Loaded}

-- the file of this name has these bytes
abbrev pub HasFile : Option Entries → List ℕ → List ℕ → Type 0
HasFile None name bytes = ⊤
HasFile (Some files) name bytes = bytes_of name files ≡ Some bytes

-- the file of this name has more bytes than a file may have
abbrev pub HasLongFile : Option Entries → List ℕ → Type 0
HasLongFile None name = ⊤
HasLongFile (Some files) name = (bytes : List ℕ) × (bytes_of name files ≡ Some bytes) × (most_file_bytes < length bytes)

-- What a loaded list makes of a kernel: it stands at the end of the new list, where fewer than 1,000 kernels are loaded and
-- the values of all are at most 2,000,000.
abbrev pub Takes : Loaded → Kernel → Result Loaded KernelFault → Type 0
Takes loaded kernel (Ok after) =
    (length loaded < most_kernels) × (loaded_count loaded + value_count kernel.assignments ≤ most_values) × (after ≡ loaded ++ kernel ∷ [])
Takes loaded kernel (Err TooManyKernels) = most_kernels ≤ length loaded
Takes loaded kernel (Err TooManyValues) =
    (length loaded < most_kernels) × (most_values < loaded_count loaded + value_count kernel.assignments)
Takes loaded kernel (Err fault) = ⊥

-- what the bytes of a file give: its first fault as a kernel text, or what the loaded list makes of its assignments
abbrev pub BytesGive : List ℕ → Loaded → List ℕ → Result Loaded KernelFault → Type 0
BytesGive bytes loaded name (Err (KernelText line cause)) = Reads bytes (Err (text.At line cause))
BytesGive bytes loaded name result =
    (list : List Assignment) × Reads bytes (Ok list) × Takes loaded (record { name = name; assignments = list }) result

-- the file of this name has bytes, no more than a file may have, that give this
pub record FileGives (files : Option Entries) (loaded : Loaded) (name : List ℕ) (result : Result Loaded KernelFault) : Type 0 where
  pub bytes : List ℕ
  pub has : HasFile files name bytes
  pub few : length bytes ≤ most_file_bytes
  pub gives : BytesGive bytes loaded name result

-- What a loading may give: the loaded list after it, or why there is none. That a file was faulty is told by the
-- count of faults alone.
abbrev pub LoadGives : Option Entries → Loaded → List ℕ → Result Loaded KernelFault → Type 0
LoadGives files loaded name (Err NoFile) = IsAbsent files name
LoadGives files loaded name (Err FileFault) = ⊤
LoadGives files loaded name (Err FileTooLong) = HasLongFile files name
LoadGives files loaded name (Err OutOfMemory) = ⊥
LoadGives files loaded name result = FileGives files loaded name result
