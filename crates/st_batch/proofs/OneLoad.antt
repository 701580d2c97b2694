-- A file that tells its bytes gives one thing to a loaded list, unless it is faulty.
use Rattle.std.proofs.Common.{◌≡◌, ◌≢◌, ℕ, ◌+◌, ◌<◌, ◌≤◌, ◌⊎◌, inl, inr, Option, Some, None, Result, Ok, Err, List, [], ◌∷◌, ◌++◌, length, refl, sym, ap, ◌∙◌, arith}
use Rattle.std.proofs.lemmas.Bool.{cases_lt}
use Rattle.st_kernel_text.specs.File.{Reads}
use Rattle.st_kernel_text.specs.declared.assignment.Assignment.{Assignment}
use Rattle.st_kernel_text.specs.declared.fault.TextCause.{TextCause}
use Rattle.st_kernel_text.specs.declared.fault.TextFault.{TextFault}
use Rattle.st_kernel_text.specs.declared.fault.TextFault.TheVariants as text_fault
use Rattle.st_outside.specs.Entries.{Entries, bytes_of}
use Rattle.st_pool.specs.Loaded.{value_count, loaded_count}
use Rattle.st_pool.specs.declared.kernel.Kernel.{Kernel}
use Rattle.st_refusals.specs.declared.kernel_fault.KernelFault.{KernelFault}
use Rattle.st_refusals.specs.declared.kernel_fault.KernelFault.TheVariants.{NoFile, FileFault, FileTooLong, KernelText, TooManyKernels, TooManyValues, OutOfMemory}
use Rattle.st_batch.specs.declared.load.TheConstants.{MAX_FILE}
use Rattle.st_batch.specs.Laws.{EveryLoadingGives, OneLoading}
use Rattle.st_batch.specs.Load.{LoadGives, Takes}
use Rattle.st_batch.specs.Setting.{Loaded}
use Rattle.st_kernel_text.proofs.FileAnswers as text

abbrev Loading : Type 0
Loading = Result Loaded KernelFault

-- what a kernel gives by the place and the room that are left
abbrev by_room : (loaded : Loaded) (kernel : Kernel) → (length loaded < 1000) ⊎ (1000 ≤ length loaded)
    → (2_000_000 < loaded_count loaded + value_count kernel.assignments) ⊎ (loaded_count loaded + value_count kernel.assignments ≤ 2_000_000) → Loading
by_room loaded kernel (inr full) room = Err TooManyKernels
by_room loaded kernel (inl few) (inl much) = Err TooManyValues
by_room loaded kernel (inl few) (inr fits) = Ok (loaded ++ kernel ∷ [])

abbrev taken_by : Loaded → Kernel → Loading
taken_by loaded kernel = by_room loaded kernel (cases_lt (length loaded) 1000) (cases_lt 2_000_000 (loaded_count loaded + value_count kernel.assignments))

abbrev kernel_of : List ℕ → List Assignment → Kernel
kernel_of name list = record { name = name; assignments = list }

-- by what the file reads to
abbrev by_text : Loaded → List ℕ → Result (List Assignment) TextFault → Loading
by_text loaded name (Ok list) = taken_by loaded (kernel_of name list)
by_text loaded name (Err (text_fault.At n cause)) = Err (KernelText n cause)
by_text loaded name (Err text_fault.OutOfMemory) = Err NoFile

-- by how long the file is
abbrev by_length : (loaded : Loaded) (name bytes : List ℕ) → (MAX_FILE < length bytes) ⊎ (length bytes ≤ MAX_FILE) → Loading
by_length loaded name bytes (inl long) = Err FileTooLong
by_length loaded name bytes (inr few) = by_text loaded name (text.each-file-has-answer bytes).0

-- by whether it is there
abbrev by_bytes : Loaded → List ℕ → Option (List ℕ) → Loading
by_bytes loaded name None = Err NoFile
by_bytes loaded name (Some bytes) = by_length loaded name bytes (cases_lt MAX_FILE (length bytes))

abbrev given_by : Entries → Loaded → List ℕ → Loading
given_by files loaded name = by_bytes loaded name (bytes_of name files)

-- a loading that names no fault of the files
abbrev pub IsSound : Option Entries → Loaded → List ℕ → Loading → Type 0
IsSound files loaded name r = LoadGives files loaded name r × (r ≢ Err FileFault)

-- a loaded list takes a kernel or refuses it
room-sound : (files : Entries) (loaded : Loaded) (name bytes : List ℕ) (list : List Assignment) (few : (length loaded < 1000) ⊎ (1000 ≤ length loaded))
    (room : (2_000_000 < loaded_count loaded + value_count list) ⊎ (loaded_count loaded + value_count list ≤ 2_000_000))
    → bytes_of name files ≡ Some bytes → length bytes ≤ MAX_FILE → Reads bytes (Ok list) → IsSound (Some files) loaded name (by_room loaded (kernel_of name list) few room)
room-sound files loaded name bytes list (inr full) room has short reads = (record { bytes = bytes; has = has; few = short; gives = (list, reads, full) }, λ e. cc)
room-sound files loaded name bytes list (inl few) (inl much) has short reads = (record { bytes = bytes; has = has; few = short; gives = (list, reads, (few, much)) }, λ e. cc)
room-sound files loaded name bytes list (inl few) (inr fits) has short reads = (record { bytes = bytes; has = has; few = short; gives = (list, reads, (few, fits, refl)) }, λ e. cc)

text-sound : (files : Entries) (loaded : Loaded) (name bytes : List ℕ) (r : Result (List Assignment) TextFault) → bytes_of name files ≡ Some bytes → length bytes ≤ MAX_FILE
    → Reads bytes r → r ≢ Err text_fault.OutOfMemory → IsSound (Some files) loaded name (by_text loaded name r)
text-sound files loaded name bytes (Ok list) has few reads not =
    room-sound files loaded name bytes list (cases_lt (length loaded) 1000) (cases_lt 2_000_000 (loaded_count loaded + value_count list)) has few reads
text-sound files loaded name bytes (Err (text_fault.At n cause)) has few reads not = (record { bytes = bytes; has = has; few = few; gives = reads }, λ e. cc)
text-sound files loaded name bytes (Err text_fault.OutOfMemory) has few reads not = absurd (not refl)

length-sound : (files : Entries) (loaded : Loaded) (name bytes : List ℕ) (d : (MAX_FILE < length bytes) ⊎ (length bytes ≤ MAX_FILE)) → bytes_of name files ≡ Some bytes
    → IsSound (Some files) loaded name (by_length loaded name bytes d)
length-sound files loaded name bytes (inl long) has = ((bytes, has, long), λ e. cc)
length-sound files loaded name bytes (inr few) has =
    let a = text.each-file-has-answer bytes in
    text-sound files loaded name bytes a.0 has few a.1 a.2

bytes-sound : (files : Entries) (loaded : Loaded) (name : List ℕ) (o : Option (List ℕ)) → bytes_of name files ≡ o → IsSound (Some files) loaded name (by_bytes loaded name o)
bytes-sound files loaded name None e = (e, λ e. cc)
bytes-sound files loaded name (Some bytes) e = length-sound files loaded name bytes (cases_lt MAX_FILE (length bytes)) e

-- every name gives something
pub some-load : EveryLoadingGives
some-load None loaded name = (Err NoFile, tt, λ e. cc)
some-load (Some files) loaded name =
    let s = bytes-sound files loaded name (bytes_of name files) refl in
    (given_by files loaded name, s.0, s.1)

no-memory : (n : ℕ) (cause : TextCause) → ◌≢◌ {A = Result (List Assignment) TextFault} (Err (text_fault.At n cause)) (Err text_fault.OutOfMemory)
no-memory n cause = λ e. cc

not-memory : (list : List Assignment) → ◌≢◌ {A = Result (List Assignment) TextFault} (Ok list) (Err text_fault.OutOfMemory)
not-memory list = λ e. cc

short-read : (loaded : Loaded) (name bytes : List ℕ) (d : (MAX_FILE < length bytes) ⊎ (length bytes ≤ MAX_FILE)) → length bytes ≤ MAX_FILE
    → by_length loaded name bytes d ≡ by_text loaded name (text.each-file-has-answer bytes).0
short-read loaded name bytes (inl long) few = absurd (omega arith)
short-read loaded name bytes (inr d) few = refl

reads-given : (files : Entries) (loaded : Loaded) (name bytes : List ℕ) (r : Result (List Assignment) TextFault) → bytes_of name files ≡ Some bytes → length bytes ≤ MAX_FILE
    → Reads bytes r → r ≢ Err text_fault.OutOfMemory → by_text loaded name r ≡ given_by files loaded name
reads-given files loaded name bytes r has few reads not =
    let a = text.each-file-has-answer bytes in
    ap (by_text loaded name) (text.one-answer bytes r a.0 reads a.1 not a.2)
    ∙ sym (ap (by_bytes loaded name) has ∙ short-read loaded name bytes (cases_lt MAX_FILE (length bytes)) few)

long-given : (loaded : Loaded) (name bytes : List ℕ) (d : (MAX_FILE < length bytes) ⊎ (length bytes ≤ MAX_FILE)) → MAX_FILE < length bytes
    → by_length loaded name bytes d ≡ Err FileTooLong
long-given loaded name bytes (inl d) long = refl
long-given loaded name bytes (inr few) long = absurd (omega arith)

-- a loaded list makes one thing of a kernel
takes-one : (loaded : Loaded) (kernel : Kernel) (few : (length loaded < 1000) ⊎ (1000 ≤ length loaded))
    (room : (2_000_000 < loaded_count loaded + value_count kernel.assignments) ⊎ (loaded_count loaded + value_count kernel.assignments ≤ 2_000_000)) (r : Loading)
    → Takes loaded kernel r → r ≡ by_room loaded kernel few room
takes-one loaded kernel (inr full) room (Ok after) (f, v, e) = absurd (omega arith)
takes-one loaded kernel (inl few) (inl much) (Ok after) (f, v, e) = absurd (omega arith)
takes-one loaded kernel (inl few) (inr fits) (Ok after) (f, v, e) = ap Ok e
takes-one loaded kernel (inr full) room (Err TooManyKernels) h = refl
takes-one loaded kernel (inl few) room (Err TooManyKernels) h = absurd (omega arith)
takes-one loaded kernel (inr full) room (Err TooManyValues) (f, v) = absurd (omega arith)
takes-one loaded kernel (inl few) (inl much) (Err TooManyValues) (f, v) = refl
takes-one loaded kernel (inl few) (inr fits) (Err TooManyValues) (f, v) = absurd (omega arith)
takes-one loaded kernel few room (Err NoFile) h = absurd h
takes-one loaded kernel few room (Err FileFault) h = absurd h
takes-one loaded kernel few room (Err FileTooLong) h = absurd h
takes-one loaded kernel few room (Err (KernelText n cause)) h = absurd h
takes-one loaded kernel few room (Err OutOfMemory) h = absurd h

kernel-given : (files : Entries) (loaded : Loaded) (name bytes : List ℕ) (r : Loading) → bytes_of name files ≡ Some bytes → length bytes ≤ MAX_FILE
    → (list : List Assignment) × Reads bytes (Ok list) × Takes loaded (kernel_of name list) r → r ≡ given_by files loaded name
kernel-given files loaded name bytes r has few (list, reads, takes) =
    takes-one loaded (kernel_of name list) (cases_lt (length loaded) 1000) (cases_lt 2_000_000 (loaded_count loaded + value_count list)) r takes
    ∙ reads-given files loaded name bytes (Ok list) has few reads (not-memory list)

-- and only one thing
only-load : (files : Entries) (loaded : Loaded) (name : List ℕ) (r : Loading) → LoadGives (Some files) loaded name r → r ≢ Err FileFault → r ≡ given_by files loaded name
only-load files loaded name (Ok after) h not = kernel-given files loaded name h.bytes (Ok after) h.has h.few h.gives
only-load files loaded name (Err NoFile) h not = sym (ap (by_bytes loaded name) h)
only-load files loaded name (Err FileFault) h not = absurd (not refl)
only-load files loaded name (Err FileTooLong) (bytes, has, long) not =
    sym (ap (by_bytes loaded name) has ∙ long-given loaded name bytes (cases_lt MAX_FILE (length bytes)) long)
only-load files loaded name (Err (KernelText n cause)) h not =
    reads-given files loaded name h.bytes (Err (text_fault.At n cause)) h.has h.few h.gives (no-memory n cause)
only-load files loaded name (Err TooManyKernels) h not = kernel-given files loaded name h.bytes (Err TooManyKernels) h.has h.few h.gives
only-load files loaded name (Err TooManyValues) h not = kernel-given files loaded name h.bytes (Err TooManyValues) h.has h.few h.gives
only-load files loaded name (Err OutOfMemory) h not = absurd h

-- two loadings that name no fault are one
pub one-load : OneLoading
one-load files loaded name r s h k m n = only-load files loaded name r h m ∙ sym (only-load files loaded name s k n)
