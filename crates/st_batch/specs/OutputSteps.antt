-- What a sink took of some bytes, and how a run ends that wrote them.
use Rattle.std.specs.Prelude.{◌≡◌, ℕ, Option, List, ◌++◌, ◌⊎◌, ⊤}
use Rattle.std.specs.Io.KnownBytes.{Appends}
use Rattle.st_batch.specs.declared.status.Status.{Status}
use Rattle.st_batch.specs.declared.status.Status.TheVariants.{WriteFault, OutOfMemory}

-- the sink took a beginning of the bytes
abbrev pub TakesPrefix : Option (List ℕ) → Option (List ℕ) → List ℕ → Type 0
TakesPrefix before after bytes = (front rest : List ℕ) × Appends before after front × (bytes ≡ front ++ rest)

-- a run that ends so was cut off by the output or for want of memory
abbrev pub IsCut : Status → Type 0
IsCut WriteFault = ⊤
IsCut OutOfMemory = ⊤
IsCut status = ⊥

-- the sink took the whole output and the run ends as it was to, or the sink took a beginning of it
abbrev pub Delivers : List ℕ → Status → Option (List ℕ) → Option (List ℕ) → Status → Type 0
Delivers output wanted before after status =
    (Appends before after output × (status ≡ wanted)) ⊎ (TakesPrefix before after output × IsCut status)
