-- A reader as its callers see it, and the bytes that it was fed.
use Rattle.std.specs.Prelude.{◌≡◌, ℕ, List, Option, Some, None, Ok, ⊤}
use Rattle.st_kernel_text.specs.Fault.{fails}
use Rattle.st_kernel_text.specs.PiecesMachine.{fed_of}
use Rattle.st_kernel_text.specs.declared.fault.TextFault.{TextFault}
use Rattle.st_kernel_text.specs.declared.fault.TextFault.TheVariants.{At, OutOfMemory}
use Rattle.st_kernel_text.specs.declared.lines.Reading.{Reading}

pub record Reader : Type 0 where
  -- how many bytes it was fed
  pub count : ℕ
  -- what it answers from now on, where it has answered a fault
  pub failed : Option TextFault
  pub reading : Reading

abbrev pub FedTo : List ℕ → Option TextFault → Reading → Type 0
FedTo bytes None reading = fed_of bytes ≡ Ok reading
FedTo bytes (Some (At n cause)) reading = fed_of bytes ≡ fails n cause
FedTo bytes (Some OutOfMemory) reading = ⊤

-- The reader was fed these bytes since it was made: a new one none, and each feeding one more piece,
-- which is all that callers need of it. Where memory was refused nothing is known of the bytes.
abbrev pub Fed : List ℕ → Reader → Type 0
Fed bytes reader = FedTo bytes reader.failed reader.reading
