-- A refusal of a loading as the refusal of a line or a setup, and what the setup of a job gives.
use Rattle.std.proofs.Common.{◌≡◌, ◌≢◌, Option, Err, List, ℕ, ap, ◌∙◌}
use Rattle.st_outside.specs.Entries.{Entries}
use Rattle.st_refusals.specs.declared.kernel_fault.KernelFault.{KernelFault}
use Rattle.st_refusals.specs.declared.kernel_fault.KernelFault.TheVariants as kernel
use Rattle.st_refusals.specs.declared.fault.LineFault.{LineFault}
use Rattle.st_refusals.specs.declared.fault.LineFault.TheVariants as line
use Rattle.st_batch.specs.Load.{LoadGives}
use Rattle.st_refusals.specs.Faults.{line_fault}
use Rattle.st_batch.specs.Setting.{Loaded}

-- a loading that gives something isn't refused for want of memory
pub given-line : (files : Option Entries) (loaded : Loaded) (name : List ℕ) (fault : KernelFault) → LoadGives files loaded name (Err fault) → line_fault fault ≢ line.OutOfMemory
given-line files loaded name kernel.NoFile h = λ e. cc
given-line files loaded name kernel.FileFault h = λ e. cc
given-line files loaded name kernel.FileTooLong h = λ e. cc
given-line files loaded name (kernel.KernelText n cause) h = λ e. cc
given-line files loaded name kernel.TooManyKernels h = λ e. cc
given-line files loaded name kernel.TooManyValues h = λ e. cc
given-line files loaded name kernel.OutOfMemory h = absurd h

-- the fault of a file is told by the refusal of its line
pub is-fault : (fault : KernelFault) → line_fault fault ≢ line.FileFault → fault ≢ kernel.FileFault
is-fault fault not e = not (ap line_fault e)

pub not-memory : (fault : KernelFault) (refusal : LineFault) → refusal ≡ line_fault fault → refusal ≢ line.OutOfMemory → fault ≢ kernel.OutOfMemory
not-memory fault refusal same not e = not (same ∙ ap line_fault e)
