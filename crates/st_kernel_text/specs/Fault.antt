-- A fault of a text: the line and what breaks there.
use Rattle.std.specs.Prelude.{ℕ, Result, Err}
use Rattle.st_kernel_text.specs.declared.fault.TextCause.{TextCause}

pub record Fault : Type 0 where
  pub line : ℕ
  pub cause : TextCause

abbrev pub fails : {A : Type 0} → ℕ → TextCause → Result A Fault
fails n cause = Err (record { line = n; cause = cause })
