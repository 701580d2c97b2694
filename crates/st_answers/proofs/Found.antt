-- Tables and refusals as values.
use Rattle.std.proofs.Common.{◌≡◌, ◌≢◌, Option, Some, Result, Ok, Err, refl}
use Rattle.st_tables.specs.Tables.{Agree}
use Rattle.st_tables.specs.declared.fault.TableFault.{TableFault}
use Rattle.st_tables.specs.declared.fault.TableFault.TheVariants.{NoVariable, WrongKind, Leaps, Deltet, Clock, OutOfMemory}

pub ok-is : {A E : Type 0} (a b : A) → ◌≡◌ {A = Result A E} (Ok a) (Ok b) → a ≡ b
ok-is a b e = cc

pub some-is : {A : Type 0} (a b : A) → ◌≡◌ {A = Option A} (Some a) (Some b) → a ≡ b
some-is a b e = cc

-- what agrees with a refusal is no table
pub agree-err : {A : Type 0} (f : TableFault) (b : A) → f ≢ OutOfMemory → Agree {A = A} (Err f) (Ok b) → ⊥
agree-err (NoVariable v) b not h = absurd cc
agree-err (WrongKind v) b not h = absurd cc
agree-err (Leaps l) b not h = absurd cc
agree-err (Deltet d) b not h = absurd cc
agree-err (Clock c) b not h = absurd cc
agree-err OutOfMemory b not h = not refl
