-- The clock that is found for a line.
use Rattle.std.proofs.Common.{◌≡◌, ℕ, Result, Ok, Err, IsSome, IfSome, refl, sym, ap, subst}
use Rattle.std.specs.Prelude.{⊤}
use Rattle.st_clock.specs.Clock.{Clock}
use Rattle.st_tables.specs.Kernels.{Kernels, Find, found_clock, refused_clock}
use Rattle.st_tables.specs.Tables.{ClockGives}
use Rattle.st_tables.specs.declared.fault.TableFault.{TableFault}

pub found-is : (n : ℕ) (r : Result ⊤ TableFault) (done : ⊤) (before after : Kernels) → r ≡ Ok done → Find r (refused_clock n before) (found_clock n before) after
    → after ≡ found_clock n before
found-is n r done before after is found = subst (λ (x : Result ⊤ TableFault). Find x (refused_clock n before) (found_clock n before) after) is found

pub found-some : (n : ℕ) (before after : Kernels) → after ≡ found_clock n before → IsSome after.clock
found-some n before after same = subst (λ (k : Kernels). IsSome k.clock) (sym same) refl

pub found-gives : (n : ℕ) (before after : Kernels) (clock : Clock) → after ≡ found_clock n before
    → IfSome after.clock (λ m. ClockGives m after.loaded (Ok clock)) → ClockGives n before.loaded (Ok clock)
found-gives n before after clock same gives = subst (λ (k : Kernels). IfSome k.clock (λ m. ClockGives m k.loaded (Ok clock))) same gives

pub found-loaded : (n : ℕ) (r : Result ⊤ TableFault) (before after : Kernels) → Find r (refused_clock n before) (found_clock n before) after → after.loaded ≡ before.loaded
found-loaded n (Ok done) before after e = ap (λ (k : Kernels). k.loaded) e
found-loaded n (Err fault) before after e = ap (λ (k : Kernels). k.loaded) e
