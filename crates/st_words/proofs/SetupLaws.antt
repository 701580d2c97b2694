-- A setup names its files and its clock in one way.
use Rattle.std.proofs.Common.{◌≡◌, ℕ, Option, Some, None, Result, Ok, Err, List, length, inl, inr, refl, sym, ◌∙◌}
use Rattle.std.specs.Prelude.{IfSome}
use Rattle.std.specs.List.{slice_get}
use Rattle.st_decimal.specs.declared.number.Dec.{Dec}
use Rattle.st_kernel_text.specs.declared.value.Value.{Value}
use Rattle.st_kernel_text.specs.declared.value.Value.TheVariants.{Number}
use Rattle.st_pool.specs.Variable.{loaded_values, loaded_kind}
use Rattle.st_pool.specs.declared.kernel.Kernel.{Kernel}
use Rattle.st_pool.specs.declared.kind.Kind.TheVariants.{Numbers}
use Rattle.st_words.specs.Setup.{id_name, IsId, IsClockOf, SetupClock}
use Rattle.st_words.specs.declared.fault.IdFault.{IdFault}
use Rattle.st_words.specs.declared.fault.IdFault.TheVariants.{Missing, WrongKind as NoNumber, BadId}
use Rattle.st_words.proofs.Lists.{one_value}

pub only_id : (values : List Value) (number : Dec) (o : Option ℕ) → length values ≡ 1 → slice_get values 0 ≡ Some (Number number)
    → IfSome o (IsId number) → IfSome o (IsClockOf values)
only_id values number None l e h = tt
only_id values number (Some n) l e h = record { number = number; alone = one_value values (Number number) l e; id = h }

-- a clock that is named is the one that was found
abbrev Finds : List Kernel → Result ℕ IdFault → Type 0
Finds loaded found = (n : ℕ) → loaded_kind id_name loaded ≡ Numbers → IsClockOf (loaded_values id_name loaded) n → found ≡ Ok n

pub one_clock : (loaded : List Kernel) (a b : Result ℕ IdFault) → Finds loaded a → SetupClock loaded a → SetupClock loaded b → a ≡ b
one_clock loaded (Ok m) (Ok n) f h k = f n k.0 k.1
one_clock loaded (Ok m) (Err Missing) f h k = let e = sym h.0 ∙ k in absurd cc
one_clock loaded (Ok m) (Err NoNumber) f h (inl k) = let e = sym h.0 ∙ k in absurd cc
one_clock loaded (Ok m) (Err NoNumber) f h (inr k) = let e = sym h.0 ∙ k in absurd cc
one_clock loaded (Ok m) (Err BadId) f h k = absurd (k.1 m h.1)
one_clock loaded (Err Missing) (Ok n) f h k = let e = sym h ∙ k.0 in absurd cc
one_clock loaded (Err Missing) (Err Missing) f h k = refl
one_clock loaded (Err Missing) (Err NoNumber) f h (inl k) = let e = sym h ∙ k in absurd cc
one_clock loaded (Err Missing) (Err NoNumber) f h (inr k) = let e = sym h ∙ k in absurd cc
one_clock loaded (Err Missing) (Err BadId) f h k = let e = sym h ∙ k.0 in absurd cc
one_clock loaded (Err NoNumber) (Ok n) f (inl h) k = let e = sym h ∙ k.0 in absurd cc
one_clock loaded (Err NoNumber) (Ok n) f (inr h) k = let e = sym h ∙ k.0 in absurd cc
one_clock loaded (Err NoNumber) (Err Missing) f (inl h) k = let e = sym h ∙ k in absurd cc
one_clock loaded (Err NoNumber) (Err Missing) f (inr h) k = let e = sym h ∙ k in absurd cc
one_clock loaded (Err NoNumber) (Err NoNumber) f h k = refl
one_clock loaded (Err NoNumber) (Err BadId) f (inl h) k = let e = sym h ∙ k.0 in absurd cc
one_clock loaded (Err NoNumber) (Err BadId) f (inr h) k = let e = sym h ∙ k.0 in absurd cc
one_clock loaded (Err BadId) (Ok n) f h k = absurd (h.1 n k.1)
one_clock loaded (Err BadId) (Err Missing) f h k = let e = sym h.0 ∙ k in absurd cc
one_clock loaded (Err BadId) (Err NoNumber) f h (inl k) = let e = sym h.0 ∙ k in absurd cc
one_clock loaded (Err BadId) (Err NoNumber) f h (inr k) = let e = sym h.0 ∙ k in absurd cc
one_clock loaded (Err BadId) (Err BadId) f h k = refl
