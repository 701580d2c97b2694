-- What a call of the tables answers, and what is kept after.
use Rattle.std.proofs.Common.{◌≡◌, ℕ, List, Result, Ok, Err, IsOk, IfSome, refl, sym, subst}
use Rattle.std.specs.Borrow.{Bor}
use Rattle.std.specs.Result.{IsErrAnd}
use Rattle.st_decimal.specs.declared.number.Dec.{Dec}
use Rattle.st_leaps.specs.declared.pair.LeapPair.{LeapPair}
use Rattle.st_scales.specs.declared.deltet.Deltet.{Deltet}
use Rattle.st_clock.specs.Clock.{Clock}
use Rattle.st_rules.specs.Rules.{AreKept}
use Rattle.st_ticks.specs.declared.variable.ClockVar.{ClockVar}
use Rattle.st_ticks.specs.declared.variable.Var.TheVariants as var
use Rattle.st_tables.specs.Answers.{shown}
use Rattle.st_tables.specs.Kept.{Kept, Keep, with_leaps, with_constants, with_clock}
use Rattle.st_tables.specs.Tables.{LeapsGive, ConstantsGive, ClockGives, LeapsMade, ConstantsMade, ClockMade, Agree}
use Rattle.st_tables.specs.TablesMachine.{list_at, clock_numbers}
use Rattle.st_tables.specs.Variables.{Loaded, Keeps, rules_of_all, leap_vars, constant_vars, clock_vars, all_numbers, numbers_of}
use Rattle.st_tables.specs.declared.fault.TableFault.{TableFault}
use Rattle.st_tables.proofs.ClockLaws.{in_order}

module _ {T B : Type 0} (view : T → B) (Gives : Result B TableFault → Type 0) (Has : Type 0) (old with : Kept)
    (one : (a b : Result B TableFault) → Gives a → Gives b → Agree a b) where
  pub record Answered (r : Result (Bor T) TableFault) (after : Kept) : Type 0 where
    pub keep : Keep r old with after
    pub gives : Gives (shown view r)
    pub only : (answer : Result B TableFault) → Gives answer → Agree (shown view r) answer
    pub no_memory : Has → IsOk r

  -- a refusal leaves all that is kept
  pub refused : (r : Result (Bor T) TableFault) (fault : TableFault) (after : Kept) → IsErrAnd r (λ x. x ≡ fault) → after ≡ old → Gives (Err fault)
      → (Has → IsOk {T = Bor T} {E = TableFault} (Err fault)) → Answered r after
  refused (Ok t) fault after h same g has = absurd h
  refused (Err x) fault after h same g has =
      let gives : Gives (Err x) = subst (λ (y : TableFault). Gives (Err y)) (sym h) g in
      record { keep = same; gives = gives; only = λ answer other. one (Err x) answer gives other; no_memory = has }

-- the kept table is that of the loaded kernels
pub leaps_found : (loaded : Loaded) (old new : Kept) (pairs : List LeapPair) → new ≡ with_leaps loaded old → AreKept (Keeps loaded) (rules_of_all leap_vars)
    → IfSome new.leaps (λ numbers. LeapsMade (list_at numbers 0) (Ok pairs)) → LeapsGive loaded (Ok pairs)
leaps_found loaded old new pairs same kept made =
    (kept, subst (λ (k : Kept). IfSome k.leaps (λ numbers. LeapsMade (list_at numbers 0) (Ok pairs))) same made)

pub constants_found : (loaded : Loaded) (old new : Kept) (c : Deltet) → new ≡ with_constants loaded old → AreKept (Keeps loaded) (rules_of_all constant_vars)
    → IfSome new.constants (λ numbers. ConstantsMade (list_at numbers 0) (list_at numbers 1) (list_at numbers 2) (list_at numbers 3) (Ok c))
    → ConstantsGive loaded (Ok c)
constants_found loaded old new c same kept made =
    (kept, subst (λ (k : Kept). IfSome k.constants (λ numbers. ConstantsMade (list_at numbers 0) (list_at numbers 1) (list_at numbers 2) (list_at numbers 3) (Ok c))) same made)

pub clock_found : (n : ℕ) (loaded : Loaded) (old new : Kept) (c : Clock) → new ≡ with_clock n loaded old → AreKept (Keeps loaded) (rules_of_all (clock_vars n))
    → IfSome new.clock (λ k. ClockMade (clock_numbers k.1) (Ok c)) → ClockGives n loaded (Ok c)
clock_found n loaded old new c same kept made =
    let here : ClockMade (clock_numbers (all_numbers loaded (clock_vars n))) (Ok c) = subst (λ (k : Kept). IfSome k.clock (λ x. ClockMade (clock_numbers x.1) (Ok c))) same made in
    let order : clock_numbers (all_numbers loaded (clock_vars n)) ≡ (λ v. numbers_of loaded (var.Clock v n)) = λ i v. in_order loaded n (all_numbers loaded (clock_vars n)) refl v i in
    (kept, subst (λ (x : ClockVar → List Dec). ClockMade x (Ok c)) order here)
