-- What tables are seen as between two calls: the numbers from which each kept table was made.
use Rattle.std.specs.Prelude.{◌≡◌, ℕ, List, Option, Some, Result, MatchResult}
use Rattle.st_decimal.specs.declared.number.Dec.{Dec}
use Rattle.st_rules.specs.Rules.{AreKept}
use Rattle.st_tables.specs.Variables.{Loaded, leap_vars, constant_vars, clock_vars, all_numbers, rules_of_all, Keeps}

-- of each table that is kept, the numbers of its variables in their order; a clock is kept for one id, -n
pub record Kept : Type 0 where
  pub leaps : Option (List (List Dec))
  pub constants : Option (List (List Dec))
  pub clock : Option (ℕ × List (List Dec))

-- the loaded kernels give all variables of a kept table the numbers from which it was made
abbrev pub HasLeapsOf : Loaded → Kept → Type 0
HasLeapsOf loaded kept = AreKept (Keeps loaded) (rules_of_all leap_vars) × (kept.leaps ≡ Some (all_numbers loaded leap_vars))

abbrev pub HasConstantsOf : Loaded → Kept → Type 0
HasConstantsOf loaded kept =
    AreKept (Keeps loaded) (rules_of_all constant_vars) × (kept.constants ≡ Some (all_numbers loaded constant_vars))

abbrev pub HasClockOf : ℕ → Loaded → Kept → Type 0
HasClockOf n loaded kept =
    AreKept (Keeps loaded) (rules_of_all (clock_vars n)) × (kept.clock ≡ Some (n, all_numbers loaded (clock_vars n)))

-- the same, with the table of the loaded kernels kept in place of the one before
abbrev pub with_leaps : Loaded → Kept → Kept
with_leaps loaded kept = record { leaps = Some (all_numbers loaded leap_vars); constants = kept.constants; clock = kept.clock }

abbrev pub with_constants : Loaded → Kept → Kept
with_constants loaded kept =
    record { leaps = kept.leaps; constants = Some (all_numbers loaded constant_vars); clock = kept.clock }

abbrev pub with_clock : ℕ → Loaded → Kept → Kept
with_clock n loaded kept =
    record { leaps = kept.leaps; constants = kept.constants; clock = Some (n, all_numbers loaded (clock_vars n)) }

-- what is kept after an answer: the answered table too; after a refusal all is as before
abbrev pub Keep : {A E : Type 0} → Result A E → Kept → Kept → Kept → Type 0
Keep answer before with after = MatchResult answer (λ _. after ≡ with) (λ _. after ≡ before)
