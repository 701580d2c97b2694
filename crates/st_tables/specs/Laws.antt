-- Laws of the tables that loaded kernels give, each the contract of an empty function of `laws`.
use Rattle.std.specs.Prelude.{◌≡◌, ◌≢◌, ℕ, List, map, Result, Err}
use Rattle.std.specs.List.{AllByRecursion}
use Rattle.st_kernel_text.specs.declared.value.Value.TheVariants.{Number}
use Rattle.st_leaps.specs.declared.pair.LeapPair.{LeapPair}
use Rattle.st_pool.specs.Variable.{loaded_values, loaded_kind}
use Rattle.st_scales.specs.declared.deltet.Deltet.{Deltet}
use Rattle.st_ticks.specs.declared.variable.Var.{Var}
use Rattle.st_clock.specs.Clock.{Clock}
use Rattle.st_tables.specs.declared.fault.TableFault.{TableFault}
use Rattle.st_tables.specs.declared.fault.TableFault.TheVariants.{WrongKind, OutOfMemory}
use Rattle.st_tables.specs.Names.{var_name}
use Rattle.st_tables.specs.Tables.{LeapsGive, ConstantsGive, ClockGives, Agree}
use Rattle.st_tables.specs.Variables.{Loaded, leap_vars, constant_vars, clock_vars, numbers_of, Keeps}

-- Each table has one answer: a table or its first refusal, and never both.
abbrev pub LeapsAreOne : Type 0
LeapsAreOne = (loaded : Loaded) (a b : Result (List LeapPair) TableFault) → LeapsGive loaded a → LeapsGive loaded b → Agree a b

abbrev pub ConstantsAreOne : Type 0
ConstantsAreOne = (loaded : Loaded) (a b : Result Deltet TableFault) → ConstantsGive loaded a → ConstantsGive loaded b → Agree a b

abbrev pub ClockIsOne : Type 0
ClockIsOne = (n : ℕ) (loaded : Loaded) (a b : Result Clock TableFault) → ClockGives n loaded a → ClockGives n loaded b → Agree a b

-- Whatever kernels are loaded, they give each table or refuse it for a first cause, which isn't want of memory.
abbrev pub LeapsAreFound : Type 0
LeapsAreFound =
    (loaded : Loaded) → (answer : Result (List LeapPair) TableFault) × LeapsGive loaded answer × (answer ≢ Err OutOfMemory)

abbrev pub ConstantsAreFound : Type 0
ConstantsAreFound = (loaded : Loaded) → (answer : Result Deltet TableFault) × ConstantsGive loaded answer × (answer ≢ Err OutOfMemory)

abbrev pub ClockIsFound : Type 0
ClockIsFound = (n : ℕ) (loaded : Loaded) → (answer : Result Clock TableFault) × ClockGives n loaded answer × (answer ≢ Err OutOfMemory)

-- two loaded lists give these variables the same values
pub record IsAlike (one other : Loaded) (var : Var) : Type 0 where
  pub kind : loaded_kind (var_name var) one ≡ loaded_kind (var_name var) other
  pub values : loaded_values (var_name var) one ≡ loaded_values (var_name var) other

abbrev pub AreAlike : Loaded → Loaded → List Var → Type 0
AreAlike one other vars = AllByRecursion (IsAlike one other) vars

-- A table depends on the values of its own variables alone.
abbrev pub LeapsByTheirOwn : Type 0
LeapsByTheirOwn =
    (one other : Loaded) (answer : Result (List LeapPair) TableFault) → AreAlike one other leap_vars → LeapsGive one answer
    → LeapsGive other answer

abbrev pub ConstantsByTheirOwn : Type 0
ConstantsByTheirOwn =
    (one other : Loaded) (answer : Result Deltet TableFault) → AreAlike one other constant_vars → ConstantsGive one answer
    → ConstantsGive other answer

abbrev pub ClockByItsOwn : Type 0
ClockByItsOwn =
    (n : ℕ) (one other : Loaded) (answer : Result Clock TableFault) → AreAlike one other (clock_vars n) → ClockGives n one answer
    → ClockGives n other answer

-- The numbers of a variable that isn't of the wrong kind are all its values.
abbrev pub NumbersAreAll : Type 0
NumbersAreAll =
    (loaded : Loaded) (var : Var) → Keeps loaded (WrongKind var)
    → loaded_values (var_name var) loaded ≡ map Number (numbers_of loaded var)
