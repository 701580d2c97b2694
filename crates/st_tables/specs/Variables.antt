-- The numbers that the loaded kernels give the variables of a table, and the first variable that has none. Source: Kernel
-- Required Reading, on variables. That a table asks for its variables in an order is this project's own.
use Rattle.std.specs.Prelude.{◌≢◌, ℕ, List, [], ◌∷◌, map}
use Rattle.std.specs.List.{flat_map}
use Rattle.st_decimal.specs.declared.number.Dec.{Dec}
use Rattle.st_kernel_text.specs.declared.value.Value.{Value}
use Rattle.st_kernel_text.specs.declared.value.Value.TheVariants.{Number, Text}
use Rattle.st_pool.specs.declared.kernel.Kernel.{Kernel}
use Rattle.st_pool.specs.declared.kind.Kind.TheVariants.{Absent, Texts, Mixed}
use Rattle.st_pool.specs.Variable.{loaded_values, loaded_kind}
use Rattle.st_ticks.specs.declared.variable.ClockVar.TheVariants.{DataType, TimeSystem, NFields, Moduli, Offsets, Delim, Start, End, Coefficients}
use Rattle.st_ticks.specs.declared.variable.Var.{Var}
use Rattle.st_ticks.specs.declared.variable.Var.TheVariants.{DeltaAt, DeltaTa, K, Eb, M, Clock}
use Rattle.st_tables.specs.declared.fault.TableFault.{TableFault}
use Rattle.st_tables.specs.declared.fault.TableFault.TheVariants.{NoVariable, WrongKind}
use Rattle.st_tables.specs.Names.{var_name}

-- the loaded list: the kernels in the order of their loading
abbrev pub Loaded : Type 0
Loaded = List Kernel

-- the variables of each table, in the order in which they are gone through
abbrev pub leap_vars : List Var
leap_vars = DeltaAt ∷ []

abbrev pub constant_vars : List Var
constant_vars = DeltaTa ∷ K ∷ Eb ∷ M ∷ []

abbrev pub clock_vars : ℕ → List Var
clock_vars n =
    Clock DataType n ∷ Clock TimeSystem n ∷ Clock NFields n ∷ Clock Moduli n ∷ Clock Offsets n ∷ Clock Delim n ∷ Clock Start n
    ∷ Clock End n ∷ Clock Coefficients n ∷ []

-- the numbers among values, in order
abbrev pub numbers_in : List Value → List Dec
numbers_in [] = []
numbers_in ((Number d) ∷ values) = d ∷ numbers_in values
numbers_in ((Text t) ∷ values) = numbers_in values

-- the numbers that the loaded kernels give a variable: all its values, where it isn't of the wrong kind
abbrev pub numbers_of : Loaded → Var → List Dec
numbers_of loaded var = numbers_in (loaded_values (var_name var) loaded)

abbrev pub all_numbers : Loaded → List Var → List (List Dec)
all_numbers loaded vars = map (numbers_of loaded) vars

-- what is asked of a variable: that it is there, and then that no value of it is a text. A clock's time system may be absent
abbrev pub rules_of : Var → List TableFault
rules_of (Clock TimeSystem n) = WrongKind (Clock TimeSystem n) ∷ []
rules_of var = NoVariable var ∷ WrongKind var ∷ []

abbrev pub rules_of_all : List Var → List TableFault
rules_of_all vars = flat_map rules_of vars

-- what each fault of a variable says is not so
abbrev pub Keeps : Loaded → TableFault → Type 0
Keeps loaded (NoVariable var) = loaded_kind (var_name var) loaded ≢ Absent
Keeps loaded (WrongKind var) = (loaded_kind (var_name var) loaded ≢ Texts) × (loaded_kind (var_name var) loaded ≢ Mixed)
Keeps loaded _ = Unit {0}
