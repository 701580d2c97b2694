-- What the code of the pool does, on lists.
use Rattle.std.specs.Prelude.{ℕ, ◌+◌, Bool, true, false, ◌||◌, if◌then◌else◌, Option, Some, List, [], ◌∷◌}
use Rattle.std.specs.List.{flat_map, list_any}
use Rattle.std.specs.Option.{option_map_or}
use Rattle.st_kernel_text.specs.declared.assignment.Assignment.{Assignment}
use Rattle.st_kernel_text.specs.declared.value.Value.{Value}
use Rattle.st_pool.specs.declared.kernel.Kernel.{Kernel}
use Rattle.st_pool.specs.declared.kind.Kind.{Kind}
use Rattle.st_pool.specs.declared.kind.Kind.TheVariants.{Absent, Numbers, Texts, Mixed}
use Rattle.st_pool.specs.declared.kinds.Kinds.{Kinds}
use Rattle.st_pool.specs.declared.place.Place.{Place}
use Rattle.st_pool.specs.IndexMachine.{assignment_at, assignments_at}
use Rattle.st_pool.specs.Loaded.{is_named}
use Rattle.st_pool.specs.Variable.{is_set, is_number, is_text, since_last_set, kind_of_values}

-- the place of the last kernel of the name, where the list begins at place i, or the one found
-- before
abbrev pub last_place : List ℕ → ℕ → Option ℕ → List Kernel → Option ℕ
last_place name i found [] = found
last_place name i found (k ∷ more) = last_place name (i + 1) (if is_named name k then Some i else found) more

-- the values that these assignments of a variable give it
abbrev pub values_by : List Assignment → List Value
values_by assignments = flat_map (λ a. a.values) (since_last_set assignments)

-- whether the assignment at a place sets the values
abbrev pub is_set_at : List Kernel → Place → Bool
is_set_at kernels place = option_map_or is_set (assignment_at kernels place) false

-- the values of the assignment at a place, and of those at some places
abbrev pub values_at : List Kernel → Place → List Value
values_at kernels place = option_map_or (λ a. a.values) (assignment_at kernels place) []

abbrev pub values_in : List Kernel → List Place → List Value
values_in kernels places = flat_map (λ a. a.values) (assignments_at kernels places)

-- what is known of the kinds of the values so far, after one more assignment
abbrev pub kinds_after : Kinds → Assignment → Kinds
kinds_after before a =
    if is_set a then record { present = true; numbers = list_any is_number a.values; texts = list_any is_text a.values }
    else record { present = true; numbers = before.numbers || list_any is_number a.values; texts = before.texts || list_any is_text a.values }

-- the same after some more
abbrev pub kinds_in : Kinds → List Assignment → Kinds
kinds_in before [] = before
kinds_in before (a ∷ more) = kinds_in (kinds_after before a) more

-- the kind by what is known of the values
abbrev pub kind_by : Kinds → Kind
kind_by kinds = if kinds.present then (if kinds.texts then (if kinds.numbers then Mixed else Texts) else Numbers) else Absent

-- the kind of the values that these assignments of a variable give it
abbrev pub kind_at : List Assignment → Kind
kind_at [] = Absent
kind_at (a ∷ more) = kind_of_values (values_by (a ∷ more))
