-- The values of a kernel variable. Source: Kernel Required Reading, on assignments: `=` sets the
-- values, and `+=` adds to them.
use Rattle.std.specs.Prelude.{ℕ, Bool, true, false, if◌then◌else◌, bytes_eq, List, [], ◌∷◌, filter}
use Rattle.std.specs.List.{flat_map, list_any}
use Rattle.st_kernel_text.specs.declared.assignment.Assignment.{Assignment}
use Rattle.st_kernel_text.specs.declared.assignment.Mode.{Mode}
use Rattle.st_kernel_text.specs.declared.assignment.Mode.TheVariants.{Set, Add}
use Rattle.st_kernel_text.specs.declared.value.Value.{Value}
use Rattle.st_kernel_text.specs.declared.value.Value.TheVariants.{Number, Text}
use Rattle.st_pool.specs.declared.kernel.Kernel.{Kernel}
use Rattle.st_pool.specs.declared.kind.Kind.{Kind}
use Rattle.st_pool.specs.declared.kind.Kind.TheVariants.{Absent, Numbers, Texts, Mixed}
use Rattle.st_pool.specs.Loaded.{all_assignments}

abbrev pub sets : Mode → Bool
sets Set = true
sets Add = false

abbrev pub is_set : Assignment → Bool
is_set a = sets a.mode

-- whether an assignment is of the variable of this name
abbrev pub is_of : List ℕ → Assignment → Bool
is_of name a = bytes_eq a.name name

-- the last assignment that sets the values and those after it; all of them where none sets them
abbrev pub since_last_set : List Assignment → List Assignment
since_last_set [] = []
since_last_set (a ∷ more) = if list_any is_set more then since_last_set more else a ∷ more

-- the values of the variable of this name
abbrev pub values_of : List ℕ → List Assignment → List Value
values_of name assignments = flat_map (λ a. a.values) (since_last_set (filter (λ a. bytes_eq a.name name) assignments))

abbrev pub is_number : Value → Bool
is_number (Number d) = true
is_number (Text t) = false

abbrev pub is_text : Value → Bool
is_text (Number d) = false
is_text (Text t) = true

-- the kind of the values of a variable that has an assignment. One of no values, which no kernel's
-- text has, is of numbers.
abbrev pub kind_of_values : List Value → Kind
kind_of_values values = if list_any is_text values then (if list_any is_number values then Mixed else Texts) else Numbers

-- the kind of the variable of this name: absent where it has no assignment, and mixed where its
-- values are of both kinds
abbrev pub kind_of : List ℕ → List Assignment → Kind
kind_of name assignments = if list_any (is_of name) assignments then kind_of_values (values_of name assignments) else Absent

-- the values, and the kind, of the variable of this name by all assignments of the loaded kernels
abbrev pub loaded_values : List ℕ → List Kernel → List Value
loaded_values name kernels = values_of name (all_assignments kernels)

abbrev pub loaded_kind : List ℕ → List Kernel → Kind
loaded_kind name kernels = kind_of name (all_assignments kernels)
