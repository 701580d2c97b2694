-- The loaded list. Source: Kernel Required Reading, on loading and unloading kernels. That a kernel
-- is loaded after all others, also where one of its name is loaded already, and that an unloading
-- takes the last one of the name, is this project's own.
use Rattle.std.specs.Prelude.{ℕ, Bool, bytes_eq, if◌then◌else◌, List, [], ◌∷◌, length}
use Rattle.std.specs.List.{list_any, flat_map, sum_by}
use Rattle.st_kernel_text.specs.declared.assignment.Assignment.{Assignment}
use Rattle.st_pool.specs.declared.kernel.Kernel.{Kernel}

-- whether a kernel has the name
abbrev pub is_named : List ℕ → Kernel → Bool
is_named name kernel = bytes_eq kernel.name name

-- whether a kernel of the name is loaded
abbrev pub is_loaded : List ℕ → List Kernel → Bool
is_loaded name kernels = list_any (is_named name) kernels

-- the list without the last kernel of the name; the same list where no kernel has it
abbrev pub without_last : List ℕ → List Kernel → List Kernel
without_last name [] = []
without_last name (kernel ∷ more) =
    if is_loaded name more then kernel ∷ without_last name more else (if is_named name kernel then more else kernel ∷ more)

-- all assignments of the loaded kernels, in order
abbrev pub all_assignments : List Kernel → List Assignment
all_assignments kernels = flat_map (λ k. k.assignments) kernels

-- how many values assignments have
abbrev pub value_count : List Assignment → ℕ
value_count assignments = sum_by (λ a. length a.values) assignments

-- how many values are loaded
abbrev pub loaded_count : List Kernel → ℕ
loaded_count kernels = sum_by (λ k. value_count k.assignments) kernels
