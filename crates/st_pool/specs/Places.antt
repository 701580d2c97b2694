-- The places of a variable's assignments. Source: Kernel Required Reading, on assignments. The
-- counting of kernels and assignments is this project's own.
use Rattle.std.specs.Prelude.{ℕ, List, map, filter}
use Rattle.std.specs.List.{flat_map, enumerate_from}
use Rattle.st_kernel_text.specs.declared.assignment.Assignment.{Assignment}
use Rattle.st_pool.specs.declared.kernel.Kernel.{Kernel}
use Rattle.st_pool.specs.declared.place.Place.{Place}
use Rattle.st_pool.specs.Variable.{is_of}

-- the places of the variable of this name among the assignments of the kernel with number k
abbrev pub places_in : List ℕ → ℕ → List Assignment → List Place
places_in name k assignments =
    map (λ a. record { kernel = k; assignment = a.0 }) (filter (λ a. is_of name a.1) (enumerate_from 0 assignments))

-- the places of the variable of this name: the pairs (k, a), in order, such that the a-th assignment
-- of the k-th loaded kernel has the name, where both are counted from 0
abbrev pub loaded_places : List ℕ → List Kernel → List Place
loaded_places name kernels = flat_map (λ k. places_in name k.0 k.1.assignments) (enumerate_from 0 kernels)
