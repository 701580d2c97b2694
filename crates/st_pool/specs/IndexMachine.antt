-- What the code of the index does, on lists.
use Rattle.std.specs.Prelude.{ℕ, ◌-◌, Bool, not, leb, if◌then◌else◌, bytes_eq, ◌==◌, Option, slice_get, List, [], map, filter}
use Rattle.std.specs.Global.{Vec}
use Rattle.std.specs.HashMap.{HashMap, get_by}
use Rattle.std.specs.List.{filter_map}
use Rattle.std.specs.Option.{option_map_or, option_and_then}
use Rattle.st_kernel_text.specs.declared.assignment.Assignment.{Assignment}
use Rattle.st_pool.specs.declared.kernel.Kernel.{Kernel}
use Rattle.st_pool.specs.declared.place.Place.{Place}

-- the places that the index has for a name
abbrev pub kept_places : {S : Type 0} → List ℕ → HashMap (Vec ℕ) (Vec Place) S → List Place
kept_places name lists = option_map_or (λ v. v.items) (get_by (λ k. bytes_eq name k.items) lists) []

-- a place once kernel k is unloaded: later kernels are counted one lower
abbrev pub lowered : ℕ → Place → Place
lowered k place = if leb place.kernel k then place else record { kernel = place.kernel - 1; assignment = place.assignment }

-- whether a place stands in another kernel than k
abbrev pub is_elsewhere : ℕ → Place → Bool
is_elsewhere k place = not (place.kernel == k)

-- the places that are left once kernel k is unloaded
abbrev pub without : ℕ → List Place → List Place
without k places = map (lowered k) (filter (is_elsewhere k) places)

-- the assignment that stands at a place
abbrev pub assignment_at : List Kernel → Place → Option Assignment
assignment_at kernels place = option_and_then (λ k. slice_get k.assignments place.assignment) (slice_get kernels place.kernel)

-- the assignments that stand at places
abbrev pub assignments_at : List Kernel → List Place → List Assignment
assignments_at kernels places = filter_map (assignment_at kernels) places
