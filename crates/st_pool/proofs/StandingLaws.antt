-- The assignments that stand at the places of a name are those of the name.
use Rattle.std.proofs.Common.{◌≡◌, ◌≤◌, ◌↔◌, ℕ, zero, suc, ◌+◌, length, drop, map, filter, Bool, true, false, ◌||◌, cond, Option, Some, option_and_then, slice_get, List, [], ◌∷◌, ◌++◌, refl, sym, ap, ◌∙◌, arith}
use Rattle.std.specs.List.{list_any, flat_map, enumerate_from, cons_option}
use Rattle.std.proofs.lemmas.List.{length-append}
use Rattle.std.proofs.lemmas.List.Elements.{filter-append, filter_map-append}
use Rattle.std.proofs.lemmas.List.Folds.{list_any-append}
use Rattle.std.proofs.lemmas.List.Sums.{sum_by-append, sum_by-cons}
use Rattle.st_kernel_text.specs.declared.assignment.Assignment.{Assignment}
use Rattle.st_kernel_text.specs.declared.value.Value.{Value}
use Rattle.st_pool.specs.declared.kernel.Kernel.{Kernel}
use Rattle.st_pool.specs.declared.kind.Kind.TheVariants.{Absent, Numbers, Texts, Mixed}
use Rattle.st_pool.specs.declared.place.Place.{Place}
use Rattle.st_pool.specs.IndexMachine.{assignment_at, assignments_at}
use Rattle.st_pool.specs.Loaded.{all_assignments, value_count, loaded_count}
use Rattle.st_pool.specs.Places.{places_in, loaded_places}
use Rattle.st_pool.specs.PoolMachine.{values_by, kind_at}
use Rattle.st_pool.specs.Variable.{is_of, is_set, since_last_set, is_text, is_number, kind_of_values, loaded_values, loaded_kind}
use Rattle.st_pool.proofs.PlacesLaws.{placed, numbered, standing}

-- a list after its n-th item
drop-head : {X : Type 0} (xs : List X) (n : ℕ) (x : X) (more : List X) → drop n xs ≡ x ∷ more → (slice_get xs n ≡ Some x) × (drop (n + 1) xs ≡ more)
drop-head [] zero x more e = absurd (cc e)
drop-head [] (suc n) x more e = absurd (cc e)
drop-head {X} (y ∷ xs) zero x more e =
    (ap (λ (l : List X). slice_get l 0) e, ap (λ (l : List X). drop 1 l) e)
drop-head {X} (y ∷ xs) (suc n) x more e =
    let h = drop-head xs n x more e in
    let e : suc n + 1 ≡ suc (n + 1) = omega arith in
    (h.0, ap (λ (m : ℕ). drop m (y ∷ xs)) e ∙ h.1)

in-kernel : (name : List ℕ) (kernels : List Kernel) (m : ℕ) (k : Kernel) (n : ℕ) (assignments : List Assignment)
    → slice_get kernels m ≡ Some k → drop n k.assignments ≡ assignments
    → assignments_at kernels (numbered name m n assignments) ≡ filter (is_of name) assignments
in-kernel name kernels m k n [] at rest = refl
in-kernel name kernels m k n (a ∷ more) at rest = by (in-kernel name kernels m k (n + 1) more at (drop-head k.assignments n a more rest).1) (is_of name a)
  where
    here : assignment_at kernels (placed m (n, a)) ≡ Some a
    here = ap (option_and_then (λ (x : Kernel). slice_get x.assignments n)) at ∙ (drop-head k.assignments n a more rest).0

    by : assignments_at kernels (numbered name m (n + 1) more) ≡ filter (is_of name) more → (b : Bool) → assignments_at kernels (map (placed m) (cond b ((n, a) ∷ filter (λ a. is_of name a.1) (enumerate_from (n + 1) more)) (filter (λ a. is_of name a.1) (enumerate_from (n + 1) more))))
        ≡ cond b (a ∷ filter (is_of name) more) (filter (is_of name) more)
    by later true =
        ap (λ (o : Option Assignment). cons_option o (assignments_at kernels (numbered name m (n + 1) more))) here
        ∙ ap (λ (l : List Assignment). a ∷ l) later
    by later false = later

in-kernels : (name : List ℕ) (kernels : List Kernel) (n : ℕ) (more : List Kernel) → drop n kernels ≡ more
    → assignments_at kernels (standing name n more) ≡ filter (is_of name) (all_assignments more)
in-kernels name kernels n [] rest = refl
in-kernels name kernels n (k ∷ more) rest =
    let head = drop-head kernels n k more rest in
    filter_map-append (assignment_at kernels) (places_in name n k.assignments) (standing name (n + 1) more)
    ∙ ap (λ (l : List Assignment). l ++ assignments_at kernels (standing name (n + 1) more)) (in-kernel name kernels n k 0 k.assignments head.0 refl)
    ∙ ap (λ (l : List Assignment). filter (is_of name) k.assignments ++ l) (in-kernels name kernels (n + 1) more head.1)
    ∙ sym (filter-append (is_of name) k.assignments (all_assignments more))

-- at the places of a name
pub stand : (name : List ℕ) (kernels : List Kernel) (places : List Place) → places ≡ loaded_places name kernels
    → assignments_at kernels places ≡ filter (is_of name) (all_assignments kernels)
stand name kernels places e = ap (assignments_at kernels) e ∙ in-kernels name kernels 0 kernels refl

pub values-stand : (name : List ℕ) (kernels : List Kernel) (places : List Place) → places ≡ loaded_places name kernels
    → values_by (assignments_at kernels places) ≡ loaded_values name kernels
values-stand name kernels places e = ap values_by (stand name kernels places e)

-- the values of some assignments are no more than those of all
few : (name : List ℕ) (assignments : List Assignment) → value_count (filter (is_of name) assignments) ≤ value_count assignments
few name [] = omega arith
few name (a ∷ more) = by (is_of name a) (few name more)
  where
    whole : value_count (a ∷ more) ≡ length a.values + value_count more
    whole = sum_by-cons (λ (x : Assignment). length x.values) a more

    by : (b : Bool) → value_count (filter (is_of name) more) ≤ value_count more
        → value_count (cond b (a ∷ filter (is_of name) more) (filter (is_of name) more)) ≤ value_count (a ∷ more)
    by true h = omega (arith, h, whole, sum_by-cons (λ (x : Assignment). length x.values) a (filter (is_of name) more))
    by false h = omega (arith, h, whole)

count-all : (kernels : List Kernel) → value_count (all_assignments kernels) ≡ loaded_count kernels
count-all [] = refl
count-all (k ∷ more) =
    sum_by-append (λ (a : Assignment). length a.values) k.assignments (all_assignments more)
    ∙ ap (λ (n : ℕ). value_count k.assignments + n) (count-all more)
    ∙ sym (sum_by-cons (λ (x : Kernel). value_count x.assignments) k more)

-- values are no more than those of the assignments that give them
all-counted : (assignments : List Assignment) → length (flat_map (λ (x : Assignment). x.values) assignments) ≡ value_count assignments
all-counted [] = refl
all-counted (a ∷ more) =
    length-append a.values (flat_map (λ (x : Assignment). x.values) more)
    ∙ ap (λ (n : ℕ). length a.values + n) (all-counted more)
    ∙ sym (sum_by-cons (λ (x : Assignment). length x.values) a more)

few-since : (assignments : List Assignment) → length (values_by assignments) ≤ value_count assignments
few-since [] = omega arith
few-since (a ∷ more) = by (list_any is_set more) (few-since more)
  where
    whole : value_count (a ∷ more) ≡ length a.values + value_count more
    whole = sum_by-cons (λ (x : Assignment). length x.values) a more

    by : (b : Bool) → length (values_by more) ≤ value_count more
        → length (flat_map (λ (x : Assignment). x.values) (cond b (since_last_set more) (a ∷ more))) ≤ value_count (a ∷ more)
    by true h = omega (arith, h, whole)
    by false h = omega (arith, whole, length-append a.values (flat_map (λ (x : Assignment). x.values) more), all-counted more)

-- a variable has no more values than are loaded
pub values-few : (name : List ℕ) (kernels : List Kernel) → length (loaded_values name kernels) ≤ loaded_count kernels
values-few name kernels =
    omega (arith, few-since (filter (is_of name) (all_assignments kernels)), few name (all_assignments kernels), count-all kernels)

filled : {X : Type 0} → List X → Bool
filled [] = false
filled (x ∷ xs) = true

filled-append : {X : Type 0} (xs ys : List X) → filled (xs ++ ys) ≡ (filled xs || filled ys)
unfolding filled
filled-append [] ys = refl
filled-append (x ∷ xs) ys = refl

filled-filter : (name : List ℕ) (assignments : List Assignment) → filled (filter (is_of name) assignments) ≡ list_any (is_of name) assignments
unfolding filled
filled-filter name [] = refl
filled-filter name (a ∷ more) = by (is_of name a) (filled-filter name more)
  where
    by : (b : Bool) → filled (filter (is_of name) more) ≡ list_any (is_of name) more
        → filled (cond b (a ∷ filter (is_of name) more) (filter (is_of name) more)) ≡ (b || list_any (is_of name) more)
    by true h = refl
    by false h = h

kind-filled : (assignments : List Assignment) → kind_at assignments ≡ cond (filled assignments) (kind_of_values (values_by assignments)) Absent
unfolding filled
kind-filled [] = refl
kind-filled (a ∷ more) = refl

-- the kind by the assignments of the name alone
pub kind-stands : (name : List ℕ) (kernels : List Kernel) (places : List Place) → places ≡ loaded_places name kernels
    → kind_at (assignments_at kernels places) ≡ loaded_kind name kernels
kind-stands name kernels places e =
    ap kind_at (stand name kernels places e)
    ∙ kind-filled (filter (is_of name) (all_assignments kernels))
    ∙ ap (λ (b : Bool). cond b (kind_of_values (values_by (filter (is_of name) (all_assignments kernels)))) Absent) (filled-filter name (all_assignments kernels))

filled-numbered : (name : List ℕ) (m n : ℕ) (assignments : List Assignment) → filled (numbered name m n assignments) ≡ list_any (is_of name) assignments
unfolding filled
filled-numbered name m n [] = refl
filled-numbered name m n (a ∷ more) = by (is_of name a) (filled-numbered name m (n + 1) more)
  where
    by : (b : Bool) → filled (numbered name m (n + 1) more) ≡ list_any (is_of name) more
        → filled (map (placed m) (cond b ((n, a) ∷ filter (λ a. is_of name a.1) (enumerate_from (n + 1) more)) (filter (λ a. is_of name a.1) (enumerate_from (n + 1) more))))
        ≡ (b || list_any (is_of name) more)
    by true h = refl
    by false h = h

filled-standing : (name : List ℕ) (n : ℕ) (kernels : List Kernel) → filled (standing name n kernels) ≡ list_any (is_of name) (all_assignments kernels)
unfolding filled
filled-standing name n [] = refl
filled-standing name n (k ∷ more) =
    filled-append (places_in name n k.assignments) (standing name (n + 1) more)
    ∙ ap (λ (b : Bool). b || filled (standing name (n + 1) more)) (filled-numbered name n 0 k.assignments)
    ∙ ap (λ (b : Bool). list_any (is_of name) k.assignments || b) (filled-standing name (n + 1) more)
    ∙ sym (list_any-append (is_of name) k.assignments (all_assignments more))

not-absent : (values : List Value) → kind_of_values values ≡ Absent → ⊥
not-absent values = by (list_any is_text values) (list_any is_number values)
  where
    by : (t n : Bool) → cond t (cond n Mixed Texts) Numbers ≡ Absent → ⊥
    by true true e = absurd (cc e)
    by true false e = absurd (cc e)
    by false n e = absurd (cc e)

-- no place: the variable is absent
pub absent : (name : List ℕ) (kernels : List Kernel) (places : List Place) → places ≡ loaded_places name kernels
    → (places ≡ []) ↔ (loaded_kind name kernels ≡ Absent)
unfolding filled
absent name kernels places e = by places (ap filled e ∙ filled-standing name 0 kernels)
  where
    values : List Value
    values = values_by (filter (is_of name) (all_assignments kernels))

    by : (ps : List Place) → filled ps ≡ list_any (is_of name) (all_assignments kernels)
        → (ps ≡ []) ↔ (cond (list_any (is_of name) (all_assignments kernels)) (kind_of_values values) Absent ≡ Absent)
    by [] h = (λ _. ap (λ (b : Bool). cond b (kind_of_values values) Absent) (sym h), λ _. refl)
    by (p ∷ ps) h = (λ n. absurd (cc n), λ a. absurd (not-absent values (ap (λ (b : Bool). cond b (kind_of_values values) Absent) h ∙ a)))
