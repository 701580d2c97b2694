-- The kinds of a variable's values, by going over its assignments.
use Rattle.std.proofs.Common.{◌≡◌, ◌≤◌, ℕ, length, drop, Bool, true, false, ◌||◌, cond, List, [], ◌∷◌, ◌++◌, refl, sym, ap, ◌∙◌}
use Rattle.std.specs.List.{list_any}
use Rattle.std.proofs.lemmas.List.{append-nil, append_assoc, drop_all}
use Rattle.std.proofs.lemmas.List.Folds.{list_any-append}
use Rattle.st_kernel_text.specs.declared.assignment.Assignment.{Assignment}
use Rattle.st_kernel_text.specs.declared.value.Value.{Value}
use Rattle.st_pool.specs.declared.kernel.Kernel.{Kernel}
use Rattle.st_pool.specs.declared.place.Place.{Place}
use Rattle.st_pool.specs.IndexMachine.{assignments_at}
use Rattle.st_pool.specs.declared.kinds.Kinds.{Kinds}
use Rattle.st_pool.specs.PoolMachine.{values_by, kinds_after, kinds_in, kind_by, kind_at}
use Rattle.st_pool.specs.Variable.{is_set, is_number, is_text}
use Rattle.st_pool.proofs.VariableLaws.{values-last}

-- what is to be known of values
abbrev kinds_with : Bool → List Value → Kinds
kinds_with present values = record { present = present; numbers = list_any is_number values; texts = list_any is_text values }

added : (xs ys : List Value)
    → record { present = true; numbers = list_any is_number xs || list_any is_number ys; texts = list_any is_text xs || list_any is_text ys }
    ≡ kinds_with true (xs ++ ys)
added xs ys =
    ap (λ (b : Bool). record { present = true; numbers = b; texts = list_any is_text xs || list_any is_text ys }) (sym (list_any-append is_number xs ys))
    ∙ ap (λ (b : Bool). record { present = true; numbers = list_any is_number (xs ++ ys); texts = b }) (sym (list_any-append is_text xs ys))

step : (present : Bool) (front : List Assignment) (a : Assignment) → kinds_after (kinds_with present (values_by front)) a ≡ kinds_with true (values_by (front ++ a ∷ []))
step present front a = by (is_set a) (values_by front) ∙ sym (ap (kinds_with true) (values-last front a))
  where
    by : (b : Bool) (values : List Value)
        → cond b (kinds_with true a.values)
        (record { present = true; numbers = list_any is_number values || list_any is_number a.values; texts = list_any is_text values || list_any is_text a.values })
        ≡ kinds_with true (cond b a.values (values ++ a.values))
    by true values = refl
    by false values = added values a.values

steps : (front more : List Assignment) → kinds_in (kinds_with true (values_by front)) more ≡ kinds_with true (values_by (front ++ more))
steps front [] = ap (λ (l : List Assignment). kinds_with true (values_by l)) (sym (append-nil front))
steps front (a ∷ more) =
    ap (λ (k : Kinds). kinds_in k more) (step true front a)
    ∙ steps (front ++ a ∷ []) more
    ∙ ap (λ (l : List Assignment). kinds_with true (values_by l)) (append_assoc front (a ∷ []) more)

-- all assignments: what is known of the kinds gives the kind
pub kind-all : (assignments : List Assignment) → kind_by (kinds_in (record { present = false; numbers = false; texts = false }) assignments) ≡ kind_at assignments
kind-all [] = refl
kind-all (a ∷ more) = ap kind_by (ap (λ (k : Kinds). kinds_in k more) (step false [] a) ∙ steps (a ∷ []) more)

-- the end of the places
pub kinds-end : (kernels : List Kernel) (places : List Place) (n : ℕ) (kinds : Kinds) → length places ≤ n
    → kinds_in kinds (assignments_at kernels (drop n places)) ≡ kinds_in (record { present = false; numbers = false; texts = false }) (assignments_at kernels places)
    → kind_by kinds ≡ kind_at (assignments_at kernels places)
kinds-end kernels places n kinds l is =
    ap kind_by (sym (ap (λ (ps : List Place). kinds_in kinds (assignments_at kernels ps)) (drop_all n places l)) ∙ is) ∙ kind-all (assignments_at kernels places)
