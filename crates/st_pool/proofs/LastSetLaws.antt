-- The last assignment of a variable that sets its values, found from the end of the places.
use Rattle.std.proofs.Common.{◌≡◌, ◌<◌, ℕ, zero, suc, length, drop, Bool, true, false, ◌||◌, cond, Option, Some, None, slice_index_or, List, [], ◌∷◌, refl, sym, ap, ◌∙◌, arith}
use Rattle.std.specs.List.{list_any, cons_option}
use Rattle.std.specs.Option.{option_map_or}
use Rattle.st_kernel_text.specs.declared.assignment.Assignment.{Assignment}
use Rattle.st_pool.specs.declared.kernel.Kernel.{Kernel}
use Rattle.st_pool.specs.declared.place.Place.{Place}
use Rattle.st_pool.specs.IndexMachine.{assignment_at, assignments_at}
use Rattle.st_pool.specs.PoolMachine.{is_set_at}
use Rattle.st_pool.specs.Variable.{is_set, since_last_set}

-- one of the places has an assignment that sets
one-sets : (kernels : List Kernel) (places : List Place) (n : ℕ) (other : Place) → n < length places
    → is_set_at kernels (slice_index_or places n other) ≡ true → list_any is_set (assignments_at kernels places) ≡ true
one-sets kernels [] n other h s = absurd (omega (arith, h))
one-sets kernels (p ∷ more) zero other h s = by (assignment_at kernels p) s
  where
    by : (o : Option Assignment) → option_map_or is_set o false ≡ true → list_any is_set (cons_option o (assignments_at kernels more)) ≡ true
    by None e = absurd (cc e)
    by (Some a) e = ap (λ (b : Bool). b || list_any is_set (assignments_at kernels more)) e
one-sets kernels (p ∷ more) (suc n) other h s = by (assignment_at kernels p) (one-sets kernels more n other (omega (arith, h)) s)
  where
    by : (o : Option Assignment) → list_any is_set (assignments_at kernels more) ≡ true → list_any is_set (cons_option o (assignments_at kernels more)) ≡ true
    by None e = e
    by (Some a) e = either (is_set a) e
      where
        either : (b : Bool) → list_any is_set (assignments_at kernels more) ≡ true → (b || list_any is_set (assignments_at kernels more)) ≡ true
        either true e = refl
        either false e = e

-- a place whose assignment sets, after which none does
pub sets-here : (kernels : List Kernel) (places : List Place) (n : ℕ) (other : Place) → n < length places
    → is_set_at kernels (slice_index_or places n other) ≡ true → list_any is_set (assignments_at kernels (drop (suc n) places)) ≡ false
    → assignments_at kernels (drop n places) ≡ since_last_set (assignments_at kernels places)
sets-here kernels [] n other h s none = absurd (omega (arith, h))
sets-here kernels (p ∷ more) zero other h s none = by (assignment_at kernels p) s
  where
    by : (o : Option Assignment) → option_map_or is_set o false ≡ true
        → cons_option o (assignments_at kernels more) ≡ since_last_set (cons_option o (assignments_at kernels more))
    by None e = absurd (cc e)
    by (Some a) e = ap (λ (b : Bool). cond b (since_last_set (assignments_at kernels more)) (a ∷ assignments_at kernels more)) (sym none)
sets-here kernels (p ∷ more) (suc n) other h s none =
    sets-here kernels more n other (omega (arith, h)) s none
    ∙ by (assignment_at kernels p) (one-sets kernels more n other (omega (arith, h)) s)
  where
    by : (o : Option Assignment) → list_any is_set (assignments_at kernels more) ≡ true
        → since_last_set (assignments_at kernels more) ≡ since_last_set (cons_option o (assignments_at kernels more))
    by None e = refl
    by (Some a) e = ap (λ (b : Bool). cond b (since_last_set (assignments_at kernels more)) (a ∷ assignments_at kernels more)) (sym e)

-- assignments of which none sets
pub none-sets : (assignments : List Assignment) → list_any is_set assignments ≡ false → assignments ≡ since_last_set assignments
none-sets [] e = refl
none-sets (a ∷ more) e = by (is_set a) (list_any is_set more) e
  where
    by : (b c : Bool) → (b || c) ≡ false → a ∷ more ≡ cond c (since_last_set more) (a ∷ more)
    by true c e = absurd (cc e)
    by false true e = absurd (cc e)
    by false false e = refl
