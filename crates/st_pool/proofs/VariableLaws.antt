-- The values of a variable, one more assignment at a time.
use Rattle.std.proofs.Common.{◌≡◌, Bool, true, false, ◌||◌, cond, List, [], ◌∷◌, ◌++◌, refl, ap, ◌∙◌}
use Rattle.std.specs.List.{flat_map, list_any}
use Rattle.std.proofs.lemmas.List.{append-nil}
use Rattle.std.proofs.lemmas.Grind.{flat_map-append}
use Rattle.std.proofs.lemmas.List.Folds.{list_any-append}
use Rattle.st_kernel_text.specs.declared.assignment.Assignment.{Assignment}
use Rattle.st_kernel_text.specs.declared.value.Value.{Value}
use Rattle.st_pool.specs.PoolMachine.{values_by}
use Rattle.st_pool.specs.Variable.{is_set, since_last_set}

-- one more assignment at the end: it sets the values, or adds to them
since-last : (a : List Assignment) (x : Assignment) → since_last_set (a ++ x ∷ []) ≡ cond (is_set x) (x ∷ []) (since_last_set a ++ x ∷ [])
since-last [] x = by (is_set x)
  where
    by : (b : Bool) → x ∷ [] ≡ cond b (x ∷ []) (x ∷ [])
    by true = refl
    by false = refl
since-last (y ∷ a) x =
    rw (list_any-append is_set a (x ∷ [])) (by (list_any is_set a) (is_set x) (since_last_set (a ++ x ∷ [])) (since_last_set a) (since-last a x))
  where
    by : (m n : Bool) (whole front : List Assignment) → whole ≡ cond n (x ∷ []) (front ++ x ∷ [])
        → cond (m || (n || false)) whole (y ∷ (a ++ x ∷ [])) ≡ cond n (x ∷ []) (cond m front (y ∷ a) ++ x ∷ [])
    by true true whole front e = e
    by true false whole front e = e
    by false true whole front e = e
    by false false whole front e = refl

-- the values after one more assignment of the variable
pub values-last : (before : List Assignment) (a : Assignment) → values_by (before ++ a ∷ []) ≡ cond (is_set a) a.values (values_by before ++ a.values)
values-last before a = added (is_set a) refl
  where
    added : (b : Bool) → is_set a ≡ b → values_by (before ++ a ∷ []) ≡ cond b a.values (values_by before ++ a.values)
    added true e =
        ap (λ (l : List Assignment). flat_map (λ x. x.values) l) (since-last before a ∙ ap (λ (t : Bool). cond t (a ∷ []) (since_last_set before ++ a ∷ [])) e) ∙ append-nil a.values
    added false e =
        ap (λ (l : List Assignment). flat_map (λ x. x.values) l) (since-last before a ∙ ap (λ (t : Bool). cond t (a ∷ []) (since_last_set before ++ a ∷ [])) e)
        ∙ flat_map-append (λ (x : Assignment). x.values) (since_last_set before) (a ∷ [])
        ∙ ap (λ (l : List Value). flat_map (λ x. x.values) (since_last_set before) ++ l) (append-nil a.values)
