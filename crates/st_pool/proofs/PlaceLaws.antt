-- The place of the last kernel of a name.
use Rattle.std.proofs.Common.{◌⊎◌, inl, inr, ◌≡◌, ℕ, suc, ◌+◌, ◌<◌, length, Bool, true, false, ◌||◌, cond, Option, None, Some, List, [], ◌∷◌, refl, sym, ap, ◌∙◌, subst, arith}
use Rattle.std.specs.List.{remove}
use Rattle.std.proofs.lemmas.Bool.{cases_Bool, cond-true, cond-false}
use Rattle.st_pool.specs.declared.kernel.Kernel.{Kernel}
use Rattle.st_pool.specs.Loaded.{is_named, is_loaded, without_last}
use Rattle.st_pool.specs.PoolMachine.{last_place}

-- at place i of the list stands its last kernel of the name
abbrev IsLastAt : List ℕ → List Kernel → ℕ → Type 0
IsLastAt name ks i = (is_loaded name ks ≡ true) × (i < length ks) × (remove ks i ≡ without_last name ks)

abbrev Placed : List ℕ → ℕ → Option ℕ → List Kernel → Option ℕ → Type 0
Placed name n found ks r = ((is_loaded name ks ≡ false) × (r ≡ found)) ⊎ ((j : ℕ) × (r ≡ Some (n + j)) × IsLastAt name ks j)

loaded_more : (name : List ℕ) (k : Kernel) (more : List Kernel) → is_loaded name more ≡ true → is_loaded name (k ∷ more) ≡ true
loaded_more name k more h = elim (cases_Bool (is_named name k)) [
  | inl y ↦ ap (λ (b : Bool). b || is_loaded name more) y
  | inr n ↦ ap (λ (b : Bool). b || is_loaded name more) n ∙ h
]

here : (name : List ℕ) (k : Kernel) (more : List Kernel) → is_named name k ≡ true → is_loaded name more ≡ false → IsLastAt name (k ∷ more) 0
here name k more y h = (
  ap (λ (b : Bool). b || is_loaded name more) y,
  omega arith,
  sym (cond-false (is_loaded name more) (k ∷ without_last name more) (cond (is_named name k) more (k ∷ more)) h ∙ cond-true (is_named name k) more (k ∷ more) y),
)

further : (name : List ℕ) (k : Kernel) (more : List Kernel) (j : ℕ) → IsLastAt name more j → IsLastAt name (k ∷ more) (suc j)
further name k more j h = (
  loaded_more name k more h.0,
  omega (arith, h.1),
  ap (λ (l : List Kernel). k ∷ l) h.2 ∙ sym (cond-true (is_loaded name more) (k ∷ without_last name more) (cond (is_named name k) more (k ∷ more)) h.0),
)

placed : (name : List ℕ) (n : ℕ) (found : Option ℕ) (ks : List Kernel) → Placed name n found ks (last_place name n found ks)
placed name n found [] = inl (refl, refl)
placed name n found (k ∷ more) = by (is_named name k) refl (last_place name (n + 1) (cond (is_named name k) (Some n) found) more) (placed name (n + 1) (cond (is_named name k) (Some n) found) more)
  where
    by : (b : Bool) → is_named name k ≡ b → (r : Option ℕ) → Placed name (n + 1) (cond b (Some n) found) more r → Placed name n found (k ∷ more) r
    by b y r (inr (j, e, last)) = inr (suc j, e ∙ ap Some (omega arith), further name k more j last)
    by true y r (inl (h, e)) = inr (0, e ∙ ap Some (omega arith), here name k more y h)
    by false y r (inl (h, e)) = inl (ap (λ (b : Bool). b || is_loaded name more) y ∙ h, e)

-- no place: no kernel has the name
pub no-place : (name : List ℕ) (ks : List Kernel) → last_place name 0 None ks ≡ None → is_loaded name ks ≡ false
no-place name ks is = by (placed name 0 None ks)
  where
    by : Placed name 0 None ks (last_place name 0 None ks) → is_loaded name ks ≡ false
    by (inl h) = h.0
    by (inr (j, e, last)) = absurd (cc (is, e))

-- a place: the last kernel of the name stands there
pub at-place : (name : List ℕ) (ks : List Kernel) (i : ℕ) → last_place name 0 None ks ≡ Some i
    → (is_loaded name ks ≡ true) × (i < length ks) × (remove ks i ≡ without_last name ks)
at-place name ks i is = by (placed name 0 None ks)
  where
    by : Placed name 0 None ks (last_place name 0 None ks) → IsLastAt name ks i
    by (inl h) = absurd (cc (is, h.1))
    by (inr (j, e, last)) = subst (IsLastAt name ks) (same j e) last
      where
        same : (j : ℕ) → last_place name 0 None ks ≡ Some (0 + j) → j ≡ i
        same j e =
            let eq : i ≡ 0 + j = cc (is, e) in
            omega (arith, eq)
