-- Tables that loaded kernels give: one answer each, by their own variables alone.
use Rattle.std.proofs.Common.{◌≡◌, ◌≢◌, ◌⊎◌, inl, inr, List, [], ◌∷◌, Result, Ok, Err, refl, sym, ◌∙◌, ap, subst}
use Rattle.st_rules.specs.Rules.{AreKept, IsFirstBroken}
use Rattle.st_ticks.specs.declared.variable.Var.{Var}
use Rattle.st_rules.proofs.Alike.{Alike, alike_both, first_along, kept_along}
use Rattle.st_rules.proofs.First.{one_first, none_broken}
use Rattle.st_tables.specs.Laws.{IsAlike, AreAlike}
use Rattle.st_tables.specs.Tables.{TableGives, Agree}
use Rattle.st_tables.specs.Variables.{Loaded, Keeps, rules_of, rules_of_all, numbers_in, numbers_of}
use Rattle.st_tables.specs.declared.fault.TableFault.{TableFault}
use Rattle.st_tables.specs.declared.fault.TableFault.TheVariants.{NoVariable, WrongKind, Leaps, Deltet, Clock, OutOfMemory}
use Rattle.st_tables.proofs.KindLaws.{rules_form}

module _ {A : Type 0} where
  agree_same : (a : Result A TableFault) → Agree a a
  agree_same (Ok x) = refl
  agree_same (Err (NoVariable v)) = refl
  agree_same (Err (WrongKind v)) = refl
  agree_same (Err (Leaps f)) = refl
  agree_same (Err (Deltet f)) = refl
  agree_same (Err (Clock f)) = refl
  agree_same (Err OutOfMemory) = tt

  agree_out : (a : Result A TableFault) → Agree a (Err OutOfMemory)
  agree_out (Ok x) = tt
  agree_out (Err (NoVariable v)) = tt
  agree_out (Err (WrongKind v)) = tt
  agree_out (Err (Leaps f)) = tt
  agree_out (Err (Deltet f)) = tt
  agree_out (Err (Clock f)) = tt
  agree_out (Err OutOfMemory) = tt

  agree_is : (a b : Result A TableFault) → a ≡ b → Agree a b
  agree_is a b e = subst (λ (x : Result A TableFault). Agree a x) e (agree_same a)

  module _ (loaded : Loaded) (vars : List Var) (Made : Result A TableFault → Type 0) where
    -- an answer is want of memory, the first refused variable, or what is made of the numbers
    abbrev pub Told : Result A TableFault → Type 0
    Told a =
        (a ≡ Err OutOfMemory)
        ⊎ (((fault : TableFault) × ((a ≡ Err fault) × IsFirstBroken (Keeps loaded) (rules_of_all vars) fault))
        ⊎ (AreKept (Keeps loaded) (rules_of_all vars) × Made a))

    pub told : (a : Result A TableFault) → TableGives loaded vars Made a → Told a
    told (Ok x) h = inr (inr h)
    told (Err (NoVariable v)) h = inr (inl (NoVariable v, (refl, h)))
    told (Err (WrongKind v)) h = inr (inl (WrongKind v, (refl, h)))
    told (Err (Leaps f)) h = inr (inr h)
    told (Err (Deltet f)) h = inr (inr h)
    told (Err (Clock f)) h = inr (inr h)
    told (Err OutOfMemory) h = inl refl

    -- there is one answer, where what is made of the numbers is one
    pub one_table : ((a b : Result A TableFault) → Made a → Made b → a ≡ b) → (a b : Result A TableFault) → TableGives loaded vars Made a → TableGives loaded vars Made b
        → Agree a b
    one_table one a b g h = elim (told a g) [
      | inl out ↦ subst (λ (x : Result A TableFault). Agree x b) (sym out) tt
      | inr x ↦ elim (told b h) [
        | inl out ↦ subst (λ (x : Result A TableFault). Agree a x) (sym out) (agree_out a)
        | inr y ↦ agree_is a b (both x y)
      ]
    ]
      where
        both : ((fault : TableFault) × ((a ≡ Err fault) × IsFirstBroken (Keeps loaded) (rules_of_all vars) fault)) ⊎ (AreKept (Keeps loaded) (rules_of_all vars) × Made a)
            → ((fault : TableFault) × ((b ≡ Err fault) × IsFirstBroken (Keeps loaded) (rules_of_all vars) fault)) ⊎ (AreKept (Keeps loaded) (rules_of_all vars) × Made b)
            → a ≡ b
        both (inl x) (inl y) =
            x.1.0 ∙ ap (λ (f : TableFault). Err f) (one_first (Keeps loaded) (rules_of_all vars) x.0 y.0 x.1.1 y.1.1) ∙ sym y.1.0
        both (inl x) (inr y) = absurd (none_broken (Keeps loaded) (rules_of_all vars) x.0 y.0 x.1.1)
        both (inr x) (inl y) = absurd (none_broken (Keeps loaded) (rules_of_all vars) y.0 x.0 y.1.1)
        both (inr x) (inr y) = one a b x.1 y.1

    -- the first refused variable is an answer,
    pub refused_is_given : (fault : TableFault) → IsFirstBroken (Keeps loaded) (rules_of_all vars) fault → TableGives loaded vars Made (Err fault)
    refused_is_given (NoVariable v) h = h
    refused_is_given (WrongKind v) h = h
    refused_is_given (Leaps f) h = absurd (h.broken tt)
    refused_is_given (Deltet f) h = absurd (h.broken tt)
    refused_is_given (Clock f) h = absurd (h.broken tt)
    refused_is_given OutOfMemory h = tt

    -- and so is a fault of the numbers, where no variable is refused
    pub fault_is_given : (fault : TableFault) → AreKept (Keeps loaded) (rules_of_all vars)
        → ((v : Var) → Made (Err (NoVariable v)) → ⊥) → ((v : Var) → Made (Err (WrongKind v)) → ⊥)
        → (fault ≢ OutOfMemory → Made (Err fault)) → TableGives loaded vars Made (Err fault)
    fault_is_given (NoVariable v) k absent wrong m = absurd (absent v (m (λ e. absurd cc)))
    fault_is_given (WrongKind v) k absent wrong m = absurd (wrong v (m (λ e. absurd cc)))
    fault_is_given (Leaps f) k absent wrong m = (k, m (λ e. absurd cc))
    fault_is_given (Deltet f) k absent wrong m = (k, m (λ e. absurd cc))
    fault_is_given (Clock f) k absent wrong m = (k, m (λ e. absurd cc))
    fault_is_given OutOfMemory k absent wrong m = tt

-- by the same values a variable keeps the same rules
rules_alike : (one other : Loaded) (var : Var) → IsAlike one other var → Alike (Keeps one) (Keeps other) (rules_of var)
rules_alike one other var a = elim (rules_form var) [
  | inl form ↦ subst (λ (rules : List TableFault). Alike (Keeps one) (Keeps other) rules) (sym form) (there, (wrong, tt))
  | inr form ↦ subst (λ (rules : List TableFault). Alike (Keeps one) (Keeps other) rules) (sym form) (wrong, tt)
]
  where
    there : (Keeps one (NoVariable var) → Keeps other (NoVariable var)) × (Keeps other (NoVariable var) → Keeps one (NoVariable var))
    there = (λ h e. h (a.kind ∙ e), λ h e. h (sym a.kind ∙ e))

    wrong : (Keeps one (WrongKind var) → Keeps other (WrongKind var)) × (Keeps other (WrongKind var) → Keeps one (WrongKind var))
    wrong = (λ h. (λ e. h.0 (a.kind ∙ e), λ e. h.1 (a.kind ∙ e)), λ h. (λ e. h.0 (sym a.kind ∙ e), λ e. h.1 (sym a.kind ∙ e)))

all_alike : (one other : Loaded) (vars : List Var) → AreAlike one other vars → Alike (Keeps one) (Keeps other) (rules_of_all vars)
all_alike one other [] a = tt
all_alike one other (v ∷ vars) a = alike_both (Keeps one) (Keeps other) (rules_of v) (rules_of_all vars) (rules_alike one other v a.0) (all_alike one other vars a.1)

pub same_numbers : (one other : Loaded) (var : Var) → IsAlike one other var → numbers_of one var ≡ numbers_of other var
same_numbers one other var a = ap numbers_in a.values

module _ {A : Type 0} (one other : Loaded) (vars : List Var) (Made Other : Result A TableFault → Type 0) where
  pub table_along : (a : Result A TableFault) → AreAlike one other vars → (Made a → Other a) → TableGives one vars Made a → TableGives other vars Other a
  table_along (Ok x) same on h = (kept_along (Keeps one) (Keeps other) (rules_of_all vars) (all_alike one other vars same) h.0, on h.1)
  table_along (Err (NoVariable v)) same on h = first_along (Keeps one) (Keeps other) (rules_of_all vars) (NoVariable v) (all_alike one other vars same) h
  table_along (Err (WrongKind v)) same on h = first_along (Keeps one) (Keeps other) (rules_of_all vars) (WrongKind v) (all_alike one other vars same) h
  table_along (Err (Leaps f)) same on h = (kept_along (Keeps one) (Keeps other) (rules_of_all vars) (all_alike one other vars same) h.0, on h.1)
  table_along (Err (Deltet f)) same on h = (kept_along (Keeps one) (Keeps other) (rules_of_all vars) (all_alike one other vars same) h.0, on h.1)
  table_along (Err (Clock f)) same on h = (kept_along (Keeps one) (Keeps other) (rules_of_all vars) (all_alike one other vars same) h.0, on h.1)
  table_along (Err OutOfMemory) same on h = tt
