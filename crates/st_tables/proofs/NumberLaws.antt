-- The numbers among the values of a variable.
use Rattle.std.proofs.Common.{◌≡◌, ◌≢◌, ℕ, Bool, true, false, cond, ◌||◌, List, [], ◌∷◌, map, filter, refl, sym, ap, ◌∙◌, subst, bytes_eq}
use Rattle.std.specs.List.{flat_map, list_any}
use Rattle.st_decimal.specs.declared.number.Dec.{Dec}
use Rattle.st_kernel_text.specs.declared.assignment.Assignment.{Assignment}
use Rattle.st_kernel_text.specs.declared.value.Value.{Value}
use Rattle.st_kernel_text.specs.declared.value.Value.TheVariants.{Number, Text}
use Rattle.st_pool.specs.Loaded.{all_assignments}
use Rattle.st_pool.specs.Variable.{is_of, is_number, is_text, kind_of, kind_of_values, values_of, since_last_set, loaded_values}
use Rattle.st_pool.specs.declared.kind.Kind.TheVariants.{Absent, Numbers, Texts, Mixed}
use Rattle.st_ticks.specs.declared.variable.Var.{Var}
use Rattle.st_tables.specs.declared.fault.TableFault.TheVariants.{WrongKind}
use Rattle.st_tables.specs.Names.{var_name}
use Rattle.st_tables.specs.Variables.{Loaded, Keeps, numbers_in, numbers_of}

in-mapped : (numbers : List Dec) → numbers_in (map Number numbers) ≡ numbers
in-mapped [] = refl
in-mapped (d ∷ numbers) = ap (λ (l : List Dec). d ∷ l) (in-mapped numbers)

-- where no value is a text, the numbers are all values
all-numbers : (values : List Value) → list_any is_text values ≡ false → values ≡ map Number (numbers_in values)
all-numbers [] e = refl
all-numbers ((Number d) ∷ values) e = ap (λ (l : List Value). (Number d) ∷ l) (all-numbers values e)
all-numbers ((Text t) ∷ values) e = absurd cc

-- where no assignment is of the name, there are no values
abbrev NoneLeft : List ℕ → List Assignment → Type 0
NoneLeft name assignments = list_any (is_of name) assignments ≡ false → filter (λ a. bytes_eq a.name name) assignments ≡ []

one-left : (name : List ℕ) (a : Assignment) (more : List Assignment) (b : Bool) → bytes_eq a.name name ≡ b → NoneLeft name more → NoneLeft name (a ∷ more)
one-left name a more true f rest e = absurd (let t : true ≡ false = sym (ap (λ (x : Bool). x || list_any (is_of name) more) f) ∙ e in cc)
one-left name a more false f rest e =
    ap (λ (x : Bool). cond x (a ∷ filter (λ x. bytes_eq x.name name) more) (filter (λ x. bytes_eq x.name name) more)) f
    ∙ rest (sym (ap (λ (x : Bool). x || list_any (is_of name) more) f) ∙ e)

none-left : (name : List ℕ) (assignments : List Assignment) → NoneLeft name assignments
none-left name [] e = refl
none-left name (a ∷ more) e = one-left name a more (bytes_eq a.name name) refl (none-left name more) e

no-values : (name : List ℕ) (assignments : List Assignment) → list_any (is_of name) assignments ≡ false → values_of name assignments ≡ []
no-values name assignments e = ap (λ (l : List Assignment). flat_map (λ a. a.values) (since_last_set l)) (none-left name assignments e)

text-kind : (values : List Value) → list_any is_text values ≡ true → kind_of_values values ≢ Texts → kind_of_values values ≢ Mixed → ⊥
text-kind values e f g = by (list_any is_number values) refl
  where
    kind : (b : Bool) → list_any is_number values ≡ b → kind_of_values values ≡ cond b Mixed Texts
    kind b h = ap (λ (x : Bool). cond x (cond (list_any is_number values) Mixed Texts) Numbers) e ∙ ap (λ (x : Bool). cond x Mixed Texts) h

    by : (b : Bool) → list_any is_number values ≡ b → ⊥
    by true h = g (kind true h)
    by false h = f (kind false h)

all-values : (name : List ℕ) (assignments : List Assignment) → kind_of name assignments ≢ Texts → kind_of name assignments ≢ Mixed
    → values_of name assignments ≡ map Number (numbers_in (values_of name assignments))
all-values name assignments f g = by (list_any (is_of name) assignments) refl
  where
    kind : (b : Bool) → list_any (is_of name) assignments ≡ b → kind_of name assignments ≡ cond b (kind_of_values (values_of name assignments)) Absent
    kind b h = ap (λ (x : Bool). cond x (kind_of_values (values_of name assignments)) Absent) h

    texts : (b : Bool) → list_any (is_of name) assignments ≡ true → list_any is_text (values_of name assignments) ≡ b
        → values_of name assignments ≡ map Number (numbers_in (values_of name assignments))
    texts true h t = absurd (text-kind (values_of name assignments) t (λ e. f (kind true h ∙ e)) (λ e. g (kind true h ∙ e)))
    texts false h t = all-numbers (values_of name assignments) t

    by : (b : Bool) → list_any (is_of name) assignments ≡ b → values_of name assignments ≡ map Number (numbers_in (values_of name assignments))
    by true h = texts (list_any is_text (values_of name assignments)) h refl
    by false h = subst (λ (l : List Value). l ≡ map Number (numbers_in l)) (sym (no-values name assignments h)) refl

pub numbers_are_all : (loaded : Loaded) (var : Var) → Keeps loaded (WrongKind var) → loaded_values (var_name var) loaded ≡ map Number (numbers_of loaded var)
numbers_are_all loaded var h = all-values (var_name var) (all_assignments loaded) h.0 h.1

-- the values are these numbers exactly where the numbers are these
pub values_are : (loaded : Loaded) (var : Var) (list : List Dec) → loaded_values (var_name var) loaded ≡ map Number list → list ≡ numbers_of loaded var
values_are loaded var list e = sym (in-mapped list) ∙ sym (ap numbers_in e)

pub numbers_are : (loaded : Loaded) (var : Var) (list : List Dec) → Keeps loaded (WrongKind var) → list ≡ numbers_of loaded var
    → loaded_values (var_name var) loaded ≡ map Number list
numbers_are loaded var list h e = numbers_are_all loaded var h ∙ ap (λ (l : List Dec). map Number l) (sym e)
