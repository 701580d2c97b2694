-- Whether the loaded kernels give some variables these numbers.
use Rattle.std.proofs.Common.{◌≡◌, ℕ, ◌+◌, ◌<◌, ◌≤◌, zero, suc, Option, None, Some, List, [], ◌∷◌, ◌++◌, length, take, drop, map, Bor, get_or, refl, sym, ap, ◌∙◌, arith}
use Rattle.std.proofs.lemmas.List.{take_more, take_all}
use Rattle.std.specs.Iterator.{YieldsFirstRef}
use Rattle.std.specs.List.{slice_get}
use Rattle.std.specs.Option.{option_copied}
use Rattle.st_decimal.specs.declared.number.Dec.{Dec}
use Rattle.st_kernel_text.specs.declared.value.Value.{Value}
use Rattle.st_kernel_text.specs.declared.value.Value.TheVariants.{Number}
use Rattle.st_pool.specs.Variable.{loaded_values}
use Rattle.st_rules.specs.Rules.{AreKept}
use Rattle.st_ticks.specs.declared.variable.Var.{Var}
use Rattle.st_tables.specs.Names.{var_name}
use Rattle.st_tables.specs.Variables.{Loaded, Keeps, rules_of_all, numbers_of, all_numbers}
use Rattle.st_tables.proofs.KindLaws.{kept_at}
use Rattle.st_tables.proofs.NumberLaws.{values_are, numbers_are}

abbrev pub no_numbers : List Dec
no_numbers = []

get-map : {X A : Type 0} (f : X → A) (xs : List X) (i : ℕ) (x : X) (a : A) → i < length xs → get_or (map f xs) i a ≡ f (get_or xs i x)
get-map f [] i x a l = absurd (omega arith)
get-map f (y ∷ xs) zero x a l = refl
get-map f (y ∷ xs) (suc i) x a l = get-map f xs i x a (omega arith)

map-snoc : {X A : Type 0} (f : X → A) (xs : List X) (x : X) → map f (xs ++ x ∷ []) ≡ map f xs ++ f x ∷ []
map-snoc f [] x = refl
map-snoc f (y ∷ xs) x = ap (λ (l : List _). f y ∷ l) (map-snoc f xs x)

-- the numbers of one more variable are these
pub one_given : (loaded : Loaded) (vars : List Var) (numbers : List (List Dec)) (i : ℕ) (v : Var) (n : List Dec) → AreKept (Keeps loaded) (rules_of_all vars)
    → i < length vars → i < length numbers → take i numbers ≡ all_numbers loaded (take i vars)
    → loaded_values (var_name (get_or vars i v)) loaded ≡ map Number (get_or numbers i n) → take (i + 1) numbers ≡ all_numbers loaded (take (i + 1) vars)
one_given loaded vars numbers i v n kept l k e f =
    take_more numbers i n k
    ∙ ap (λ (x : List (List Dec)). x ++ get_or numbers i n ∷ []) e
    ∙ ap (λ (x : List Dec). all_numbers loaded (take i vars) ++ x ∷ []) (values_are loaded (get_or vars i v) (get_or numbers i n) f)
    ∙ sym (map-snoc (numbers_of loaded) (take i vars) (get_or vars i v))
    ∙ sym (ap (λ (x : List Var). all_numbers loaded x) (take_more vars i v l))

-- the numbers of one variable are others
pub one_other : (loaded : Loaded) (vars : List Var) (numbers : List (List Dec)) (i : ℕ) (v : Var) (n : List Dec) → AreKept (Keeps loaded) (rules_of_all vars)
    → i < length vars → (loaded_values (var_name (get_or vars i v)) loaded ≡ map Number (get_or numbers i n) → ⊥)
    → numbers ≡ all_numbers loaded vars → ⊥
one_other loaded vars numbers i v n kept l other e =
    other (numbers_are loaded (get_or vars i v) (get_or numbers i n) (kept_at loaded vars i v l kept)
    (ap (λ (x : List (List Dec)). get_or x i n) e ∙ get-map (numbers_of loaded) vars i v n l))

pub all_given : (loaded : Loaded) (vars : List Var) (numbers : List (List Dec)) (i : ℕ) → length numbers ≡ length vars → length vars ≤ i
    → take i numbers ≡ all_numbers loaded (take i vars) → numbers ≡ all_numbers loaded vars
all_given loaded vars numbers i same l e =
    sym (take_all i numbers (omega arith)) ∙ e ∙ ap (λ (x : List Var). all_numbers loaded x) (take_all i vars l)

-- where values are numbers of which the first i are taken, the next value is the next number
value-here : (numbers : List Dec) (i : ℕ) (n : Dec) (values : List Value) → i < length numbers → map Number (take i numbers) ++ values ≡ map Number numbers
    → slice_get values 0 ≡ Some (Number (get_or numbers i n))
value-here [] i n values l e = absurd (omega arith)
value-here (d ∷ more) zero n values l e = ap (λ (x : List Value). slice_get x 0) e
value-here (d ∷ more) (suc i) n values l e = value-here more i n values (omega arith) (ap (λ (x : List Value). drop 1 x) e)

value-lent : (next : Option (Bor Value)) (values rest : List Value) → YieldsFirstRef (λ (x : List Value). x) values next rest → option_copied next ≡ slice_get values 0
value-lent None values rest h = sym (ap (λ (x : List Value). slice_get x 0) h.0)
value-lent (Some v) values rest h = sym (ap (λ (x : List Value). slice_get x 0) h)

-- the value that comes next isn't the next number
pub other_value : (all : List Value) (numbers : List Dec) (i : ℕ) (n : Dec) (values rest : List Value) (next : Option (Bor Value)) → i < length numbers
    → all ≡ map Number (take i numbers) ++ values → YieldsFirstRef (λ (x : List Value). x) values next rest
    → (option_copied next ≡ Some (Number (get_or numbers i n)) → ⊥) → all ≡ map Number numbers → ⊥
other_value all numbers i n values rest next l so_far lent other e =
    other (value-lent next values rest lent ∙ value-here numbers i n values l (sym so_far ∙ e))
