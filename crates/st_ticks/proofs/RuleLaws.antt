-- What the code finds out of the rules.
use Rattle.std.proofs.Common.{◌≡◌, ℕ, ◌-◌, ◌*◌, ◌^◌, ◌<◌, ◌≤◌, zero, suc, true, false, is_some, refl, sym, ap, ◌∙◌, subst, arith, Option, Some, None, IfSome, IfNone, IsTrue, List, [], ◌∷◌, ◌++◌, length, take, drop, get_or}
use Rattle.std.specs.List.{All}
use Rattle.std.proofs.Math.Nat.{mul-le-mul_right}
use Rattle.std.proofs.lemmas.List.{take_all}
use Rattle.std.proofs.lemmas.List.Elements.{All-weaker}
use Rattle.st_decimal.specs.declared.number.Dec.{Dec}
use Rattle.st_ticks.specs.Face.{span, span_of_rest}
use Rattle.st_ticks.specs.Variables.{HaveModuli, IsFrom, IsNumber}
use Rattle.st_ticks.specs.declared.field.Field.{Field}
use Rattle.st_ticks.proofs.MakingLaws.{no_dec}
use Rattle.st_ticks.proofs.WholeLaws.{same_number}

pub split_at : {X : Type 0} (xs : List X) (i : ℕ) (d : X) → i < length xs → xs ≡ take i xs ++ (get_or xs i d ∷ drop (suc i) xs)
split_at [] i d h = absurd (omega arith)
split_at (x ∷ xs) zero d h = refl
split_at (x ∷ xs) (suc i) d h = ap (λ (ys : List _). x ∷ ys) (split_at xs i d (omega arith))

-- moduli tell the spans of their fields
pub span_is_one : (ms : List Dec) (fs gs : List Field) → HaveModuli ms fs → HaveModuli ms gs → span fs ≡ span gs
span_is_one [] [] [] h k = refl
span_is_one [] [] (g ∷ gs) h k = absurd k
span_is_one [] (f ∷ fs) gs h k = absurd h
span_is_one (m ∷ ms) [] gs h k = absurd h
span_is_one (m ∷ ms) (f ∷ fs) [] h k = absurd k
span_is_one (m ∷ ms) (f ∷ fs) (g ∷ gs) h k =
    ap (λ (x : ℕ). x * span fs) (same_number m f.modulus g.modulus h.0 k.0) ∙ ap (λ (x : ℕ). g.modulus * x) (span_is_one ms fs gs h.3 k.3)

pub rest_is_one : (ms : List Dec) (fs gs : List Field) → HaveModuli ms fs → HaveModuli ms gs → span_of_rest fs ≡ span_of_rest gs
rest_is_one [] [] [] h k = refl
rest_is_one [] [] (g ∷ gs) h k = absurd k
rest_is_one [] (f ∷ fs) gs h k = absurd h
rest_is_one (m ∷ ms) [] gs h k = absurd h
rest_is_one (m ∷ ms) (f ∷ fs) [] h k = absurd k
rest_is_one (m ∷ ms) (f ∷ fs) (g ∷ gs) h k = span_is_one ms fs gs h.3 k.3

-- the moduli after the first, as the code cuts them
abbrev pub rest_of : List Dec → List Dec
rest_of ms = take (length ms - 1) (drop 1 ms)

rest_is : (m : Dec) (ms : List Dec) → rest_of (m ∷ ms) ≡ ms
rest_is m ms = take_all (length (m ∷ ms) - 1) ms (omega arith)

one_times : (m s t : ℕ) → 1 ≤ m → m * s ≤ t → s ≤ t
one_times m s t h l = omega (arith, mul-le-mul_right s h, l)

pub none_rest : (ms : List Dec) → 1 ≤ length ms → ((fs : List Field) → HaveModuli (rest_of ms) fs → span fs ≤ 10 ^ 12 → ⊥)
    → (fs : List Field) → HaveModuli ms fs → span fs ≤ 10 ^ 12 → ⊥
none_rest [] l h fs k s = absurd (omega arith)
none_rest (m ∷ ms) l h [] k s = absurd k
none_rest (m ∷ ms) l h (f ∷ fs) k s =
    h fs (subst (λ (xs : List Dec). HaveModuli xs fs) (sym (rest_is m ms)) k.3) (one_times f.modulus (span fs) (10 ^ 12) k.1 s)

abbrev pub HasSpan : List Dec → ℕ → Type 0
HasSpan ms n = (fs : List Field) × HaveModuli ms fs × (n ≡ span fs)

pub some_rest : (ms : List Dec) (q n a b : ℕ) → 1 ≤ length ms → IsNumber q (get_or ms 0 no_dec) → 1 ≤ q → q ≤ 10 ^ 18 → a ≡ q → b ≡ n → HasSpan (rest_of ms) n → HasSpan ms (a * b)
some_rest [] q n a b l i lo hi e f h = absurd (omega arith)
some_rest (m ∷ ms) q n a b l i lo hi e f h = (
  record { modulus = q; offset = 0 } ∷ h.0,
  (i, lo, hi, subst (λ (xs : List Dec). HaveModuli xs h.0) (rest_is m ms) h.1),
  ap (λ (x : ℕ). x * b) e ∙ ap (λ (x : ℕ). q * x) (f ∙ h.2),
)

pub large_rest : (ms : List Dec) (t : ℕ) → HasSpan ms t → 10 ^ 12 < t → (fs : List Field) → HaveModuli ms fs → span fs ≤ 10 ^ 12 → ⊥
large_rest ms t h l fs k s = absurd (omega (arith, h.2, span_is_one ms h.0 fs h.1 k))

-- a first modulus, and the others
pub has_product : (ms : List Dec) (m o : Option ℕ) → 1 ≤ length ms → is_some m ≡ true
    → IfSome m (λ n. IsNumber n (get_or ms 0 no_dec)) → IfSome m (λ n. 1 ≤ n) → IfSome m (λ n. n ≤ 10 ^ 18)
    → IfSome o (λ n. HasSpan (rest_of ms) n) → IfSome o (λ n. n ≤ 10 ^ 12)
    → IfNone o ((fs : List Field) → HaveModuli (rest_of ms) fs → span fs ≤ 10 ^ 12 → ⊥)
    → (IsTrue (is_some o) → (fs : List Field) × HaveModuli ms fs × (span_of_rest fs ≤ 10 ^ 12))
    × (((fs : List Field) × HaveModuli ms fs × (span_of_rest fs ≤ 10 ^ 12)) → IsTrue (is_some o))
has_product [] m o l t i lo hi s b n = absurd (omega arith)
has_product (d ∷ ms) None o l t i lo hi s b n = absurd (cc)
has_product (d ∷ ms) (Some q) (Some k) l t i lo hi s b n = (
  λ h. (record { modulus = q; offset = 0 } ∷ s.0, (i, lo, hi, subst (λ (xs : List Dec). HaveModuli xs s.0) (rest_is d ms) s.1), omega (arith, s.2, b)),
  λ h. refl,
)
has_product (d ∷ ms) (Some q) None l t i lo hi s b n = (λ h. absurd (false_true h), λ h. absurd (no_fields h.0 h.1 h.2))
  where
    false_true : IsTrue (is_some {T = ℕ} None) → ⊥
    false_true e = absurd (let f : false ≡ true = e in cc)

    no_fields : (fs : List Field) → HaveModuli (d ∷ ms) fs → span_of_rest fs ≤ 10 ^ 12 → ⊥
    no_fields [] h k = h
    no_fields (f ∷ fs) h k = n fs (subst (λ (xs : List Dec). HaveModuli xs fs) (sym (rest_is d ms)) h.3) k

pub as_many : (n : ℕ) (ds : List Dec) → All (IsFrom n n) ds → All (IsNumber n) ds
as_many n ds h = All-weaker (IsFrom n n) (IsNumber n) (λ d f. subst (λ (k : ℕ). IsNumber k d) (omega (arith, f.2, f.3)) f.1) ds h

pub as_many_back : (n : ℕ) (ds : List Dec) → All (IsNumber n) ds → All (IsFrom n n) ds
as_many_back n ds h = All-weaker (IsNumber n) (IsFrom n n) (λ d f. (n, f, omega arith, omega arith)) ds h
