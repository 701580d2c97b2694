-- Lists of words and of values, one more at a time.
use Rattle.std.proofs.Common.{◌≡◌, ℕ, ◌+◌, ◌-◌, ◌<◌, ◌≤◌, Bool, cond, Some, Result, Ok, Err, List, [], ◌∷◌, ◌++◌, length, map, take, drop, get_or, refl, sym, ap, ◌∙◌, arith, append_assoc}
use Rattle.std.proofs.Math.Seq.{take-length}
use Rattle.std.proofs.lemmas.Grind.{flat_map-append}
use Rattle.std.proofs.lemmas.List.{append-nil, take_more, take-map}
use Rattle.std.proofs.lemmas.List.Folds.{flat_map-map}
use Rattle.std.proofs.lemmas.Option.{same_Some}
use Rattle.std.specs.Result.{IsErrAnd, IfErr, IfOk}
use Rattle.std.specs.List.{flat_map, prefix_len, slice_get}
use Rattle.st_words.specs.Values.{joined}

prefix_step : (b : Bool) (m n : ℕ) → m ≡ n → cond b (1 + m) 0 ≡ cond b (1 + n) 0
prefix_step b m n e = ap (λ (k : ℕ). cond b (1 + k) 0) e

pub prefix_of_map : {X Y : Type 0} (p : Y → Bool) (f : X → Y) (xs : List X) → prefix_len p (map f xs) ≡ prefix_len (λ x. p (f x)) xs
prefix_of_map p f [] = refl
prefix_of_map p f (x ∷ xs) = prefix_step (p (f x)) (prefix_len p (map f xs)) (prefix_len (λ x. p (f x)) xs) (prefix_of_map p f xs)

flat_map_one : {X A : Type 0} (f : X → List A) (xs : List X) (i : ℕ) (x : X) → i < length xs
    → flat_map f (take (i + 1) xs) ≡ flat_map f (take i xs) ++ f (get_or xs i x)
flat_map_one {A = A} f xs i x l =
    ap (flat_map f) (take_more xs i x l) ∙ flat_map-append f (take i xs) (get_or xs i x ∷ [])
    ∙ ap (λ (t : List A). flat_map f (take i xs) ++ t) (append-nil (f (get_or xs i x)))

-- one more piece after those before
pub pieces_more : {X A : Type 0} (f : X → List A) (text : List A) (xs : List X) (i : ℕ) (x : X) → i < length xs
    → (text ++ flat_map f (take i xs)) ++ f (get_or xs i x) ≡ text ++ flat_map f (take (i + 1) xs)
pieces_more {X = X} {A = A} f text xs i x l =
    append_assoc text (flat_map f (take i xs)) (f (get_or xs i x))
    ∙ ap (λ (t : List A). text ++ t) (sym (flat_map_one f xs i x l))

pub take_of_map : {X Y : Type 0} (f : X → Y) (n : ℕ) (xs : List X) → map f (take n xs) ≡ take n (map f xs)
take_of_map f n xs = sym (take-map f n xs)

-- what is after the first item
abbrev pub tail_of : {X : Type 0} → List X → List X
tail_of xs = take (length xs - 1) (drop 1 xs)

pub tail_is : {X : Type 0} (x : X) (xs : List X) → tail_of (x ∷ xs) ≡ xs
tail_is {X = X} x xs =
    let n : length (x ∷ xs) - 1 ≡ length xs = omega arith in
    ap (λ (k : ℕ). take k xs) n ∙ take-length xs

-- words in a row, each but the first with a blank before it
pub joined_is : {X : Type 0} (f : X → List ℕ) (xs : List X) (x : X) (first text : List ℕ) → 1 ≤ length xs → x ≡ get_or xs 0 x → first ≡ f x
    → text ≡ first ++ flat_map (λ w. 32 ∷ f w) (tail_of xs) → text ≡ joined (map f xs)
joined_is f [] x first text l is e t = absurd (omega arith)
joined_is {X = X} f (y ∷ xs) x first text l is e t =
    let head : first ≡ f y = e ∙ ap f is in
    let tail : flat_map (λ (z : X). 32 ∷ f z) (tail_of (y ∷ xs)) ≡ flat_map (λ w. 32 ∷ w) (map f xs) =
    ap (flat_map (λ (z : X). 32 ∷ f z)) (tail_is y xs) ∙ sym (flat_map-map (λ w. 32 ∷ w) f xs) in
    t ∙ (λ i. head i ++ tail i)

-- a list of one item
pub one_value : {X : Type 0} (xs : List X) (x : X) → length xs ≡ 1 → slice_get xs 0 ≡ Some x → xs ≡ x ∷ []
one_value [] x l e = absurd (omega arith)
one_value {X = X} (y ∷ []) x l e = ap (λ (z : X). z ∷ []) (same_Some y x e)
one_value (y ∷ z ∷ more) x l e = absurd (omega arith)

-- what holds of a fault, or of a value, that a result has
pub err_and : {A F : Type 0} (r : Result A F) (P Q : F → Type 0) → IsErrAnd r P → ((f : F) → P f → Q f) → IfErr r Q
err_and (Ok x) P Q h g = tt
err_and (Err f) P Q h g = g f h

pub if_err : {A F : Type 0} (r : Result A F) (P Q : F → Type 0) → IfErr r P → ((f : F) → P f → Q f) → IfErr r Q
if_err (Ok x) P Q h g = tt
if_err (Err f) P Q h g = g f h

pub if_ok : {A F : Type 0} (r : Result A F) (P Q : A → Type 0) → IfOk r P → ((x : A) → P x → Q x) → IfOk r Q
if_ok (Ok x) P Q h g = g x h
if_ok (Err f) P Q h g = tt
