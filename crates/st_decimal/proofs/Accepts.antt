-- The bytes of a number, read byte by byte from a place on: whether a number may end after them.
use Rattle.std.proofs.Common.{◌≡◌, ℕ, Bool, true, false, List, [], ◌∷◌, ◌++◌, Option, Some, None, refl, ◌∙◌, ap, arith}
use Rattle.std.proofs.lemmas.Bool.Decides.{nat_tests}
use Rattle.std.specs.Char.{is_ascii_digit}
use Rattle.std.specs.Prelude.{◌==◌, if◌then◌else◌}
use Rattle.st_text.proofs.Logic.{and-left, and-right}
use Rattle.st_text.specs.Bytes.{are_digits}
use Rattle.st_decimal.specs.declared.place.Kind.{Kind}
use Rattle.st_decimal.specs.declared.place.Kind.TheVariants.{Digit, Sign, Point, Mark, Other}
use Rattle.st_decimal.specs.declared.place.Place.{Place}
use Rattle.st_decimal.specs.Number.{is_sign, is_mark}
use Rattle.st_decimal.specs.NumberMachine.{kind_of, next_of, on_digit, is_end_of}

abbrev pub ends_at : Option Place → Bool
ends_at None = false
ends_at (Some q) = is_end_of q

abbrev pub after : Option Place → ℕ → Option Place
after None b = None
after (Some q) b = next_of q (kind_of b)

abbrev pub accepts : Option Place → List ℕ → Bool
accepts o [] = ends_at o
accepts o (b ∷ t) = accepts (after o b) t

pub accepts-none : (t : List ℕ) → accepts None t ≡ false
accepts-none [] = refl
accepts-none (b ∷ t) = accepts-none t

-- the bytes of each kind, and their kinds
pub kind_digit : (b : ℕ) → is_ascii_digit b ≡ true → kind_of b ≡ Digit
unfolding kind_of
kind_digit b h = rw h refl

pub kind_sign : (b : ℕ) → is_sign b ≡ true → kind_of b ≡ Sign
unfolding kind_of
kind_sign b h =
    let none : is_ascii_digit b ≡ false = grind (arith, nat_tests) in
    rw (none, h) refl

pub kind_point : kind_of 46 ≡ Point
unfolding kind_of
kind_point = refl

pub kind_mark : (b : ℕ) → is_mark b ≡ true → kind_of b ≡ Mark
unfolding kind_of
kind_mark b h =
    let none : is_ascii_digit b ≡ false = grind (arith, nat_tests) in
    let other : is_sign b ≡ false = grind (arith, nat_tests) in
    let last : (b == 46) ≡ false = grind (arith, nat_tests) in
    rw (none, other, last, h) refl

-- what a byte of a kind is
abbrev pub IsOf : Kind → ℕ → Type 0
IsOf Digit b = is_ascii_digit b ≡ true
IsOf Sign b = is_sign b ≡ true
IsOf Point b = b ≡ 46
IsOf Mark b = is_mark b ≡ true
IsOf Other b = Unit {0}

point_byte : (b : ℕ) → (b == 46) ≡ true → b ≡ 46
point_byte b h = grind (arith, nat_tests)

of_kind : (b : ℕ) (d s p m : Bool) → is_ascii_digit b ≡ d → is_sign b ≡ s → (b == 46) ≡ p → is_mark b ≡ m
    → IsOf (if d then Digit else (if s then Sign else (if p then Point else (if m then Mark else Other)))) b
of_kind b true s p m hd hs hp hm = hd
of_kind b false true p m hd hs hp hm = hs
of_kind b false false true m hd hs hp hm = point_byte b hp
of_kind b false false false true hd hs hp hm = hm
of_kind b false false false false hd hs hp hm = tt

pub is_of_kind : (b : ℕ) → IsOf (kind_of b) b
unfolding kind_of
is_of_kind b = of_kind b (is_ascii_digit b) (is_sign b) (b == 46) (is_mark b) refl refl refl refl

-- one byte on
pub step_by : (q : Place) (b : ℕ) (t : List ℕ) (k : Kind) → kind_of b ≡ k → accepts (Some q) (b ∷ t) ≡ accepts (next_of q k) t
step_by q b t k e = ap (λ (j : Kind). accepts (next_of q j) t) e

pub digit_step : (q : Place) (b : ℕ) (t : List ℕ) → is_ascii_digit b ≡ true → accepts (Some q) (b ∷ t) ≡ accepts (on_digit q) t
digit_step q b t h = step_by q b t Digit (kind_digit b h)

-- digits where only digits stood
pub digits_on : (q : Place) (ds t : List ℕ) → on_digit q ≡ Some q → are_digits ds ≡ true → accepts (Some q) (ds ++ t) ≡ accepts (Some q) t
digits_on q [] t stays h = refl
digits_on q (d ∷ ds) t stays h =
    digit_step q d (ds ++ t) (and-left _ _ h) ∙ ap (λ (o : Option Place). accepts o (ds ++ t)) stays ∙ digits_on q ds t stays (and-right _ _ h)

pub digits_end : (q : Place) (ds : List ℕ) → on_digit q ≡ Some q → are_digits ds ≡ true → accepts (Some q) ds ≡ is_end_of q
digits_end q [] stays h = refl
digits_end q (d ∷ ds) stays h =
    digit_step q d ds (and-left _ _ h) ∙ ap (λ (o : Option Place). accepts o ds) stays ∙ digits_end q ds stays (and-right _ _ h)
