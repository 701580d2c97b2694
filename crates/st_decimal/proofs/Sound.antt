-- Bytes that are accepted from the start on are those of a number.
use Rattle.std.proofs.Common.{◌≡◌, ℕ, ◌+◌, ◌<◌, true, false, List, [], ◌∷◌, ◌++◌, length, Option, Some, None, refl, sym, ◌∙◌, ap, arith}
use Rattle.st_text.specs.Bytes.{are_digits}
use Rattle.st_decimal.specs.declared.place.Kind.{Kind}
use Rattle.st_decimal.specs.declared.place.Kind.TheVariants.{Digit, Sign, Point, Mark}
use Rattle.st_decimal.specs.declared.place.Place.{Place}
use Rattle.st_decimal.specs.declared.place.Place.TheVariants.{Start, Signed, Whole, Dot, Decimals, Marked, MarkedSigned, Raised}
use Rattle.st_decimal.specs.Number.{Exponent, IsNumber, IsOptionalSign, IsOptionalExponent, pointed, marked, decimals_of}
use Rattle.st_decimal.specs.NumberMachine.{kind_of, next_of}
use Rattle.st_decimal.proofs.ZeroDigits.{same_cons}
use Rattle.st_decimal.proofs.ValueCode.{both_true}
use Rattle.st_decimal.proofs.Accepts.{accepts, accepts-none, IsOf, is_of_kind}

-- what may stand after a place, up to the end of the number
abbrev Tail : Place → List ℕ → Type 0
Tail Start t = IsNumber t
Tail Signed t =
    (w : List ℕ) × (o : Option (List ℕ)) × (e : Option Exponent) × (are_digits w ≡ true) × (are_digits (decimals_of o) ≡ true)
    × (0 < length w + length (decimals_of o)) × IsOptionalExponent e × (t ≡ w ++ (pointed o ++ marked e))
Tail Whole t =
    (w : List ℕ) × (o : Option (List ℕ)) × (e : Option Exponent) × (are_digits w ≡ true) × (are_digits (decimals_of o) ≡ true)
    × IsOptionalExponent e × (t ≡ w ++ (pointed o ++ marked e))
Tail Dot t = (ds : List ℕ) × (e : Option Exponent) × (are_digits ds ≡ true) × (0 < length ds) × IsOptionalExponent e × (t ≡ ds ++ marked e)
Tail Decimals t = (ds : List ℕ) × (e : Option Exponent) × (are_digits ds ≡ true) × IsOptionalExponent e × (t ≡ ds ++ marked e)
Tail Marked t = (s : List ℕ) × (ds : List ℕ) × IsOptionalSign s × (are_digits ds ≡ true) × (0 < length ds) × (t ≡ s ++ ds)
Tail MarkedSigned t = (are_digits t ≡ true) × (0 < length t)
Tail Raised t = are_digits t ≡ true

none : (t : List ℕ) → accepts None t ≡ true → ⊥
none t h = let e : true ≡ false = sym h ∙ accepts-none t in cc

cons : (b : ℕ) {t u : List ℕ} → t ≡ u → b ∷ t ≡ b ∷ u
cons b e = ap (λ (xs : List ℕ). b ∷ xs) e

exponent : (b : ℕ) (s ds : List ℕ) → Exponent
exponent b s ds = record { mark = b; sign = s; digits = ds }

step : (q : Place) (b : ℕ) (t : List ℕ) (k : Kind) → IsOf k b → accepts (next_of q k) t ≡ true
    → ((r : Place) → accepts (Some r) t ≡ true → Tail r t) → Tail q (b ∷ t)
step Start b t Digit d h rest =
    let (w, o, e, hw, ho, x, is) = rest Whole h in (
      record { sign = []; whole = b ∷ w; decimals = o; exponent = e },
      record { sign = tt; whole = both_true _ _ d hw; decimals = ho; some = omega arith; exponent = x },
      cons b is,
    )
step Signed b t Digit d h rest = let (w, o, e, hw, ho, x, is) = rest Whole h in (b ∷ w, o, e, both_true _ _ d hw, ho, omega arith, x, cons b is)
step Whole b t Digit d h rest = let (w, o, e, hw, ho, x, is) = rest Whole h in (b ∷ w, o, e, both_true _ _ d hw, ho, x, cons b is)
step Dot b t Digit d h rest = let (ds, e, hd, x, is) = rest Decimals h in (b ∷ ds, e, both_true _ _ d hd, omega arith, x, cons b is)
step Decimals b t Digit d h rest = let (ds, e, hd, x, is) = rest Decimals h in (b ∷ ds, e, both_true _ _ d hd, x, cons b is)
step Marked b t Digit d h rest = ([], b ∷ t, tt, both_true _ _ d (rest Raised h), omega arith, refl)
step MarkedSigned b t Digit d h rest = (both_true _ _ d (rest Raised h), omega arith)
step Raised b t Digit d h rest = both_true _ _ d (rest Raised h)
step Start b t Sign s h rest =
    let (w, o, e, hw, ho, some, x, is) = rest Signed h in (
      record { sign = b ∷ []; whole = w; decimals = o; exponent = e },
      record { sign = s; whole = hw; decimals = ho; some = some; exponent = x },
      cons b is,
    )
step Marked b t Sign s h rest = let (hd, some) = rest MarkedSigned h in (b ∷ [], t, s, hd, some, refl)
step Start b t Point p h rest =
    let (ds, e, hd, some, x, is) = rest Dot h in (
      record { sign = []; whole = []; decimals = Some ds; exponent = e },
      record { sign = tt; whole = refl; decimals = hd; some = omega arith; exponent = x },
      same_cons p is,
    )
step Signed b t Point p h rest = let (ds, e, hd, some, x, is) = rest Dot h in ([], Some ds, e, refl, hd, omega arith, x, same_cons p is)
step Whole b t Point p h rest = let (ds, e, hd, x, is) = rest Decimals h in ([], Some ds, e, refl, hd, x, same_cons p is)
step Whole b t Mark m h rest =
    let (s, ds, hs, hd, some, is) = rest Marked h in
    ([], None, Some (record { mark = b; sign = s; digits = ds }), refl, refl, record { mark = m; sign = hs; digits = hd; some = some }, cons b is)
step Decimals b t Mark m h rest =
    let (s, ds, hs, hd, some, is) = rest Marked h in
    ([], Some (record { mark = b; sign = s; digits = ds }), refl, record { mark = m; sign = hs; digits = hd; some = some }, cons b is)
step q b t k i h rest = absurd (none t h)

sound : (q : Place) (t : List ℕ) → accepts (Some q) t ≡ true → Tail q t
sound Whole [] h = ([], None, None, refl, refl, tt, refl)
sound Decimals [] h = ([], None, refl, tt, refl)
sound Raised [] h = refl
sound q [] h = absurd (cc)
sound q (b ∷ t) h = step q b t (kind_of b) (is_of_kind b) h (λ r g. sound r t g)

pub accepted_number : (t : List ℕ) → accepts (Some Start) t ≡ true → IsNumber t
accepted_number t h = sound Start t h
