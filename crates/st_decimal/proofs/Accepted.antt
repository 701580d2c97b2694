-- Each number's bytes are accepted from the start on, part by part.
use Rattle.std.proofs.Common.{◌≡◌, ℕ, ◌+◌, ◌<◌, true, List, [], ◌∷◌, ◌++◌, length, Option, Some, None, refl, ◌∙◌, ap, arith}
use Rattle.st_text.proofs.Logic.{and-left, and-right}
use Rattle.st_text.specs.Bytes.{are_digits}
use Rattle.st_decimal.specs.declared.place.Kind.TheVariants.{Sign, Point, Mark}
use Rattle.st_decimal.specs.declared.place.Place.{Place}
use Rattle.st_decimal.specs.declared.place.Place.TheVariants.{Start, Signed, Whole, Dot, Decimals, Marked, MarkedSigned, Raised}
use Rattle.st_decimal.specs.Number.{Exponent, Parts, AreParts, IsOptionalSign, IsOptionalExponent, pointed, marked, spelling, decimals_of}
use Rattle.st_decimal.specs.NumberMachine.{on_digit, on_point, on_mark, is_end_of}
use Rattle.st_decimal.proofs.Accepts.{accepts, step_by, digit_step, digits_on, digits_end, kind_sign, kind_point, kind_mark}

raised_accepted : (q : Place) (ds : List ℕ) → on_digit q ≡ Some Raised → are_digits ds ≡ true → 0 < length ds → accepts (Some q) ds ≡ true
raised_accepted q [] to h some = absurd (omega arith)
raised_accepted q (d ∷ ds) to h some =
    digit_step q d ds (and-left _ _ h) ∙ ap (λ (o : Option Place). accepts o ds) to ∙ digits_end Raised ds refl (and-right _ _ h)

marked_accepted : (s ds : List ℕ) → IsOptionalSign s → are_digits ds ≡ true → 0 < length ds → accepts (Some Marked) (s ++ ds) ≡ true
marked_accepted [] ds sign h some = raised_accepted Marked ds refl h some
marked_accepted (b ∷ []) ds sign h some =
    step_by Marked b ds Sign (kind_sign b sign) ∙ raised_accepted MarkedSigned ds refl h some
marked_accepted (b ∷ c ∷ more) ds sign h some = absurd sign

exponent_accepted : (q : Place) (e : Option Exponent) → on_mark q ≡ Some Marked → is_end_of q ≡ true → IsOptionalExponent e → accepts (Some q) (marked e) ≡ true
exponent_accepted q None to end h = end
exponent_accepted q (Some e) to end h =
    step_by q e.mark (e.sign ++ e.digits) Mark (kind_mark e.mark h.mark)
    ∙ ap (λ (o : Option Place). accepts o (e.sign ++ e.digits)) to
    ∙ marked_accepted e.sign e.digits h.sign h.digits h.some

decimals_accepted : (o : Option (List ℕ)) (e : Option Exponent) → are_digits (decimals_of o) ≡ true → IsOptionalExponent e
    → accepts (Some Whole) (pointed o ++ marked e) ≡ true
decimals_accepted None e h x = exponent_accepted Whole e refl refl x
decimals_accepted (Some ds) e h x =
    step_by Whole 46 (ds ++ marked e) Point kind_point ∙ digits_on Decimals ds (marked e) refl h ∙ exponent_accepted Decimals e refl refl x

whole_accepted : (q : Place) (w : List ℕ) (o : Option (List ℕ)) (e : Option Exponent) → on_digit q ≡ Some Whole → on_point q ≡ Some Dot
    → are_digits w ≡ true → are_digits (decimals_of o) ≡ true → 0 < length w + length (decimals_of o) → IsOptionalExponent e
    → accepts (Some q) (w ++ (pointed o ++ marked e)) ≡ true
whole_accepted q (d ∷ w) o e digit point hw ho some x =
    digit_step q d (w ++ (pointed o ++ marked e)) (and-left _ _ hw)
    ∙ ap (λ (r : Option Place). accepts r (w ++ (pointed o ++ marked e))) digit
    ∙ digits_on Whole w (pointed o ++ marked e) refl (and-right _ _ hw)
    ∙ decimals_accepted o e ho x
whole_accepted q [] None e digit point hw ho some x = absurd (omega arith)
whole_accepted q [] (Some []) e digit point hw ho some x = absurd (omega arith)
whole_accepted q [] (Some (d ∷ ds)) e digit point hw ho some x =
    step_by q 46 ((d ∷ ds) ++ marked e) Point kind_point
    ∙ ap (λ (r : Option Place). accepts r ((d ∷ ds) ++ marked e)) point
    ∙ digit_step Dot d (ds ++ marked e) (and-left _ _ ho)
    ∙ digits_on Decimals ds (marked e) refl (and-right _ _ ho)
    ∙ exponent_accepted Decimals e refl refl x

signed_accepted : (s w : List ℕ) (o : Option (List ℕ)) (e : Option Exponent) → IsOptionalSign s
    → are_digits w ≡ true → are_digits (decimals_of o) ≡ true → 0 < length w + length (decimals_of o) → IsOptionalExponent e
    → accepts (Some Start) (s ++ (w ++ (pointed o ++ marked e))) ≡ true
signed_accepted [] w o e sign hw ho some x = whole_accepted Start w o e refl refl hw ho some x
signed_accepted (b ∷ []) w o e sign hw ho some x =
    step_by Start b (w ++ (pointed o ++ marked e)) Sign (kind_sign b sign) ∙ whole_accepted Signed w o e refl refl hw ho some x
signed_accepted (b ∷ c ∷ more) w o e sign hw ho some x = absurd sign

pub number_accepted : (p : Parts) → AreParts p → accepts (Some Start) (spelling p) ≡ true
number_accepted p h = signed_accepted p.sign p.whole p.decimals p.exponent h.sign h.whole h.decimals h.some h.exponent
