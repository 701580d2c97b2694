-- The machine's answer is the one that the subject's words allow.
use Rattle.std.proofs.Common.{◌≡◌, ℕ, ℤ, pos, ◌-ℤ◌, ◌+◌, ◌<◌, ◌≤◌, inl, inr, true, false, List, [], ◌∷◌, ◌++◌, length, Option, Some, None, Result, Ok, Err, refl, sym, ◌∙◌, ap, arith, subst, nat_lt, length-append}
use Rattle.std.proofs.lemmas.Bool.{cases_lt}
use Rattle.std.proofs.lemmas.Bool.Decides.{nat_tests}
use Rattle.std.specs.Prelude.{◌==◌}
use Rattle.st_text.specs.Bytes.{are_digits, number_of}
use Rattle.st_decimal.specs.declared.number.Dec.{Dec}
use Rattle.st_decimal.specs.declared.number.DecFault.{DecFault}
use Rattle.st_decimal.specs.declared.number.DecFault.TheVariants.{Empty, BadByte, TooManyDigits, BadExponent}
use Rattle.st_decimal.specs.declared.place.Place.TheVariants.{Start}
use Rattle.st_decimal.specs.Number.{Parts, AreParts, StopsAt, spelling, decimals_of, pointed, marked}
use Rattle.st_decimal.specs.Value.{ReadsDec, IsValue, significant, digits_of, exponent_of, exponent_size, is_minus, signed}
use Rattle.st_decimal.specs.NumberMachine.{Pieces, stop_of, pieces_of, value_of, scaled_dec, dec_of}
use Rattle.st_decimal.proofs.ValueCode.{both_digits}
use Rattle.st_decimal.proofs.Stops.{stops_at, number_stops_nowhere, no_stop_number, number_stops_not, one_stop}
use Rattle.st_decimal.proofs.PieceLaws.{pieces, pieces_of-spelling, raised_is, raised_size, raised_are_digits}
use Rattle.st_decimal.proofs.Scaled.{scaled_dec_is, one_scaled}

abbrev Answer : Type 0
Answer = Result Dec DecFault

-- the machine's value, by the limits
many : (p : Pieces) → 30 < significant (p.whole ++ p.decimals) → value_of p ≡ Err TooManyDigits
unfolding value_of
many p h = let a : nat_lt 30 (significant (p.whole ++ p.decimals)) ≡ true = grind (arith, nat_tests) in rw a refl

raised : (p : Pieces) → significant (p.whole ++ p.decimals) ≤ 30 → 400 < number_of p.exponent → value_of p ≡ Err BadExponent
unfolding value_of
raised p few h =
    let a : nat_lt 30 (significant (p.whole ++ p.decimals)) ≡ false = grind (arith, nat_tests) in
    let b : nat_lt 400 (number_of p.exponent) ≡ true = grind (arith, nat_tests) in
    rw (a, b) refl

kept : (p : Pieces) → significant (p.whole ++ p.decimals) ≤ 30 → number_of p.exponent ≤ 400
    → value_of p ≡ Ok (scaled_dec p.minus (p.whole ++ p.decimals) (signed p.exponent_minus (number_of p.exponent) -ℤ pos (length p.decimals)))
unfolding value_of
kept p few h =
    let a : nat_lt 30 (significant (p.whole ++ p.decimals)) ≡ false = grind (arith, nat_tests) in
    let b : nat_lt 400 (number_of p.exponent) ≡ false = grind (arith, nat_tests) in
    rw (a, b) refl

abbrev tens_of : Parts → ℤ
tens_of p = exponent_of p.exponent -ℤ pos (length (decimals_of p.decimals))

kept_parts : (p : Parts) → significant (digits_of p) ≤ 30 → exponent_size p.exponent ≤ 400 → value_of (pieces p) ≡ Ok (scaled_dec (is_minus p.sign) (digits_of p) (tens_of p))
kept_parts p few h =
    kept (pieces p) few (omega (arith, h, raised_size p.exponent))
    ∙ ap (λ (z : ℤ). Ok (scaled_dec (is_minus p.sign) (digits_of p) (z -ℤ pos (length (decimals_of p.decimals))))) (raised_is p.exponent)

value_is : (p : Parts) → AreParts p → IsValue p (scaled_dec (is_minus p.sign) (digits_of p) (tens_of p))
value_is p h = scaled_dec_is (is_minus p.sign) (digits_of p) (tens_of p) (both_digits p.whole (decimals_of p.decimals) h.whole h.decimals)

-- the machine's answer, by the place at which the text stops
at_number : (t : List ℕ) → stop_of Start 0 t ≡ None → dec_of t ≡ value_of (pieces_of t)
unfolding dec_of stop_of
at_number [] h = absurd (cc)
at_number (b ∷ t) h = let ne : (length (b ∷ t) == 0) ≡ false = grind (arith, nat_tests) in rw (ne, h) refl

at_stop : (t : List ℕ) (k : ℕ) → 0 < length t → stop_of Start 0 t ≡ Some k → dec_of t ≡ Err (BadByte k)
unfolding dec_of
at_stop t k some h = let ne : (length t == 0) ≡ false = grind (arith, nat_tests) in rw (ne, h) refl

at_empty : dec_of [] ≡ Err Empty
unfolding dec_of
at_empty = refl

of_parts : (t : List ℕ) (p : Parts) → AreParts p → t ≡ spelling p → dec_of t ≡ value_of (pieces p)
of_parts t p h is =
    at_number t (number_stops_nowhere t (p, h, is))
    ∙ ap value_of (ap pieces_of is ∙ pieces_of-spelling p h)

-- the machine meets the relation
meets_parts : (t : List ℕ) (p : Parts) → AreParts p → t ≡ spelling p → ReadsDec t (value_of (pieces p))
meets_parts t p h is =
    elim (cases_lt 30 (significant (digits_of p))) [
      | inl over ↦ subst (λ (r : Answer). ReadsDec t r) (sym (many (pieces p) over)) (p, h, is, over)
      | inr few ↦ elim (cases_lt 400 (exponent_size p.exponent)) [
        | inl over ↦ subst (λ (r : Answer). ReadsDec t r) (sym (raised (pieces p) few (omega (arith, over, raised_size p.exponent)))) (p, h, is, few, over)
        | inr small ↦ subst (λ (r : Answer). ReadsDec t r) (sym (kept_parts p few small)) (p, h, is, few, small, value_is p h)
      ]
    ]

meets_some : (t : List ℕ) → 0 < length t → (o : Option ℕ) → stop_of Start 0 t ≡ o → ReadsDec t (dec_of t)
meets_some t some (Some k) e = subst (λ (r : Answer). ReadsDec t r) (sym (at_stop t k some e)) (some, stops_at t k e)
meets_some t some None e =
    let (p, h, is) = no_stop_number t e in
    subst (λ (r : Answer). ReadsDec t r) (sym (of_parts t p h is)) (meets_parts t p h is)

pub meets : (t : List ℕ) → ReadsDec t (dec_of t)
meets [] = subst (λ (r : Answer). ReadsDec [] r) (sym at_empty) refl
meets (b ∷ t) = meets_some (b ∷ t) (omega arith) (stop_of Start 0 (b ∷ t)) refl

-- no other answer meets it
bad_byte : (t : List ℕ) (k : ℕ) → 0 < length t → StopsAt t k → (o : Option ℕ) → stop_of Start 0 t ≡ o → dec_of t ≡ Err (BadByte k)
bad_byte t k some s (Some m) e = at_stop t m some e ∙ ap (λ (n : ℕ). Err (BadByte n)) (one_stop t m k (stops_at t m e) s)
bad_byte t k some s None e = absurd (number_stops_not t k (no_stop_number t e) s)

pub one_answer : (t : List ℕ) (r : Answer) → ReadsDec t r → dec_of t ≡ r
one_answer t (Ok d) (p, h, is, few, small, value) =
    of_parts t p h is ∙ kept_parts p few small
    ∙ ap (λ (e : Dec). Ok e) (one_scaled (is_minus p.sign) (number_of (digits_of p)) (tens_of p) _ d (value_is p h) value)
one_answer t (Err Empty) none = ap dec_of none ∙ at_empty
one_answer t (Err (BadByte k)) (some, s) = bad_byte t k some s (stop_of Start 0 t) refl
one_answer t (Err TooManyDigits) (p, h, is, over) = of_parts t p h is ∙ many (pieces p) over
one_answer t (Err BadExponent) (p, h, is, few, over) = of_parts t p h is ∙ raised (pieces p) few (omega (arith, over, raised_size p.exponent))

pointed_length : (o : Option (List ℕ)) → length (decimals_of o) ≤ length (pointed o)
pointed_length None = omega arith
pointed_length (Some ds) = omega arith

shorter : (p : Parts) → length p.whole + length (decimals_of p.decimals) ≤ length (spelling p)
shorter p =
    omega (
      arith,
      pointed_length p.decimals,
      length-append p.sign (p.whole ++ (pointed p.decimals ++ marked p.exponent)),
      length-append p.whole (pointed p.decimals ++ marked p.exponent),
      length-append (pointed p.decimals) (marked p.exponent),
    )

-- what the value of a number's pieces asks of them
pub pieces_fit : (t : List ℕ) → stop_of Start 0 t ≡ None
    → (are_digits (pieces_of t).whole ≡ true) × (are_digits (pieces_of t).decimals ≡ true) × (are_digits (pieces_of t).exponent ≡ true)
    × (length (pieces_of t).whole + length (pieces_of t).decimals ≤ length t)
pieces_fit t e =
    let (p, h, is) = no_stop_number t e in
    let same : pieces_of t ≡ pieces p = ap pieces_of is ∙ pieces_of-spelling p h in (
      ap (λ (q : Pieces). are_digits q.whole) same ∙ h.whole,
      ap (λ (q : Pieces). are_digits q.decimals) same ∙ h.decimals,
      ap (λ (q : Pieces). are_digits q.exponent) same ∙ raised_are_digits p.exponent h.exponent,
      omega (arith, shorter p, ap length is, ap (λ (q : Pieces). length q.whole) same, ap (λ (q : Pieces). length q.decimals) same),
    )
