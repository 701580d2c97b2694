-- The pieces of a number's text are those of its parts.
use Rattle.std.proofs.Common.{◌≡◌, ℕ, ◌+◌, ◌<◌, Bool, true, false, List, [], ◌∷◌, ◌++◌, length, Option, Some, None, refl, ◌∙◌, ap, arith}
use Rattle.std.proofs.lemmas.Bool.Decides.{nat_tests}
use Rattle.std.specs.Char.{is_ascii_digit}
use Rattle.std.specs.Prelude.{◌==◌}
use Rattle.st_text.specs.Bytes.{are_digits, number_of}
use Rattle.st_text.specs.Scan.{leading_digits, past_digits}
use Rattle.st_text.proofs.Logic.{and-left}
use Rattle.st_text.proofs.Runs.{Stops, leading-at, behind-at}
use Rattle.st_decimal.specs.Number.{Exponent, Parts, AreParts, IsOptionalSign, IsOptionalExponent, is_sign, is_mark, pointed, marked, spelling, decimals_of}
use Rattle.st_decimal.specs.Value.{is_minus, signed, exponent_of, exponent_size}
use Rattle.st_decimal.specs.NumberMachine.{Pieces, pieces_of, behind_sign, decimals_in, behind_decimals, behind_mark}

abbrev starts_digit : List ℕ → Bool
starts_digit [] = false
starts_digit (b ∷ t) = is_ascii_digit b

abbrev starts_sign : List ℕ → Bool
starts_sign [] = false
starts_sign (b ∷ t) = is_sign b

digit_no_sign : (b : ℕ) → is_ascii_digit b ≡ true → is_sign b ≡ false
digit_no_sign b h = grind (arith, nat_tests)

mark_no_digit : (b : ℕ) → is_mark b ≡ true → is_ascii_digit b ≡ false
mark_no_digit b h = grind (arith, nat_tests)

mark_no_point : (b : ℕ) → is_mark b ≡ true → (b == 46) ≡ false
mark_no_point b h = grind (arith, nat_tests)

no_sign_no_minus : (b : ℕ) → is_sign b ≡ false → (b == 45) ≡ false
no_sign_no_minus b h = grind (arith, nat_tests)

digits_no_sign : (ds : List ℕ) → are_digits ds ≡ true → starts_sign ds ≡ false
digits_no_sign [] h = refl
digits_no_sign (d ∷ ds) h = digit_no_sign d (and-left _ _ h)

-- digits and what follows them
stops : (r : List ℕ) → starts_digit r ≡ false → Stops is_ascii_digit r
stops [] n = tt
stops (b ∷ t) n = n

past_digits-append : (w r : List ℕ) → are_digits w ≡ true → starts_digit r ≡ false → past_digits (w ++ r) ≡ r
past_digits-append w r h n = behind-at is_ascii_digit w r h (stops r n)

leading_digits-append : (w r : List ℕ) → are_digits w ≡ true → starts_digit r ≡ false → leading_digits (w ++ r) ≡ w
leading_digits-append w r h n = leading-at is_ascii_digit w r h (stops r n)

-- a sign and what follows it
behind_sign_rest : (r : List ℕ) → starts_sign r ≡ false → behind_sign r ≡ r
behind_sign_rest [] h = refl
behind_sign_rest (b ∷ t) h = rw h refl

behind_sign-append : (s r : List ℕ) → IsOptionalSign s → starts_sign r ≡ false → behind_sign (s ++ r) ≡ r
behind_sign-append [] r sign n = behind_sign_rest r n
behind_sign-append (b ∷ []) r sign n = rw sign refl
behind_sign-append (b ∷ c ∷ more) r sign n = absurd sign

minus_rest : (r : List ℕ) → starts_sign r ≡ false → is_minus r ≡ false
minus_rest [] h = refl
minus_rest (b ∷ t) h = no_sign_no_minus b h

is_minus-append : (s r : List ℕ) → IsOptionalSign s → starts_sign r ≡ false → is_minus (s ++ r) ≡ is_minus s
is_minus-append [] r sign n = minus_rest r n
is_minus-append (b ∷ []) r sign n = refl
is_minus-append (b ∷ c ∷ more) r sign n = absurd sign

-- the point, the decimals, the exponent
exponent_no_digit : (e : Option Exponent) → IsOptionalExponent e → starts_digit (marked e) ≡ false
exponent_no_digit None x = refl
exponent_no_digit (Some e) x = mark_no_digit e.mark x.mark

decimals_no_digit : (o : Option (List ℕ)) (e : Option Exponent) → IsOptionalExponent e → starts_digit (pointed o ++ marked e) ≡ false
decimals_no_digit None e x = exponent_no_digit e x
decimals_no_digit (Some ds) e x = refl

whole_no_sign : (w : List ℕ) (o : Option (List ℕ)) (e : Option Exponent) → are_digits w ≡ true → 0 < length w + length (decimals_of o)
    → starts_sign (w ++ (pointed o ++ marked e)) ≡ false
whole_no_sign (d ∷ w) o e h some = digit_no_sign d (and-left _ _ h)
whole_no_sign [] None e h some = absurd (omega arith)
whole_no_sign [] (Some ds) e h some = refl

decimals_in-append : (o : Option (List ℕ)) (e : Option Exponent) → are_digits (decimals_of o) ≡ true → IsOptionalExponent e
    → decimals_in (pointed o ++ marked e) ≡ decimals_of o
decimals_in-append None None h x = refl
decimals_in-append None (Some e) h x = rw (mark_no_point e.mark x.mark) refl
decimals_in-append (Some ds) e h x = leading_digits-append ds (marked e) h (exponent_no_digit e x)

behind_decimals-append : (o : Option (List ℕ)) (e : Option Exponent) → are_digits (decimals_of o) ≡ true → IsOptionalExponent e
    → behind_decimals (pointed o ++ marked e) ≡ marked e
behind_decimals-append None None h x = refl
behind_decimals-append None (Some e) h x = rw (mark_no_point e.mark x.mark) refl
behind_decimals-append (Some ds) e h x = past_digits-append ds (marked e) h (exponent_no_digit e x)

abbrev pub minus_of : Option Exponent → Bool
minus_of None = false
minus_of (Some e) = is_minus e.sign

abbrev pub raised_digits : Option Exponent → List ℕ
raised_digits None = []
raised_digits (Some e) = e.digits

mark_minus : (e : Option Exponent) → IsOptionalExponent e → is_minus (behind_mark (marked e)) ≡ minus_of e
mark_minus None x = refl
mark_minus (Some e) x = is_minus-append e.sign e.digits x.sign (digits_no_sign e.digits x.digits)

mark_digits : (e : Option Exponent) → IsOptionalExponent e → behind_sign (behind_mark (marked e)) ≡ raised_digits e
mark_digits None x = refl
mark_digits (Some e) x = behind_sign-append e.sign e.digits x.sign (digits_no_sign e.digits x.digits)

pub raised_are_digits : (e : Option Exponent) → IsOptionalExponent e → are_digits (raised_digits e) ≡ true
raised_are_digits None x = refl
raised_are_digits (Some e) x = x.digits

-- the exponent, by its sign and its digits
pub raised_is : (e : Option Exponent) → signed (minus_of e) (number_of (raised_digits e)) ≡ exponent_of e
raised_is None = refl
raised_is (Some e) = refl

pub raised_size : (e : Option Exponent) → number_of (raised_digits e) ≡ exponent_size e
raised_size None = refl
raised_size (Some e) = refl

abbrev pub pieces : Parts → Pieces
pieces p = record {
  minus = is_minus p.sign;
  whole = p.whole;
  decimals = decimals_of p.decimals;
  exponent_minus = minus_of p.exponent;
  exponent = raised_digits p.exponent;
}

abbrev of : Bool → List ℕ → List ℕ → Bool → List ℕ → Pieces
of a b c d e = record { minus = a; whole = b; decimals = c; exponent_minus = d; exponent = e }

same_pieces : (a a' : Bool) (b b' c c' : List ℕ) (d d' : Bool) (e e' : List ℕ) → a ≡ a' → b ≡ b' → c ≡ c' → d ≡ d' → e ≡ e'
    → of a b c d e ≡ of a' b' c' d' e'
same_pieces a a' b b' c c' d d' e e' p q r s t =
    ap (λ (x : Bool). of x b c d e) p
    ∙ ap (λ (x : List ℕ). of a' x c d e) q
    ∙ ap (λ (x : List ℕ). of a' b' x d e) r
    ∙ ap (λ (x : Bool). of a' b' c' x e) s
    ∙ ap (λ (x : List ℕ). of a' b' c' d' x) t

pub pieces_of-spelling : (p : Parts) → AreParts p → pieces_of (spelling p) ≡ pieces p
unfolding pieces_of
pieces_of-spelling p h =
    let body : List ℕ = p.whole ++ (pointed p.decimals ++ marked p.exponent) in
    let no_sign : starts_sign body ≡ false = whole_no_sign p.whole p.decimals p.exponent h.whole h.some in
    let no_digit : starts_digit (pointed p.decimals ++ marked p.exponent) ≡ false = decimals_no_digit p.decimals p.exponent h.exponent in
    let unsigned = behind_sign-append p.sign body h.sign no_sign in
    let after = ap past_digits unsigned ∙ past_digits-append p.whole (pointed p.decimals ++ marked p.exponent) h.whole no_digit in
    let raised = ap behind_mark (ap behind_decimals after ∙ behind_decimals-append p.decimals p.exponent h.decimals h.exponent) in
    same_pieces _ _ _ _ _ _ _ _ _ _
    (is_minus-append p.sign body h.sign no_sign)
    (ap leading_digits unsigned ∙ leading_digits-append p.whole (pointed p.decimals ++ marked p.exponent) h.whole no_digit)
    (ap decimals_in after ∙ decimals_in-append p.decimals p.exponent h.decimals h.exponent)
    (ap is_minus raised ∙ mark_minus p.exponent h.exponent)
    (ap behind_sign raised ∙ mark_digits p.exponent h.exponent)
