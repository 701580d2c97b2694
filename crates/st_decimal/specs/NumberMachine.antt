-- The reader of numbers as functions on lists of bytes, each the twin of a function of the code.
use Rattle.std.specs.Prelude.{ℕ, ℤ, pos, ◌+ℤ◌, ◌-ℤ◌, ◌+◌, ◌-◌, Bool, true, false, List, [], ◌∷◌, ◌++◌, length, Option, Some, None, Result, Ok, Err, ◌==◌, nat_lt, if◌then◌else◌}
use Rattle.std.specs.Char.{is_ascii_digit}
use Rattle.st_text.specs.Bytes.{number_of}
use Rattle.st_text.specs.Scan.{leading_digits, past_digits}
use Rattle.st_decimal.specs.declared.number.Dec.{Dec}
use Rattle.st_decimal.specs.declared.number.DecFault.{DecFault}
use Rattle.st_decimal.specs.declared.number.DecFault.TheVariants.{Empty, BadByte, TooManyDigits, BadExponent}
use Rattle.st_decimal.specs.declared.place.Kind.{Kind}
use Rattle.st_decimal.specs.declared.place.Kind.TheVariants.{Digit, Sign, Point, Mark, Other}
use Rattle.st_decimal.specs.declared.place.Place.{Place}
use Rattle.st_decimal.specs.declared.place.Place.TheVariants.{Start, Signed, Whole, Dot, Decimals, Marked, MarkedSigned, Raised}
use Rattle.st_decimal.specs.Number.{is_sign, is_mark}
use Rattle.st_decimal.specs.Value.{skip_zeros, without_end_zeros, significant, is_minus, signed}

unfoldable pub kind_of : ℕ → Kind
kind_of b =
    if is_ascii_digit b then Digit
    else (if is_sign b then Sign else (if b == 46 then Point else (if is_mark b then Mark else Other)))

abbrev pub on_digit : Place → Option Place
on_digit Start = Some Whole
on_digit Signed = Some Whole
on_digit Whole = Some Whole
on_digit Dot = Some Decimals
on_digit Decimals = Some Decimals
on_digit Marked = Some Raised
on_digit MarkedSigned = Some Raised
on_digit Raised = Some Raised

abbrev pub on_sign : Place → Option Place
on_sign Start = Some Signed
on_sign Marked = Some MarkedSigned
on_sign _ = None

abbrev pub on_point : Place → Option Place
on_point Start = Some Dot
on_point Signed = Some Dot
on_point Whole = Some Decimals
on_point _ = None

abbrev pub on_mark : Place → Option Place
on_mark Whole = Some Marked
on_mark Decimals = Some Marked
on_mark _ = None

-- the place after a byte, where it may follow
abbrev pub next_of : Place → Kind → Option Place
next_of place Digit = on_digit place
next_of place Sign = on_sign place
next_of place Point = on_point place
next_of place Mark = on_mark place
next_of place Other = None

-- whether a number may end there
abbrev pub is_end_of : Place → Bool
is_end_of Whole = true
is_end_of Decimals = true
is_end_of Raised = true
is_end_of _ = false

-- the place i, or a later one, at which the bytes stop being those of a number; none where they
-- are a number's
unfoldable pub stop_of : Place → ℕ → List ℕ → Option ℕ
stop_of place i [] = if is_end_of place then None else Some i
stop_of place i (b ∷ bs) =
    elim (next_of place (kind_of b)) as (λ _. Option ℕ) [ None ↦ Some i | Some after ↦ stop_of after (i + 1) bs ]

abbrev pub behind_sign : List ℕ → List ℕ
behind_sign [] = []
behind_sign (b ∷ bs) = if is_sign b then bs else b ∷ bs

-- the digits after a point, and what follows them
abbrev pub decimals_in : List ℕ → List ℕ
decimals_in [] = []
decimals_in (b ∷ bs) = if b == 46 then leading_digits bs else []

abbrev pub behind_decimals : List ℕ → List ℕ
behind_decimals [] = []
behind_decimals (b ∷ bs) = if b == 46 then past_digits bs else b ∷ bs

abbrev pub behind_mark : List ℕ → List ℕ
behind_mark [] = []
behind_mark (b ∷ bs) = bs

-- the pieces of a number that its value needs
pub record Pieces : Type 0 where
  pub minus : Bool
  pub whole : List ℕ
  pub decimals : List ℕ
  pub exponent_minus : Bool
  pub exponent : List ℕ

abbrev pub raised_in : List ℕ → List ℕ
raised_in text = behind_mark (behind_decimals (past_digits (behind_sign text)))

unfoldable pub pieces_of : List ℕ → Pieces
pieces_of text = record {
  minus = is_minus text;
  whole = leading_digits (behind_sign text);
  decimals = decimals_in (past_digits (behind_sign text));
  exponent_minus = is_minus (raised_in text);
  exponent = behind_sign (raised_in text);
}

-- the decimal of digits whose last is worth ten to `tens`
unfoldable pub scaled_dec : Bool → List ℕ → ℤ → Dec
scaled_dec minus digits tens =
    if significant digits == 0 then record { digits = pos 0; tens = pos 0 }
    else record {
      digits = signed minus (number_of (skip_zeros (without_end_zeros digits)));
      tens = tens +ℤ pos (length digits - length (without_end_zeros digits));
    }

unfoldable pub value_of : Pieces → Result Dec DecFault
value_of p =
    if nat_lt 30 (significant (p.whole ++ p.decimals)) then Err TooManyDigits
    else (if nat_lt 400 (number_of p.exponent) then Err BadExponent
    else Ok (scaled_dec p.minus (p.whole ++ p.decimals) (signed p.exponent_minus (number_of p.exponent) -ℤ pos (length p.decimals))))

abbrev pub answer_of : List ℕ → Option ℕ → Result Dec DecFault
answer_of text (Some k) = Err (BadByte k)
answer_of text None = value_of (pieces_of text)

-- what the reader answers to a text
unfoldable pub dec_of : List ℕ → Result Dec DecFault
dec_of text = if length text == 0 then Err Empty else answer_of text (stop_of Start 0 text)
