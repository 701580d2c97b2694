-- How a text is cut from the left: runs of digits, words up to a blank, and blanks.
use Rattle.std.specs.Prelude.{ℕ, Bool, not, List, [], ◌∷◌, Option, Some, None, if◌then◌else◌}
use Rattle.st_text.specs.Bytes.{is_blank, number_of}
use Rattle.st_text.specs.Lines.{skip_blanks}
use Rattle.st_text.specs.Scan.{leading, behind, leading_digits, past_digits, is_digit_run}

-- the number of the digits with which a text begins, from `low` to `high` of them, and the rest
unfoldable pub run : ℕ → ℕ → List ℕ → Option (ℕ × List ℕ)
run low high text =
    if is_digit_run low high (leading_digits text)
    then Some (number_of (leading_digits text), past_digits text)
    else None

abbrev pub is_no_blank : ℕ → Bool
is_no_blank b = not (is_blank b)

-- what stands before the first blank, and from there on
abbrev pub word : List ℕ → List ℕ
word text = leading is_no_blank text

abbrev pub past_word : List ℕ → List ℕ
past_word text = behind is_no_blank text

-- what stands after the blanks with which a text begins
unfoldable pub past_gap : List ℕ → Option (List ℕ)
past_gap [] = None
past_gap (b ∷ t) = if is_blank b then Some (skip_blanks t) else None
