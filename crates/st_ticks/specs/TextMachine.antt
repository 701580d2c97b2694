-- How a clock string is read: its partition, then one field after the other, each with the separator after it.
use Rattle.std.specs.Prelude.{ℕ, zero, suc, ◌==◌, List, [], ◌∷◌, length, Option, Some, None, if◌then◌else◌}
use Rattle.st_text.specs.Bytes.{is_blank, are_blanks}
use Rattle.st_text.specs.Lines.{skip_blanks}
use Rattle.st_text.specs.Scan.{◌>>=◌, leading_digits, past_digits}
use Rattle.st_ticks.specs.ClockText.{is_mark, Parts}

-- what is after a mark, and the blanks after it, with which a text begins
unfoldable pub past_mark : List ℕ → Option (List ℕ)
past_mark [] = None
past_mark (b ∷ t) = if is_mark b then Some (skip_blanks t) else None

-- what is after blanks with which a text begins
unfoldable pub past_gap : List ℕ → Option (List ℕ)
past_gap [] = None
past_gap (b ∷ t) = if is_blank b then Some (skip_blanks t) else None

-- what is after a separator with which a text begins
unfoldable pub past_separator : List ℕ → Option (List ℕ)
past_separator text =
    elim (past_mark (skip_blanks text)) as (λ _. Option (List ℕ)) [ Some rest ↦ Some rest | None ↦ past_gap text ]

-- what a text begins with: no field, a field that is the last, or a field before what its separator stands before
pub data Next : Type 0 where
  stop : Next
  last : List ℕ → Next
  more : List ℕ → List ℕ → Next

abbrev pub next_before : List ℕ → Option (List ℕ) → Next
next_before field None = stop
next_before field (Some rest) = more field rest

unfoldable pub next_of : List ℕ → Next
next_of text =
    if length (leading_digits text) == 0 then stop
    else (if are_blanks (past_digits text) then last (leading_digits text)
    else next_before (leading_digits text) (past_separator (past_digits text)))

-- a field before others
abbrev pub onto : List ℕ → Option (List (List ℕ)) → Option (List (List ℕ))
onto field None = None
onto field (Some fields) = Some (field ∷ fields)

abbrev pub runs_from : (List ℕ → Option (List (List ℕ))) → Next → Option (List (List ℕ))
runs_from read stop = None
runs_from read (last field) = Some (field ∷ [])
runs_from read (more field rest) = onto field (read rest)

-- the fields of a text, at most so many
unfoldable pub runs_of : ℕ → List ℕ → Option (List (List ℕ))
runs_of zero text = None
runs_of (suc n) text = runs_from (runs_of n) (next_of text)

-- a text has no more fields than bytes
abbrev pub runs : List ℕ → Option (List (List ℕ))
runs text = runs_of (length text) text

-- what is after a `/`, and the blanks after it, with which a text begins
unfoldable pub past_slash : List ℕ → Option (List ℕ)
past_slash [] = None
past_slash (b ∷ t) = if b == 47 then Some (skip_blanks t) else None

-- the digits of the partition with which a text begins, and what is after its `/`
unfoldable pub partition_in : List ℕ → Option (List ℕ × List ℕ)
partition_in text =
    if length (leading_digits text) == 0 then None
    else past_slash (skip_blanks (past_digits text)) >>= λ rest. Some (leading_digits text, rest)

abbrev pub with_fields : Option (List ℕ) → Option (List (List ℕ)) → Option Parts
with_fields partition None = None
with_fields partition (Some fields) = Some (record { partition = partition; fields = fields })

abbrev pub parts_after : List ℕ → Option (List ℕ × List ℕ) → Option Parts
parts_after text None = with_fields None (runs text)
parts_after text (Some p) = with_fields (Some p.0) (runs p.1)

-- the parts of a text that is a clock string
unfoldable pub parts_of : List ℕ → Option Parts
parts_of text = parts_after (skip_blanks text) (partition_in (skip_blanks text))
