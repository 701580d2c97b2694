-- The lines of a text file. A line ends at a line feed (LF) or at the end of the file, and one
-- carriage return (CR) at its end is dropped: text files of Unix and of Windows have the same
-- lines.
use Rattle.std.specs.Prelude.{◌≡◌, ℕ, false, ◌-◌, List, [], ◌∷◌, map, length, take, slice_index, ◌==◌, ◌&&◌, nat_lt, if◌then◌else◌}
use Rattle.std.specs.List.{list_any, slice_split}
use Rattle.st_text.specs.Ascii.{line_feed, carriage_return}
use Rattle.st_text.specs.Bytes.{is_blank, are_blanks}

-- the bytes have no LF
abbrev pub HasNoFeed : List ℕ → Type 0
HasNoFeed bytes = list_any (λ b. b == line_feed) bytes ≡ false

-- the parts but for the last, where that has no bytes
abbrev pub without_last_empty : List (List ℕ) → List (List ℕ)
without_last_empty [] = []
without_last_empty (x ∷ []) = if length x == 0 then [] else x ∷ []
without_last_empty (x ∷ y ∷ more) = x ∷ without_last_empty (y ∷ more)

-- what stands before each LF, and the bytes after the last LF, where there are any
abbrev pub raw_lines : List ℕ → List (List ℕ)
raw_lines bytes = without_last_empty (slice_split (λ b. b == line_feed) bytes)

-- a line without the CR at its end, where it has one there
unfoldable pub without_cr : List ℕ → List ℕ
without_cr line =
    if nat_lt 0 (length line) && (slice_index line (length line - 1) == carriage_return)
    then take (length line - 1) line
    else line

-- the lines of a file, in order
unfoldable pub lines_of : List ℕ → List (List ℕ)
lines_of bytes = map without_cr (raw_lines bytes)

-- the text from its first byte on that is no blank
abbrev pub skip_blanks : List ℕ → List ℕ
skip_blanks [] = []
skip_blanks (b ∷ bs) = if is_blank b then skip_blanks bs else b ∷ bs

-- the text up to its last byte that is no blank
abbrev pub without_end_blanks : List ℕ → List ℕ
without_end_blanks [] = []
without_end_blanks (b ∷ bs) = if are_blanks (b ∷ bs) then [] else b ∷ without_end_blanks bs

-- the text without the blanks at its two ends
abbrev pub trimmed : List ℕ → List ℕ
trimmed text = without_end_blanks (skip_blanks text)
