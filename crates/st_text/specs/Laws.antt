-- How bytes are cut into lines, as laws.
use Rattle.std.specs.Prelude.{◌≡◌, ℕ, ◌<◌, List, [], ◌∷◌, ◌++◌, length}
use Rattle.st_text.specs.Ascii.{line_feed}
use Rattle.st_text.specs.Lines.{HasNoFeed, lines_of, without_cr}

-- No bytes have no line.
abbrev pub NoLine : Type 0
NoLine = lines_of [] ≡ []

-- What stands before the first LF is the first line, and the others are those of what stands after it.
abbrev pub LineEnds : Type 0
LineEnds = (line rest : List ℕ) → HasNoFeed line → lines_of (line ++ (line_feed ∷ rest)) ≡ without_cr line ∷ lines_of rest

-- Bytes without an LF are one line.
abbrev pub LastLine : Type 0
LastLine = (line : List ℕ) → 0 < length line → HasNoFeed line → lines_of line ≡ without_cr line ∷ []
