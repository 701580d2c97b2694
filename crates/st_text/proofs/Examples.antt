-- Small texts, worked out by the definitions.
use Rattle.std.proofs.Common.{◌≡◌, [], ◌∷◌, ◌++◌, refl}
use Rattle.std.specs.Prelude.{codes}
use Rattle.st_text.specs.Bytes.{number_of, padded}
use Rattle.st_text.specs.Lines.{lines_of, without_cr, trimmed}

-- LF and CR LF end a line, and the last line needs no LF
two_lines : lines_of (codes "one" ++ 13 ∷ 10 ∷ codes "two") ≡ codes "one" ∷ codes "two" ∷ []
unfolding lines_of without_cr
two_lines = refl

-- a last LF begins no further line
ended : lines_of (codes "one" ++ 10 ∷ []) ≡ codes "one" ∷ []
unfolding lines_of without_cr
ended = refl

-- an empty line is a line, and no bytes are none
empty_line : lines_of (10 ∷ 10 ∷ []) ≡ [] ∷ [] ∷ []
unfolding lines_of without_cr
empty_line = refl

no_lines : lines_of [] ≡ []
unfolding lines_of without_cr
no_lines = refl

-- one CR is dropped, also where the last line has no LF
lone_cr : lines_of (13 ∷ []) ≡ [] ∷ []
unfolding lines_of without_cr
lone_cr = refl

two_cr : lines_of (codes "x" ++ 13 ∷ 13 ∷ 10 ∷ []) ≡ (codes "x" ++ 13 ∷ []) ∷ []
unfolding lines_of without_cr
two_cr = refl

inner_blanks : trimmed (codes "  one two ") ≡ codes "one two"
inner_blanks = refl

seven : number_of (codes "007") ≡ 7
seven = refl

year : number_of (codes "2016") ≡ 2016
year = refl

padded_day : padded 2 7 ≡ codes "07"
padded_day = refl

wide_day : padded 2 365 ≡ codes "365"
wide_day = refl

nothing : padded 0 0 ≡ []
nothing = refl

zero_padded : padded 3 0 ≡ codes "000"
zero_padded = refl
