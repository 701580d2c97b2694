-- How the fields of a count are printed: one after the other, from the left.
use Rattle.std.specs.Prelude.{ℕ, ◌+◌, ◌/◌, ◌%◌, List, [], ◌∷◌, ◌++◌}
use Rattle.st_text.specs.Bytes.{padded}
use Rattle.st_ticks.specs.Face.{span}
use Rattle.st_ticks.specs.Tick.{width}
use Rattle.st_ticks.specs.declared.field.Field.{Field}

-- the field that a count has there, with what fields to its right span
abbrev pub field_text : Field → List Field → ℕ → List ℕ
field_text f fs n = padded (width f) (f.offset + n / span fs)

-- fields that stand after others
unfoldable pub more_text : ℕ → List Field → ℕ → List ℕ
more_text delimiter [] n = []
more_text delimiter (f ∷ fs) n = delimiter ∷ (field_text f fs n ++ more_text delimiter fs (n % span fs))

unfoldable pub fields_text : ℕ → List Field → ℕ → List ℕ
fields_text delimiter [] n = []
fields_text delimiter (f ∷ fs) n = field_text f fs n ++ more_text delimiter fs (n % span fs)
