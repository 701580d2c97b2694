-- Strings of a type 1 clock, by their parts. Source: SCLK Required Reading, on SCLK strings: a partition before a `/`,
-- and fields with one of five delimiters between them. Where blanks may stand is this project's own.
use Rattle.std.specs.Prelude.{◌≡◌, ℕ, ◌<◌, ◌⊎◌, Bool, ◌==◌, ◌||◌, List, [], ◌∷◌, ◌++◌, length, Option, Some, None, IsTrue}
use Rattle.st_text.specs.Bytes.{are_blanks, are_digits}

-- `.`, `:`, `-` or `,`
abbrev pub is_mark : ℕ → Bool
is_mark b = (b == 46) || (b == 58) || (b == 45) || (b == 44)

-- digits, and at least one
pub record IsRun (text : List ℕ) : Type 0 where
  pub digits : IsTrue (are_digits text)
  pub some : 0 < length text

-- blanks, and at least one
pub record IsGap (text : List ℕ) : Type 0 where
  pub blanks : IsTrue (are_blanks text)
  pub some : 0 < length text

-- a byte with or without blanks around it
pub record Surrounds (before : List ℕ) (byte : ℕ) (after text : List ℕ) : Type 0 where
  pub blanks_before : IsTrue (are_blanks before)
  pub blanks_after : IsTrue (are_blanks after)
  pub whole : text ≡ before ++ (byte ∷ after)

-- what stands between two fields
abbrev pub IsSeparator : List ℕ → Type 0
IsSeparator text =
    IsGap text
    ⊎ ((before after : List ℕ) × (mark : ℕ) × IsTrue (is_mark mark) × Surrounds before mark after text)

-- the parts of a string: the digits before `/`, where there are any, and the digits of each field from the left
pub record Parts : Type 0 where
  pub partition : Option (List ℕ)
  pub fields : List (List ℕ)

-- fields with separators between them; at least one field
abbrev pub SpellsFields : List (List ℕ) → List ℕ → Type 0
SpellsFields [] text = ⊥
SpellsFields (field ∷ []) text = IsRun field × (text ≡ field)
SpellsFields (field ∷ next ∷ more) text =
    (separator rest : List ℕ) × IsRun field × IsSeparator separator × SpellsFields (next ∷ more) rest
    × (text ≡ field ++ (separator ++ rest))

-- nothing, or digits and a `/`
abbrev pub SpellsPartition : Option (List ℕ) → List ℕ → Type 0
SpellsPartition None text = text ≡ []
SpellsPartition (Some digits) text =
    (before after slash : List ℕ) × IsRun digits × Surrounds before 47 after slash × (text ≡ digits ++ slash)

-- the text is a clock string with these parts
pub record Spells (p : Parts) (text : List ℕ) : Type 0 where
  pub front : List ℕ
  pub partition : List ℕ
  pub fields : List ℕ
  pub back : List ℕ
  pub blanks_front : IsTrue (are_blanks front)
  pub blanks_back : IsTrue (are_blanks back)
  pub partition_is : SpellsPartition p.partition partition
  pub fields_are : SpellsFields p.fields fields
  pub whole : text ≡ front ++ (partition ++ (fields ++ back))
