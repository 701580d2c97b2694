-- The face of a type 1 clock: its fields, its partitions and its output delimiter. Source: SCLK Required Reading, on
-- type 1 clocks. The limits are this project's own.
use Rattle.std.specs.Prelude.{◌≡◌, ℕ, ◌-◌, ◌*◌, ◌^◌, ◌≤◌, ◌⊎◌, List, [], ◌∷◌, length, take}
use Rattle.std.specs.List.{All, sum_by}
use Rattle.st_ticks.specs.declared.field.Field.{Field}
use Rattle.st_ticks.specs.declared.field.Partition.{Partition}

pub record Face : Type 0 where
  -- from the most significant field, which is the leftmost, to the least
  pub fields : List Field
  -- the byte that stands between two fields of a printed string
  pub delimiter : ℕ
  -- in their order; the first has the number 1 in strings and the place 0 here
  pub partitions : List Partition

-- the product of the moduli
abbrev pub span : List Field → ℕ
span [] = 1
span (f ∷ fs) = f.modulus * span fs

-- the product of all moduli but the first
abbrev pub span_of_rest : List Field → ℕ
span_of_rest [] = 1
span_of_rest (f ∷ fs) = span fs

-- the ticks of one count of the most significant field
abbrev pub tpm : Face → ℕ
tpm face = span_of_rest face.fields

-- the length of a partition, in ticks
abbrev pub ticks_in : Partition → ℕ
ticks_in p = p.end - p.start

-- the ticks of all partitions
abbrev pub total : Face → ℕ
total face = sum_by ticks_in face.partitions

-- the ticks of the partitions before the one at a place
abbrev pub earlier : Face → ℕ → ℕ
earlier face place = sum_by ticks_in (take place face.partitions)

-- `.`, `:`, `-`, `,` or a space
abbrev pub IsDelimiter : ℕ → Type 0
IsDelimiter b = (b ≡ 46) ⊎ ((b ≡ 58) ⊎ ((b ≡ 45) ⊎ ((b ≡ 44) ⊎ (b ≡ 32))))

pub record IsField (f : Field) : Type 0 where
  pub some : 1 ≤ f.modulus
  pub modulus : f.modulus ≤ 10 ^ 18
  pub offset : f.offset ≤ 10 ^ 12

pub record IsPartition (p : Partition) : Type 0 where
  pub ordered : p.start ≤ p.end
  pub small : p.end ≤ 10 ^ 18

-- what is true of each face
pub record IsFace (face : Face) : Type 0 where
  pub some_fields : 1 ≤ length face.fields
  pub few_fields : length face.fields ≤ 10
  pub fields : All IsField face.fields
  pub tpm_small : tpm face ≤ 10 ^ 12
  pub delimiter : IsDelimiter face.delimiter
  pub some_partitions : 1 ≤ length face.partitions
  pub few_partitions : length face.partitions ≤ 9999
  pub partitions : All IsPartition face.partitions
  pub total_small : total face ≤ 10 ^ 18
