-- Encoded ticks: their partition, and their canonical spelling. Source: SCLK Required Reading, on partitions and on
-- encoded clock strings; that a boundary of two partitions belongs to the later one, and
-- the canonical spelling, are this project's own.
use Rattle.std.specs.Prelude.{◌≡◌, ℕ, suc, ◌+◌, ◌-◌, ◌/◌, ◌%◌, ◌<◌, ◌≤◌, List, [], ◌∷◌, ◌++◌, length, Some, slice_get}
use Rattle.std.specs.List.{join_with_byte}
use Rattle.st_text.specs.Bytes.{padded, decimal_digits}
use Rattle.st_ticks.specs.Face.{Face, span, earlier}
use Rattle.st_ticks.specs.declared.field.Field.{Field}
use Rattle.st_ticks.specs.declared.field.Partition.{Partition}

-- tick k belongs to the partition at this place: the last one whose earlier lengths sum to at most k
pub record IsPartitionOf (face : Face) (k place : ℕ) : Type 0 where
  pub there : place < length face.partitions
  pub begun : earlier face place ≤ k
  pub last : (later : ℕ) → place < later → later < length face.partitions → k < earlier face later

-- the count of tick k in the partition p at a place
abbrev pub count_at : Face → ℕ → Partition → ℕ → ℕ
count_at face place p k = p.start + (k - earlier face place)

-- tick k belongs to a partition, and its count is neither that partition's start nor its end
pub record IsStrictlyInside (face : Face) (k : ℕ) : Type 0 where
  pub place : ℕ
  pub partition : Partition
  pub of_tick : IsPartitionOf face k place
  pub here : slice_get face.partitions place ≡ Some partition
  pub after_start : partition.start < count_at face place partition k
  pub before_end : count_at face place partition k < partition.end

-- The fields of a count: each one counts by what all fields to its right span, from its offset on, and what is left goes
-- to them. So each but the first is below its offset plus its modulus.
abbrev pub fields_of : List Field → ℕ → List ℕ
fields_of [] count = []
fields_of (f ∷ fs) count = (f.offset + count / span fs) ∷ fields_of fs (count % span fs)

-- the digits of the greatest value of a field that does not carry
abbrev pub width : Field → ℕ
width f = length (decimal_digits (f.offset + f.modulus - 1))

-- the values of fields, each with leading zeros to its width
abbrev pub field_texts : List Field → List ℕ → List (List ℕ)
field_texts [] values = []
field_texts (f ∷ fs) [] = []
field_texts (f ∷ fs) (v ∷ vs) = padded (width f) v ∷ field_texts fs vs

-- a count in a partition: the partition's number, `/`, and the fields with the delimiter between them
abbrev pub spelled : Face → ℕ → ℕ → List ℕ
spelled face place count =
    decimal_digits (suc place)
    ++ (47 ∷ join_with_byte face.delimiter (field_texts face.fields (fields_of face.fields count)))

-- the text is the canonical spelling of tick k
pub record IsCanonical (face : Face) (k : ℕ) (text : List ℕ) : Type 0 where
  pub place : ℕ
  pub partition : Partition
  pub of_tick : IsPartitionOf face k place
  pub here : slice_get face.partitions place ≡ Some partition
  pub whole : text ≡ spelled face place (count_at face place partition k)
