-- How a face is kept: beside what it is seen as, the sums that its calls need.
use Rattle.std.specs.Prelude.{◌≡◌, ℕ, ◌<◌, List, length, slice_index}
use Rattle.st_ticks.specs.Face.{Face, IsFace, tpm, total, earlier}
use Rattle.st_ticks.specs.declared.field.Field.{Field}
use Rattle.st_ticks.specs.declared.field.Partition.{Partition}

abbrev pub seen : List Field → ℕ → List Partition → Face
seen fields delimiter partitions = record { fields = fields; delimiter = delimiter; partitions = partitions }

-- for each partition the ticks of the earlier ones
pub record AreBegins (face : Face) (begins : List ℕ) : Type 0 where
  pub as_many : length begins ≡ length face.partitions
  pub sums : (place : ℕ) → place < length face.partitions → slice_index begins place ≡ earlier face place

pub record IsSound (face : Face) (begins : List ℕ) (ticks_per_count total_ticks : ℕ) : Type 0 where
  pub face_is : IsFace face
  pub begins_are : AreBegins face begins
  pub ticks_per_count_is : ticks_per_count ≡ tpm face
  pub total_is : total_ticks ≡ total face
