-- The partition and the spelling of a tick, computed.
use Rattle.std.specs.Prelude.{ℕ, suc, ◌-◌, List, [], ◌∷◌, slice_index_or, nat_lt, if◌then◌else◌}
use Rattle.st_ticks.specs.Face.{Face, ticks_in}
use Rattle.st_ticks.specs.Tick.{count_at, spelled}
use Rattle.st_ticks.specs.declared.field.Partition.{Partition}

-- the place of the partition of tick k: the last one takes all that is left
abbrev pub place_in : List Partition → ℕ → ℕ
place_in [] k = 0
place_in (p ∷ []) k = 0
place_in (p ∷ q ∷ more) k = if nat_lt k (ticks_in p) then 0 else suc (place_in (q ∷ more) (k - ticks_in p))

abbrev pub place_of : Face → ℕ → ℕ
place_of face k = place_in face.partitions k

-- the partition of tick k
abbrev pub partition_of : Face → ℕ → Partition
partition_of face k = slice_index_or face.partitions (place_of face k) (record { start = 0; end = 0 })

-- the canonical spelling of tick k
abbrev pub canonical : Face → ℕ → List ℕ
canonical face k = spelled face (place_of face k) (count_at face (place_of face k) (partition_of face k) k)
