-- How the parts of a clock string are judged. Values are kept up to one more than the greatest that is taken.
use Rattle.std.specs.Prelude.{ℕ, ◌+◌, ◌-◌, Bool, true, ◌&&◌, nat_lt, nat_le, min, List, [], ◌∷◌, length, map, Option, Some, None, Result, Ok, Err, if◌then◌else◌, position, slice_index_or}
use Rattle.std.specs.List.{list_all}
use Rattle.st_text.specs.Bytes.{number_of}
use Rattle.st_ticks.specs.ClockText.{Parts}
use Rattle.st_ticks.specs.Face.{Face, earlier}
use Rattle.st_ticks.specs.Reading.{count_of}
use Rattle.st_ticks.specs.TextMachine.{parts_of}
use Rattle.st_ticks.specs.declared.fault.ClockTextFault.{ClockTextFault}
use Rattle.st_ticks.specs.declared.fault.ClockTextFault.TheVariants.{Form, TooManyFields, NoPartition, FieldBelowOffset, TooLarge, NotInPartition}
use Rattle.st_ticks.specs.declared.field.Field.{Field}
use Rattle.st_ticks.specs.declared.field.Partition.{Partition}

-- the number that digits spell, and no more than 2 * 10^18 + 1
abbrev pub capped : List ℕ → ℕ
capped digits = min (number_of digits) 2_000_000_000_000_000_001

abbrev pub capped_values : List (List ℕ) → List ℕ
capped_values fields = map capped fields

abbrev pub capped_partition : Option (List ℕ) → Option ℕ
capped_partition None = None
capped_partition (Some digits) = Some (capped digits)

abbrev pub from_offsets : List Field → List ℕ → Bool
from_offsets [] vs = true
from_offsets (f ∷ fs) [] = true
from_offsets (f ∷ fs) (v ∷ vs) = nat_le f.offset v && from_offsets fs vs

abbrev pub are_small : List ℕ → Bool
are_small vs = list_all (λ v. nat_le v 2_000_000_000_000_000_000) vs

abbrev pub is_numbered : List Partition → Option ℕ → Bool
is_numbered partitions None = true
is_numbered partitions (Some n) = nat_le 1 n && nat_le n (length partitions)

abbrev pub has_count : ℕ → Partition → Bool
has_count n p = nat_le p.start n && nat_le n p.end

abbrev pub partition_at : List Partition → ℕ → Partition
partition_at partitions place = slice_index_or partitions place (record { start = 0; end = 0 })

-- the place of the partition that is meant, where it has the count
abbrev pub meant_place : List Partition → Option ℕ → ℕ → Option ℕ
meant_place partitions None n = position (has_count n) partitions
meant_place partitions (Some number) n = if has_count n (partition_at partitions (number - 1)) then Some (number - 1) else None

abbrev pub ticked : Face → ℕ → Option ℕ → Result ℕ ClockTextFault
ticked face n None = Err NotInPartition
ticked face n (Some place) = Ok (earlier face place + (n - (partition_at face.partitions place).start))

-- what fields of these values mean
unfoldable pub counted_of : Face → Option ℕ → List ℕ → Result ℕ ClockTextFault
counted_of face partition vs =
    if from_offsets face.fields vs then
    (if are_small vs && nat_le (count_of face.fields vs) 1_000_000_000_000_000_000
    then ticked face (count_of face.fields vs) (meant_place face.partitions partition (count_of face.fields vs))
    else Err TooLarge)
    else Err FieldBelowOffset

unfoldable pub judged : Face → Option Parts → Result ℕ ClockTextFault
judged face None = Err Form
judged face (Some p) =
    if nat_lt (length face.fields) (length p.fields) then Err TooManyFields
    else (if is_numbered face.partitions (capped_partition p.partition)
    then counted_of face (capped_partition p.partition) (capped_values p.fields)
    else Err NoPartition)

-- what reading a text answers
abbrev pub clock_of : Face → List ℕ → Result ℕ ClockTextFault
clock_of face text = judged face (parts_of text)
