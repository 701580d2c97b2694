-- What a clock string means, and why it is refused. Source: SCLK Required Reading, on the count of a clock string and on
-- its partition. The limits and the order of the refusals are this project's own.
use Rattle.std.specs.Prelude.{◌≡◌, ℕ, ◌+◌, ◌-◌, ◌*◌, ◌^◌, ◌<◌, ◌≤◌, List, [], ◌∷◌, length, map, Option, Some, None, Result, Ok, Err, slice_get}
use Rattle.std.specs.List.{All}
use Rattle.st_text.specs.Bytes.{number_of}
use Rattle.st_ticks.specs.ClockText.{Parts, Spells}
use Rattle.st_ticks.specs.Face.{Face, span, earlier}
use Rattle.st_rules.specs.Rules.{AreKept, IsFirstBroken}
use Rattle.st_ticks.specs.declared.fault.ClockTextFault.{ClockTextFault}
use Rattle.st_ticks.specs.declared.fault.ClockTextFault.TheVariants.{Form, TooManyFields, NoPartition, FieldBelowOffset, TooLarge, NotInPartition}
use Rattle.st_ticks.specs.declared.field.Field.{Field}
use Rattle.st_ticks.specs.declared.field.Partition.{Partition}

abbrev pub values : Parts → List ℕ
values p = map number_of p.fields

-- the sum over the fields of what each has beyond its offset, times the product of the moduli to its right; fields that
-- are missing at the right have their offsets
abbrev pub count_of : List Field → List ℕ → ℕ
count_of [] vs = 0
count_of (f ∷ fs) [] = 0
count_of (f ∷ fs) (v ∷ vs) = (v - f.offset) * span fs + count_of fs vs

abbrev pub count : Face → Parts → ℕ
count face p = count_of face.fields (values p)

-- no field is below its offset
abbrev pub AreFromOffsets : List Field → List ℕ → Type 0
AreFromOffsets [] vs = Unit {0}
AreFromOffsets (f ∷ fs) [] = Unit {0}
AreFromOffsets (f ∷ fs) (v ∷ vs) = (f.offset ≤ v) × AreFromOffsets fs vs

-- the partition at this place has the count, from its start to its end
pub record Contains (face : Face) (place n : ℕ) : Type 0 where
  pub partition : Partition
  pub here : slice_get face.partitions place ≡ Some partition
  pub from : partition.start ≤ n
  pub to : n ≤ partition.end

-- the place of the partition that a string means: the written one, or else the first that contains the count
abbrev pub IsMeant : Face → Option (List ℕ) → ℕ → ℕ → Type 0
IsMeant face (Some digits) n place = (number_of digits ≡ place + 1) × Contains face place n
IsMeant face None n place = Contains face place n × ((sooner : ℕ) → sooner < place → Contains face sooner n → ⊥)

-- the written number is that of a partition
abbrev pub IsNumbered : Face → Option (List ℕ) → Type 0
IsNumbered face None = Unit {0}
IsNumbered face (Some digits) = (1 ≤ number_of digits) × (number_of digits ≤ length face.partitions)

-- what each refusal but Form says is not so
abbrev pub Keeps : Face → Parts → ClockTextFault → Type 0
Keeps face p Form = Unit {0}
Keeps face p TooManyFields = length p.fields ≤ length face.fields
Keeps face p NoPartition = IsNumbered face p.partition
Keeps face p FieldBelowOffset = AreFromOffsets face.fields (values p)
Keeps face p TooLarge = All (λ v. v ≤ 2 * 10 ^ 18) (values p) × (count face p ≤ 10 ^ 18)
Keeps face p NotInPartition = (place : ℕ) × IsMeant face p.partition (count face p) place

-- in the order in which they are looked at
abbrev pub text_rules : List ClockTextFault
text_rules = TooManyFields ∷ NoPartition ∷ FieldBelowOffset ∷ TooLarge ∷ NotInPartition ∷ []

-- the ticks of the earlier partitions, and those from the start of the meant one to the count
pub record IsTickOf (face : Face) (p : Parts) (k : ℕ) : Type 0 where
  pub place : ℕ
  pub partition : Partition
  pub meant : IsMeant face p.partition (count face p) place
  pub here : slice_get face.partitions place ≡ Some partition
  pub value : k ≡ earlier face place + (count face p - partition.start)

-- the text is a string of this clock, and k is its encoded tick
pub record SpellsTick (face : Face) (text : List ℕ) (k : ℕ) : Type 0 where
  pub parts : Parts
  pub spells : Spells parts text
  pub good : AreKept (Keeps face parts) text_rules
  pub tick : IsTickOf face parts k

-- the first refusal of a text
abbrev pub Refuses : Face → List ℕ → ClockTextFault → Type 0
Refuses face text Form = (p : Parts) → Spells p text → ⊥
Refuses face text fault = (p : Parts) × Spells p text × IsFirstBroken (Keeps face p) text_rules fault

-- what reading a text may answer
abbrev pub ReadsClock : Face → List ℕ → Result ℕ ClockTextFault → Type 0
ReadsClock face text (Ok k) = SpellsTick face text k
ReadsClock face text (Err fault) = Refuses face text fault
