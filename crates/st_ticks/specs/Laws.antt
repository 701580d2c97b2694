-- Laws of faces, of their ticks and of their strings.
use Rattle.std.specs.Prelude.{◌≡◌, ◌≢◌, ℕ, ◌+◌, ◌<◌, ◌≤◌, ◌↔◌, List, [], ◌∷◌, ◌++◌, length, Result, Err}
use Rattle.st_ticks.specs.Face.{Face, total, IsField}
use Rattle.std.specs.List.{All}
use Rattle.st_ticks.specs.Face.{IsFace}
use Rattle.st_ticks.specs.Tick.{IsPartitionOf, IsStrictlyInside, IsCanonical, fields_of}
use Rattle.st_ticks.specs.TickMachine.{canonical}
use Rattle.st_ticks.specs.Reading.{SpellsTick, ReadsClock, count_of, AreFromOffsets}
use Rattle.st_ticks.specs.Variables.{Numbers, MakesFace}
use Rattle.st_ticks.specs.declared.fault.ClockTextFault.{ClockTextFault}
use Rattle.st_ticks.specs.declared.fault.FaceFault.{FaceFault}
use Rattle.st_ticks.specs.declared.fault.FaceFault.TheVariants.{OutOfMemory}
use Rattle.st_ticks.specs.declared.field.Field.{Field}

-- a tick belongs to one partition
abbrev pub PartitionIsOne : Type 0
PartitionIsOne = (face : Face) (k i j : ℕ) → IsPartitionOf face k i → IsPartitionOf face k j → i ≡ j

abbrev pub PartitionIsFound : Type 0
PartitionIsFound = (face : Face) (k : ℕ) → IsFace face → (place : ℕ) × IsPartitionOf face k place

-- a tick has one canonical spelling
abbrev pub CanonicalIsOne : Type 0
CanonicalIsOne = (face : Face) (k : ℕ) (text : List ℕ) → IsFace face → IsCanonical face k text ↔ (text ≡ canonical face k)

-- the canonical spelling of a tick is read as that tick
abbrev pub CanonicalReads : Type 0
CanonicalReads = (face : Face) (k : ℕ) → IsFace face → k ≤ total face → SpellsTick face (canonical face k) k

abbrev pub InsideIsWithin : Type 0
InsideIsWithin = (face : Face) (k : ℕ) → IsFace face → IsStrictlyInside face k → k < total face

-- a text has one answer
abbrev pub ReadingIsOne : Type 0
ReadingIsOne =
    (face : Face) (text : List ℕ) (a b : Result ℕ ClockTextFault) → ReadsClock face text a → ReadsClock face text b → a ≡ b

abbrev pub ReadingIsFound : Type 0
ReadingIsFound =
    (face : Face) (text : List ℕ) → IsFace face → (answer : Result ℕ ClockTextFault) × ReadsClock face text answer

-- the tick of a string is a tick of the clock
abbrev pub TickIsWithin : Type 0
TickIsWithin = (face : Face) (text : List ℕ) (k : ℕ) → IsFace face → SpellsTick face text k → k ≤ total face

-- one more in a field is worth as much as its neighbour's modulus more in the field to its right
abbrev pub FieldsCarry : Type 0
FieldsCarry =
    (before after : List Field) (f g : Field) (us ws : List ℕ) (v w : ℕ) → length us ≡ length before → f.offset ≤ v → g.offset ≤ w
    → count_of (before ++ (f ∷ g ∷ after)) (us ++ ((v + 1) ∷ w ∷ ws))
    ≡ count_of (before ++ (f ∷ g ∷ after)) (us ++ (v ∷ (w + g.modulus) ∷ ws))

-- each field but the first is below its offset plus its modulus
abbrev pub AreBelow : List Field → List ℕ → Type 0
AreBelow [] vs = Unit {0}
AreBelow (f ∷ fs) [] = Unit {0}
AreBelow (f ∷ fs) (v ∷ vs) = (v < f.offset + f.modulus) × AreBelow fs vs

abbrev pub DoNotCarry : List Field → List ℕ → Type 0
DoNotCarry (f ∷ fs) (v ∷ vs) = AreBelow fs vs
DoNotCarry fields values = Unit {0}

-- the fields of a count have that count, and do not carry
abbrev pub FieldsAreFound : Type 0
FieldsAreFound =
    (fields : List Field) (n : ℕ) → 1 ≤ length fields → All IsField fields
    → (count_of fields (fields_of fields n) ≡ n) × AreFromOffsets fields (fields_of fields n) × DoNotCarry fields (fields_of fields n)

-- there are no others
abbrev pub FieldsAreOne : Type 0
FieldsAreOne =
    (fields : List Field) (values : List ℕ) → length values ≡ length fields → All IsField fields
    → AreFromOffsets fields values → DoNotCarry fields values → values ≡ fields_of fields (count_of fields values)

-- whatever the values of the six variables are, they make a face or break a first rule
abbrev pub FaceIsFound : Type 0
FaceIsFound = (n : Numbers) → (answer : Result Face FaceFault) × MakesFace n answer × (answer ≢ Err OutOfMemory)
