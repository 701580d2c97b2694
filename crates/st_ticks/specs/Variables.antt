-- The six variables from which the face of a clock is made, and what is asked of them. Source: SCLK Required Reading, on the
-- variables of a type 1 clock kernel. The limits and the order of the rules are this project's own.
use Rattle.std.specs.Prelude.{◌≡◌, ℕ, ℤ, pos, ◌^◌, ◌≤◌, ◌==◌, if◌then◌else◌, List, [], ◌∷◌, ◌++◌, length, Result, Ok, Err}
use Rattle.std.specs.List.{All, sum_by}
use Rattle.st_decimal.specs.Scaling.{IsTimesTen}
use Rattle.st_decimal.specs.declared.number.Dec.{Dec}
use Rattle.st_ticks.specs.Face.{Face, span_of_rest, ticks_in, IsPartition}
use Rattle.st_rules.specs.Rules.{AreKept, IsFirstBroken}
use Rattle.st_ticks.specs.declared.fault.FaceFault.{FaceFault}
use Rattle.st_ticks.specs.declared.fault.FaceFault.TheVariants.{Bad, OutOfMemory}
use Rattle.st_ticks.specs.declared.field.Field.{Field}
use Rattle.st_ticks.specs.declared.field.Partition.{Partition}
use Rattle.st_ticks.specs.declared.variable.ClockFault.{ClockFault}
use Rattle.st_ticks.specs.declared.variable.ClockVar.{ClockVar}
use Rattle.st_ticks.specs.declared.variable.ClockVar.TheVariants.{NFields, Moduli, Offsets, Delim, Start, End}
use Rattle.st_ticks.specs.declared.variable.ClockWhy.{ClockWhy}
use Rattle.st_ticks.specs.declared.variable.ClockWhy.TheVariants.{NotOne, NotWhole, Range, Count, Product}

-- the values of the variables
pub record Numbers : Type 0 where
  pub n_fields : List Dec
  pub moduli : List Dec
  pub offsets : List Dec
  pub delim : List Dec
  pub starts : List Dec
  pub ends : List Dec

-- the decimal is the number n
abbrev pub IsNumber : ℕ → Dec → Type 0
IsNumber n d = IsTimesTen d.digits d.tens (pos n)

-- the decimal is a whole number of any size
abbrev pub IsWholeNumber : Dec → Type 0
IsWholeNumber d = (z : ℤ) × IsTimesTen d.digits d.tens z

abbrev pub IsFrom : ℕ → ℕ → Dec → Type 0
IsFrom low high d = (n : ℕ) × IsNumber n d × (low ≤ n) × (n ≤ high)

-- fields with these moduli, each from 1 to 10^18
abbrev pub HaveModuli : List Dec → List Field → Type 0
HaveModuli [] [] = Unit {0}
HaveModuli (m ∷ ms) (f ∷ fs) = IsNumber f.modulus m × (1 ≤ f.modulus) × (f.modulus ≤ 10 ^ 18) × HaveModuli ms fs
HaveModuli _ _ = ⊥

abbrev pub HaveOffsets : List Dec → List Field → Type 0
HaveOffsets [] [] = Unit {0}
HaveOffsets (o ∷ os) (f ∷ fs) = IsNumber f.offset o × HaveOffsets os fs
HaveOffsets _ _ = ⊥

-- partitions with these starts and ends, each end from its start to 10^18
abbrev pub HaveEnds : List Dec → List Dec → List Partition → Type 0
HaveEnds [] [] [] = Unit {0}
HaveEnds (s ∷ ss) (e ∷ es) (p ∷ ps) = IsNumber p.start s × IsNumber p.end e × IsPartition p × HaveEnds ss es ps
HaveEnds _ _ _ = ⊥

-- the delimiters by their codes from 1 to 5: `.`, `:`, `-`, `,` and a space
abbrev pub delimiter_of : ℕ → ℕ
delimiter_of code =
    if code == 1 then 46 else (if code == 2 then 58 else (if code == 3 then 45 else (if code == 4 then 44 else 32)))

abbrev pub KeepsNFields : Numbers → ClockWhy → Type 0
KeepsNFields n NotOne = length n.n_fields ≡ 1
KeepsNFields n NotWhole = All IsWholeNumber n.n_fields
KeepsNFields n Range = All (IsFrom 1 10) n.n_fields
KeepsNFields n _ = Unit {0}

-- as many as fields
abbrev pub AreAsMany : Numbers → List Dec → Type 0
AreAsMany n values = All (IsNumber (length values)) n.n_fields

abbrev pub KeepsModuli : Numbers → ClockWhy → Type 0
KeepsModuli n Count = AreAsMany n n.moduli
KeepsModuli n NotWhole = All IsWholeNumber n.moduli
KeepsModuli n Range = All (IsFrom 1 (10 ^ 18)) n.moduli
KeepsModuli n Product = (fields : List Field) × HaveModuli n.moduli fields × (span_of_rest fields ≤ 10 ^ 12)
KeepsModuli n _ = Unit {0}

abbrev pub KeepsOffsets : Numbers → ClockWhy → Type 0
KeepsOffsets n Count = AreAsMany n n.offsets
KeepsOffsets n NotWhole = All IsWholeNumber n.offsets
KeepsOffsets n Range = All (IsFrom 0 (10 ^ 12)) n.offsets
KeepsOffsets n _ = Unit {0}

abbrev pub KeepsDelim : Numbers → ClockWhy → Type 0
KeepsDelim n NotOne = length n.delim ≡ 1
KeepsDelim n Range = All (IsFrom 1 5) n.delim
KeepsDelim n _ = Unit {0}

abbrev pub KeepsStart : Numbers → ClockWhy → Type 0
KeepsStart n Count = (1 ≤ length n.starts) × (length n.starts ≤ 9999)
KeepsStart n NotWhole = All IsWholeNumber n.starts
KeepsStart n Range = All (IsFrom 0 (10 ^ 18)) n.starts
KeepsStart n _ = Unit {0}

abbrev pub KeepsEnd : Numbers → ClockWhy → Type 0
KeepsEnd n Count = length n.ends ≡ length n.starts
KeepsEnd n NotWhole = All IsWholeNumber n.ends
KeepsEnd n Range = (partitions : List Partition) × HaveEnds n.starts n.ends partitions
KeepsEnd n Product = (partitions : List Partition) × HaveEnds n.starts n.ends partitions × (sum_by ticks_in partitions ≤ 10 ^ 18)
KeepsEnd n _ = Unit {0}

abbrev pub KeepsOf : Numbers → ClockVar → ClockWhy → Type 0
KeepsOf n NFields why = KeepsNFields n why
KeepsOf n Moduli why = KeepsModuli n why
KeepsOf n Offsets why = KeepsOffsets n why
KeepsOf n Delim why = KeepsDelim n why
KeepsOf n Start why = KeepsStart n why
KeepsOf n End why = KeepsEnd n why
KeepsOf n _ why = Unit {0}

-- what each fault says is not so
abbrev pub Keeps : Numbers → ClockFault → Type 0
Keeps n fault = KeepsOf n fault.var fault.why

abbrev pub rule : ClockVar → ClockWhy → ClockFault
rule var why = record { var = var; why = why }

-- the rules that are looked at before the ends are read, in their order
abbrev pub first_rules : List ClockFault
first_rules =
    rule NFields NotOne ∷ rule NFields NotWhole ∷ rule NFields Range
    ∷ rule Moduli Count ∷ rule Moduli NotWhole ∷ rule Moduli Range ∷ rule Moduli Product
    ∷ rule Offsets Count ∷ rule Offsets NotWhole ∷ rule Offsets Range
    ∷ rule Delim NotOne ∷ rule Delim Range
    ∷ rule Start Count ∷ rule Start NotWhole ∷ rule Start Range
    ∷ rule End Count ∷ rule End NotWhole ∷ []

-- all rules
abbrev pub face_rules : List ClockFault
face_rules = first_rules ++ (rule End Range ∷ rule End Product ∷ [])

-- the face has what the variables say
pub record IsMadeOf (n : Numbers) (face : Face) : Type 0 where
  pub moduli : HaveModuli n.moduli face.fields
  pub offsets : HaveOffsets n.offsets face.fields
  pub partitions : HaveEnds n.starts n.ends face.partitions
  pub code : ℕ
  pub code_is : All (IsNumber code) n.delim
  pub delimiter : face.delimiter ≡ delimiter_of code

-- what making a face of the variables may answer; want of memory may come at any time
abbrev pub MakesFace : Numbers → Result Face FaceFault → Type 0
MakesFace n (Ok face) = AreKept (Keeps n) face_rules × IsMadeOf n face
MakesFace n (Err (Bad fault)) = IsFirstBroken (Keeps n) face_rules fault
MakesFace n (Err OutOfMemory) = Unit {0}
