-- The rules on the options together, in their order, and the faults that name them. They are this project's own; that types
-- belong to systems is after the CHRONOS User's Guide.
use Rattle.std.specs.Prelude.{◌≡◌, ◌≢◌, ℕ, ◌⊎◌, true, false, List, [], ◌∷◌, Option, Some, None, Ok, Err, unwrap_or, ⊤}
use Rattle.st_dates.specs.declared.system.System.{System}
use Rattle.st_dates.specs.declared.system.System.TheVariants.{Tdb, Sclk}
use Rattle.st_picture.specs.Picture.{Picture}
use Rattle.st_picture.specs.Reading.{ReadsPicture, IsSecondsAlone}
use Rattle.st_picture.specs.declared.fault.PictureFault.{PictureFault}
use Rattle.st_picture.specs.declared.fault.PictureFault.TheVariants.{OutOfMemory}
use Rattle.st_words.specs.Cut.{has}
use Rattle.st_words.specs.Kinds.{is_type_of, to_type, default_picture}
use Rattle.st_words.specs.declared.fault.WordFault.{WordFault}
use Rattle.st_words.specs.declared.fault.WordFault.TheVariants.{Missing, BadPair, Conflict, BadPicture}
use Rattle.st_words.specs.declared.opt.Opt.{Opt}
use Rattle.st_words.specs.declared.opt.Opt.TheVariants.{Setup, From, FromType, To, ToType, Format, Time, Batch, Sample, Back}
use Rattle.st_words.specs.declared.options.Options.{Options}
use Rattle.st_words.specs.declared.rule.Rule.{Rule}
use Rattle.st_words.specs.declared.rule.Rule.TheVariants.{SetupIsThere, FromIsThere, ToIsThere, WorkIsThere, FromTypeFits, ToTypeFits, TimeOrBatch, TimeOrSample, BatchOrSample, FormatOfNoClock, FormatOrSeconds, PictureReads, BackToClock, BackFromEt, BackFromSeconds}
use Rattle.st_words.specs.declared.time_type.TimeType.{TimeType}
use Rattle.st_words.specs.declared.time_type.TimeType.TheVariants.{Seconds}

-- both options are there
abbrev pub Both : Options → Opt → Opt → Type 0
Both o a b = (has o a ≡ true) × (has o b ≡ true)

-- a type is given that is none of its system
abbrev pub IsMisfit : Option System → Option TimeType → Type 0
IsMisfit system kind = (s : System) × (k : TimeType) × (system ≡ Some s) × (kind ≡ Some k) × (is_type_of s k ≡ false)

-- the picture in force for a target that is no clock: the given one, or that of the target's type
pub record IsPictured (o : Options) (system : System) (text : List ℕ) : Type 0 where
  pub default : List ℕ
  pub to : o.to ≡ Some system
  pub pictured : default_picture (to_type system o.to_type) ≡ Some default
  pub text_is : text ≡ unwrap_or o.format default

-- the picture in force is refused
abbrev pub RefusesPicture : Options → PictureFault → Type 0
RefusesPicture o fault =
    (system : System) × (text : List ℕ) × IsPictured o system text × ReadsPicture system text (Err fault) × (fault ≢ OutOfMemory)

-- the picture in force prints something other than seconds past J2000
abbrev pub PrintsMore : Options → Type 0
PrintsMore o =
    (system : System) × (text : List ℕ) × (picture : Picture) × IsPictured o system text × ReadsPicture system text (Ok picture)
    × (IsSecondsAlone picture.pieces → ⊥)

-- the options break a rule
abbrev pub Breaks : Options → Rule → Type 0
Breaks o SetupIsThere = has o Setup ≡ false
Breaks o FromIsThere = has o From ≡ false
Breaks o ToIsThere = has o To ≡ false
Breaks o WorkIsThere = (has o Time ≡ false) × (has o Batch ≡ false) × (has o Sample ≡ false)
Breaks o FromTypeFits = IsMisfit o.from o.from_type
Breaks o ToTypeFits = IsMisfit o.to o.to_type
Breaks o TimeOrBatch = Both o Time Batch
Breaks o TimeOrSample = Both o Time Sample
Breaks o BatchOrSample = Both o Batch Sample
Breaks o FormatOfNoClock = (has o Format ≡ true) × (o.to ≡ Some Sclk)
Breaks o FormatOrSeconds = (has o Format ≡ true) × (o.to_type ≡ Some Seconds)
Breaks o PictureReads = (fault : PictureFault) × RefusesPicture o fault
Breaks o BackToClock = (has o Back ≡ true) × (o.from ≢ Some Sclk)
Breaks o BackFromEt = (has o Back ≡ true) × (o.to ≢ Some Tdb)
Breaks o BackFromSeconds = (has o Back ≡ true) × PrintsMore o

-- the order in which the rules are tested
abbrev pub rules : List Rule
rules =
    SetupIsThere ∷ FromIsThere ∷ ToIsThere ∷ WorkIsThere ∷ FromTypeFits ∷ ToTypeFits ∷ TimeOrBatch ∷ TimeOrSample ∷ BatchOrSample
    ∷ FormatOfNoClock ∷ FormatOrSeconds ∷ PictureReads ∷ BackToClock ∷ BackFromEt ∷ BackFromSeconds ∷ []

-- no rule of the list is broken
abbrev pub AreKept : Options → List Rule → Type 0
AreKept o [] = ⊤
AreKept o (first ∷ more) = (Breaks o first → ⊥) × AreKept o more

-- a rule of the list is broken, and none before it
abbrev pub FirstBroken : Options → List Rule → Rule → Type 0
FirstBroken o [] rule = ⊥
FirstBroken o (first ∷ more) rule = ((first ≡ rule) × Breaks o first) ⊎ ((Breaks o first → ⊥) × FirstBroken o more rule)

-- the fault that names a broken rule; that of the picture is the fault of its reading
abbrev pub fault_of : Rule → Option WordFault
fault_of SetupIsThere = Some (Missing Setup)
fault_of FromIsThere = Some (Missing From)
fault_of ToIsThere = Some (Missing To)
fault_of WorkIsThere = Some (Missing Time)
fault_of FromTypeFits = Some (BadPair FromType)
fault_of ToTypeFits = Some (BadPair ToType)
fault_of TimeOrBatch = Some (Conflict Time Batch)
fault_of TimeOrSample = Some (Conflict Time Sample)
fault_of BatchOrSample = Some (Conflict Batch Sample)
fault_of FormatOfNoClock = Some (Conflict Format To)
fault_of FormatOrSeconds = Some (Conflict Format ToType)
fault_of PictureReads = None
fault_of BackToClock = Some (Conflict Back From)
fault_of BackFromEt = Some (Conflict Back To)
fault_of BackFromSeconds = Some (Conflict Back Format)

abbrev pub Names : Options → Rule → WordFault → Type 0
Names o rule fault =
    (fault_of rule ≡ Some fault)
    ⊎ ((rule ≡ PictureReads) × ((refusal : PictureFault) × RefusesPicture o refusal × (fault ≡ BadPicture refusal)))
