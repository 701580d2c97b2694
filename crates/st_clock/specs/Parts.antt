-- A clock's variables, and the first fault of the data type, the time system and the coefficients, after NAIF's SCLK
-- Required Reading, type 1. The limits, and the order of the faults, are this project's own.
use Rattle.std.specs.Prelude.{◌≡◌, ℕ, ◌+◌, ◌*◌, ◌^◌, ◌<◌, ◌≤◌, ℤ, pos, ◌<ℤ◌, unsigned_abs, List, [], ◌∷◌, ◌++◌, length, Some, Result, Ok, Err}
use Rattle.std.specs.List.{slice_get}
use Rattle.st_decimal.specs.declared.number.Dec.{Dec}
use Rattle.st_decimal.specs.Scaling.{IsTimesTen, IsUnits18}
use Rattle.st_scales.specs.declared.scale.Scale.{Scale}
use Rattle.st_scales.specs.declared.scale.Scale.TheVariants.{Tai, Tt, Tdb}
use Rattle.st_ticks.specs.Face.{Face}
use Rattle.st_rules.specs.Rules.{AreKept, IsFirstBroken}
use Rattle.st_ticks.specs.declared.fault.FaceFault.{FaceFault}
use Rattle.st_ticks.specs.declared.fault.FaceFault.TheVariants.{Bad, OutOfMemory}
use Rattle.st_ticks.specs.declared.variable.ClockFault.{ClockFault}
use Rattle.st_ticks.specs.declared.variable.ClockVar.{ClockVar}
use Rattle.st_ticks.specs.declared.variable.ClockVar.TheVariants.{DataType, TimeSystem, Coefficients}
use Rattle.st_ticks.specs.declared.variable.ClockWhy.{ClockWhy}
use Rattle.st_ticks.specs.declared.variable.ClockWhy.TheVariants.{NotOne, NotWhole, NotUnits, Range, Count, NotRising}
use Rattle.st_clock.specs.declared.coefficient.Coefficient.{Coefficient}
use Rattle.st_clock.specs.Clock.{Clock}

-- the decimal is the whole number n
abbrev pub IsNumber : Dec → ℤ → Type 0
IsNumber d n = IsTimesTen d.digits d.tens n

abbrev pub HasNumber : Dec → Type 0
HasNumber d = (n : ℤ) × IsNumber d n

-- the decimal is a count of units below 10^38
abbrev pub HasUnits : Dec → Type 0
HasUnits d = (u : ℤ) × IsUnits18 d u

-- what a record's tick, time and rate may be
pub record IsTick (d : Dec) (n : ℕ) : Type 0 where
  pub number : IsNumber d (pos n)
  pub small : n ≤ 10 ^ 18

pub record IsTime (d : Dec) (u : ℤ) : Type 0 where
  pub units : IsUnits18 d u
  pub small : unsigned_abs u ≤ 10 ^ 28

pub record IsRate (d : Dec) (n : ℕ) : Type 0 where
  pub units : IsUnits18 d (pos n)
  pub some : 0 < n
  pub small : n ≤ 10 ^ 23

-- a time system's number: 1 is TDB, 2 is TT
abbrev pub IsSystem : Dec → Scale → Type 0
IsSystem d Tai = ⊥
IsSystem d Tt = IsNumber d (pos 2)
IsSystem d Tdb = IsNumber d (pos 1)

-- TDB where no time system is given
abbrev pub IsScaleOf : List Dec → Scale → Type 0
IsScaleOf [] scale = scale ≡ Tdb
IsScaleOf (d ∷ more) scale = IsSystem d scale

-- P holds of each value at place k of three
abbrev pub EachThird : ℕ → List Dec → (Dec → Type 0) → Type 0
EachThird k values P = (i : ℕ) (d : Dec) → slice_get values (3 * i + k) ≡ Some d → P d

-- each tick is before the next one, and each time before the next one
pub record DoRise (values : List Dec) : Type 0 where
  pub ticks : (i : ℕ) (a b : Dec) (m n : ℕ) → slice_get values (3 * i + 0) ≡ Some a → slice_get values (3 * (i + 1) + 0) ≡ Some b
      → IsTick a m → IsTick b n → m < n
  pub times : (i : ℕ) (a b : Dec) (t u : ℤ) → slice_get values (3 * i + 1) ≡ Some a → slice_get values (3 * (i + 1) + 1) ≡ Some b
      → IsTime a t → IsTime b u → t <ℤ u

-- the rules of the three variables
abbrev pub KeepsType : List Dec → ClockWhy → Type 0
KeepsType values NotOne = length values ≡ 1
KeepsType values Range = (i : ℕ) (d : Dec) → slice_get values i ≡ Some d → IsNumber d (pos 1)
KeepsType values _ = Unit {0}

abbrev pub KeepsSystem : List Dec → ClockWhy → Type 0
KeepsSystem values NotOne = length values ≤ 1
KeepsSystem values Range = (i : ℕ) (d : Dec) → slice_get values i ≡ Some d → (scale : Scale) × IsSystem d scale
KeepsSystem values _ = Unit {0}

abbrev pub KeepsCoefficients : List Dec → ClockWhy → Type 0
KeepsCoefficients values Count = (n : ℕ) × ((0 < n) × (length values ≡ 3 * n))
KeepsCoefficients values NotWhole = EachThird 0 values HasNumber
KeepsCoefficients values NotUnits = EachThird 1 values HasUnits × EachThird 2 values HasUnits
KeepsCoefficients values Range =
    EachThird 0 values (λ d. (n : ℕ) × IsTick d n) × (EachThird 1 values (λ d. (u : ℤ) × IsTime d u) × EachThird 2 values (λ d. (n : ℕ) × IsRate d n))
KeepsCoefficients values NotRising = DoRise values
KeepsCoefficients values _ = Unit {0}

abbrev pub KeepsPart : List Dec → List Dec → List Dec → ClockVar → ClockWhy → Type 0
KeepsPart data_type time_system coefficients DataType why = KeepsType data_type why
KeepsPart data_type time_system coefficients TimeSystem why = KeepsSystem time_system why
KeepsPart data_type time_system coefficients Coefficients why = KeepsCoefficients coefficients why
KeepsPart data_type time_system coefficients _ why = Unit {0}

abbrev pub Keeps : List Dec → List Dec → List Dec → ClockFault → Type 0
Keeps data_type time_system coefficients fault = KeepsPart data_type time_system coefficients fault.var fault.why

-- the rules in their order
abbrev pub fault : ClockVar → ClockWhy → ClockFault
fault var why = record { var = var; why = why }

abbrev pub system_rules : List ClockFault
system_rules = fault DataType NotOne ∷ fault DataType Range ∷ fault TimeSystem NotOne ∷ fault TimeSystem Range ∷ []

abbrev pub record_rules : List ClockFault
record_rules =
    fault Coefficients Count ∷ fault Coefficients NotWhole ∷ fault Coefficients NotUnits ∷ fault Coefficients Range ∷ fault Coefficients NotRising ∷ []

abbrev pub clock_rules : List ClockFault
clock_rules = system_rules ++ record_rules

-- what is answered for a data type and a time system: the scale, or the first fault
abbrev pub GivesScale : List Dec → List Dec → Result Scale ClockFault → Type 0
GivesScale data_type time_system (Ok scale) = AreKept (Keeps data_type time_system []) system_rules × IsScaleOf time_system scale
GivesScale data_type time_system (Err broken) = IsFirstBroken (Keeps data_type time_system []) system_rules broken

-- the records are the values, three by three
pub record IsRecordAt (values : List Dec) (i : ℕ) (r : Coefficient) : Type 0 where
  pub tick : Dec
  pub tick_here : slice_get values (3 * i + 0) ≡ Some tick
  pub tick_is : IsTick tick r.ticks
  pub time : Dec
  pub time_here : slice_get values (3 * i + 1) ≡ Some time
  pub time_is : IsTime time r.time
  pub rate : Dec
  pub rate_here : slice_get values (3 * i + 2) ≡ Some rate
  pub rate_is : IsRate rate r.rate

pub record AreRecords (values : List Dec) (records : List Coefficient) : Type 0 where
  pub as_many : length values ≡ 3 * length records
  pub each : (i : ℕ) (r : Coefficient) → slice_get records i ≡ Some r → IsRecordAt values i r

-- each record's tick and time are before the next one's
abbrev pub HaveSteps : List Coefficient → Type 0
HaveSteps records =
    (i : ℕ) (r s : Coefficient) → slice_get records i ≡ Some r → slice_get records (i + 1) ≡ Some s → (r.ticks < s.ticks) × (r.time <ℤ s.time)

-- what is answered for the coefficients: the records, or the first fault; or that memory was refused
abbrev pub GivesRecords : List Dec → Result (List Coefficient) FaceFault → Type 0
GivesRecords values (Ok records) = AreKept (Keeps [] [] values) record_rules × AreRecords values records
GivesRecords values (Err (Bad broken)) = IsFirstBroken (Keeps [] [] values) record_rules broken
GivesRecords values (Err OutOfMemory) = Unit {0}

-- what is answered for a face and the three variables: the clock, or the first fault; or that memory was refused
abbrev pub GivesClock : Face → List Dec → List Dec → List Dec → Result Clock FaceFault → Type 0
GivesClock face data_type time_system coefficients (Ok c) =
    AreKept (Keeps data_type time_system coefficients) clock_rules
    × ((c.face ≡ face) × (IsScaleOf time_system c.scale × AreRecords coefficients c.records))
GivesClock face data_type time_system coefficients (Err (Bad broken)) = IsFirstBroken (Keeps data_type time_system coefficients) clock_rules broken
GivesClock face data_type time_system coefficients (Err OutOfMemory) = Unit {0}
