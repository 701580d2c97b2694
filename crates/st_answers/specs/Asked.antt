-- The tables that a job asks for, and the first refusal of the loaded kernels that don't give them.
use Rattle.std.specs.Prelude.{◌≡◌, ◌≢◌, ℕ, List, Bool, true, false, Option, Some, None, Result, Ok, Err, ◌⊎◌}
use Rattle.st_clock.specs.Clock.{Clock}
use Rattle.st_leaps.specs.declared.table.LeapTable.{LeapTable}
use Rattle.st_scales.specs.declared.deltet.Deltet.{Deltet}
use Rattle.st_leaps.specs.OfTable.{pairs_of}
use Rattle.st_leaps.specs.declared.pair.LeapPair.{LeapPair}
use Rattle.st_tables.specs.Tables.{ClockGives, ConstantsGive, LeapsGive}
use Rattle.st_tables.specs.Variables.{Loaded}
use Rattle.st_tables.specs.declared.fault.TableFault.{TableFault}
use Rattle.st_tables.specs.declared.fault.TableFault.TheVariants.{OutOfMemory}
use Rattle.st_words.specs.declared.job.Job.{Job}
use Rattle.st_answers.specs.Sides.{has_clock, has_utc, needs_constants}

-- the tables that are asked for, and no others
pub record Tables : Type 0 where
  pub leaps : Option LeapTable
  pub constants : Option Deltet
  pub clock : Option Clock

-- what the kernels give of a table, where it is asked for
abbrev pub GivesWhere : {T : Type 0} → Bool → (Result T TableFault → Type 0) → Result (Option T) TableFault → Type 0
GivesWhere false Gives result = result ≡ Ok None
GivesWhere true Gives (Ok None) = ⊥
GivesWhere true Gives (Ok (Some table)) = Gives (Ok table)
GivesWhere true Gives (Err fault) = Gives (Err fault)

-- the pairs of a table
abbrev pub in_pairs : Result LeapTable TableFault → Result (List LeapPair) TableFault
in_pairs (Ok table) = Ok (pairs_of table)
in_pairs (Err fault) = Err fault

abbrev pub LeapsOf : Job → Loaded → Result (Option LeapTable) TableFault → Type 0
LeapsOf job loaded result = GivesWhere (has_utc job) (λ r. LeapsGive loaded (in_pairs r)) result

abbrev pub ConstantsOf : Job → Loaded → Result (Option Deltet) TableFault → Type 0
ConstantsOf job loaded result = GivesWhere (needs_constants job) (ConstantsGive loaded) result

-- the clock is that of the job's id
abbrev pub ClockOf : Job → Loaded → Result (Option Clock) TableFault → Type 0
ClockOf job loaded result = GivesWhere (has_clock job) (λ r. (n : ℕ) × (job.clock ≡ Some n) × ClockGives n loaded r) result

pub record AreTables (job : Job) (loaded : Loaded) (tables : Tables) : Type 0 where
  pub leaps : LeapsOf job loaded (Ok tables.leaps)
  pub constants : ConstantsOf job loaded (Ok tables.constants)
  pub clock : ClockOf job loaded (Ok tables.clock)

-- the first refusal: of the table of leap seconds, else of the constants, else of the clock
abbrev pub FirstRefusal : Job → Loaded → TableFault → Type 0
FirstRefusal job loaded fault =
    LeapsOf job loaded (Err fault)
    ⊎ (((leaps : Option LeapTable) × LeapsOf job loaded (Ok leaps) × ConstantsOf job loaded (Err fault))
    ⊎ ((leaps : Option LeapTable) × (constants : Option Deltet) × LeapsOf job loaded (Ok leaps) × ConstantsOf job loaded (Ok constants)
    × ClockOf job loaded (Err fault)))

-- want of memory refuses no line
abbrev pub TablesRefuse : Job → Loaded → TableFault → Type 0
TablesRefuse job loaded fault = (fault ≢ OutOfMemory) × FirstRefusal job loaded fault
