-- The job that options ask for, and what every job of the words is.
use Rattle.std.specs.Prelude.{◌≡◌, ℕ, ◌≤◌, ◌-◌, ◌^◌, true, List, Option, Some, None, Ok, ⊤}
use Rattle.st_dates.specs.declared.system.System.{System}
use Rattle.st_dates.specs.declared.system.System.TheVariants.{Tdb, Sclk}
use Rattle.st_picture.specs.Picture.{Picture}
use Rattle.st_picture.specs.Reading.{ReadsPicture, IsSecondsAlone}
use Rattle.st_words.specs.Kinds.{is_type_of, from_kind, to_type}
use Rattle.st_words.specs.Rules.{IsPictured}
use Rattle.st_words.specs.Values.{IsName}
use Rattle.st_words.specs.declared.job.FromKind.{FromKind}
use Rattle.st_words.specs.declared.job.Job.{Job}
use Rattle.st_words.specs.declared.job.ToKind.{ToKind}
use Rattle.st_words.specs.declared.job.ToKind.TheVariants.{Pictured, Clock, Ticks}
use Rattle.st_words.specs.declared.job.Work.{Work}
use Rattle.st_words.specs.declared.job.Work.TheVariants as works
use Rattle.st_words.specs.declared.options.Options.{Options}
use Rattle.st_words.specs.declared.time_type.TimeType.{TimeType}
use Rattle.st_words.specs.declared.time_type.TimeType.TheVariants as types

-- where the lines come from
abbrev pub IsWork : Options → Work → Type 0
IsWork o (works.Time text) = o.time ≡ Some text
IsWork o works.Batch = o.batch ≡ true
IsWork o (works.Sample lines seed) = o.sample ≡ Some (lines, seed)

-- how the target's times are written
abbrev pub IsShape : Options → System → ToKind → Type 0
IsShape o system (Pictured picture) = (text : List ℕ) × IsPictured o system text × ReadsPicture system text (Ok picture)
IsShape o system Clock = to_type system o.to_type ≡ types.Sclk
IsShape o system Ticks = to_type system o.to_type ≡ types.Ticks

-- the job is what the options ask for
pub record IsAskedFor (o : Options) (job : Job) : Type 0 where
  pub setup : o.setup ≡ Some job.setup
  pub from : o.from ≡ Some job.from
  pub form : job.form ≡ from_kind job.from o.from_type
  pub to : o.to ≡ Some job.to
  pub shape : IsShape o job.to job.shape
  pub clock : job.clock ≡ o.clock
  pub work : IsWork o job.work
  pub back : job.back ≡ o.back

-- no type is given, or one of the system
abbrev pub IsTypeGiven : System → Option TimeType → Type 0
IsTypeGiven system None = ⊤
IsTypeGiven system (Some kind) = is_type_of system kind ≡ true

-- times of a source of the system are written so
abbrev pub IsSource : System → FromKind → Type 0
IsSource system form = (given : Option TimeType) × IsTypeGiven system given × (form ≡ from_kind system given)

-- times of a target of the system are written so; its picture was read for it
abbrev pub IsTarget : System → ToKind → Type 0
IsTarget Sclk (Pictured picture) = ⊥
IsTarget system (Pictured picture) = (text : List ℕ) × ReadsPicture system text (Ok picture)
IsTarget system Clock = system ≡ Sclk
IsTarget system Ticks = system ≡ Sclk

-- the way back leads from seconds past J2000 in TDB, and nothing else, to a clock
pub record IsWayBack (job : Job) : Type 0 where
  pub from : job.from ≡ Sclk
  pub to : job.to ≡ Tdb
  pub picture : Picture
  pub shape : job.shape ≡ Pictured picture
  pub alone : IsSecondsAlone picture.pieces

abbrev pub IsClock : Option ℕ → Type 0
IsClock None = ⊤
IsClock (Some n) = (1 ≤ n) × (n ≤ 999_999_999)

-- a sample has from 1 to 1,000,000 lines, and a seed of 64 bits
abbrev pub IsWorkInRange : Work → Type 0
IsWorkInRange (works.Sample lines seed) = (1 ≤ lines) × (lines ≤ 1_000_000) × (seed ≤ 2 ^ 64 - 1)
IsWorkInRange work = ⊤

-- A job that a session can be opened for: its kinds are kinds of its systems, its picture was read for its target, a way back is
-- one, its clock's id and its sample have their ranges, and its setup's name its length.
pub record IsGoodJob (job : Job) : Type 0 where
  pub setup : IsName job.setup
  pub source : IsSource job.from job.form
  pub target : IsTarget job.to job.shape
  pub clock : IsClock job.clock
  pub work : IsWorkInRange job.work
  pub back : job.back ≡ true → IsWayBack job
