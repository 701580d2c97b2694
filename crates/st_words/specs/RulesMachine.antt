-- How the code tests the rules on the options together.
use Rattle.std.specs.Prelude.{ℕ, Bool, true, false, not, ◌&&◌, is_some, List, find, Option, Some, None}
use Rattle.st_dates.specs.declared.system.System.{System}
use Rattle.st_dates.specs.declared.system.System.TheVariants.{Tdb, Sclk}
use Rattle.st_words.specs.Kinds.{is_type_of}
use Rattle.st_words.specs.Rules.{fault_of}
use Rattle.st_picture.specs.declared.fault.PictureFault.{PictureFault}
use Rattle.st_picture.specs.declared.fault.PictureFault.TheVariants.{OutOfMemory as NoMemory}
use Rattle.st_words.specs.declared.fault.WordFault.{WordFault}
use Rattle.st_words.specs.declared.fault.WordFault.TheVariants.{BadPicture, OutOfMemory}
use Rattle.st_words.specs.declared.job.Work.{Work}
use Rattle.st_words.specs.declared.job.Work.TheVariants.{Time, Batch, Sample}
use Rattle.st_words.specs.declared.options.Options.{Options}
use Rattle.st_words.specs.declared.rule.Rule.{Rule}
use Rattle.st_words.specs.declared.rule.Rule.TheVariants.{SetupIsThere, FromIsThere, ToIsThere, WorkIsThere, FromTypeFits, ToTypeFits, TimeOrBatch, TimeOrSample, BatchOrSample, FormatOfNoClock, FormatOrSeconds, PictureReads, BackToClock, BackFromEt, BackFromSeconds}
use Rattle.st_words.specs.declared.time_type.TimeType.{TimeType}
use Rattle.st_words.specs.declared.time_type.TimeType.TheVariants.{Seconds}

abbrev pub is_misfit : Option System → Option TimeType → Bool
is_misfit (Some system) (Some kind) = not (is_type_of system kind)
is_misfit system kind = false

abbrev pub is_clock : Option System → Bool
is_clock (Some Sclk) = true
is_clock system = false

abbrev pub is_tdb : Option System → Bool
is_tdb (Some Tdb) = true
is_tdb system = false

abbrev pub is_seconds : Option TimeType → Bool
is_seconds (Some Seconds) = true
is_seconds kind = false

abbrev pub is_broken : Options → Rule → Bool
is_broken o SetupIsThere = not (is_some o.setup)
is_broken o FromIsThere = not (is_some o.from)
is_broken o ToIsThere = not (is_some o.to)
is_broken o WorkIsThere = (not (is_some o.time) && not o.batch) && not (is_some o.sample)
is_broken o FromTypeFits = is_misfit o.from o.from_type
is_broken o ToTypeFits = is_misfit o.to o.to_type
is_broken o TimeOrBatch = is_some o.time && o.batch
is_broken o TimeOrSample = is_some o.time && is_some o.sample
is_broken o BatchOrSample = o.batch && is_some o.sample
is_broken o FormatOfNoClock = is_some o.format && is_clock o.to
is_broken o FormatOrSeconds = is_some o.format && is_seconds o.to_type
is_broken o BackToClock = o.back && not (is_clock o.from)
is_broken o BackFromEt = o.back && not (is_tdb o.to)
is_broken o PictureReads = false
is_broken o BackFromSeconds = false

-- the fault of the first of some rules that is broken
abbrev pub fault_by : Option Rule → Option WordFault
fault_by (Some rule) = fault_of rule
fault_by None = None

abbrev pub first_fault : Options → List Rule → Option WordFault
first_fault o rules = fault_by (find (is_broken o) rules)

-- where the lines come from
abbrev pub work_of : Option (List ℕ) → Option (ℕ × ℕ) → Work
work_of (Some text) sample = Time text
work_of None (Some p) = Sample p.0 p.1
work_of None None = Batch

-- the fault of words whose picture is refused
abbrev pub word_fault : PictureFault → WordFault
word_fault NoMemory = OutOfMemory
word_fault fault = BadPicture fault
