-- The texts of refusals. They are this project's own.
use Rattle.std.specs.Prelude.{ℕ, List, [], ◌∷◌, ◌++◌, codes}
use Rattle.st_text.specs.Bytes.{decimal_digits}
use Rattle.st_kernel_text.specs.declared.fault.TextCause.{TextCause}
use Rattle.st_kernel_text.specs.declared.fault.TextCause.TheVariants.{LineTooLong as LongLine, NoName, NoSign, NoValue, BadNumber, BadString, BadDate, MixedKinds, Unclosed, BadByte, TrailingText}
use Rattle.st_leaps.specs.declared.fault.LeapFault.{LeapFault}
use Rattle.st_leaps.specs.declared.fault.LeapFault.TheVariants as leap
use Rattle.st_scales.specs.declared.fault.DeltetFault.{DeltetFault}
use Rattle.st_scales.specs.declared.fault.DeltetFault.TheVariants.{Count, NotUnits, Range}
use Rattle.st_scales.specs.declared.fault.DeltetVar.{DeltetVar}
use Rattle.st_scales.specs.declared.fault.DeltetVar.TheVariants.{DeltaTa, K, Eb, M, M0, M1}
use Rattle.st_tables.specs.Names.{var_name}
use Rattle.st_ticks.specs.declared.fault.ClockTextFault.{ClockTextFault}
use Rattle.st_ticks.specs.declared.fault.ClockTextFault.TheVariants as clock
use Rattle.st_ticks.specs.declared.variable.ClockWhy.{ClockWhy}
use Rattle.st_ticks.specs.declared.variable.ClockWhy.TheVariants as why
use Rattle.st_ticks.specs.declared.variable.Var.TheVariants.{Clock}
use Rattle.st_refusals.specs.declared.fault.LineFault.{LineFault}
use Rattle.st_refusals.specs.declared.fault.LineFault.TheVariants.{BadCommand, LineTooLong, NoFile, FileFault, FileTooLong, KernelText, TooManyKernels, TooManyValues, NotLoaded, NoVariable, WrongKind, BadId, BadLeaps, BadDeltet, BadClock, BadTime, WrongSystem, NoSuchDay, OutOfRange, NoSuchSecond, BadClockText, BeforeClock, AfterClock, Undecided, OutOfMemory as NoMemory}

-- the name of what breaks in a kernel
abbrev pub cause_text : TextCause → List ℕ
cause_text LongLine = codes "LINE_TOO_LONG"
cause_text NoName = codes "NO_NAME"
cause_text NoSign = codes "NO_SIGN"
cause_text NoValue = codes "NO_VALUE"
cause_text BadNumber = codes "BAD_NUMBER"
cause_text BadString = codes "BAD_STRING"
cause_text BadDate = codes "BAD_DATE"
cause_text MixedKinds = codes "MIXED_KINDS"
cause_text Unclosed = codes "UNCLOSED"
cause_text BadByte = codes "BAD_BYTE"
cause_text TrailingText = codes "TRAILING_TEXT"

-- the name of a rule of a table of leap seconds, with the number of the pair that breaks it; 32 is a blank
abbrev pub leap_text : LeapFault → List ℕ
leap_text leap.Empty = codes " EMPTY"
leap_text leap.Odd = codes " ODD"
leap_text leap.TooMany = codes " TOO_MANY"
leap_text (leap.NotWhole n) = codes " NOT_WHOLE" ++ (32 ∷ decimal_digits n)
leap_text (leap.NotMidnight n) = codes " NOT_MIDNIGHT" ++ (32 ∷ decimal_digits n)
leap_text (leap.NotRising n) = codes " NOT_RISING" ++ (32 ∷ decimal_digits n)
leap_text (leap.BadStep n) = codes " BAD_STEP" ++ (32 ∷ decimal_digits n)
leap_text leap.OutOfMemory = []

-- the name of a constant
abbrev pub constant_text : DeltetVar → List ℕ
constant_text DeltaTa = codes "DELTA_T_A"
constant_text K = codes "K"
constant_text Eb = codes "EB"
constant_text M = codes "M"
constant_text M0 = codes "M0"
constant_text M1 = codes "M1"

-- the name of a rule of the constants, with the constant that breaks it
abbrev pub deltet_text : DeltetFault → List ℕ
deltet_text (Count v) = codes " COUNT" ++ (32 ∷ constant_text v)
deltet_text (NotUnits v) = codes " NOT_UNITS" ++ (32 ∷ constant_text v)
deltet_text (Range v) = codes " RANGE" ++ (32 ∷ constant_text v)

-- the name of a rule of a clock's variables
abbrev pub why_text : ClockWhy → List ℕ
why_text why.NotOne = codes "NOT_ONE"
why_text why.NotWhole = codes "NOT_WHOLE"
why_text why.NotUnits = codes "NOT_UNITS"
why_text why.Range = codes "RANGE"
why_text why.Count = codes "COUNT"
why_text why.Product = codes "PRODUCT"
why_text why.NotRising = codes "NOT_RISING"

-- the name of why a text is no clock string
abbrev pub clock_text : ClockTextFault → List ℕ
clock_text clock.Form = codes "FORM"
clock_text clock.TooManyFields = codes "TOO_MANY_FIELDS"
clock_text clock.NoPartition = codes "NO_PARTITION"
clock_text clock.FieldBelowOffset = codes "FIELD_BELOW_OFFSET"
clock_text clock.TooLarge = codes "TOO_LARGE"
clock_text clock.NotInPartition = codes "NOT_IN_PARTITION"

-- the name of a refusal. Want of memory is never told by a line.
abbrev pub refusal_name : LineFault → List ℕ
refusal_name BadCommand = codes "BAD_COMMAND"
refusal_name LineTooLong = codes "LINE_TOO_LONG"
refusal_name NoFile = codes "NO_FILE"
refusal_name FileFault = codes "FILE_FAULT"
refusal_name FileTooLong = codes "FILE_TOO_LONG"
refusal_name (KernelText line cause) = codes "KERNEL_TEXT"
refusal_name TooManyKernels = codes "TOO_MANY_KERNELS"
refusal_name TooManyValues = codes "TOO_MANY_VALUES"
refusal_name NotLoaded = codes "NOT_LOADED"
refusal_name (NoVariable var) = codes "NO_VARIABLE"
refusal_name (WrongKind var) = codes "WRONG_KIND"
refusal_name BadId = codes "BAD_ID"
refusal_name (BadLeaps fault) = codes "BAD_LEAPS"
refusal_name (BadDeltet fault) = codes "BAD_DELTET"
refusal_name (BadClock var why n) = codes "BAD_CLOCK"
refusal_name BadTime = codes "BAD_TIME"
refusal_name WrongSystem = codes "WRONG_SYSTEM"
refusal_name NoSuchDay = codes "NO_SUCH_DAY"
refusal_name OutOfRange = codes "OUT_OF_RANGE"
refusal_name NoSuchSecond = codes "NO_SUCH_SECOND"
refusal_name (BadClockText fault) = codes "BAD_CLOCK_TEXT"
refusal_name BeforeClock = codes "BEFORE_CLOCK"
refusal_name AfterClock = codes "AFTER_CLOCK"
refusal_name Undecided = codes "UNDECIDED"
refusal_name NoMemory = []

-- its details, each after a blank
abbrev pub refusal_details : LineFault → List ℕ
refusal_details (KernelText line cause) = (32 ∷ decimal_digits line) ++ (32 ∷ cause_text cause)
refusal_details (NoVariable var) = 32 ∷ var_name var
refusal_details (WrongKind var) = 32 ∷ var_name var
refusal_details (BadLeaps fault) = leap_text fault
refusal_details (BadDeltet fault) = deltet_text fault
refusal_details (BadClock var why n) = (32 ∷ var_name (Clock var n)) ++ (32 ∷ why_text why)
refusal_details (BadClockText fault) = 32 ∷ clock_text fault
refusal_details fault = []

-- the text of a refused setup or line
abbrev pub refusal_text : LineFault → List ℕ
refusal_text fault = refusal_name fault ++ refusal_details fault
