-- The names of variables. Source: the header of NAIF's leapseconds kernels, and SCLK Required Reading on the variables of
-- a type 1 clock kernel; those of a setup by the CHRONOS User's Guide, of a
-- meta-kernel by the Kernel Required Reading; those of a correlation are this project's own.
use Rattle.std.specs.Prelude.{ℕ, List, ◌++◌, codes, decimal}
use Rattle.st_ticks.specs.declared.variable.ClockVar.{ClockVar}
use Rattle.st_ticks.specs.declared.variable.ClockVar.TheVariants.{DataType, TimeSystem, NFields, Moduli, Offsets, Delim, Start, End, Coefficients}
use Rattle.st_ticks.specs.declared.variable.Var.{Var}
use Rattle.st_ticks.specs.declared.variable.Var.TheVariants.{DeltaAt, DeltaTa, K, Eb, M, Clock, LeapsecondsFile, SclkFile, SpacecraftId, KernelsToLoad, PathSymbols, PathValues, CorrelateId, CorrelateTolerance, CorrelatePairs}

-- the name of a clock's variable, up to the clock's number
abbrev pub clock_name : ClockVar → List ℕ
clock_name DataType = codes "SCLK_DATA_TYPE_"
clock_name TimeSystem = codes "SCLK01_TIME_SYSTEM_"
clock_name NFields = codes "SCLK01_N_FIELDS_"
clock_name Moduli = codes "SCLK01_MODULI_"
clock_name Offsets = codes "SCLK01_OFFSETS_"
clock_name Delim = codes "SCLK01_OUTPUT_DELIM_"
clock_name Start = codes "SCLK_PARTITION_START_"
clock_name End = codes "SCLK_PARTITION_END_"
clock_name Coefficients = codes "SCLK01_COEFFICIENTS_"

-- the name of a variable; a clock's number is its id without the sign
abbrev pub var_name : Var → List ℕ
var_name DeltaAt = codes "DELTET/DELTA_AT"
var_name DeltaTa = codes "DELTET/DELTA_T_A"
var_name K = codes "DELTET/K"
var_name Eb = codes "DELTET/EB"
var_name M = codes "DELTET/M"
var_name (Clock var n) = clock_name var ++ decimal n
var_name LeapsecondsFile = codes "LEAPSECONDS_FILE"
var_name SclkFile = codes "SCLK_FILE"
var_name SpacecraftId = codes "SPACECRAFT_ID"
var_name KernelsToLoad = codes "KERNELS_TO_LOAD"
var_name PathSymbols = codes "PATH_SYMBOLS"
var_name PathValues = codes "PATH_VALUES"
var_name CorrelateId = codes "CORRELATE_ID"
var_name CorrelateTolerance = codes "CORRELATE_TOLERANCE"
var_name CorrelatePairs = codes "CORRELATE_PAIRS"
