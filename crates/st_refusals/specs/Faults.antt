-- The refusal of a setup or a line for the fault of a crate below.
use Rattle.std.specs.Prelude.{ℕ}
use Rattle.st_answers.specs.declared.fault.AnswerFault.{AnswerFault}
use Rattle.st_answers.specs.declared.fault.AnswerFault.TheVariants as answer
use Rattle.st_kernel_text.specs.declared.fault.TextFault.{TextFault}
use Rattle.st_kernel_text.specs.declared.fault.TextFault.TheVariants as text
use Rattle.st_pool.specs.declared.fault.LoadFault.{LoadFault}
use Rattle.st_pool.specs.declared.fault.LoadFault.TheVariants as pool
use Rattle.st_routes.specs.declared.fault.TimeFault.{TimeFault}
use Rattle.st_routes.specs.declared.fault.TimeFault.TheVariants as time
use Rattle.st_tables.specs.declared.fault.TableFault.{TableFault}
use Rattle.st_tables.specs.declared.fault.TableFault.TheVariants as table
use Rattle.st_ticks.specs.declared.variable.Var.TheVariants.{SpacecraftId}
use Rattle.st_words.specs.declared.fault.IdFault.{IdFault}
use Rattle.st_words.specs.declared.fault.IdFault.TheVariants as id
use Rattle.st_words.specs.declared.fault.SetupFault.{SetupFault}
use Rattle.st_words.specs.declared.fault.SetupFault.TheVariants as setup
use Rattle.st_refusals.specs.declared.fault.LineFault.{LineFault}
use Rattle.st_refusals.specs.declared.fault.LineFault.TheVariants as line
use Rattle.st_refusals.specs.declared.kernel_fault.KernelFault.{KernelFault}
use Rattle.st_refusals.specs.declared.kernel_fault.KernelFault.TheVariants.{NoFile, FileFault, FileTooLong, KernelText, TooManyKernels, TooManyValues, OutOfMemory}

-- the refusal of a line or a setup whose loading is refused
abbrev pub line_fault : KernelFault → LineFault
line_fault NoFile = line.NoFile
line_fault FileFault = line.FileFault
line_fault FileTooLong = line.FileTooLong
line_fault (KernelText n cause) = line.KernelText n cause
line_fault TooManyKernels = line.TooManyKernels
line_fault TooManyValues = line.TooManyValues
line_fault OutOfMemory = line.OutOfMemory

-- the refusal of a file that is no kernel
abbrev pub fault_of_text : TextFault → KernelFault
fault_of_text (text.At line cause) = KernelText line cause
fault_of_text text.OutOfMemory = OutOfMemory

-- the refusal of a kernel that the pool doesn't take
abbrev pub fault_of_pool : LoadFault → KernelFault
fault_of_pool pool.TooManyKernels = TooManyKernels
fault_of_pool pool.TooManyValues = TooManyValues
fault_of_pool pool.OutOfMemory = OutOfMemory

-- the refusal of a setup whose variables of files are not of texts
abbrev pub files_fault : SetupFault → LineFault
files_fault (setup.WrongKind var) = line.WrongKind var
files_fault setup.OutOfMemory = line.OutOfMemory

-- the refusal of a setup that names no clock
abbrev pub id_fault : IdFault → LineFault
id_fault id.Missing = line.NoVariable SpacecraftId
id_fault id.WrongKind = line.WrongKind SpacecraftId
id_fault id.BadId = line.BadId

-- the refusal of a line whose tables are refused, for a clock of this id
abbrev pub table_fault : ℕ → TableFault → LineFault
table_fault n (table.NoVariable var) = line.NoVariable var
table_fault n (table.WrongKind var) = line.WrongKind var
table_fault n (table.Leaps fault) = line.BadLeaps fault
table_fault n (table.Deltet fault) = line.BadDeltet fault
table_fault n (table.Clock fault) = line.BadClock fault.var fault.why n
table_fault n table.OutOfMemory = line.OutOfMemory

-- and of one whose time is refused
abbrev pub time_fault : TimeFault → LineFault
time_fault time.BadTime = line.BadTime
time_fault time.WrongSystem = line.WrongSystem
time_fault time.NoSuchDay = line.NoSuchDay
time_fault time.OutOfRange = line.OutOfRange
time_fault time.NoSuchSecond = line.NoSuchSecond
time_fault (time.BadClockText fault) = line.BadClockText fault
time_fault time.BeforeClock = line.BeforeClock
time_fault time.AfterClock = line.AfterClock
time_fault time.Undecided = line.Undecided
time_fault time.OutOfMemory = line.OutOfMemory

-- and of one whose answer is refused
abbrev pub answer_fault : ℕ → AnswerFault → LineFault
answer_fault n (answer.Table fault) = table_fault n fault
answer_fault n (answer.Time fault) = time_fault fault
answer_fault n answer.OutOfMemory = line.OutOfMemory
