-- What refusals say of their causes, as laws.
use Rattle.std.specs.Prelude.{◌≡◌, ◌≢◌, ℕ}
use Rattle.st_answers.specs.declared.fault.AnswerFault.{AnswerFault}
use Rattle.st_answers.specs.declared.fault.AnswerFault.TheVariants as answer
use Rattle.st_routes.specs.declared.fault.TimeFault.{TimeFault}
use Rattle.st_routes.specs.declared.fault.TimeFault.TheVariants as time
use Rattle.st_tables.specs.declared.fault.TableFault.{TableFault}
use Rattle.st_tables.specs.declared.fault.TableFault.TheVariants as table
use Rattle.st_refusals.specs.Causes.{NoCause, Faulty, cause_of}
use Rattle.st_refusals.specs.Faults.{answer_fault, table_fault, time_fault}
use Rattle.st_refusals.specs.declared.fault.LineFault.{LineFault}
use Rattle.st_refusals.specs.declared.fault.LineFault.TheVariants as line

-- A file that can't be read has one refusal.
abbrev pub FaultyIsFileFault : Type 0
FaultyIsFileFault = (fault : LineFault) → cause_of fault ≡ Faulty → fault ≡ line.FileFault

-- The files are the cause of no refusal of a time.
abbrev pub TimesHaveNoCause : Type 0
TimesHaveNoCause = (n : ℕ) (fault : AnswerFault) → cause_of (answer_fault n fault) ≡ NoCause

-- A line is left undecided where its time is.
abbrev pub UndecidedIsCarried : Type 0
UndecidedIsCarried = (n : ℕ) (fault : AnswerFault) → answer_fault n fault ≡ line.Undecided → fault ≡ answer.Time time.Undecided

-- Want of memory is carried by nothing else.
abbrev pub TablesNameNoMemory : Type 0
TablesNameNoMemory = (n : ℕ) (fault : TableFault) → fault ≢ table.OutOfMemory → table_fault n fault ≢ line.OutOfMemory

abbrev pub TimesNameNoMemory : Type 0
TimesNameNoMemory = (fault : TimeFault) → fault ≢ time.OutOfMemory → time_fault fault ≢ line.OutOfMemory
