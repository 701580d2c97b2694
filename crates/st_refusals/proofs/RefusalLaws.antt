-- The causes of refusals, and what the refusals of times carry.
use Rattle.std.proofs.Common.{◌≡◌, ◌≢◌, ℕ, refl, ap}
use Rattle.st_answers.specs.declared.fault.AnswerFault.{AnswerFault}
use Rattle.st_answers.specs.declared.fault.AnswerFault.TheVariants as answer
use Rattle.st_routes.specs.declared.fault.TimeFault.{TimeFault}
use Rattle.st_routes.specs.declared.fault.TimeFault.TheVariants as time
use Rattle.st_tables.specs.declared.fault.TableFault.{TableFault}
use Rattle.st_tables.specs.declared.fault.TableFault.TheVariants as table
use Rattle.st_refusals.specs.Causes.{NoCause, cause_of}
use Rattle.st_refusals.specs.Faults.{table_fault, time_fault}
use Rattle.st_refusals.specs.Laws.{FaultyIsFileFault, TablesNameNoMemory, TimesHaveNoCause, TimesNameNoMemory, UndecidedIsCarried}
use Rattle.st_refusals.specs.declared.fault.LineFault.TheVariants as line

pub faulty-is-file-fault : FaultyIsFileFault
faulty-is-file-fault line.FileFault e = refl
faulty-is-file-fault other e = absurd cc

table-none : (n : ℕ) (fault : TableFault) → cause_of (table_fault n fault) ≡ NoCause
table-none n table.OutOfMemory = refl
table-none n other = refl

time-none : (fault : TimeFault) → cause_of (time_fault fault) ≡ NoCause
time-none time.OutOfMemory = refl
time-none other = refl

pub times-have-no-cause : TimesHaveNoCause
times-have-no-cause n (answer.Table fault) = table-none n fault
times-have-no-cause n (answer.Time fault) = time-none fault
times-have-no-cause n answer.OutOfMemory = refl

table-decided : (n : ℕ) (fault : TableFault) → table_fault n fault ≢ line.Undecided
table-decided n table.OutOfMemory = λ e. cc
table-decided n other = λ e. cc

time-undecided : (fault : TimeFault) → time_fault fault ≡ line.Undecided → fault ≡ time.Undecided
time-undecided time.Undecided e = refl
time-undecided other e = absurd cc

pub undecided-is-carried : UndecidedIsCarried
undecided-is-carried n (answer.Table fault) e = absurd (table-decided n fault e)
undecided-is-carried n (answer.Time fault) e = ap (λ (x : TimeFault). answer.Time x) (time-undecided fault e)
undecided-is-carried n answer.OutOfMemory e = absurd cc

pub tables-name-no-memory : TablesNameNoMemory
tables-name-no-memory n table.OutOfMemory not = absurd (not refl)
tables-name-no-memory n other not = λ e. cc

pub times-name-no-memory : TimesNameNoMemory
times-name-no-memory time.OutOfMemory not = absurd (not refl)
times-name-no-memory other not = λ e. cc
