-- The reader of a file's bytes as functions on lists: each is the twin of a function of the code.
use Rattle.std.specs.Prelude.{ℕ, ◌+◌, List, [], ◌∷◌, ◌++◌, length, ◌==◌, nat_lt, Result, Ok, if◌then◌else◌}
use Rattle.st_text.specs.Lines.{without_cr}
use Rattle.st_kernel_text.specs.Fault.{Fault, fails}
use Rattle.st_kernel_text.specs.LinesMachine as lines
use Rattle.st_kernel_text.specs.LinesMachine.{line_of}
use Rattle.st_kernel_text.specs.ParserMachine.{◌>>=◌, finish_of}
use Rattle.st_kernel_text.specs.declared.assignment.Assignment.{Assignment}
use Rattle.st_kernel_text.specs.declared.fault.TextCause.TheVariants.{LineTooLong}
use Rattle.st_kernel_text.specs.declared.kernel.Kernel.{Kernel}
use Rattle.st_kernel_text.specs.declared.lines.Reading.{Reading}

abbrev pub reading : Kernel → List ℕ → ℕ → Reading
reading kernel begun number = record { kernel = kernel; begun = begun; number = number }

abbrev pub beginning : Reading
beginning = reading lines.beginning [] 1

-- the most bytes that a line may have before a byte of it: a CR could be that of its end
abbrev pub most_before : ℕ → ℕ
most_before b = if b == 13 then 1000 else 999

abbrev pub begun_of : Reading → ℕ → Result Reading Fault
begun_of r b =
    if nat_lt (most_before b) (length r.begun) then fails r.number LineTooLong
    else Ok (record r { begun = r.begun ++ b ∷ [] })

abbrev pub ended_of : Reading → Result Reading Fault
ended_of r = line_of r.kernel r.number (without_cr r.begun) >>= λ k. Ok (reading k [] (r.number + 1))

abbrev pub byte_of : Reading → ℕ → Result Reading Fault
byte_of r b = if b == 10 then ended_of r else begun_of r b

abbrev pub bytes_of : Reading → List ℕ → Result Reading Fault
bytes_of r [] = Ok r
bytes_of r (b ∷ t) = byte_of r b >>= λ q. bytes_of q t

-- a begun line is the last
abbrev pub last_of : Reading → Result Kernel Fault
last_of r = if length r.begun == 0 then Ok r.kernel else line_of r.kernel r.number (without_cr r.begun)

abbrev pub end_of : Reading → Result (List Assignment) Fault
end_of r = last_of r >>= λ k. finish_of k.parser

abbrev pub fed_of : List ℕ → Result Reading Fault
fed_of bytes = bytes_of beginning bytes
