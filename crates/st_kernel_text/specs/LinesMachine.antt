-- The reader of lines: each is the twin of a function of the code.
use Rattle.std.specs.Prelude.{ℕ, ◌+◌, true, false, List, [], ◌∷◌, length, Result, Ok, nat_lt, if◌then◌else◌}
use Rattle.std.specs.List.{list_all}
use Rattle.st_text.specs.Lines.{lines_of}
use Rattle.st_kernel_text.specs.Bytes.{is_allowed}
use Rattle.st_kernel_text.specs.Fault.{Fault, fails}
use Rattle.st_kernel_text.specs.File.{begins_data, begins_text, numbered}
use Rattle.st_kernel_text.specs.ParserMachine.{◌>>=◌, fresh, steps_of, step_of, finish_of}
use Rattle.st_kernel_text.specs.declared.assignment.Assignment.{Assignment}
use Rattle.st_kernel_text.specs.declared.fault.TextCause.TheVariants.{LineTooLong, BadByte}
use Rattle.st_kernel_text.specs.declared.kernel.Kernel.{Kernel}
use Rattle.st_kernel_text.specs.declared.parser.Parser.{Parser}

-- a data line and its end
abbrev pub read_data_of : Parser → ℕ → List ℕ → Result Parser Fault
read_data_of p n line = steps_of p (numbered n line) >>= λ q. step_of q n 10

abbrev pub data_of : Kernel → ℕ → List ℕ → Result Kernel Fault
data_of k n line =
    if list_all is_allowed line then (read_data_of k.parser n line >>= λ p. Ok (record k { parser = p }))
    else fails n BadByte

unfoldable pub line_of : Kernel → ℕ → List ℕ → Result Kernel Fault
line_of k n line =
    if nat_lt 1000 (length line) then fails n LineTooLong
    else (if begins_data line then Ok (record k { reading = true })
    else (if begins_text line then Ok (record k { reading = false })
    else (if k.reading then data_of k n line else Ok k)))

abbrev pub lines_from : Kernel → ℕ → List (List ℕ) → Result Kernel Fault
lines_from k n [] = Ok k
lines_from k n (line ∷ more) = line_of k n line >>= λ after. lines_from after (n + 1) more

abbrev pub beginning : Kernel
beginning = record { parser = fresh []; reading = false }

abbrev pub whole_from : Kernel → ℕ → List (List ℕ) → Result (List Assignment) Fault
whole_from k n lines = lines_from k n lines >>= λ after. finish_of after.parser

-- the assignments of a file, or its fault
abbrev pub read_of : List ℕ → Result (List Assignment) Fault
read_of bytes = whole_from beginning 1 (lines_of bytes)
