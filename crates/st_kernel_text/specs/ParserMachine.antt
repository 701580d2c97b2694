-- The reader of data as functions on bytes and their line's number: each is the twin of a function
-- of the code. Every data line is ended by a 10.
use Rattle.std.specs.Prelude.{◌≡◌, ℕ, ◌-◌, Bool, not, ◌&&◌, ◌||◌, List, [], ◌∷◌, ◌++◌, length, take, slice_index, Option, Some, None, Result, Ok, Err, ◌==◌, nat_lt, nat_le, if◌then◌else◌}
use Rattle.st_text.specs.Bytes.{is_blank}
use Rattle.st_decimal.specs.declared.number.Dec.{Dec}
use Rattle.st_kernel_text.specs.Bytes.{is_space, is_separator, is_name_byte, is_run_byte}
use Rattle.st_kernel_text.specs.Fault.{Fault, fails}
use Rattle.st_kernel_text.specs.ValueMachine.{number_of_run, fits}
use Rattle.st_kernel_text.specs.Values.{cause_of_run, may_follow}
use Rattle.st_kernel_text.specs.declared.assignment.Assignment.{Assignment}
use Rattle.st_kernel_text.specs.declared.assignment.Mode.{Mode}
use Rattle.st_kernel_text.specs.declared.assignment.Mode.TheVariants.{Set, Add}
use Rattle.st_kernel_text.specs.declared.fault.TextFault.{TextFault}
use Rattle.st_kernel_text.specs.declared.fault.TextFault.TheVariants.{At, OutOfMemory}
use Rattle.st_kernel_text.specs.declared.fault.TextCause.TheVariants.{NoName, NoSign, NoValue, BadNumber, BadString, MixedKinds, Unclosed, TrailingText}
use Rattle.st_kernel_text.specs.declared.parser.Parser.{Parser}
use Rattle.st_kernel_text.specs.declared.parser.Stage.{Stage}
use Rattle.st_kernel_text.specs.declared.parser.Stage.TheVariants.{Fresh, Name, Named, Plus, Signed, InList, Run, Quoted, Quote, Closed}
use Rattle.st_kernel_text.specs.declared.value.Value.{Value}
use Rattle.st_kernel_text.specs.declared.value.Value.TheVariants.{Number, Text}

-- what a function left is what the definition gives, unless memory ran out
abbrev pub Gives : {S A : Type 0} → S → Result A TextFault → Result S Fault → Type 0
Gives p (Ok x) read = read ≡ Ok p
Gives p (Err (At line cause)) read = read ≡ Err (record { line = line; cause = cause })
Gives p (Err OutOfMemory) read = Unit {0}

-- the same for a value that a function returns
abbrev pub Answers : {A : Type 0} → Result A TextFault → Result A Fault → Type 0
Answers (Ok x) read = read ≡ Ok x
Answers (Err (At line cause)) read = read ≡ Err (record { line = line; cause = cause })
Answers (Err OutOfMemory) read = Unit {0}

infixl 10 ◌>>=◌
abbrev pub ◌>>=◌ : {A B : Type 0} → Result A Fault → (A → Result B Fault) → Result B Fault
(Ok x) >>= f = f x
(Err e) >>= f = Err e

-- between assignments, with those that were read
abbrev pub fresh : List Assignment → Parser
fresh done = record { done = done; stage = Fresh; name = []; mode = Set; sign = 0; opened = None; values = []; run = [] }

abbrev pub push_name : Parser → ℕ → Parser
push_name p b = record p { stage = Name; name = p.name ++ b ∷ [] }

abbrev pub push_run : Parser → ℕ → Parser
push_run p b = record p { stage = Run; run = p.run ++ b ∷ [] }

abbrev pub fresh_of : Parser → ℕ → ℕ → Result Parser Fault
fresh_of p n b = if is_space b then Ok p else (if is_name_byte b then Ok (push_name p b) else fails n NoName)

abbrev pub signed : Parser → Mode → ℕ → Parser
signed p mode n = record p { stage = Signed; mode = mode; sign = n }

unfoldable pub ends_in_plus : List ℕ → Bool
ends_in_plus name = nat_lt 0 (length name) && (slice_index name (length name - 1) == 43)

-- 1 to 32 bytes, the last of them no `+`
unfoldable pub is_name : List ℕ → Bool
is_name name = nat_lt 0 (length name) && nat_le (length name) 32 && not (ends_in_plus name)

abbrev pub without_last : List ℕ → List ℕ
without_last name = take (length name - 1) name

-- after a name
abbrev pub named_of : Parser → ℕ → ℕ → Result Parser Fault
named_of p n b =
    if is_blank b then Ok (record p { stage = Named })
    else (if b == 61 then Ok (signed p Set n) else (if b == 43 then Ok (record p { stage = Plus }) else fails n NoSign))

-- a name, and a byte that ends it; the `+` of `+=` was taken as the name's last byte
abbrev pub ended_of : Parser → ℕ → ℕ → Result Parser Fault
ended_of p n b = if is_name p.name then named_of p n b else fails n NoName

abbrev pub added_of : Parser → ℕ → Result Parser Fault
added_of p n =
    if is_name (without_last p.name) then Ok (signed (record p { name = without_last p.name }) Add n) else fails n NoName

abbrev pub name_of : Parser → ℕ → ℕ → Result Parser Fault
name_of p n b =
    if is_name_byte b then Ok (push_name p b)
    else (if (b == 61) && ends_in_plus p.name then added_of p n else ended_of p n b)

abbrev pub plus_of : Parser → ℕ → ℕ → Result Parser Fault
plus_of p n b = if b == 61 then Ok (signed p Add n) else fails n NoSign

-- the first byte of a value
abbrev pub start_of : Parser → ℕ → ℕ → Result Parser Fault
start_of p n b =
    if b == 39 then Ok (record p { stage = Quoted })
    else (if is_run_byte b then Ok (push_run p b) else (if b == 41 then fails n NoValue else fails n BadNumber))

abbrev pub signed_of : Parser → ℕ → ℕ → Result Parser Fault
signed_of p n b =
    if is_space b then Ok p
    else (if b == 40 then Ok (record p { stage = InList; opened = Some n }) else start_of p n b)

-- a `)`
abbrev pub close_of : Parser → ℕ → Result Parser Fault
close_of p n = if length p.values == 0 then fails n NoValue else Ok (record p { stage = Closed })

abbrev pub list_of : Parser → ℕ → ℕ → Result Parser Fault
list_of p n b = if is_separator b then Ok p else (if b == 41 then close_of p n else start_of p n b)

abbrev pub assignment : Parser → Assignment
assignment p = record { name = p.name; mode = p.mode; values = p.values }

-- the assignment is kept, and the next may begin
abbrev pub kept : Parser → Parser
kept p = fresh (p.done ++ assignment p ∷ [])

abbrev pub closed_of : Parser → ℕ → ℕ → Result Parser Fault
closed_of p n b =
    if b == 10 then Ok (kept p)
    else (if is_blank b then Ok p else fails n TrailingText)

abbrev pub after_in : Option ℕ → Parser → ℕ → ℕ → Result Parser Fault
after_in None p n b = closed_of (record p { stage = Closed }) n b
after_in (Some line) p n b = list_of (record p { stage = InList }) n b

-- the byte after a value
abbrev pub after_of : Parser → ℕ → ℕ → Result Parser Fault
after_of p n b = after_in p.opened p n b

-- a value, and the byte after it
unfoldable pub put_of : Parser → Value → ℕ → ℕ → Result Parser Fault
put_of p v n b =
    if fits p.values v then after_of (record p { values = p.values ++ v ∷ []; run = [] }) n b else fails n MixedKinds

abbrev pub taken_of : Option Dec → Parser → ℕ → ℕ → Result Parser Fault
taken_of None p n b = fails n (cause_of_run p.run)
taken_of (Some d) p n b = put_of p (Number d) n b

abbrev pub run_of : Parser → ℕ → ℕ → Result Parser Fault
run_of p n b =
    if is_run_byte b then Ok (push_run p b)
    else (if (b == 40) || (b == 39) then fails n (cause_of_run p.run) else taken_of (number_of_run p.run) p n b)

-- one more byte of a string
abbrev pub push_quoted : Parser → ℕ → ℕ → Result Parser Fault
push_quoted p n b =
    if nat_lt (length p.run) 80 then Ok (record p { stage = Quoted; run = p.run ++ b ∷ [] }) else fails n BadString

abbrev pub quoted_of : Parser → ℕ → ℕ → Result Parser Fault
quoted_of p n b =
    if b == 39 then Ok (record p { stage = Quote })
    else (if b == 10 then fails n BadString else push_quoted p n b)

-- after a `'` in a string
abbrev pub quote_of : Parser → ℕ → ℕ → Result Parser Fault
quote_of p n b =
    if b == 39 then push_quoted p n b
    else (if may_follow b then put_of p (Text p.run) n b else fails n BadString)

abbrev pub step_in : Stage → Parser → ℕ → ℕ → Result Parser Fault
step_in Fresh p n b = fresh_of p n b
step_in Name p n b = name_of p n b
step_in Named p n b = named_of p n b
step_in Plus p n b = plus_of p n b
step_in Signed p n b = signed_of p n b
step_in InList p n b = list_of p n b
step_in Run p n b = run_of p n b
step_in Quoted p n b = quoted_of p n b
step_in Quote p n b = quote_of p n b
step_in Closed p n b = closed_of p n b

unfoldable pub step_of : Parser → ℕ → ℕ → Result Parser Fault
step_of p n b = step_in p.stage p n b

abbrev pub steps_of : Parser → List (ℕ × ℕ) → Result Parser Fault
steps_of p [] = Ok p
steps_of p (b ∷ t) = step_of p b.0 b.1 >>= λ q. steps_of q t

abbrev pub unclosed_of : Option ℕ → List Assignment → Result (List Assignment) Fault
unclosed_of None done = Ok done
unclosed_of (Some line) done = fails line Unclosed

-- the end of the data
unfoldable pub finish_in : Stage → Parser → Result (List Assignment) Fault
finish_in Signed p = fails p.sign NoValue
finish_in _ p = unclosed_of p.opened p.done

abbrev pub finish_of : Parser → Result (List Assignment) Fault
finish_of p = finish_in p.stage p
