-- What the reader answers to a file is what the file reads to, or its fault, and nothing else is.
use Rattle.std.proofs.Common.{inl, inr, ◌⊎◌, ◌≡◌, ℕ, ◌+◌, false, List, [], ◌∷◌, ◌++◌, length, Some, None, Result, Ok, Err, refl, ap, sym, ◌∙◌, subst}
use Rattle.std.proofs.lemmas.List.{append-nil}
use Rattle.st_text.specs.Lines.{lines_of}
use Rattle.st_kernel_text.specs.Fault.{Fault, fails}
use Rattle.st_kernel_text.specs.FaultSteps.{HasFault}
use Rattle.st_kernel_text.specs.Faults.{Row, between, behind_name, behind_sign, in_list, behind_values, Stands, IsUnfinished}
use Rattle.st_kernel_text.specs.File.{data_text, reads_behind, AreGood, IsTooLong, HasBadByte, ReadsTo, HasBadLine, HasBadToken, HasNoEnd, Reads, Agree}
use Rattle.st_kernel_text.specs.Grammar.{Data}
use Rattle.st_kernel_text.specs.LinesMachine.{line_of, lines_from, read_of}
use Rattle.st_kernel_text.specs.ParserMachine.{◌>>=◌, Answers, fresh, steps_of, finish_in, finish_of}
use Rattle.st_kernel_text.specs.declared.assignment.Assignment.{Assignment}
use Rattle.st_kernel_text.specs.declared.fault.TextCause.{TextCause}
use Rattle.st_kernel_text.specs.declared.fault.TextCause.TheVariants.{NoValue, Unclosed}
use Rattle.st_kernel_text.specs.declared.fault.TextFault.{TextFault}
use Rattle.st_kernel_text.specs.declared.fault.TextFault.TheVariants.{At, OutOfMemory}
use Rattle.st_kernel_text.specs.declared.kernel.Kernel.{Kernel}
use Rattle.st_kernel_text.specs.declared.parser.Parser.{Parser}
use Rattle.st_kernel_text.specs.declared.parser.Stage.TheVariants.{Signed, InList}
use Rattle.st_kernel_text.proofs.DataLines.{data_lines}
use Rattle.st_kernel_text.proofs.Forced.{fault_forced}
use Rattle.st_kernel_text.proofs.LineLaws.{kernel, with, good_lines, long_line, bad_line, lines-append, lines_leave, FirstBad, good_or_bad}
use Rattle.st_kernel_text.proofs.Live.{Live, live_between}
use Rattle.st_kernel_text.proofs.LiveTokens.{Outcomes, went_all, broke_all, live_steps}
use Rattle.st_kernel_text.proofs.PlainTable.{plain_fault, stopped_fault}
use Rattle.st_kernel_text.proofs.ReadAll.{all_read}
use Rattle.st_kernel_text.proofs.Rows.{row_read, signed_read, listed_read}
use Rattle.st_kernel_text.proofs.Settled.{Settles, settled, live_row, live_end, Ends, ends_well, ends_badly}
use Rattle.st_kernel_text.proofs.States.{signed}

-- the data of lines from the beginning of a file
abbrev pub data_of_lines : List (List ℕ) → Data
data_of_lines lines = data_text false 1 lines

abbrev pub start : Parser
start = fresh []

bad_forced : (k : Kernel) (n : ℕ) (line : List ℕ) (cause : TextCause) → IsTooLong line cause ⊎ HasBadByte k.reading line cause → line_of k n line ≡ fails n cause
bad_forced k n line cause (inl h) = long_line k n line cause h
bad_forced k n line cause (inr h) = bad_line k n line cause h

-- the lines in front are read, and the next is not good
front_then_bad : (p : Parser) (front more : List (List ℕ)) (line : List ℕ) (cause : TextCause) → AreGood false front → steps_of start (data_of_lines front) ≡ Ok p
    → IsTooLong line cause ⊎ HasBadByte (reads_behind false front) line cause
    → lines_from (kernel start false) 1 (front ++ line ∷ more) ≡ fails (1 + length front) cause
front_then_bad p front more line cause good e bad =
    let q : Kernel = kernel p (reads_behind false front) in
    lines-append (kernel start false) 1 front (line ∷ more)
    ∙ ap (λ (r : Result Kernel Fault). r >>= λ z. lines_from z (1 + length front) (line ∷ more))
    (good_lines start false 1 front good ∙ ap (with (reads_behind false front)) e)
    ∙ ap (λ (r : Result Kernel Fault). r >>= λ z. lines_from z (1 + length front + 1) more) (bad_forced q (1 + length front) line cause bad)

-- a fault of the data in front is the fault of all
front_fails : (f : Fault) (front more : List (List ℕ)) → AreGood false front → steps_of start (data_of_lines front) ≡ Err f
    → lines_from (kernel start false) 1 (front ++ more) ≡ Err f
front_fails f front more good e =
    lines-append (kernel start false) 1 front more
    ∙ ap (λ (r : Result Kernel Fault). r >>= λ z. lines_from z (1 + length front) more)
    (good_lines start false 1 front good ∙ ap (with (reads_behind false front)) e)

finished : (lines : List (List ℕ)) (p : Parser) → AreGood false lines → steps_of start (data_of_lines lines) ≡ Ok p
    → (lines_from (kernel start false) 1 lines >>= λ k. finish_of k.parser) ≡ finish_of p
finished lines p good e =
    ap (λ (r : Result Kernel Fault). r >>= λ k. finish_of k.parser)
    (good_lines start false 1 lines good ∙ ap (with (reads_behind false lines)) e)

failed : (lines : List (List ℕ)) (f : Fault) → lines_from (kernel start false) 1 lines ≡ Err f
    → (lines_from (kernel start false) 1 lines >>= λ k. finish_of k.parser) ≡ Err f
failed lines f e = ap (λ (r : Result Kernel Fault). r >>= λ k. finish_of k.parser) e

-- what a file reads to is what the reader answers
reads_forced : (bytes : List ℕ) (list : List Assignment) → ReadsTo bytes list → read_of bytes ≡ Ok list
unfolding finish_in
reads_forced bytes list h =
    finished (lines_of bytes) (fresh list) h.good
    (ap (steps_of start) (sym (append-nil (data_of_lines (lines_of bytes)))) ∙ all_read [] list (data_of_lines (lines_of bytes)) [] h.spells)

line_fails : (bytes : List ℕ) (n : ℕ) (cause : TextCause) → HasBadLine bytes n cause → lines_from (kernel start false) 1 (lines_of bytes) ≡ fails n cause
line_fails bytes n cause h =
    let on = row_read h.row (data_of_lines h.front) h.stands in
    ap (lines_from (kernel start false) 1) h.whole
    ∙ front_then_bad on.state h.front h.more h.line cause h.good on.is h.bad
    ∙ ap (λ (m : ℕ). fails m cause) (sym h.number)

token_fails : (bytes : List ℕ) (n : ℕ) (cause : TextCause) → HasBadToken bytes n cause → lines_from (kernel start false) 1 (lines_of bytes) ≡ fails n cause
token_fails bytes n cause h =
    ap (lines_from (kernel start false) 1) h.whole
    ∙ front_fails (record { line = n; cause = cause }) h.front h.more h.good (fault_forced (data_of_lines h.front) n cause (stopped_fault (data_of_lines h.front) n cause (data_lines false 1 h.front) h.fault))

line_forced : (bytes : List ℕ) (n : ℕ) (cause : TextCause) → HasBadLine bytes n cause → read_of bytes ≡ fails n cause
line_forced bytes n cause h = failed (lines_of bytes) (record { line = n; cause = cause }) (line_fails bytes n cause h)

token_forced : (bytes : List ℕ) (n : ℕ) (cause : TextCause) → HasBadToken bytes n cause → read_of bytes ≡ fails n cause
token_forced bytes n cause h = failed (lines_of bytes) (record { line = n; cause = cause }) (token_fails bytes n cause h)

unfinished_forced : (row : Row) (t : Data) (n : ℕ) (cause : TextCause) → Stands row t [] → IsUnfinished row n cause
    → (p : Parser) × ((steps_of start t ≡ Ok p) × (finish_of p ≡ fails n cause))
unfolding finish_in
unfinished_forced between t n cause s u = absurd u
unfinished_forced behind_name t n cause s u = absurd u
unfinished_forced (behind_sign line) t n cause s (l, c) =
    let r = signed_read line t [] s in (
      signed Signed r.done r.name r.mode line None [] [],
      (
        ap (steps_of start) (sym (append-nil t)) ∙ r.is,
        ap (λ (m : ℕ). fails m NoValue) (sym l) ∙ ap (λ (z : TextCause). fails n z) (sym c),
      ),
    )
unfinished_forced (in_list line vs) t n cause s (l, c) =
    let r = listed_read line vs t [] s in (
      signed InList r.done r.name r.mode r.sign_line (Some line) vs [],
      (
        ap (steps_of start) (sym (append-nil t)) ∙ r.is,
        ap (λ (m : ℕ). fails m Unclosed) (sym l) ∙ ap (λ (z : TextCause). fails n z) (sym c),
      ),
    )
unfinished_forced behind_values t n cause s u = absurd u

end_forced : (bytes : List ℕ) (n : ℕ) (cause : TextCause) → HasNoEnd bytes n cause → read_of bytes ≡ fails n cause
end_forced bytes n cause h =
    let (p, (e, f)) = unfinished_forced h.row (data_of_lines (lines_of bytes)) n cause h.stands h.unfinished in
    finished (lines_of bytes) p h.good e ∙ f

pub forced : (bytes : List ℕ) (n : ℕ) (cause : TextCause) → HasBadLine bytes n cause ⊎ (HasBadToken bytes n cause ⊎ HasNoEnd bytes n cause)
    → read_of bytes ≡ fails n cause
forced bytes n cause (inl h) = line_forced bytes n cause h
forced bytes n cause (inr (inl h)) = token_forced bytes n cause h
forced bytes n cause (inr (inr h)) = end_forced bytes n cause h

-- a fault other than of the end of the data comes from the lines
pub lines_fail : (bytes : List ℕ) (n : ℕ) (cause : TextCause) → HasBadLine bytes n cause ⊎ HasBadToken bytes n cause
    → lines_from (kernel start false) 1 (lines_of bytes) ≡ fails n cause
lines_fail bytes n cause (inl h) = line_fails bytes n cause h
lines_fail bytes n cause (inr h) = token_fails bytes n cause h

-- lines without a fault are read
pub lines_go_on : (row : Row) (lines : List (List ℕ)) → AreGood false lines → Stands row (data_of_lines lines) []
    → (k : Kernel) × (lines_from (kernel start false) 1 lines ≡ Ok k)
lines_go_on row lines good s =
    let on = row_read row (data_of_lines lines) s in (
      kernel on.state (reads_behind false lines),
      good_lines start false 1 lines good ∙ ap (with (reads_behind false lines)) on.is,
    )

-- what the reader answers is what the file reads to, or its fault
abbrev pub Is : List ℕ → Result (List Assignment) Fault → Type 0
Is bytes (Ok list) = ReadsTo bytes list
Is bytes (Err f) = HasBadLine bytes f.line f.cause ⊎ (HasBadToken bytes f.line f.cause ⊎ HasNoEnd bytes f.line f.cause)

begun : Live [] start
begun = live_between (record { done = []; is = refl; spells = refl })

outcome_is : (bytes : List ℕ) → AreGood false (lines_of bytes) → (r : Result (List Assignment) Fault) → Ends (data_of_lines (lines_of bytes)) r → Is bytes r
outcome_is bytes good (Ok list) h = record { good = good; spells = ends_well _ list h }
outcome_is bytes good (Err f) h =
    let b = ends_badly _ f h in
    inr (inr (record { row = b.row; good = good; stands = b.stands; unfinished = b.unfinished }))

token_is : (bytes : List ℕ) (front more : List (List ℕ)) (f : Fault) → lines_of bytes ≡ front ++ more → AreGood false front
    → Outcomes [] (data_of_lines front) (Err f) → HasBadToken bytes f.line f.cause
token_is bytes front more f w good h = record {
  front = front;
  more = more;
  good = good;
  fault = plain_fault (data_of_lines front) f.line f.cause (data_lines false 1 front)
      (subst (λ (z : Data). HasFault z f.line f.cause) (append-nil (data_of_lines front)) (broke_all [] (data_of_lines front) f h []));
  whole = w;
}

all_good : (bytes : List ℕ) → AreGood false (lines_of bytes) → (r : Result Parser Fault) → steps_of start (data_of_lines (lines_of bytes)) ≡ r
    → Outcomes [] (data_of_lines (lines_of bytes)) r → Settles r → Is bytes (read_of bytes)
all_good bytes good (Ok p) e h s =
    subst (Is bytes) (sym (finished (lines_of bytes) p good e))
    (outcome_is bytes good (finish_of p) (live_end (data_of_lines (lines_of bytes)) p (went_all [] (data_of_lines (lines_of bytes)) p h) (settled p s)))
all_good bytes good (Err f) e h s =
    let whole : lines_of bytes ≡ lines_of bytes ++ [] = sym (append-nil (lines_of bytes)) in
    subst (Is bytes)
    (sym (failed (lines_of bytes) f (ap (lines_from (kernel start false) 1) whole ∙ front_fails f (lines_of bytes) [] good e)))
    (inr (inl (token_is bytes (lines_of bytes) [] f whole good h)))

one_bad : (bytes : List ℕ) → (b : FirstBad false (lines_of bytes)) → (r : Result Parser Fault) → steps_of start (data_of_lines b.front) ≡ r
    → Outcomes [] (data_of_lines b.front) r → Settles r → Is bytes (read_of bytes)
one_bad bytes b (Ok p) e h s =
    let at = live_row (data_of_lines b.front) p (went_all [] (data_of_lines b.front) p h) (settled p s) in
    subst (Is bytes)
    (sym (failed (lines_of bytes) (record { line = 1 + length b.front; cause = b.cause })
    (ap (lines_from (kernel start false) 1) b.whole ∙ front_then_bad p b.front b.more b.line b.cause b.good e b.bad)))
    (inl (record { front = b.front; line = b.line; more = b.more; row = at.row; good = b.good; stands = at.stands; bad = b.bad; number = refl; whole = b.whole }))
one_bad bytes b (Err f) e h s =
    subst (Is bytes)
    (sym (failed (lines_of bytes) f (ap (lines_from (kernel start false) 1) b.whole ∙ front_fails f b.front (b.line ∷ b.more) b.good e)))
    (inr (inl (token_is bytes b.front (b.line ∷ b.more) f b.whole b.good h)))

by_lines : (bytes : List ℕ) → AreGood false (lines_of bytes) ⊎ FirstBad false (lines_of bytes) → Is bytes (read_of bytes)
by_lines bytes (inl good) =
    all_good bytes good _ refl (live_steps [] (data_of_lines (lines_of bytes)) start begun) (lines_leave start false 1 (lines_of bytes) refl)
by_lines bytes (inr b) =
    one_bad bytes b _ refl (live_steps [] (data_of_lines b.front) start begun) (lines_leave start false 1 b.front refl)

pub is_read : (bytes : List ℕ) → Is bytes (read_of bytes)
is_read bytes = by_lines bytes (good_or_bad false (lines_of bytes))

-- lines that are read have no fault
pub record GoOn (lines : List (List ℕ)) : Type 0 where
  pub row : Row
  pub good : AreGood false lines
  pub stands : Stands row (data_of_lines lines) []

good_go_on : (lines : List (List ℕ)) (k : Kernel) → AreGood false lines → lines_from (kernel start false) 1 lines ≡ Ok k
    → (r : Result Parser Fault) → steps_of start (data_of_lines lines) ≡ r → Outcomes [] (data_of_lines lines) r → Settles r → GoOn lines
good_go_on lines k good e (Ok p) i h s =
    let at = live_row (data_of_lines lines) p (went_all [] (data_of_lines lines) p h) (settled p s) in
    record { row = at.row; good = good; stands = at.stands }
good_go_on lines k good e (Err f) i h s =
    let other : Ok k ≡ Err f = sym e ∙ ap (lines_from (kernel start false) 1) (sym (append-nil lines)) ∙ front_fails f lines [] good i in absurd (cc)

bad_go_on : (lines : List (List ℕ)) (k : Kernel) → (b : FirstBad false lines) → lines_from (kernel start false) 1 lines ≡ Ok k
    → (r : Result Parser Fault) → steps_of start (data_of_lines b.front) ≡ r → GoOn lines
bad_go_on lines k b e (Ok p) i =
    let other : Ok k ≡ fails (1 + length b.front) b.cause =
    sym e ∙ ap (lines_from (kernel start false) 1) b.whole ∙ front_then_bad p b.front b.more b.line b.cause b.good i b.bad in absurd (cc)
bad_go_on lines k b e (Err f) i =
    let other : Ok k ≡ Err f = sym e ∙ ap (lines_from (kernel start false) 1) b.whole ∙ front_fails f b.front (b.line ∷ b.more) b.good i in absurd (cc)

pub lines_are_good : (lines : List (List ℕ)) (k : Kernel) → lines_from (kernel start false) 1 lines ≡ Ok k → GoOn lines
lines_are_good lines k e =
    elim (good_or_bad false lines) [
      | inl good ↦ good_go_on lines k good e _ refl (live_steps [] (data_of_lines lines) start begun) (lines_leave start false 1 lines refl)
      | inr b ↦ bad_go_on lines k b e _ refl
    ]

-- lines that aren't read have a fault
not_at_end : (bytes : List ℕ) (f : Fault) → lines_from (kernel start false) 1 (lines_of bytes) ≡ Err f → Is bytes (Err f)
    → HasBadLine bytes f.line f.cause ⊎ HasBadToken bytes f.line f.cause
not_at_end bytes f e (inl h) = inl h
not_at_end bytes f e (inr (inl h)) = inr h
not_at_end bytes f e (inr (inr h)) =
    let went = lines_go_on h.row (lines_of bytes) h.good h.stands in
    let other : Ok went.0 ≡ Err f = sym went.1 ∙ e in absurd (cc)

pub lines_have_fault : (bytes : List ℕ) (f : Fault) → lines_from (kernel start false) 1 (lines_of bytes) ≡ Err f
    → HasBadLine bytes f.line f.cause ⊎ HasBadToken bytes f.line f.cause
lines_have_fault bytes f e = not_at_end bytes f e (subst (Is bytes) (failed (lines_of bytes) f e) (is_read bytes))

-- the answer of the reader is one that the file allows, and only that
pub reads : (bytes : List ℕ) (r : Result (List Assignment) TextFault) → Answers r (read_of bytes) → Reads bytes r
reads bytes (Ok list) h = subst (Is bytes) h (is_read bytes)
reads bytes (Err (At n cause)) h = subst (Is bytes) h (is_read bytes)
reads bytes (Err OutOfMemory) h = tt

abbrev pub answer_of : Result (List Assignment) Fault → Result (List Assignment) TextFault
answer_of (Ok list) = Ok list
answer_of (Err f) = Err (At f.line f.cause)

pub only : (bytes : List ℕ) (r a : Result (List Assignment) TextFault) → Answers r (read_of bytes) → Reads bytes a → Agree r a
only bytes (Ok list) (Ok other) h k = let e : Ok list ≡ Ok other = sym h ∙ reads_forced bytes other k in ap answer_of e
only bytes (Ok list) (Err (At n cause)) h k = let e : Ok list ≡ fails n cause = sym h ∙ forced bytes n cause k in absurd (cc)
only bytes (Ok list) (Err OutOfMemory) h k = tt
only bytes (Err (At n cause)) (Ok other) h k = let e : fails n cause ≡ Ok other = sym h ∙ reads_forced bytes other k in absurd (cc)
only bytes (Err (At n cause)) (Err (At m other)) h k = let e : fails n cause ≡ fails m other = sym h ∙ forced bytes m other k in ap answer_of e
only bytes (Err (At n cause)) (Err OutOfMemory) h k = tt
only bytes (Err OutOfMemory) a h k = tt

-- every file has an answer other than want of memory, and one alone
answered : (bytes : List ℕ) (a : Result (List Assignment) TextFault) → Reads bytes a → Answers a (read_of bytes)
answered bytes (Ok list) h = reads_forced bytes list h
answered bytes (Err (At n cause)) h = forced bytes n cause h
answered bytes (Err OutOfMemory) h = tt

pub one_answer : (bytes : List ℕ) (a b : Result (List Assignment) TextFault) → Reads bytes a → Reads bytes b → Agree a b
one_answer bytes a b h k = only bytes a b (answered bytes a h) k

answers : (r : Result (List Assignment) Fault) → Answers (answer_of r) r
answers (Ok list) = refl
answers (Err f) = refl

pub some_answer : (bytes : List ℕ) → Reads bytes (answer_of (read_of bytes))
some_answer bytes = reads bytes (answer_of (read_of bytes)) (answers (read_of bytes))
