-- The line that a number makes for a job is one, and begins with a digit.
use Rattle.std.proofs.Common.{◌≡◌, ◌≢◌, ℕ, suc, ◌+◌, ◌≤◌, Bool, true, false, Option, Some, None, Result, Ok, Err, IfOk, List, [], ◌∷◌, ◌++◌, codes, length, refl, sym, ap, ◌∙◌, subst, arith, length-append, append_assoc, append-nil}
use Rattle.std.specs.Char.{is_ascii_digit}
use Rattle.std.specs.Prelude.{unsigned_abs}
use Rattle.std.proofs.lemmas.Grind.{common_steps}
use Rattle.std.proofs.lemmas.Int.{ints}
use Rattle.std.proofs.lemmas.List.{length-replicate, length-map}
use Rattle.st_text.specs.Bytes.{are_digits, decimal_digits, is_blank, padded}
use Rattle.st_text.specs.Lines.{trimmed}
use Rattle.st_text.proofs.Logic.{and-left}
use Rattle.st_text.proofs.Spelled.{are_digits-padded}
use Rattle.st_clock.specs.Clock.{Clock as TheClock, IsClock, total}
use Rattle.st_dates.specs.Label.{formal, IsPlainLabel}
use Rattle.st_dates.specs.declared.label.Label.{Label}
use Rattle.st_dates.specs.declared.system.System.TheVariants.{Sclk}
use Rattle.st_forms.specs.declared.form.Form.TheVariants.{Calendar, Seconds, Any}
use Rattle.st_routes.specs.Outcome.{IsTickText}
use Rattle.st_routes.specs.declared.ticks.TickForm.{TickForm}
use Rattle.st_routes.specs.declared.ticks.TickForm.TheVariants as tick_forms
use Rattle.st_tables.specs.Tables.{Agree, ClockGives}
use Rattle.st_tables.specs.Variables.{Loaded}
use Rattle.st_tables.specs.declared.fault.TableFault.{TableFault}
use Rattle.st_tables.specs.declared.fault.TableFault.TheVariants.{NoVariable, WrongKind, Leaps, Deltet, Clock, OutOfMemory}
use Rattle.st_tables.proofs.ThreeLaws.{clock_one}
use Rattle.st_words.specs.declared.job.FromKind.{FromKind}
use Rattle.st_words.specs.declared.job.FromKind.TheVariants as from
use Rattle.st_words.specs.declared.job.Job.{Job}
use Rattle.st_words.specs.declared.job.ToKind.TheVariants as to
use Rattle.st_words.specs.declared.job.Work.TheVariants.{Batch}
use Rattle.st_answers.specs.Asked.{AreTables}
use Rattle.st_answers.specs.Sides.{is_clock}
use Rattle.st_words.specs.Job.{IsSource}
use Rattle.st_answers.proofs.Known.{clock-is}
use Rattle.st_answers.proofs.Sides.{is_of_clock, source-kind}
use Rattle.st_answers.proofs.Timed.{one-tick-text}
use Rattle.st_samples.specs.Generator.{seconds, tick, x_of}
use Rattle.st_samples.specs.JobLine.{AreLinesFrom, IsClockLine, IsLineBy, IsTickLine}
use Rattle.st_samples.specs.Laws.{LinesBeginWithDigits, LinesGoOn, OneSample, begins_with_digit}
use Rattle.st_samples.specs.SampleLine.{IsLabelLine, IsLabelText}
use Rattle.st_samples.proofs.LabelLaws.{one_text}

-- a label of a day of 86,400 s is told by its formal count
same-label : (a b : Label) → IsPlainLabel a → IsPlainLabel b → formal a ≡ formal b → a ≡ b
same-label a b p q e =
    let days : a.day ≡ b.day = omega (arith, ints, e, p.from, p.to, q.from, q.to) in
    let times : a.of_day ≡ b.of_day = omega (arith, ints, e, p.from, p.to, q.from, q.to) in
    λ i. record { day = days i; of_day = times i }

one-label-line : (x : ℕ) (a b : List ℕ) → IsLabelLine x a → IsLabelLine x b → a ≡ b
one-label-line x a b h k =
    let P : Label → Type 0 = λ l. IsLabelText l b in
    one_text h.label a b h.text (subst P (same-label k.label h.label k.plain h.plain (k.counts ∙ sym h.counts)) k.text)

same-number : (a b : ℕ) → ◌≡◌ {A = Option ℕ} (Some a) (Some b) → a ≡ b
same-number a b e = cc

same-clock : (a b : TheClock) → ◌≡◌ {A = Result TheClock TableFault} (Ok a) (Ok b) → a ≡ b
same-clock a b e = cc

-- the clock that kernels give is one, as the clock of a job from it to itself
abbrev to-itself : ℕ → Job
to-itself n = record { setup = []; from = Sclk; form = from.Clock; to = Sclk; shape = to.Clock; clock = Some n; work = Batch; back = false }

pub is-clock : (n : ℕ) (loaded : Loaded) (clock : TheClock) → ClockGives n loaded (Ok clock) → IsClock clock
is-clock n loaded clock given =
    let are : AreTables (to-itself n) loaded (record { leaps = None; constants = None; clock = Some clock }) =
    record { leaps = refl; constants = refl; clock = (n, refl, given) } in
    clock-is (to-itself n) loaded (record { leaps = None; constants = None; clock = Some clock }) clock are refl

-- what agrees with a table is a table
ok-err : (c : TheClock) (f : TableFault) (form : TickForm) (x : ℕ) (line : List ℕ) → IsTickLine (Err f) form x line → Agree (Ok c) (Err f) → ⊥
ok-err c (NoVariable v) form x line h e = absurd cc
ok-err c (WrongKind v) form x line h e = absurd cc
ok-err c (Leaps l) form x line h e = absurd cc
ok-err c (Deltet d) form x line h e = absurd cc
ok-err c (Clock k) form x line h e = absurd cc
ok-err c OutOfMemory form x line h e = h

-- the line of a refused clock
refused-line : (f : TableFault) (form : TickForm) (x : ℕ) (line : List ℕ) → IsTickLine (Err f) form x line → line ≡ codes "0"
refused-line (NoVariable v) form x line h = h
refused-line (WrongKind v) form x line h = h
refused-line (Leaps l) form x line h = h
refused-line (Deltet d) form x line h = h
refused-line (Clock k) form x line h = h
refused-line OutOfMemory form x line h = absurd h

one-tick-line : (n : ℕ) (loaded : Loaded) (form : TickForm) (x : ℕ) (given other : Result TheClock TableFault) (a b : List ℕ)
    → ClockGives n loaded given → ClockGives n loaded other → IsTickLine given form x a → IsTickLine other form x b → a ≡ b
one-tick-line n loaded form x (Ok c) (Ok d) a b g k h l =
    let same : d ≡ c = sym (same-clock c d (clock_one n loaded (Ok c) (Ok d) g k)) in
    let P : TheClock → Type 0 = λ z. IsTickText z form (tick x (total z)) b in
    one-tick-text c form (tick x (total c)) a b (is-clock n loaded c g) h (subst P same l)
one-tick-line n loaded form x (Ok c) (Err f) a b g k h l = absurd (ok-err c f form x b l (clock_one n loaded (Ok c) (Err f) g k))
one-tick-line n loaded form x (Err f) (Ok c) a b g k h l = absurd (ok-err c f form x a h (clock_one n loaded (Ok c) (Err f) k g))
one-tick-line n loaded form x (Err f) (Err e) a b g k h l = refused-line f form x a h ∙ sym (refused-line e form x b l)

one-clock-line : (job : Job) (loaded : Loaded) (form : TickForm) (x : ℕ) (a b : List ℕ) → IsClockLine job loaded form x a → IsClockLine job loaded form x b → a ≡ b
one-clock-line job loaded form x a b (n, given, is, g, h) (m, other, same, k, l) =
    let P : ℕ → Type 0 = λ i. ClockGives i loaded other in
    one-tick-line n loaded form x given other a b g (subst P (same-number m n (sym same ∙ is)) k) h l

one-line : (kind : FromKind) (job : Job) (loaded : Loaded) (x : ℕ) (a b : List ℕ) → IsLineBy kind job loaded x a → IsLineBy kind job loaded x b → a ≡ b
one-line (from.Time Calendar) job loaded x a b h k = one-label-line x a b h k
one-line (from.Time Seconds) job loaded x a b h k = h ∙ sym k
one-line (from.Time Any) job loaded x a b h k = h ∙ sym k
one-line from.Clock job loaded x a b h k = one-clock-line job loaded tick_forms.Clock x a b h k
one-line from.Ticks job loaded x a b h k = one-clock-line job loaded tick_forms.Ticks x a b h k

none-some : (n : ℕ) → 0 ≡ suc n → ⊥
none-some n e = absurd cc

suc-is : (m n : ℕ) → suc m ≡ suc n → m ≡ n
suc-is m n e = cc

one-list : (job : Job) (loaded : Loaded) (seed i : ℕ) (a b : List (List ℕ)) → length a ≡ length b → AreLinesFrom job loaded seed i a → AreLinesFrom job loaded seed i b → a ≡ b
one-list job loaded seed i [] [] e h k = refl
one-list job loaded seed i [] (y ∷ b) e h k = absurd (none-some (length b) e)
one-list job loaded seed i (x ∷ a) [] e h k = absurd (none-some (length a) (sym e))
one-list job loaded seed i (x ∷ a) (y ∷ b) e h k =
    let first = one-line job.form job loaded (x_of seed i) x y h.0 k.0 in
    let rest = one-list job loaded seed (i + 1) a b (suc-is (length a) (length b) e) h.1 k.1 in
    λ j. first j ∷ rest j

pub one-sample : OneSample
one-sample job loaded n seed lines other h k = one-list job loaded seed 1 lines other (h.0 ∙ sym k.0) h.1 k.1

-- a line is made after others
more-lines : (job : Job) (loaded : Loaded) (seed i n : ℕ) (lines : List (List ℕ)) (line : List ℕ) → n ≡ i + length lines → AreLinesFrom job loaded seed i lines
    → IsLineBy job.form job loaded (x_of seed n) line → AreLinesFrom job loaded seed i (lines ++ line ∷ [])
more-lines job loaded seed i n [] line e h k = (subst (λ (m : ℕ). IsLineBy job.form job loaded (x_of seed m) line) (omega (arith, e)) k, tt)
more-lines job loaded seed i n (first ∷ lines) line e h k = (h.0, more-lines job loaded seed (i + 1) n lines line (omega (arith, e)) h.1 k)

pub lines-go-on : LinesGoOn
lines-go-on job loaded n seed lines line h k =
    (omega (arith, h.0, length-append lines (line ∷ [])), more-lines job loaded seed 1 (n + 1) lines line (omega (arith, h.0)) h.1 k)

-- what is made of a tick of the clock, or where it is refused, is the line
pub tick-line : {E : Type 0} (r : Result (List ℕ) E) (job : Job) (loaded : Loaded) (form : TickForm) (x n k : ℕ) (clock : TheClock) → job.clock ≡ Some n → ClockGives n loaded (Ok clock)
    → k ≡ tick x (total clock) → IfOk r (IsTickText clock form k) → IfOk r (IsClockLine job loaded form x)
tick-line (Ok line) job loaded form x n k clock is given e h =
    let P : ℕ → Type 0 = λ m. IsTickText clock form m line in
    (n, Ok clock, is, given, subst P e h)
tick-line (Err fault) job loaded form x n k clock is given e h = tt

zero-line : (fault : TableFault) (form : TickForm) (x : ℕ) (line : List ℕ) → fault ≢ OutOfMemory → line ≡ codes "0" → IsTickLine (Err fault) form x line
zero-line (NoVariable v) form x line not e = e
zero-line (WrongKind v) form x line not e = e
zero-line (Leaps l) form x line not e = e
zero-line (Deltet d) form x line not e = e
zero-line (Clock c) form x line not e = e
zero-line OutOfMemory form x line not e = absurd (not refl)

pub no-clock-line : {E : Type 0} (r : Result (List ℕ) E) (job : Job) (loaded : Loaded) (form : TickForm) (x n : ℕ) (fault : TableFault) → job.clock ≡ Some n → ClockGives n loaded (Err fault)
    → IfOk r (λ line. (fault ≢ OutOfMemory) × (line ≡ codes "0")) → IfOk r (IsClockLine job loaded form x)
no-clock-line (Ok line) job loaded form x n fault is given (not, e) = (n, Err fault, is, given, zero-line fault form x line not e)
no-clock-line (Err error) job loaded form x n fault is given h = tt

-- digits and what stands after them begin with a digit
some-digit : (width n : ℕ) → 1 ≤ width → 1 ≤ length (padded width n)
some-digit width n some = simp (length-append, length-replicate, length-map) (omega (arith, some))

digits-begin : (t rest : List ℕ) → are_digits t ≡ true → 1 ≤ length t → begins_with_digit (t ++ rest) ≡ true
digits-begin [] rest h some = absurd (omega (arith, some))
digits-begin (b ∷ t) rest h some = and-left (is_ascii_digit b) (are_digits t) h

padded-begins : (width n : ℕ) (rest : List ℕ) → 1 ≤ width → begins_with_digit (padded width n ++ rest) ≡ true
padded-begins width n rest some = digits-begin (padded width n) rest (are_digits-padded width n) (some-digit width n some)

-- no blank is a digit
trimmed-begins : (t : List ℕ) → begins_with_digit t ≡ true → begins_with_digit (trimmed t) ≡ true
trimmed-begins [] h = h
trimmed-begins (b ∷ t) h = by (is_blank b) (no-blank b h)
  where
    no-blank : (b : ℕ) → is_ascii_digit b ≡ true → is_blank b ≡ false
    no-blank b h = grind (arith, common_steps)

    by : (blank : Bool) → is_blank b ≡ false → begins_with_digit (trimmed (b ∷ t)) ≡ true
    by blank e = rw e (rw e h)

tick-begins : (c : TheClock) (form : TickForm) (k : ℕ) (line : List ℕ) → IsTickText c form k line → begins_with_digit line ≡ true
tick-begins c tick_forms.Clock k line h = subst (λ (t : List ℕ). begins_with_digit t ≡ true) (sym h.whole) (padded-begins 1 (suc h.place) _ (omega arith))
tick-begins c tick_forms.Ticks k line h =
    subst (λ (t : List ℕ). begins_with_digit t ≡ true) (append-nil (decimal_digits k) ∙ sym h) (padded-begins 1 k [] (omega arith))

clock-begins : (form : TickForm) (x : ℕ) (given : Result TheClock TableFault) (line : List ℕ) → IsTickLine given form x line → begins_with_digit line ≡ true
clock-begins form x (Ok c) line h = tick-begins c form (tick x (total c)) line h
clock-begins form x (Err f) line h = subst (λ (t : List ℕ). begins_with_digit t ≡ true) (sym (refused-line f form x line h)) refl

line-begins : (kind : FromKind) (job : Job) (loaded : Loaded) (x : ℕ) (line : List ℕ) → IsLineBy kind job loaded x line → begins_with_digit line ≡ true
line-begins (from.Time Calendar) job loaded x line h =
    let year = padded 4 (unsigned_abs h.text.civil.year) in
    subst (λ (t : List ℕ). begins_with_digit t ≡ true) (sym (h.text.whole ∙ append_assoc year _ _)) (padded-begins 4 (unsigned_abs h.text.civil.year) _ (omega arith))
line-begins (from.Time Seconds) job loaded x line h = subst (λ (t : List ℕ). begins_with_digit t ≡ true) (sym h) (padded-begins 1 (seconds x) _ (omega arith))
line-begins (from.Time Any) job loaded x line h = subst (λ (t : List ℕ). begins_with_digit t ≡ true) (sym h) (padded-begins 1 (seconds x) _ (omega arith))
line-begins from.Clock job loaded x line (n, given, is, g, h) = clock-begins tick_forms.Clock x given line h
line-begins from.Ticks job loaded x line (n, given, is, g, h) = clock-begins tick_forms.Ticks x given line h

-- a source whose times are strings or ticks is a clock
pub strings-are : (job : Job) → IsSource job.from job.form → job.form ≡ from.Clock → is_clock job.from ≡ true
strings-are job source is = sym (source-kind job.from job.form source) ∙ ap is_of_clock is

pub ticks-are : (job : Job) → IsSource job.from job.form → job.form ≡ from.Ticks → is_clock job.from ≡ true
ticks-are job source is = sym (source-kind job.from job.form source) ∙ ap is_of_clock is

pub lines-begin-with-digits : LinesBeginWithDigits
lines-begin-with-digits job loaded x line h = trimmed-begins line (line-begins job.form job loaded x line h)
