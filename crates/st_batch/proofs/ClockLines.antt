-- What is read to a tick is no command, and a covered tick's line is answered by its time and its spelling.
use Rattle.std.proofs.Common.{◌≡◌, ◌↔◌, ◌⊎◌, inl, inr, ℕ, ◌≤◌, ◌==◌, true, false, Option, None, Some, Result, Ok, Err, List, [], ◌∷◌, ◌++◌, append_assoc, length, refl, sym, ap, ◌∙◌, arith}
use Rattle.std.proofs.lemmas.Bool.{false≢true}
use Rattle.std.proofs.lemmas.Bool.Decides.{nat_tests}
use Rattle.std.specs.Char.{is_ascii_digit}
use Rattle.st_text.specs.Bytes.{are_blanks, are_digits, is_blank}
use Rattle.st_text.specs.Lines.{trimmed}
use Rattle.st_ticks.specs.ClockText.{IsRun, Parts, Spells, SpellsFields, SpellsPartition}
use Rattle.st_clock.specs.Clock.{Clock as TheClock}
use Rattle.st_routes.specs.Source.{TickGives}
use Rattle.st_routes.specs.declared.fault.TimeFault.TheVariants as time
use Rattle.st_routes.specs.declared.ticks.TickForm.{TickForm}
use Rattle.st_routes.specs.declared.ticks.TickForm.TheVariants as tick
use Rattle.st_answers.specs.Answer.{AnswerGives, source_form, there_and_back}
use Rattle.st_answers.specs.Returns.{CanBeUndecided, IsReturned, ReadsCovered}
use Rattle.st_answers.specs.declared.fault.AnswerFault.{AnswerFault}
use Rattle.st_answers.specs.declared.fault.AnswerFault.TheVariants as answers
use Rattle.st_answers.proofs.Returned.{covered-tick-returns, tdb-tick-returns}
use Rattle.st_batch.specs.declared.answer.Answer.{Answer}
use Rattle.st_batch.specs.declared.answer.Answer.TheVariants.{Refused}
use Rattle.st_refusals.specs.declared.fault.LineFault.TheVariants as refusals
use Rattle.st_batch.specs.Commands.{begins_command}
use Rattle.st_batch.specs.Limits.{most_line_bytes}
use Rattle.st_batch.specs.Returns.{CoveredLineReturns, TdbLineReturns, TellsTick}
use Rattle.st_batch.specs.Session.{MayAnswer}
use Rattle.st_batch.specs.Setting.{Loaded, Setting}
use Rattle.st_batch.specs.Times.{TimeAnswered, time_answer}
use Rattle.st_batch.proofs.CommandLaws.{and-left}

-- neither a digit nor a blank begins a command
digit-begins : (b : ℕ) → is_ascii_digit b ≡ true → (b == 36) ≡ false
digit-begins b h = grind (arith, nat_tests)

blank-begins : (b : ℕ) → is_blank b ≡ true → (b == 36) ≡ false
blank-begins b h = grind (arith, nat_tests)

run-begins : (run rest : List ℕ) → IsRun run → begins_command (run ++ rest) ≡ false
run-begins [] rest is = absurd (omega (arith, is.some))
run-begins (b ∷ bs) rest is = digit-begins b (and-left (is_ascii_digit b) (are_digits bs) is.digits)

gap-begins : (gap rest : List ℕ) → are_blanks gap ≡ true → begins_command rest ≡ false → begins_command (gap ++ rest) ≡ false
gap-begins [] rest blanks h = h
gap-begins (b ∷ bs) rest blanks h = blank-begins b (and-left (is_blank b) (are_blanks bs) blanks)

fields-begin : (fields : List (List ℕ)) (text rest : List ℕ) → SpellsFields fields text → begins_command (text ++ rest) ≡ false
fields-begin [] text rest h = absurd h
fields-begin (field ∷ []) text rest (run, e) = ap (λ (t : List ℕ). begins_command (t ++ rest)) e ∙ run-begins field rest run
fields-begin (field ∷ next ∷ more) text rest (separator, behind, run, is, spelled, e) =
    ap (λ (t : List ℕ). begins_command (t ++ rest)) e
    ∙ ap begins_command (append_assoc field (separator ++ behind) rest)
    ∙ run-begins field ((separator ++ behind) ++ rest) run

partition-begins : (written : Option (List ℕ)) (text rest : List ℕ) → SpellsPartition written text → begins_command rest ≡ false → begins_command (text ++ rest) ≡ false
partition-begins None text rest e h = ap (λ (t : List ℕ). begins_command (t ++ rest)) e ∙ h
partition-begins (Some digits) text rest (before, after, slash, run, is, e) h =
    ap (λ (t : List ℕ). begins_command (t ++ rest)) e
    ∙ ap begins_command (append_assoc digits slash rest)
    ∙ run-begins digits (slash ++ rest) run

string-begins : (p : Parts) (text : List ℕ) → Spells p text → begins_command text ≡ false
string-begins p text h =
    ap begins_command h.whole
    ∙ gap-begins h.front (h.partition ++ (h.fields ++ h.back)) h.blanks_front
    (partition-begins p.partition h.partition (h.fields ++ h.back) h.partition_is (fields-begin p.fields h.fields h.back h.fields_are))

number-begins : (text : List ℕ) → are_digits text ≡ true → begins_command text ≡ false
number-begins [] h = refl
number-begins (b ∷ bs) h = digit-begins b (and-left (is_ascii_digit b) (are_digits bs) h)

no-command : (clock : TheClock) (form : TickForm) (text : List ℕ) (k : ℕ) → TickGives clock form text (Ok k) → begins_command text ≡ false
no-command clock tick.Clock text k h = string-begins h.parts text h.spells
no-command clock tick.Ticks text k h = number-begins text h.0.0

-- a line is answered as its text is
module _ (s : Setting) (loaded after : Loaded) (line : List ℕ) (clock : TheClock) (k places : ℕ) (answer : Answer) (short : length line ≤ most_line_bytes)
    (h : ReadsCovered s.job loaded (trimmed line) clock k places) where
  is-time : begins_command (trimmed line) ≡ false
  is-time = no-command clock (source_form s.job.form) (trimmed line) k h.reads

  pub time-of : MayAnswer s loaded line answer after → TimeAnswered s.job loaded (trimmed line) answer × (after ≡ loaded)
  time-of (inl (long, e, same)) = absurd (omega (arith, short, long))
  time-of (inr (few, inl (command, gives))) = absurd (false≢true (sym is-time ∙ command))
  time-of (inr (few, inr (none, gives, same))) = (gives, same)

  pub line-of : TimeAnswered s.job loaded (trimmed line) answer → after ≡ loaded → MayAnswer s loaded line answer after
  line-of gives same = inr (short, inr (is-time, gives, same))

told : (s : Setting) (loaded : Loaded) (text : List ℕ) (answer : Answer) (result : Result (List ℕ) AnswerFault) → AnswerGives s.job loaded text result
    → answer ≡ time_answer s.job result → TimeAnswered s.job loaded text answer
told s loaded text answer result given answered = record { result = result; given = given; answered = answered }

returned : (s : Setting) (clock : TheClock) (k : ℕ) (there : List ℕ) (answer : Answer) (result : Result (List ℕ) AnswerFault) → answer ≡ time_answer s.job result
    → IsReturned clock k there result → TellsTick clock k there answer
returned s clock k there answer result answered (back, canonical, e) = (back, canonical, answered ∙ ap (time_answer s.job) e)

pub covered-line-returns : CoveredLineReturns
covered-line-returns s loaded after line there clock k places answer short h g range = (to, back)
  where
    both : (result : Result (List ℕ) AnswerFault) → AnswerGives s.job loaded (trimmed line) result
        ↔ (IsReturned clock k there result ⊎ ((result ≡ Err (answers.Time time.Undecided)) × CanBeUndecided s.job loaded (trimmed line)))
    both result = covered-tick-returns s.job loaded (trimmed line) there clock k places result h g range

    to : MayAnswer s loaded line answer after → (after ≡ loaded) × (TellsTick clock k there answer ⊎ ((answer ≡ Refused refusals.Undecided) × CanBeUndecided s.job loaded (trimmed line)))
    to may =
        let t = time-of s loaded after line clock k places answer short h may in (
          t.1,
          elim ((both t.0.result).0 t.0.given) [
            | inl r ↦ inl (returned s clock k there answer t.0.result t.0.answered r)
            | inr u ↦ inr (t.0.answered ∙ ap (time_answer s.job) u.0, u.1)
          ],
        )

    back : (after ≡ loaded) × (TellsTick clock k there answer ⊎ ((answer ≡ Refused refusals.Undecided) × CanBeUndecided s.job loaded (trimmed line))) → MayAnswer s loaded line answer after
    back (same, inl (text, canonical, e)) =
        line-of s loaded after line clock k places answer short h
        (told s loaded (trimmed line) answer (Ok (there_and_back there text)) ((both (Ok (there_and_back there text))).1 (inl (text, canonical, refl))) e) same
    back (same, inr (e, u)) =
        line-of s loaded after line clock k places answer short h
        (told s loaded (trimmed line) answer (Err (answers.Time time.Undecided)) ((both (Err (answers.Time time.Undecided))).1 (inr (refl, u))) e) same

pub tdb-line-returns : TdbLineReturns
tdb-line-returns s loaded after line there clock k places answer short h kept g range = (to, back)
  where
    both : (result : Result (List ℕ) AnswerFault) → AnswerGives s.job loaded (trimmed line) result ↔ IsReturned clock k there result
    both result = tdb-tick-returns s.job loaded (trimmed line) there clock k places result h kept g range

    to : MayAnswer s loaded line answer after → (after ≡ loaded) × TellsTick clock k there answer
    to may =
        let t = time-of s loaded after line clock k places answer short h may in
        (t.1, returned s clock k there answer t.0.result t.0.answered ((both t.0.result).0 t.0.given))

    back : (after ≡ loaded) × TellsTick clock k there answer → MayAnswer s loaded line answer after
    back (same, (text, canonical, e)) =
        line-of s loaded after line clock k places answer short h
        (told s loaded (trimmed line) answer (Ok (there_and_back there text)) ((both (Ok (there_and_back there text))).1 (text, canonical, refl)) e) same
