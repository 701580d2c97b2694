-- Where data have a fault the reader answers it.
use Rattle.std.proofs.Common.{inl, inr, ◌⊎◌, ◌≡◌, ℕ, true, false, ◌&&◌, List, [], ◌∷◌, ◌++◌, length, Option, Some, None, Result, Ok, refl, ap, sym, ◌∙◌, subst, arith}
use Rattle.std.specs.Prelude.{◌==◌, ◌||◌, nat_lt}
use Rattle.std.specs.List.{list_all}
use Rattle.std.proofs.lemmas.Bool.{and_parts, cond-true, cond-false, cases_Bool, false_from_ne_true, eqb-true, eq-eqb, or_parts, le-ltb}
use Rattle.std.proofs.lemmas.Bool.Decides.{nat_tests}
use Rattle.std.proofs.lemmas.Grind.{common_steps}
use Rattle.std.proofs.lemmas.List.Folds.{list_all-append}
use Rattle.st_text.specs.Bytes.{is_blank}
use Rattle.st_decimal.specs.declared.number.Dec.{Dec}
use Rattle.st_kernel_text.specs.Bytes.{is_space, is_separator, is_name_byte, is_run_byte}
use Rattle.st_kernel_text.specs.Fault.{Fault, fails}
use Rattle.st_kernel_text.specs.FaultSteps.{Breaks, HasFault, HasNoName, HasNoSign, HasPlusAlone, HasBadRun, HasOpenText, HasBadEnd, HasBadValue, HasOtherKind, BeginsWithout, is_quote}
use Rattle.st_kernel_text.specs.Faults.{Row, between, behind_name, behind_sign, in_list, behind_values, Stands, EndsName, is_before_value}
use Rattle.st_kernel_text.specs.Grammar.{Data, plain, IsName, same_kind}
use Rattle.st_kernel_text.specs.ParserMachine.{◌>>=◌, fresh, is_name, ends_in_plus, without_last, start_of, named_of, put_of, taken_of, step_of, steps_of}
use Rattle.st_kernel_text.specs.Values.{ReadsRun, cause_of_run, may_follow}
use Rattle.st_kernel_text.specs.declared.assignment.Assignment.{Assignment}
use Rattle.st_kernel_text.specs.declared.assignment.Mode.{Mode}
use Rattle.st_kernel_text.specs.declared.fault.TextCause.{TextCause}
use Rattle.st_kernel_text.specs.declared.fault.TextCause.TheVariants.{NoName, NoSign, NoValue, BadNumber, BadString, MixedKinds, TrailingText}
use Rattle.st_kernel_text.specs.declared.parser.Parser.{Parser}
use Rattle.st_kernel_text.specs.declared.parser.Stage.TheVariants.{Name, Named, Plus, Signed, InList}
use Rattle.st_kernel_text.specs.declared.value.Value.{Value}
use Rattle.st_kernel_text.proofs.Heads.{name_from, name_read, plus_parts, ended_step, blanks_read}
use Rattle.st_kernel_text.proofs.ReadAll.{closed}
use Rattle.st_kernel_text.proofs.ReadValues.{Starts, starts_signed, starts_list, in_run, in_text, at_quote, run_read, run_end, quoted_read, closed_read, value_read}
use Rattle.st_kernel_text.proofs.Rows.{between_read, signed_read, named_read, listed_read, closed_row_read}
use Rattle.st_kernel_text.proofs.Runs.{run_missing}
use Rattle.st_kernel_text.proofs.States.{naming, signed, one_step, failed_step}

-- a run of bytes of a name that is none is none for the reader
no_name : (w : List ℕ) → list_all is_name_byte w ≡ true → (IsName w → ⊥) → is_name w ≡ false
no_name w b h = false_from_ne_true _ (λ e. h (name_from w e b))

pub front_bytes : (w : List ℕ) → list_all is_name_byte w ≡ true → ends_in_plus w ≡ true → list_all is_name_byte (without_last w) ≡ true
front_bytes w b p =
    (and_parts _ _ (sym (list_all-append is_name_byte (without_last w) (43 ∷ [])) ∙ sym (ap (list_all is_name_byte) (plus_parts w p)) ∙ b)).0

name_fails : (done : List Assignment) (w : List ℕ) (n b : ℕ) → list_all is_name_byte w ≡ true → is_name_byte b ≡ false
    → (IsName w → ⊥) → ((front : List ℕ) → b ≡ 61 → w ≡ front ++ 43 ∷ [] → IsName front → ⊥)
    → step_of (naming Name done w) n b ≡ fails n NoName
unfolding step_of
name_fails done w n b bytes e none added =
    elim (cases_Bool ((b == 61) && ends_in_plus w)) [
      | inl y ↦
          let both = and_parts _ _ y in
          cond-false _ _ _ e ∙ cond-true _ _ _ y
          ∙ cond-false _ _ _ (no_name (without_last w) (front_bytes w bytes both.1) (added (without_last w) (eqb-true _ _ both.0) (plus_parts w both.1)))
      | inr x ↦ cond-false _ _ _ e ∙ cond-false _ _ _ x ∙ cond-false _ _ _ (no_name w bytes none)
    ]

fresh_fails : (done : List Assignment) (n b : ℕ) → is_space b ≡ false → is_name_byte b ≡ false → step_of (fresh done) n b ≡ fails n NoName
unfolding step_of
fresh_fails done n b s e = cond-false _ _ _ s ∙ cond-false _ _ _ e

first_space : (n b : ℕ) (t rest : Data) → rest ≡ (n, b) ∷ t → BeginsWithout is_space rest → is_space b ≡ false
first_space n b t rest e h = subst (BeginsWithout is_space) e h

no_name_forced : (done : List Assignment) (rest : Data) (n : ℕ) → HasNoName rest n → steps_of (fresh done) rest ≡ fails n NoName
no_name_forced done rest n h = by_word h.word h.whole h.bytes h.none h.none_added
  where
    by_word : (word : Data) → rest ≡ word ++ ((n, h.byte) ∷ h.more) → list_all is_name_byte (plain word) ≡ true → (IsName (plain word) → ⊥)
        → ((front : List ℕ) → h.byte ≡ 61 → plain word ≡ front ++ 43 ∷ [] → IsName front → ⊥) → steps_of (fresh done) rest ≡ fails n NoName
    by_word [] e b none added =
        ap (steps_of (fresh done)) e ∙ failed_step _ _ n h.byte h.more (fresh_fails done n h.byte (first_space n h.byte h.more rest e h.begins) h.longest)
    by_word (x ∷ word) e b none added =
        ap (steps_of (fresh done)) e ∙ name_read done (x ∷ word) ((n, h.byte) ∷ h.more) (omega arith) b
        ∙ failed_step _ _ n h.byte h.more (name_fails done (plain (x ∷ word)) n h.byte b h.longest none added)

named_fails : (p : Parser) (n b : ℕ) → ((is_blank b || (b == 61)) || (b == 43)) ≡ false → named_of p n b ≡ fails n NoSign
named_fails p n b h =
    let all = or_parts (is_blank b || (b == 61)) (b == 43) h in
    let two = or_parts (is_blank b) (b == 61) all.0 in
    cond-false _ _ _ two.0 ∙ cond-false _ _ _ two.1 ∙ cond-false _ _ _ all.1

named_step : (done : List Assignment) (w : List ℕ) (n b : ℕ) → step_of (naming Named done w) n b ≡ named_of (naming Named done w) n b
unfolding step_of
named_step done w n b = refl

plus_goes : (done : List Assignment) (w : List ℕ) (n : ℕ) → step_of (naming Named done w) n 43 ≡ Ok (naming Plus done w)
unfolding step_of
plus_goes done w n = refl

plus_fails : (done : List Assignment) (w : List ℕ) (n b : ℕ) → (b == 61) ≡ false → step_of (naming Plus done w) n b ≡ fails n NoSign
unfolding step_of
plus_fails done w n b h = cond-false _ _ _ h

plus_is_name_byte : is_name_byte 43 ≡ false → ⊥
unfolding is_name_byte
plus_is_name_byte h = absurd (cc)

no_sign_forced : (done : List Assignment) (w : List ℕ) (blanks rest : Data) (n : ℕ) → IsName w → list_all is_blank (plain blanks) ≡ true
    → EndsName (blanks ++ rest) → HasNoSign rest n → steps_of (naming Name done w) (blanks ++ rest) ≡ fails n NoSign
no_sign_forced done w [] rest n i b e h =
    let ends : is_name_byte h.byte ≡ false = subst EndsName h.whole e in
    ap (steps_of (naming Name done w)) h.whole
    ∙ failed_step _ _ n h.byte h.more (ended_step done w n h.byte i ends ∙ named_fails (naming Name done w) n h.byte h.other)
no_sign_forced done w (x ∷ blanks) rest n i b e h =
    blanks_read done w x blanks rest i b ∙ ap (steps_of (naming Named done w)) h.whole
    ∙ failed_step _ _ n h.byte h.more (named_step done w n h.byte ∙ named_fails (naming Named done w) n h.byte h.other)

plus_forced : (done : List Assignment) (w : List ℕ) (blanks rest : Data) (n : ℕ) → IsName w → list_all is_blank (plain blanks) ≡ true
    → EndsName (blanks ++ rest) → HasPlusAlone rest n → steps_of (naming Name done w) (blanks ++ rest) ≡ fails n NoSign
plus_forced done w [] rest n i b e h = absurd (plus_is_name_byte (subst EndsName h.whole e))
plus_forced done w (x ∷ blanks) rest n i b e h =
    blanks_read done w x blanks rest i b ∙ ap (steps_of (naming Named done w)) h.whole
    ∙ one_step _ _ h.line 43 ((n, h.byte) ∷ h.more) (plus_goes done w h.line)
    ∙ failed_step _ _ n h.byte h.more (plus_fails done w n h.byte h.other)

-- a value that breaks: the reader p expects one, and takes the first byte for it
abbrev pub Enters : Parser → Data → Type 0
Enters p [] = ⊥
Enters p (b ∷ t) =
    (step_of (record p { run = [] }) b.0 b.1 ≡ start_of (record p { run = [] }) b.0 b.1) × ((b.1 == 41) ≡ false)

run_stops : (b : ℕ) → is_run_byte b ≡ false → ((b == 40) || (b == 39)) ≡ false → may_follow b ≡ true
unfolding is_run_byte
run_stops b h s = grind (arith, nat_tests, common_steps)

stopped_run : (p : Parser) (w : List ℕ) (n b : ℕ) → ((b == 40) || (b == 39)) ≡ true → is_run_byte b ≡ false
    → step_of (in_run p w) n b ≡ fails n (cause_of_run w)
unfolding step_of
stopped_run p w n b h e = cond-false _ _ _ e ∙ cond-true _ _ _ h

run_fails : (p : Parser) (w : List ℕ) (n b : ℕ) → is_run_byte b ≡ false → (may_follow b ≡ true → (d : Dec) → ReadsRun w d → ⊥)
    → step_of (in_run p w) n b ≡ fails n (cause_of_run w)
run_fails p w n b e none =
    elim (cases_Bool ((b == 40) || (b == 39))) [
      | inl y ↦ stopped_run p w n b y e
      | inr x ↦
          run_end p w n b e x
          ∙ ap (λ (o : Option Dec). taken_of o (in_run p w) n b) (run_missing w (none (run_stops b e x)))
    ]

start_fails : (p : Parser) (n b : ℕ) → (b == 39) ≡ false → is_run_byte b ≡ false → (b == 41) ≡ false → start_of p n b ≡ fails n BadNumber
start_fails p n b q r c = cond-false _ _ _ q ∙ cond-false _ _ _ r ∙ cond-false _ _ _ c

bad_word_forced : (p : Parser) (rest : Data) (n : ℕ) (cause : TextCause) → Starts p → Enters p rest → BeginsWithout is_quote rest → (h : HasBadRun rest n cause)
    → (word : Data) → rest ≡ word ++ ((n, h.byte) ∷ h.more) → list_all is_run_byte (plain word) ≡ true
    → (may_follow h.byte ≡ true → (d : Dec) → ReadsRun (plain word) d → ⊥) → cause ≡ cause_of_run (plain word)
    → steps_of (record p { run = [] }) rest ≡ fails n cause
bad_word_forced p rest n cause s enters begins h [] e b none c =
    let first = subst (Enters p) e enters in
    let quote = subst (BeginsWithout is_quote) e begins in
    ap (steps_of (record p { run = [] })) e
    ∙ failed_step _ _ n h.byte h.more (first.0 ∙ start_fails (record p { run = [] }) n h.byte quote h.longest first.1)
    ∙ ap (λ (z : TextCause). fails n z) (sym c)
bad_word_forced p rest n cause s enters begins h (x ∷ word) e b none c =
    ap (steps_of (record p { run = [] })) e
    ∙ run_read p (x ∷ word) ((n, h.byte) ∷ h.more) s (omega arith) b
    ∙ failed_step _ _ n h.byte h.more (run_fails p (plain (x ∷ word)) n h.byte h.longest none)
    ∙ ap (λ (z : TextCause). fails n z) (sym c)

bad_run_forced : (p : Parser) (rest : Data) (n : ℕ) (cause : TextCause) → Starts p → Enters p rest → BeginsWithout is_quote rest → HasBadRun rest n cause
    → steps_of (record p { run = [] }) rest ≡ fails n cause
bad_run_forced p rest n cause s enters begins h = bad_word_forced p rest n cause s enters begins h h.word h.whole h.bytes h.none h.cause_is

text_fails : (p : Parser) (w : List ℕ) (n b : ℕ) → (b ≡ 10) ⊎ ((length w ≡ 80) × ((b == 39) ≡ false)) → step_of (in_text p w) n b ≡ fails n BadString
unfolding step_of
text_fails p w n b (inl h) =
    cond-false _ _ _ (ap (λ (z : ℕ). z == 39) h) ∙ cond-true _ _ _ (eq-eqb _ _ h)
text_fails p w n b (inr h) =
    elim (cases_Bool (b == 10)) [
      | inl y ↦ cond-false _ _ _ h.1 ∙ cond-true _ _ _ y
      | inr x ↦ cond-false _ _ _ h.1 ∙ cond-false _ _ _ x ∙ cond-false (nat_lt (length w) 80) _ _ (le-ltb (length w) 80 (omega (arith, h.0)))
    ]

quote_fails : (p : Parser) (w : List ℕ) (n b : ℕ) → ((b ≡ 39) × (length w ≡ 80)) ⊎ (((b == 39) ≡ false) × (may_follow b ≡ false))
    → step_of (at_quote p w) n b ≡ fails n BadString
unfolding step_of
quote_fails p w n b (inl h) =
    cond-true _ _ _ (eq-eqb _ _ h.0) ∙ cond-false (nat_lt (length w) 80) _ _ (le-ltb (length w) 80 (omega (arith, h.1)))
quote_fails p w n b (inr h) = cond-false _ _ _ h.0 ∙ cond-false _ _ _ h.1

open_text_forced : (p : Parser) (rest : Data) (n : ℕ) → Starts p → HasOpenText rest n → steps_of (record p { run = [] }) rest ≡ fails n BadString
open_text_forced p rest n s h =
    ap (steps_of (record p { run = [] })) h.whole
    ∙ quoted_read p h.content h.text ((n, h.byte) ∷ h.more) s h.content_is h.written h.opened
    ∙ failed_step _ _ n h.byte h.more (text_fails p h.content n h.byte h.breaks)

bad_end_forced : (p : Parser) (rest : Data) (n : ℕ) → Starts p → HasBadEnd rest n → steps_of (record p { run = [] }) rest ≡ fails n BadString
bad_end_forced p rest n s h =
    ap (steps_of (record p { run = [] })) h.whole
    ∙ closed_read p h.content h.text ((n, h.byte) ∷ h.more) s h.content_is h.written h.opened
    ∙ failed_step _ _ n h.byte h.more (quote_fails p h.content n h.byte h.breaks)

bad_value_forced : (p : Parser) (rest : Data) (n : ℕ) (cause : TextCause) → Starts p → Enters p rest → HasBadValue rest n cause
    → steps_of (record p { run = [] }) rest ≡ fails n cause
bad_value_forced p rest n cause s e (inl h) = bad_run_forced p rest n cause s e h.0 h.1
bad_value_forced p rest n cause s e (inr (c, inl h)) = open_text_forced p rest n s h ∙ ap (λ (z : TextCause). fails n z) (sym c)
bad_value_forced p rest n cause s e (inr (c, inr h)) = bad_end_forced p rest n s h ∙ ap (λ (z : TextCause). fails n z) (sym c)

close_forced : (done : List Assignment) (name : List ℕ) (mode : Mode) (k n : ℕ)
    → step_of (signed Signed done name mode k None [] []) n 41 ≡ fails n NoValue
unfolding step_of is_run_byte
close_forced done name mode k n = refl

empty_forced : (done : List Assignment) (name : List ℕ) (mode : Mode) (k l n : ℕ)
    → step_of (signed InList done name mode k (Some l) [] []) n 41 ≡ fails n NoValue
unfolding step_of
empty_forced done name mode k l n = refl

signed_enters : (done : List Assignment) (name : List ℕ) (mode : Mode) (k : ℕ) (rest : Data) → BeginsWithout is_before_value rest
    → Enters (signed Signed done name mode k None [] []) rest
unfolding step_of
signed_enters done name mode k [] h = absurd h
signed_enters done name mode k (b ∷ rest) h =
    let all = or_parts (is_space b.1 || (b.1 == 40)) (b.1 == 41) h in
    let two = or_parts (is_space b.1) (b.1 == 40) all.0 in
    (cond-false _ _ _ two.0 ∙ cond-false _ _ _ two.1, all.1)

listed_enters : (done : List Assignment) (name : List ℕ) (mode : Mode) (k l : ℕ) (vs : List Value) (rest : Data) → BeginsWithout may_follow rest
    → Enters (signed InList done name mode k (Some l) vs []) rest
unfolding step_of
listed_enters done name mode k l vs [] h = absurd h
listed_enters done name mode k l vs (b ∷ rest) h =
    let all = or_parts (is_separator b.1) (b.1 == 41) h in
    (cond-false _ _ _ all.0 ∙ cond-false _ _ _ all.1, all.1)

other_kind_put : (done : List Assignment) (name : List ℕ) (mode : Mode) (k l : ℕ) (first v : Value) (others : List Value) (n b : ℕ)
    → same_kind first v ≡ false → put_of (signed InList done name mode k (Some l) (first ∷ others) []) v n b ≡ fails n MixedKinds
unfolding put_of
other_kind_put done name mode k l first v others n b h = cond-false _ _ _ h

other_kind_forced : (done : List Assignment) (name : List ℕ) (mode : Mode) (k l : ℕ) (vs : List Value) (rest : Data) (n : ℕ) → HasOtherKind vs rest n
    → steps_of (signed InList done name mode k (Some l) vs []) rest ≡ fails n MixedKinds
other_kind_forced done name mode k l vs rest n h =
    ap (steps_of (signed InList done name mode k (Some l) vs [])) h.whole
    ∙ ap (λ (z : List Value). steps_of (signed InList done name mode k (Some l) z []) (h.text ++ ((n, h.byte) ∷ h.more))) h.before
    ∙ value_read _ h.value h.text h.more n h.byte (starts_list done name mode k (Some l) (h.first ∷ h.others)) h.spells h.ends
    ∙ ap (λ (r : Result Parser Fault). r >>= λ z. steps_of z h.more) (other_kind_put done name mode k l h.first h.value h.others n h.byte h.other)

trailing_forced : (done : List Assignment) (name : List ℕ) (mode : Mode) (k : ℕ) (o : Option ℕ) (vs : List Value) (n b : ℕ) → is_space b ≡ false
    → step_of (closed done name mode k o vs) n b ≡ fails n TrailingText
unfolding step_of
trailing_forced done name mode k o vs n b h =
    let both = or_parts (is_blank b) (b == 10) h in
    cond-false _ _ _ both.1 ∙ cond-false _ _ _ both.0

caused : (n : ℕ) (cause other : TextCause) (r : Result Parser Fault) → cause ≡ other → r ≡ fails n other → r ≡ fails n cause
caused n cause other r c h = h ∙ ap (λ (z : TextCause). fails n z) (sym c)

row_forced : (row : Row) (before rest : Data) (n : ℕ) (cause : TextCause) → Stands row before rest → Breaks row rest n cause
    → steps_of (fresh []) (before ++ rest) ≡ fails n cause
row_forced between before rest n cause s (c, h) =
    let r = between_read before rest s in caused n cause NoName _ c (r.is ∙ no_name_forced r.done rest n h)
row_forced behind_name before rest n cause s (c, inl h) =
    let r = named_read before rest s in caused n cause NoSign _ c (r.is ∙ no_sign_forced r.done (plain s.word) s.blanks rest n s.name_is s.are_blanks s.ends h)
row_forced behind_name before rest n cause s (c, inr h) =
    let r = named_read before rest s in caused n cause NoSign _ c (r.is ∙ plus_forced r.done (plain s.word) s.blanks rest n s.name_is s.are_blanks s.ends h)
row_forced (behind_sign line) before rest n cause s (inl (c, h)) =
    let r = signed_read line before rest s in
    caused n cause NoValue _ c (r.is ∙ ap (steps_of (signed Signed r.done r.name r.mode line None [] [])) h.whole
    ∙ failed_step _ _ n 41 h.more (close_forced r.done r.name r.mode line n))
row_forced (behind_sign line) before rest n cause s (inr (b, h)) =
    let r = signed_read line before rest s in
    r.is ∙ bad_value_forced (signed Signed r.done r.name r.mode line None [] []) rest n cause (starts_signed r.done r.name r.mode line) (signed_enters r.done r.name r.mode line rest b) h
row_forced (in_list line vs) before rest n cause s (inl (c, e, h)) =
    let r = listed_read line vs before rest s in
    caused n cause NoValue _ c (r.is ∙ ap (steps_of (signed InList r.done r.name r.mode r.sign_line (Some line) vs [])) h.whole
    ∙ ap (λ (z : List Value). steps_of (signed InList r.done r.name r.mode r.sign_line (Some line) z []) ((n, 41) ∷ h.more)) e
    ∙ failed_step _ _ n 41 h.more (empty_forced r.done r.name r.mode r.sign_line line n))
row_forced (in_list line vs) before rest n cause s (inr (inl (c, h))) =
    let r = listed_read line vs before rest s in
    caused n cause MixedKinds _ c (r.is ∙ other_kind_forced r.done r.name r.mode r.sign_line line vs rest n h)
row_forced (in_list line vs) before rest n cause s (inr (inr (b, h))) =
    let r = listed_read line vs before rest s in
    r.is ∙ bad_value_forced (signed InList r.done r.name r.mode r.sign_line (Some line) vs []) rest n cause (starts_list r.done r.name r.mode r.sign_line (Some line) vs)
    (listed_enters r.done r.name r.mode r.sign_line line vs rest b) h
row_forced behind_values before rest n cause s (c, b, (byte, h)) =
    let r = closed_row_read before rest s in
    caused n cause TrailingText _ c (r.is ∙ ap (steps_of (closed r.done r.name r.mode r.sign_line r.opened r.values)) h.whole
    ∙ failed_step _ _ n byte h.more (trailing_forced r.done r.name r.mode r.sign_line r.opened r.values n byte (first_space n byte h.more rest h.whole b)))

pub fault_forced : (t : Data) (n : ℕ) (cause : TextCause) → HasFault t n cause → steps_of (fresh []) t ≡ fails n cause
fault_forced t n cause h = ap (steps_of (fresh [])) h.whole ∙ row_forced h.row h.before h.rest n cause h.stands h.breaks
