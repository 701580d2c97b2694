-- A value is read as it is spelled, up to the byte after it.
use Rattle.std.proofs.Common.{inl, inr, ◌≡◌, ℕ, ◌+◌, ◌<◌, ◌≤◌, Bool, true, false, List, [], ◌∷◌, ◌++◌, length, Option, Some, None, Result, Ok, refl, ap, sym, ◌∙◌, arith, append_assoc}
use Rattle.std.specs.Prelude.{◌==◌, ◌||◌, cond}
use Rattle.std.specs.List.{list_all}
use Rattle.std.proofs.lemmas.Bool.{and_parts, cond-true, cond-false, lt-ltb, eqb-true, cases_Bool, not-true, or_left, or_right}
use Rattle.std.proofs.lemmas.Bool.Decides.{nat_tests}
use Rattle.std.proofs.lemmas.Grind.{common_steps}
use Rattle.std.proofs.lemmas.List.{append-nil, length_push}
use Rattle.st_decimal.specs.declared.number.Dec.{Dec}
use Rattle.st_kernel_text.specs.Bytes.{is_space, is_separator, is_run_byte}
use Rattle.st_kernel_text.specs.Fault.{Fault, fails}
use Rattle.st_kernel_text.specs.Grammar.{Data, plain}
use Rattle.st_kernel_text.specs.ParserMachine.{◌>>=◌, start_of, taken_of, put_of, after_in, step_of, steps_of}
use Rattle.st_kernel_text.specs.ValueMachine.{number_of_run, fits}
use Rattle.st_kernel_text.specs.Values.{Spells, SpellsRun, SpellsText, IsContent, ReadsRun, quoted, is_no_line_end, may_follow}
use Rattle.st_kernel_text.specs.declared.fault.TextCause.TheVariants.{MixedKinds}
use Rattle.st_kernel_text.specs.declared.assignment.Assignment.{Assignment}
use Rattle.st_kernel_text.specs.declared.assignment.Mode.{Mode}
use Rattle.st_kernel_text.specs.declared.parser.Parser.{Parser}
use Rattle.st_kernel_text.specs.declared.parser.Stage.{Stage}
use Rattle.st_kernel_text.specs.declared.parser.Stage.TheVariants.{Signed, InList, Run, Quoted, Quote}
use Rattle.st_kernel_text.specs.declared.value.Value.{Value}
use Rattle.st_kernel_text.specs.declared.value.Value.TheVariants.{Number, Text}
use Rattle.st_kernel_text.proofs.Runs.{run_only}
use Rattle.st_kernel_text.proofs.States.{signed, one_step, run_no_follow, follow_no_stop, run_no_quote, follow_no_quote}

-- a first byte and what is after it
pub record Cut (t : Data) (b : ℕ) (u : List ℕ) : Type 0 where
  pub line : ℕ
  pub more : Data
  pub whole : t ≡ (line, b) ∷ more
  pub more_is : plain more ≡ u

pub cut : (t : Data) (b : ℕ) (u : List ℕ) → plain t ≡ b ∷ u → Cut t b u
cut [] b u h = absurd (cc)
cut (x ∷ t) b u h =
    let is : x.1 ≡ b = cc in
    let rest : plain t ≡ u = cc in
    record { line = x.0; more = t; whole = ap (λ (z : ℕ). (x.0, z) ∷ t) is; more_is = rest }

pub no_bytes : (t : Data) → plain t ≡ [] → t ≡ []
no_bytes [] h = refl
no_bytes (x ∷ t) h = absurd (cc)

pub record Split (t : Data) (a b : List ℕ) : Type 0 where
  pub left : Data
  pub right : Data
  pub whole : t ≡ left ++ right
  pub left_is : plain left ≡ a
  pub right_is : plain right ≡ b

pub split : (t : Data) (a b : List ℕ) → plain t ≡ a ++ b → Split t a b
split t [] b h = record { left = []; right = t; whole = refl; left_is = refl; right_is = h }
split t (x ∷ a) b h =
    let c = cut t x (a ++ b) h in
    let s = split c.more a b c.more_is in
    record {
      left = (c.line, x) ∷ s.left;
      right = s.right;
      whole = c.whole ∙ ap (λ (z : Data). (c.line, x) ∷ z) s.whole;
      left_is = ap (λ (z : List ℕ). x ∷ z) s.left_is;
      right_is = s.right_is;
    }

-- the first byte of a value is one of a run, or a quote
abbrev pub opens_value : ℕ → Bool
opens_value b = is_run_byte b || (b == 39)

-- the reader expects a value
abbrev pub Starts : Parser → Type 0
Starts p = (n b : ℕ) → opens_value b ≡ true → step_of (record p { run = [] }) n b ≡ start_of (record p { run = [] }) n b

opens_no_space : (b : ℕ) → opens_value b ≡ true → is_space b ≡ false
unfolding is_run_byte
opens_no_space b h = grind (arith, nat_tests, common_steps)

opens_no_list : (b : ℕ) → opens_value b ≡ true → (b == 40) ≡ false
unfolding is_run_byte
opens_no_list b h = grind (arith, nat_tests, common_steps)

opens_no_close : (b : ℕ) → opens_value b ≡ true → (b == 41) ≡ false
unfolding is_run_byte
opens_no_close b h = grind (arith, nat_tests, common_steps)

opens_no_separator : (b : ℕ) → opens_value b ≡ true → is_separator b ≡ false
unfolding is_run_byte
opens_no_separator b h = grind (arith, nat_tests, common_steps)

pub starts_signed : (done : List Assignment) (name : List ℕ) (mode : Mode) (k : ℕ) → Starts (signed Signed done name mode k None [] [])
unfolding step_of
starts_signed done name mode k n b h = cond-false _ _ _ (opens_no_space b h) ∙ cond-false _ _ _ (opens_no_list b h)

pub starts_list : (done : List Assignment) (name : List ℕ) (mode : Mode) (k : ℕ) (o : Option ℕ) (vs : List Value)
    → Starts (signed InList done name mode k o vs [])
unfolding step_of
starts_list done name mode k o vs n b h = cond-false _ _ _ (opens_no_separator b h) ∙ cond-false _ _ _ (opens_no_close b h)

abbrev pub in_run : Parser → List ℕ → Parser
in_run p w = record p { stage = Run; run = w }

abbrev pub in_text : Parser → List ℕ → Parser
in_text p w = record p { stage = Quoted; run = w }

abbrev pub at_quote : Parser → List ℕ → Parser
at_quote p w = record p { stage = Quote; run = w }

-- the value is put by what stands before it alone
after_same : (o : Option ℕ) (p : Parser) (s r : Stage) (n b : ℕ) → after_in o (record p { stage = s }) n b ≡ after_in o (record p { stage = r }) n b
after_same None p s r n b = refl
after_same (Some k) p s r n b = refl

pub put_same : (p : Parser) (s : Stage) (w : List ℕ) (v : Value) (n b : ℕ) → put_of (record p { stage = s; run = w }) v n b ≡ put_of p v n b
unfolding put_of
put_same p s w v n b =
    ap (λ (r : Result Parser Fault). cond (fits p.values v) r (fails n MixedKinds))
    (after_same p.opened (record p { values = p.values ++ v ∷ []; run = [] }) s p.stage n b)

pub run_opens : (p : Parser) (n b : ℕ) → Starts p → is_run_byte b ≡ true → step_of (record p { run = [] }) n b ≡ Ok (in_run p (b ∷ []))
run_opens p n b s h = s n b (or_left _ _ h) ∙ cond-false _ _ _ (run_no_quote b h) ∙ cond-true _ _ _ h

pub text_opens : (p : Parser) (n : ℕ) → Starts p → step_of (record p { run = [] }) n 39 ≡ Ok (in_text p [])
text_opens p n s = s n 39 (or_right _ _ refl)

pub run_step : (p : Parser) (w : List ℕ) (n b : ℕ) → is_run_byte b ≡ true → step_of (in_run p w) n b ≡ Ok (in_run p (w ++ b ∷ []))
unfolding step_of
run_step p w n b h = cond-true _ _ _ h

pub run_more : (p : Parser) (w : List ℕ) (word rest : Data) → list_all is_run_byte (plain word) ≡ true
    → steps_of (in_run p w) (word ++ rest) ≡ steps_of (in_run p (w ++ plain word)) rest
run_more p w [] rest h = ap (λ (z : List ℕ). steps_of (in_run p z) rest) (sym (append-nil w))
run_more p w (b ∷ word) rest h =
    let both = and_parts (is_run_byte b.1) (list_all is_run_byte (plain word)) h in
    one_step _ _ b.0 b.1 (word ++ rest) (run_step p w b.0 b.1 both.0)
    ∙ run_more p (w ++ b.1 ∷ []) word rest both.1
    ∙ ap (λ (z : List ℕ). steps_of (in_run p z) rest) (append_assoc w (b.1 ∷ []) (plain word))

pub run_read : (p : Parser) (word rest : Data) → Starts p → 0 < length (plain word) → list_all is_run_byte (plain word) ≡ true
    → steps_of (record p { run = [] }) (word ++ rest) ≡ steps_of (in_run p (plain word)) rest
run_read p [] rest s some h = absurd (omega (arith, some))
run_read p (b ∷ word) rest s some h =
    let both = and_parts (is_run_byte b.1) (list_all is_run_byte (plain word)) h in
    one_step _ _ b.0 b.1 (word ++ rest) (run_opens p b.0 b.1 s both.0) ∙ run_more p (b.1 ∷ []) word rest both.1

-- a byte that ends a run
pub run_end : (p : Parser) (w : List ℕ) (n b : ℕ) → is_run_byte b ≡ false → ((b == 40) || (b == 39)) ≡ false
    → step_of (in_run p w) n b ≡ taken_of (number_of_run w) (in_run p w) n b
unfolding step_of
run_end p w n b h s = cond-false _ _ _ h ∙ cond-false _ _ _ s

some_bytes : (t : List ℕ) (d : Dec) → ReadsRun t d → 0 < length t
some_bytes [] d h = absurd h
some_bytes (b ∷ t) d h = omega arith

number_read : (p : Parser) (d : Dec) (text rest : Data) (n b : ℕ) → Starts p → SpellsRun d (plain text) → may_follow b ≡ true
    → steps_of (record p { run = [] }) (text ++ ((n, b) ∷ rest)) ≡ (put_of p (Number d) n b >>= λ z. steps_of z rest)
number_read p d text rest n b s h f =
    run_read p text ((n, b) ∷ rest) s (some_bytes (plain text) d h.reads) h.bytes
    ∙ ap (λ (r : Result Parser Fault). r >>= λ z. steps_of z rest)
    (run_end p (plain text) n b (run_no_follow b f) (follow_no_stop b f)
    ∙ ap (λ (o : Option Dec). taken_of o (in_run p (plain text)) n b) (run_only (plain text) d h.reads)
    ∙ put_same p Run (plain text) (Number d) n b)

-- strings
pub quote_step : (p : Parser) (w : List ℕ) (n : ℕ) → step_of (in_text p w) n 39 ≡ Ok (at_quote p w)
unfolding step_of
quote_step p w n = refl

doubled_step : (p : Parser) (w : List ℕ) (n : ℕ) → length w < 80 → step_of (at_quote p w) n 39 ≡ Ok (in_text p (w ++ 39 ∷ []))
unfolding step_of
doubled_step p w n h = cond-true _ _ _ (lt-ltb _ _ h)

byte_step : (p : Parser) (w : List ℕ) (n b : ℕ) → length w < 80 → (b == 39) ≡ false → (b == 10) ≡ false
    → step_of (in_text p w) n b ≡ Ok (in_text p (w ++ b ∷ []))
unfolding step_of
byte_step p w n b h q e = cond-false _ _ _ q ∙ cond-false _ _ _ e ∙ cond-true _ _ _ (lt-ltb _ _ h)

moved : (p : Parser) (w : List ℕ) (b : ℕ) (content : List ℕ) (rest : Data)
    → steps_of (in_text p ((w ++ b ∷ []) ++ content)) rest ≡ steps_of (in_text p (w ++ b ∷ content)) rest
moved p w b content rest = ap (λ (z : List ℕ). steps_of (in_text p z) rest) (append_assoc w (b ∷ []) content)

pub content_read : (p : Parser) (w content : List ℕ) (t rest : Data) → plain t ≡ quoted content → list_all is_no_line_end content ≡ true
    → length w + length content ≤ 80 → steps_of (in_text p w) (t ++ rest) ≡ steps_of (in_text p (w ++ content)) rest
content_read p w [] t rest e o s =
    ap (λ (z : Data). steps_of (in_text p w) (z ++ rest)) (no_bytes t e) ∙ ap (λ (z : List ℕ). steps_of (in_text p z) rest) (sym (append-nil w))
content_read p w (b ∷ content) t rest e o s =
    let both = and_parts (is_no_line_end b) (list_all is_no_line_end content) o in
    let size : length (w ++ b ∷ []) + length content ≤ 80 = omega (arith, length_push w b) in
    elim (cases_Bool (b == 39)) [
      | inl y ↦
          let is : b ≡ 39 = eqb-true _ _ y in
          let one = cut t 39 (39 ∷ quoted content) (e ∙ cond-true _ _ _ y) in
          let two = cut one.more 39 (quoted content) one.more_is in
          let again : steps_of (in_text p (w ++ 39 ∷ [])) (two.more ++ rest) ≡ steps_of (in_text p ((w ++ b ∷ []) ++ content)) rest =
          ap (λ (z : ℕ). steps_of (in_text p (w ++ z ∷ [])) (two.more ++ rest)) (sym is) ∙ content_read p (w ++ b ∷ []) content two.more rest two.more_is both.1 size in
          ap (λ (z : Data). steps_of (in_text p w) (z ++ rest)) (one.whole ∙ ap (λ (z : Data). (one.line, 39) ∷ z) two.whole)
          ∙ one_step _ _ one.line 39 ((two.line, 39) ∷ (two.more ++ rest)) (quote_step p w one.line)
          ∙ one_step _ _ two.line 39 (two.more ++ rest) (doubled_step p w two.line (omega arith))
          ∙ again ∙ moved p w b content rest
      | inr n ↦
          let one = cut t b (quoted content) (e ∙ cond-false _ _ _ n) in
          ap (λ (z : Data). steps_of (in_text p w) (z ++ rest)) one.whole
          ∙ one_step _ _ one.line b (one.more ++ rest) (byte_step p w one.line b (omega arith) n (not-true _ both.0))
          ∙ content_read p (w ++ b ∷ []) content one.more rest one.more_is both.1 size
          ∙ moved p w b content rest
    ]

closing_step : (p : Parser) (w : List ℕ) (n b : ℕ) → may_follow b ≡ true → step_of (at_quote p w) n b ≡ put_of (at_quote p w) (Text w) n b
unfolding step_of
closing_step p w n b h = cond-false _ _ _ (follow_no_quote b h) ∙ cond-true _ _ _ h

-- a string up to the quote that may be its end
pub quoted_read : (p : Parser) (content : List ℕ) (text rest : Data) → Starts p → IsContent content → plain text ≡ quoted content
    → (n : ℕ) → steps_of (record p { run = [] }) ((n, 39) ∷ (text ++ rest)) ≡ steps_of (in_text p content) rest
quoted_read p content text rest s c e n =
    one_step _ _ n 39 (text ++ rest) (text_opens p n s) ∙ content_read p [] content text rest e c.one_line (omega (arith, c.most))

pub closed_read : (p : Parser) (content : List ℕ) (text rest : Data) → Starts p → IsContent content → plain text ≡ quoted content ++ 39 ∷ []
    → (n : ℕ) → steps_of (record p { run = [] }) ((n, 39) ∷ (text ++ rest)) ≡ steps_of (at_quote p content) rest
closed_read p content text rest s c e n =
    let parts = split text (quoted content) (39 ∷ []) e in
    let last = cut parts.right 39 [] parts.right_is in
    ap (λ (z : Data). steps_of (record p { run = [] }) ((n, 39) ∷ (z ++ rest)))
    (parts.whole ∙ ap (λ (z : Data). parts.left ++ z) (last.whole ∙ ap (λ (z : Data). (last.line, 39) ∷ z) (no_bytes last.more last.more_is)))
    ∙ ap (λ (z : Data). steps_of (record p { run = [] }) ((n, 39) ∷ z)) (append_assoc parts.left ((last.line, 39) ∷ []) rest)
    ∙ quoted_read p content parts.left ((last.line, 39) ∷ rest) s c parts.left_is n
    ∙ one_step _ _ last.line 39 rest (quote_step p content last.line)

text_read : (p : Parser) (content : List ℕ) (text rest : Data) (n b : ℕ) → Starts p → SpellsText content (plain text) → may_follow b ≡ true
    → steps_of (record p { run = [] }) (text ++ ((n, b) ∷ rest)) ≡ (put_of p (Text content) n b >>= λ z. steps_of z rest)
text_read p content text rest n b s h f =
    let first = cut text 39 (quoted content ++ 39 ∷ []) h.whole in
    ap (λ (z : Data). steps_of (record p { run = [] }) (z ++ ((n, b) ∷ rest))) first.whole
    ∙ closed_read p content first.more ((n, b) ∷ rest) s h.content_is first.more_is first.line
    ∙ ap (λ (r : Result Parser Fault). r >>= λ z. steps_of z rest) (closing_step p content n b f ∙ put_same p Quote content (Text content) n b)

pub value_read : (p : Parser) (v : Value) (text rest : Data) (n b : ℕ) → Starts p → Spells v (plain text) → may_follow b ≡ true
    → steps_of (record p { run = [] }) (text ++ ((n, b) ∷ rest)) ≡ (put_of p v n b >>= λ z. steps_of z rest)
value_read p (Number d) text rest n b s h f = number_read p d text rest n b s h f
value_read p (Text content) text rest n b s h f = text_read p content text rest n b s h f
