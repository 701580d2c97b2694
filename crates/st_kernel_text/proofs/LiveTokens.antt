-- One more byte in a value, and all bytes one by one.
use Rattle.std.proofs.Common.{inl, inr, ◌⊎◌, ◌≡◌, ℕ, ◌<◌, true, false, List, [], ◌∷◌, ◌++◌, length, Option, Some, None, Result, Ok, Err, refl, ap, sym, ◌∙◌, subst, arith, append_assoc}
use Rattle.std.specs.Prelude.{◌==◌, ◌||◌, nat_lt}
use Rattle.std.specs.List.{list_all}
use Rattle.std.proofs.lemmas.Bool.{and_parts, and_from, cond_both, eqb-true, or_left, or_right, both_ways, ltb-true, ltb-false, not_from_false}
use Rattle.std.proofs.lemmas.Bool.Decides.{nat_tests}
use Rattle.std.proofs.lemmas.Grind.{common_steps}
use Rattle.std.proofs.lemmas.List.{append-nil, length_push}
use Rattle.std.proofs.lemmas.List.Folds.{list_all-append}
use Rattle.st_decimal.specs.declared.number.Dec.{Dec}
use Rattle.st_kernel_text.specs.Bytes.{is_run_byte}
use Rattle.st_kernel_text.specs.Fault.{Fault}
use Rattle.st_kernel_text.specs.FaultSteps.{HasFault, BeginsWithout, is_quote}
use Rattle.st_kernel_text.specs.Grammar.{Data, plain}
use Rattle.st_kernel_text.specs.ParserMachine.{◌>>=◌, taken_of, step_of, steps_of}
use Rattle.st_kernel_text.specs.ValueMachine.{number_of_run}
use Rattle.st_kernel_text.specs.Values.{ReadsRun, IsContent, quoted, cause_of_run, is_no_line_end, may_follow}
use Rattle.st_kernel_text.specs.declared.fault.TextCause.TheVariants.{BadString}
use Rattle.st_kernel_text.specs.declared.parser.Parser.{Parser}
use Rattle.st_kernel_text.specs.declared.parser.Stage.TheVariants.{Run, Quote}
use Rattle.st_kernel_text.specs.declared.value.Value.TheVariants.{Number, Text}
use Rattle.st_kernel_text.proofs.Grows.{all_more, quoted_byte, quoted_quote}
use Rattle.st_kernel_text.proofs.Live.{Waits, waits_signed, waits_listed, Live, live_between, live_naming, live_named, live_plus, live_waits, live_run, live_text, live_quote, live_closed, Outcome, goes_on, breaks_off, went_on, broke_off}
use Rattle.st_kernel_text.proofs.LiveNames.{on_between, on_naming}
use Rattle.st_kernel_text.proofs.LiveSigns.{on_named, on_plus}
use Rattle.st_kernel_text.proofs.LiveLists.{on_list, put_value}
use Rattle.st_kernel_text.proofs.LiveValues.{OpensValue, value_breaks, on_signed, on_behind}
use Rattle.st_kernel_text.proofs.ReadValues.{in_run, in_text, at_quote, put_same}
use Rattle.st_kernel_text.proofs.Runs.{run_reads, run_none}
use Rattle.st_kernel_text.proofs.States.{plain-append, follow_no_stop, run_no_quote}

opens_run : (word rest : Data) → 0 < length (plain word) → list_all is_run_byte (plain word) ≡ true → OpensValue (word ++ rest)
opens_run [] rest s h = absurd (omega (arith, s))
opens_run (x ∷ word) rest s h =
    or_left _ _ (and_parts (is_run_byte x.1) (list_all is_run_byte (plain word)) h).0

no_quote_first : (word rest : Data) → 0 < length (plain word) → list_all is_run_byte (plain word) ≡ true → BeginsWithout is_quote (word ++ rest)
no_quote_first [] rest s h = absurd (omega (arith, s))
no_quote_first (x ∷ word) rest s h = run_no_quote x.1 (and_parts (is_run_byte x.1) (list_all is_run_byte (plain word)) h).0

run_more_some : (word : Data) (x : ℕ × ℕ) → 0 < length (plain (word ++ x ∷ []))
run_more_some [] x = omega arith
run_more_some (y ∷ word) x = omega arith

bad_run : (t front word : Data) (q : Parser) (n b : ℕ) → Waits front q → 0 < length (plain word) → list_all is_run_byte (plain word) ≡ true
    → t ≡ front ++ word → is_run_byte b ≡ false → (may_follow b ≡ true → (d : Dec) → ReadsRun (plain word) d → ⊥)
    → (rest : Data) → HasFault (t ++ ((n, b) ∷ rest)) n (cause_of_run (plain word))
bad_run t front word q n b waits some bytes w byte none rest =
    subst (λ (z : Data). HasFault z n (cause_of_run (plain word)))
    (sym (ap (λ (z : Data). z ++ ((n, b) ∷ rest)) w ∙ append_assoc front word ((n, b) ∷ rest)))
    (value_breaks front (word ++ ((n, b) ∷ rest)) q n (cause_of_run (plain word)) waits (opens_run word ((n, b) ∷ rest) some bytes)
    (inl (
      no_quote_first word ((n, b) ∷ rest) some bytes,
      record {
        word = word;
        byte = b;
        more = rest;
        bytes = bytes;
        longest = byte;
        none = none;
        cause_is = refl;
        whole = refl;
      },
    )))

run_stop : (b : ℕ) → is_run_byte b ≡ false → ((b == 40) || (b == 39)) ≡ false → may_follow b ≡ true
unfolding is_run_byte
run_stop b h s = grind (arith, nat_tests, common_steps)

taken : (t front word : Data) (q : Parser) (n b : ℕ) → Waits front q → 0 < length (plain word) → list_all is_run_byte (plain word) ≡ true
    → t ≡ front ++ word → is_run_byte b ≡ false → may_follow b ≡ true → (o : Option Dec) → number_of_run (plain word) ≡ o
    → Outcome t n b (taken_of o (in_run q (plain word)) n b)
taken t front word q n b waits some bytes w byte f None e =
    breaks_off t n b _ (bad_run t front word q n b waits some bytes w byte (λ g. run_none (plain word) e))
taken t front word q n b waits some bytes w byte f (Some d) e =
    subst (Outcome t n b) (sym (put_same q Run (plain word) (Number d) n b))
    (put_value t front word q (Number d) n b waits (record { bytes = bytes; reads = run_reads (plain word) d e }) f w)

on_run : (t front word : Data) (q : Parser) (n b : ℕ) → Waits front q → 0 < length (plain word) → list_all is_run_byte (plain word) ≡ true
    → t ≡ front ++ word → Outcome t n b (step_of (in_run q (plain word)) n b)
unfolding step_of
on_run t front word q n b waits some bytes w =
    cond_both (is_run_byte b) _ _ (Outcome t n b)
    (λ byte. goes_on t n b (in_run q (plain word ++ b ∷ [])) (live_run (record {
      state = q;
      front = front;
      word = word ++ (n, b) ∷ [];
      is = ap (in_run q) (sym (plain-append word ((n, b) ∷ [])));
      waits = waits;
      some = run_more_some word (n, b);
      bytes = all_more is_run_byte word n b bytes byte;
      whole = ap (λ (z : Data). z ++ (n, b) ∷ []) w ∙ append_assoc front word ((n, b) ∷ []);
    })))
    (λ byte. cond_both ((b == 40) || (b == 39)) _ _ (Outcome t n b)
    (λ stop. breaks_off t n b _ (bad_run t front word q n b waits some bytes w byte
    (λ f d r. both_ways _ (follow_no_stop b f) stop)))
    (λ stop. taken t front word q n b waits some bytes w byte (run_stop b byte stop) (number_of_run (plain word)) refl))

-- strings
text_breaks : (t front text : Data) (q : Parser) (k n b : ℕ) (content : List ℕ) → Waits front q → IsContent content → plain text ≡ quoted content
    → t ≡ front ++ ((k, 39) ∷ text) → (b ≡ 10) ⊎ ((length content ≡ 80) × ((b == 39) ≡ false)) → (rest : Data) → HasFault (t ++ ((n, b) ∷ rest)) n BadString
text_breaks t front text q k n b content waits c e w how rest =
    subst (λ (z : Data). HasFault z n BadString)
    (sym (ap (λ (z : Data). z ++ ((n, b) ∷ rest)) w ∙ append_assoc front ((k, 39) ∷ text) ((n, b) ∷ rest)))
    (value_breaks front ((k, 39) ∷ (text ++ ((n, b) ∷ rest))) q n BadString waits (or_right _ _ refl)
    (inr (refl, inl (record { opened = k; content = content; text = text; byte = b; more = rest; content_is = c; written = e; breaks = how; whole = refl }))))

quote_breaks : (t front text : Data) (q : Parser) (k n b : ℕ) (content : List ℕ) → Waits front q → IsContent content → plain text ≡ quoted content ++ 39 ∷ []
    → t ≡ front ++ ((k, 39) ∷ text) → ((b ≡ 39) × (length content ≡ 80)) ⊎ (((b == 39) ≡ false) × (may_follow b ≡ false))
    → (rest : Data) → HasFault (t ++ ((n, b) ∷ rest)) n BadString
quote_breaks t front text q k n b content waits c e w how rest =
    subst (λ (z : Data). HasFault z n BadString)
    (sym (ap (λ (z : Data). z ++ ((n, b) ∷ rest)) w ∙ append_assoc front ((k, 39) ∷ text) ((n, b) ∷ rest)))
    (value_breaks front ((k, 39) ∷ (text ++ ((n, b) ∷ rest))) q n BadString waits (or_right _ _ refl)
    (inr (refl, inr (record { opened = k; content = content; text = text; byte = b; more = rest; content_is = c; written = e; breaks = how; whole = refl }))))

pub content_more : (content : List ℕ) (b : ℕ) → IsContent content → nat_lt (length content) 80 ≡ true → (b == 10) ≡ false → IsContent (content ++ b ∷ [])
content_more content b c h e = record {
  most = omega (arith, length_push content b, ltb-true (length content) 80 h);
  one_line = list_all-append is_no_line_end content (b ∷ []) ∙ and_from _ _ c.one_line (and_from _ _ (not_from_false _ e) refl);
}

pub full : (content : List ℕ) → IsContent content → nat_lt (length content) 80 ≡ false → length content ≡ 80
full content c h = omega (arith, c.most, ltb-false (length content) 80 h)

text_longer : (t front text : Data) (k n b : ℕ) → t ≡ front ++ ((k, 39) ∷ text) → t ++ (n, b) ∷ [] ≡ front ++ ((k, 39) ∷ (text ++ (n, b) ∷ []))
text_longer t front text k n b w = ap (λ (z : Data). z ++ (n, b) ∷ []) w ∙ append_assoc front ((k, 39) ∷ text) ((n, b) ∷ [])

on_text : (t front text : Data) (q : Parser) (k n b : ℕ) (content : List ℕ) → Waits front q → IsContent content → plain text ≡ quoted content
    → t ≡ front ++ ((k, 39) ∷ text) → Outcome t n b (step_of (in_text q content) n b)
unfolding step_of
on_text t front text q k n b content waits c e w =
    cond_both (b == 39) _ _ (Outcome t n b)
    (λ quote. goes_on t n b (at_quote q content) (live_quote (record {
      state = q;
      front = front;
      line = k;
      text = text ++ (n, b) ∷ [];
      content = content;
      is = refl;
      waits = waits;
      content_is = c;
      written = plain-append text ((n, b) ∷ []) ∙ ap (λ (z : List ℕ). z ++ b ∷ []) e ∙ ap (λ (z : ℕ). quoted content ++ z ∷ []) (eqb-true b 39 quote);
      whole = text_longer t front text k n b w;
    })))
    (λ quote. cond_both (b == 10) _ _ (Outcome t n b)
    (λ end. breaks_off t n b _ (text_breaks t front text q k n b content waits c e w (inl (eqb-true b 10 end))))
    (λ end. cond_both (nat_lt (length content) 80) _ _ (Outcome t n b)
    (λ room. goes_on t n b (in_text q (content ++ b ∷ [])) (live_text (record {
      state = q;
      front = front;
      line = k;
      text = text ++ (n, b) ∷ [];
      content = content ++ b ∷ [];
      is = refl;
      waits = waits;
      content_is = content_more content b c room end;
      written = plain-append text ((n, b) ∷ []) ∙ ap (λ (z : List ℕ). z ++ b ∷ []) e ∙ sym (quoted_byte content b quote);
      whole = text_longer t front text k n b w;
    })))
    (λ room. breaks_off t n b _ (text_breaks t front text q k n b content waits c e w (inr (full content c room, quote))))))

on_quote : (t front text : Data) (q : Parser) (k n b : ℕ) (content : List ℕ) → Waits front q → IsContent content → plain text ≡ quoted content ++ 39 ∷ []
    → t ≡ front ++ ((k, 39) ∷ text) → Outcome t n b (step_of (at_quote q content) n b)
unfolding step_of
on_quote t front text q k n b content waits c e w =
    cond_both (b == 39) _ _ (Outcome t n b)
    (λ quote.
    let is = eqb-true b 39 quote in
    cond_both (nat_lt (length content) 80) _ _ (Outcome t n b)
    (λ room. goes_on t n b (in_text q (content ++ b ∷ [])) (live_text (record {
      state = q;
      front = front;
      line = k;
      text = text ++ (n, b) ∷ [];
      content = content ++ b ∷ [];
      is = refl;
      waits = waits;
      content_is = content_more content b c room (ap (λ (z : ℕ). z == 10) is);
      written = plain-append text ((n, b) ∷ []) ∙ ap (λ (z : List ℕ). z ++ b ∷ []) e
          ∙ ap (λ (z : ℕ). (quoted content ++ 39 ∷ []) ++ z ∷ []) is ∙ sym (quoted_quote content)
          ∙ ap (λ (z : ℕ). quoted (content ++ z ∷ [])) (sym is);
      whole = text_longer t front text k n b w;
    })))
    (λ room. breaks_off t n b _ (quote_breaks t front text q k n b content waits c e w (inl (is, full content c room)))))
    (λ quote. cond_both (may_follow b) _ _ (Outcome t n b)
    (λ f. subst (Outcome t n b) (sym (put_same q Quote content (Text content) n b))
    (put_value t front ((k, 39) ∷ text) q (Text content) n b waits (record { content_is = c; whole = ap (λ (z : List ℕ). 39 ∷ z) e }) f w))
    (λ f. breaks_off t n b _ (quote_breaks t front text q k n b content waits c e w (inr (quote, f)))))

-- one more byte in any state
by_state : (t : Data) (p q : Parser) (n b : ℕ) → p ≡ q → Outcome t n b (step_of q n b) → Outcome t n b (step_of p n b)
by_state t p q n b e h = subst (λ (z : Parser). Outcome t n b (step_of z n b)) (sym e) h

pub live_step : (t : Data) (p : Parser) (n b : ℕ) → Live t p → Outcome t n b (step_of p n b)
live_step t p n b (live_between h) = by_state t p _ n b h.is (on_between h.done t n b h.spells)
live_step t p n b (live_naming h) = by_state t p _ n b h.is (on_naming h.done t h.front h.word n b h.spells h.some h.bytes h.whole)
live_step t p n b (live_named h) = by_state t p _ n b h.is (on_named h.done t h.front h.word h.blanks h.blank n b h.spells h.name_is h.are_blanks h.whole)
live_step t p n b (live_plus h) = by_state t p _ n b h.is (on_plus h.done t h.front h.word h.blanks h.blank h.line n b h.spells h.name_is h.are_blanks h.whole)
live_step t p n b (live_waits (waits_signed h)) = by_state t p _ n b h.is (on_signed h.done h.name h.mode h.line t n b h.head)
live_step t p n b (live_waits (waits_listed h)) =
    by_state t p _ n b h.is (on_list h.done h.name h.mode h.line h.opened h.values t h.front h.items n b h.head h.kind h.spells h.whole)
live_step t p n b (live_run h) = by_state t p _ n b h.is (on_run t h.front h.word h.state n b h.waits h.some h.bytes h.whole)
live_step t p n b (live_text h) = by_state t p _ n b h.is (on_text t h.front h.text h.state h.line n b h.content h.waits h.content_is h.written h.whole)
live_step t p n b (live_quote h) = by_state t p _ n b h.is (on_quote t h.front h.text h.state h.line n b h.content h.waits h.content_is h.written h.whole)
live_step t p n b (live_closed h) =
    by_state t p _ n b h.is (on_behind h.done h.name h.mode h.line h.opened h.values t h.front h.body h.blanks n b h.head (λ rest. h.body_is ((n, b) ∷ rest)) h.are_blanks h.whole)

-- all bytes: a state again, or a fault
pub Outcomes : Data → Data → Result Parser Fault → Type 0
Outcomes t u (Ok q) = Live (t ++ u) q
Outcomes t u (Err f) = (rest : Data) → HasFault (t ++ (u ++ rest)) f.line f.cause

pub went_all : (t u : Data) (q : Parser) → Outcomes t u (Ok q) → Live (t ++ u) q
unfolding Outcomes
went_all t u q h = h

pub broke_all : (t u : Data) (f : Fault) → Outcomes t u (Err f) → (rest : Data) → HasFault (t ++ (u ++ rest)) f.line f.cause
unfolding Outcomes
broke_all t u f h = h

shifted : (t u : Data) (x : ℕ × ℕ) (r : Result Parser Fault) → Outcomes (t ++ x ∷ []) u r → Outcomes t (x ∷ u) r
unfolding Outcomes
shifted t u x (Ok q) h = subst (λ (z : Data). Live z q) (append_assoc t (x ∷ []) u) h
shifted t u x (Err f) h = λ rest. subst (λ (z : Data). HasFault z f.line f.cause) (append_assoc t (x ∷ []) (u ++ rest)) (h rest)

stops : (t u : Data) (n b : ℕ) (f : Fault) → Outcome t n b (Err f) → Outcomes t ((n, b) ∷ u) (Err f)
unfolding Outcomes
stops t u n b f h = λ rest. broke_off t n b f h (u ++ rest)

done_live : (t : Data) (p : Parser) → Live t p → Outcomes t [] (Ok p)
unfolding Outcomes
done_live t p h = subst (λ (z : Data). Live z p) (sym (append-nil t)) h

on_first : (t u : Data) (x : ℕ × ℕ) (r : Result Parser Fault) → ((q : Parser) → Live (t ++ x ∷ []) q → Outcomes (t ++ x ∷ []) u (steps_of q u))
    → Outcome t x.0 x.1 r → Outcomes t (x ∷ u) (r >>= λ q. steps_of q u)
on_first t u x (Ok q) more h = shifted t u x (steps_of q u) (more q (went_on t x.0 x.1 q h))
on_first t u x (Err f) more h = stops t u x.0 x.1 f h

pub live_steps : (t u : Data) (p : Parser) → Live t p → Outcomes t u (steps_of p u)
live_steps t [] p h = done_live t p h
live_steps t (x ∷ u) p h =
    on_first t u x (step_of p x.0 x.1) (λ q l. live_steps (t ++ x ∷ []) u q l) (live_step t p x.0 x.1 h)
