-- The plain table of faults says the same as the byte at which the reader stops: values.
use Rattle.std.proofs.Common.{inl, inr, ◌⊎◌, ◌≡◌, ℕ, Bool, true, false, List, [], ◌∷◌, ◌++◌, length, refl, ap, sym, ◌∙◌, subst, arith, append_assoc, length-append, eq-eqb}
use Rattle.std.specs.Prelude.{◌==◌}
use Rattle.std.specs.List.{list_all}
use Rattle.std.proofs.lemmas.Bool.{and_parts, and_from, cases_Bool, cond-true, cond-false, eqb-true}
use Rattle.std.proofs.lemmas.Bool.Decides.{nat_tests}
use Rattle.std.proofs.lemmas.Grind.{common_steps}
use Rattle.std.proofs.lemmas.List.Folds.{list_all-append}
use Rattle.st_decimal.specs.declared.number.Dec.{Dec}
use Rattle.st_kernel_text.specs.Bytes.{is_run_byte}
use Rattle.st_kernel_text.specs.FaultSteps.{BeginsWithout, is_quote, HasBadRun, HasOpenText, HasBadEnd, HasBadValue}
use Rattle.st_kernel_text.specs.Faults.{HasAnyValue, cause_of}
use Rattle.st_kernel_text.specs.Grammar.{Data, plain, EndsValue}
use Rattle.st_kernel_text.specs.Values.{Spells, ReadsRun, IsContent, quoted, cause_of_run, is_no_line_end, may_follow}
use Rattle.st_kernel_text.specs.declared.fault.TextCause.{TextCause}
use Rattle.st_kernel_text.specs.declared.fault.TextCause.TheVariants.{BadString}
use Rattle.st_kernel_text.specs.declared.value.Value.{Value}
use Rattle.st_kernel_text.specs.declared.value.Value.TheVariants.{Number, Text}
use Rattle.st_kernel_text.proofs.DataLines.{InLines, one_split, weaker, word_line, head_of}
use Rattle.st_kernel_text.proofs.States.{plain-append, run_no_follow}

-- no value stands at the first byte
abbrev pub NoValueHere : Data → ℕ → TextCause → Type 0
NoValueHere [] n cause = ⊥
NoValueHere (b ∷ t) n cause = (n ≡ b.0) × (cause ≡ cause_of b.1) × (HasAnyValue (b ∷ t) → ⊥)

pub line_feed_no_run : is_run_byte 10 ≡ false
unfolding is_run_byte
line_feed_no_run = refl

pub run_no_end : (b : ℕ) → is_run_byte b ≡ true → is_no_line_end b ≡ true
unfolding is_run_byte
run_no_end b h = grind (arith, nat_tests, common_steps)

no_run_no_at : (b : ℕ) → is_run_byte b ≡ false → (b == 64) ≡ false
unfolding is_run_byte
no_run_no_at b h = grind (arith, nat_tests, common_steps)

both_ways_off : {b : Bool} → b ≡ true → b ≡ false → ⊥
both_ways_off h k = absurd (cc)

-- runs of bytes
quote_first : (content text : List ℕ) (b : ℕ) → b ∷ text ≡ 39 ∷ content → b ≡ 39
quote_first content text b e = cc

no_run_value : (word more : Data) (n byte : ℕ) → BeginsWithout is_quote (word ++ (n, byte) ∷ more) → list_all is_run_byte (plain word) ≡ true
    → is_run_byte byte ≡ false → (may_follow byte ≡ true → (d : Dec) → ReadsRun (plain word) d → ⊥) → HasAnyValue (word ++ (n, byte) ∷ more) → ⊥
no_run_value word more n byte begins bytes longest none h = by h.value h.text h.rest h.spells h.ends h.whole
  where
    by : (v : Value) (text rest : Data) → Spells v (plain text) → EndsValue rest → word ++ (n, byte) ∷ more ≡ text ++ rest → ⊥
    by v text [] s e w = absurd e
    by (Number d) text (y ∷ rest) s e w =
        let o = one_split is_run_byte word text (n, byte) y more rest bytes s.bytes longest (run_no_follow y.1 e) w in
        none (ap (λ (z : ℕ × ℕ). may_follow z.1) o.1 ∙ e) d (subst (λ (z : Data). ReadsRun (plain z) d) (sym o.0) s.reads)
    by (Text content) [] (y ∷ rest) s e w = let f = s.whole in absurd (cc)
    by (Text content) (x ∷ text) (y ∷ rest) s e w =
        let quote : x.1 ≡ 39 = quote_first (quoted content ++ 39 ∷ []) (plain text) x.1 s.whole in
        both_ways_off (eq-eqb x.1 39 quote) (subst (BeginsWithout is_quote) w begins)

run_at : (n : ℕ) (cause : TextCause) (word : Data) (byte : ℕ) (more : Data) → InLines (word ++ (n, byte) ∷ more) → BeginsWithout is_quote (word ++ (n, byte) ∷ more)
    → list_all is_run_byte (plain word) ≡ true → is_run_byte byte ≡ false → cause ≡ cause_of_run (plain word) → (HasAnyValue (word ++ (n, byte) ∷ more) → ⊥)
    → NoValueHere (word ++ (n, byte) ∷ more) n cause
run_at n cause [] byte more l begins bytes longest c lacks =
    (refl, c ∙ sym (cond-false _ _ _ begins ∙ cond-false _ _ _ (no_run_no_at byte longest)), lacks)
run_at n cause (x ∷ word) byte more l begins bytes longest c lacks = (
  sym (word_line x word (n, byte) more (weaker is_run_byte is_no_line_end run_no_end (plain (x ∷ word)) bytes) l),
  c ∙ sym (cond-false _ _ _ begins),
  lacks,
)

plain_run : (t : Data) (n : ℕ) (cause : TextCause) → InLines t → BeginsWithout is_quote t → HasBadRun t n cause → NoValueHere t n cause
plain_run t n cause l begins h =
    let begins_so = subst (BeginsWithout is_quote) h.whole begins in
    subst (λ (z : Data). NoValueHere z n cause) (sym h.whole)
    (run_at n cause h.word h.byte h.more (subst InLines h.whole l) begins_so h.bytes h.longest h.cause_is
    (no_run_value h.word h.more n h.byte begins_so h.bytes h.longest h.none))

-- strings: what is written of two contents is the same as far as the shorter goes
abbrev Follows : List ℕ → Type 0
Follows [] = ⊥
Follows (b ∷ t) = may_follow b ≡ true

doubled : (content more : List ℕ) (b : ℕ) → (b == 39) ≡ true → quoted (b ∷ content) ++ more ≡ 39 ∷ (39 ∷ (quoted content ++ more))
doubled content more b h = ap (λ (z : List ℕ). z ++ more) (cond-true _ _ _ h)

single : (content more : List ℕ) (b : ℕ) → (b == 39) ≡ false → quoted (b ∷ content) ++ more ≡ b ∷ (quoted content ++ more)
single content more b h = ap (λ (z : List ℕ). z ++ more) (cond-false _ _ _ h)

same_first : (a b : ℕ) (s t : List ℕ) → a ∷ s ≡ b ∷ t → a ≡ b
same_first a b s t e = cc

same_rest : (a b : ℕ) (s t : List ℕ) → a ∷ s ≡ b ∷ t → s ≡ t
same_rest a b s t e = cc

not_quote : (b : ℕ) → (b == 39) ≡ false → b ≡ 39 → ⊥
not_quote b h e = both_ways_off (eq-eqb b 39 e) h

quote_no_follow : (t r : List ℕ) → Follows r → r ≡ 39 ∷ t → ⊥
quote_no_follow t r f e = let g = subst Follows e f in both_ways_off g refl

record Aligned (content other tail r : List ℕ) : Type 0 where
  suffix : List ℕ
  longer : other ≡ content ++ suffix
  tail_is : tail ≡ quoted suffix ++ 39 ∷ r

more_aligned : (b c : ℕ) (content other tail r : List ℕ) → b ≡ c → Aligned content other tail r → Aligned (b ∷ content) (c ∷ other) tail r
more_aligned b c content other tail r e a = record {
  suffix = a.suffix;
  longer = ap (λ (z : List ℕ). c ∷ z) a.longer ∙ ap (λ (z : ℕ). z ∷ (content ++ a.suffix)) (sym e);
  tail_is = a.tail_is;
}

align : (content other tail r : List ℕ) → Follows r → quoted content ++ tail ≡ quoted other ++ 39 ∷ r → Aligned content other tail r
align [] other tail r f e = record { suffix = other; longer = refl; tail_is = e }
align (b ∷ content) [] tail r f e =
    elim (cases_Bool (b == 39)) [
      | inl y ↦ absurd (quote_no_follow (quoted content ++ tail) r f (sym (same_rest 39 39 (39 ∷ (quoted content ++ tail)) r (sym (doubled content tail b y) ∙ e))))
      | inr n ↦ absurd (not_quote b n (same_first b 39 (quoted content ++ tail) r (sym (single content tail b n) ∙ e)))
    ]
align (b ∷ content) (c ∷ other) tail r f e =
    elim (cases_Bool (b == 39)) [
      | inl y ↦ elim (cases_Bool (c == 39)) [
        | inl z ↦
            let rest = same_rest 39 39 (39 ∷ (quoted content ++ tail)) (39 ∷ (quoted other ++ 39 ∷ r)) (sym (doubled content tail b y) ∙ e ∙ doubled other (39 ∷ r) c z) in
            more_aligned b c content other tail r (eqb-true _ _ y ∙ sym (eqb-true _ _ z))
            (align content other tail r f (same_rest 39 39 (quoted content ++ tail) (quoted other ++ 39 ∷ r) rest))
        | inr z ↦ absurd (not_quote c z (sym (same_first 39 c (39 ∷ (quoted content ++ tail)) (quoted other ++ 39 ∷ r) (sym (doubled content tail b y) ∙ e ∙ single other (39 ∷ r) c z))))
      ]
      | inr n ↦ elim (cases_Bool (c == 39)) [
        | inl z ↦ absurd (not_quote b n (same_first b 39 (quoted content ++ tail) (39 ∷ (quoted other ++ 39 ∷ r)) (sym (single content tail b n) ∙ e ∙ doubled other (39 ∷ r) c z)))
        | inr z ↦
            let whole = sym (single content tail b n) ∙ e ∙ single other (39 ∷ r) c z in
            more_aligned b c content other tail r (same_first b c (quoted content ++ tail) (quoted other ++ 39 ∷ r) whole)
            (align content other tail r f (same_rest b c (quoted content ++ tail) (quoted other ++ 39 ∷ r) whole))
      ]
    ]

-- a longer content than one of 80 bytes is none
too_long : (content other suffix : List ℕ) (s : ℕ) → length content ≡ 80 → IsContent other → other ≡ content ++ (s ∷ suffix) → ⊥
too_long content other suffix s c o e =
    let size = ap length e ∙ length-append content (s ∷ suffix) in absurd (omega (arith, c, size, o.most))

no_end_inside : (content other suffix : List ℕ) → IsContent other → other ≡ content ++ (10 ∷ suffix) → ⊥
no_end_inside content other suffix o e =
    let all = sym (ap (list_all is_no_line_end) e ∙ list_all-append is_no_line_end content (10 ∷ suffix)) ∙ o.one_line in
    both_ways_off (and_parts (list_all is_no_line_end content) false all).1 refl

open_unlike : (content other more r : List ℕ) (byte : ℕ) → (byte ≡ 10) ⊎ ((length content ≡ 80) × ((byte == 39) ≡ false)) → IsContent other
    → (a : Aligned content other (byte ∷ more) r) → ⊥
open_unlike content other more r byte breaks o a = by a.suffix a.longer a.tail_is breaks
  where
    by : (suffix : List ℕ) → other ≡ content ++ suffix → byte ∷ more ≡ quoted suffix ++ 39 ∷ r → (byte ≡ 10) ⊎ ((length content ≡ 80) × ((byte == 39) ≡ false)) → ⊥
    by [] l t (inl e) = absurd (omega (arith, e, same_first byte 39 more r t))
    by [] l t (inr (c, q)) = not_quote byte q (same_first byte 39 more r t)
    by (s ∷ suffix) l t (inl e) =
        elim (cases_Bool (s == 39)) [
          | inl y ↦ absurd (omega (arith, e, same_first byte 39 more (39 ∷ (quoted suffix ++ 39 ∷ r)) (t ∙ doubled suffix (39 ∷ r) s y)))
          | inr n ↦
              let same : s ≡ 10 = sym (same_first byte s more (quoted suffix ++ 39 ∷ r) (t ∙ single suffix (39 ∷ r) s n)) ∙ e in
              no_end_inside content other suffix o (l ∙ ap (λ (z : ℕ). content ++ (z ∷ suffix)) same)
        ]
    by (s ∷ suffix) l t (inr (c, q)) = too_long content other suffix s c o l

end_unlike : (content other more r : List ℕ) (byte : ℕ) → ((byte ≡ 39) × (length content ≡ 80)) ⊎ (((byte == 39) ≡ false) × (may_follow byte ≡ false)) → IsContent other → Follows r
    → (a : Aligned content other (39 ∷ (byte ∷ more)) r) → ⊥
end_unlike content other more r byte breaks o f a = by a.suffix a.longer a.tail_is breaks
  where
    by : (suffix : List ℕ) → other ≡ content ++ suffix → 39 ∷ (byte ∷ more) ≡ quoted suffix ++ 39 ∷ r
        → ((byte ≡ 39) × (length content ≡ 80)) ⊎ (((byte == 39) ≡ false) × (may_follow byte ≡ false)) → ⊥
    by [] l t (inl (e, c)) = quote_no_follow more r f (sym (same_rest 39 39 (byte ∷ more) r t) ∙ ap (λ (z : ℕ). z ∷ more) e)
    by [] l t (inr (q, n)) = both_ways_off (subst Follows (sym (same_rest 39 39 (byte ∷ more) r t)) f) n
    by (s ∷ suffix) l t (inl (e, c)) = too_long content other suffix s c o l
    by (s ∷ suffix) l t (inr (q, n)) =
        elim (cases_Bool (s == 39)) [
          | inl y ↦
              let behind = same_rest 39 39 (byte ∷ more) (39 ∷ (quoted suffix ++ 39 ∷ r)) (t ∙ doubled suffix (39 ∷ r) s y) in
              not_quote byte q (same_first byte 39 more (quoted suffix ++ 39 ∷ r) behind)
          | inr z ↦ not_quote s z (sym (same_first 39 s (byte ∷ more) (quoted suffix ++ 39 ∷ r) (t ∙ single suffix (39 ∷ r) s z)))
        ]

follows_plain : (rest : Data) → EndsValue rest → Follows (plain rest)
follows_plain [] e = absurd e
follows_plain (b ∷ t) e = e

quote_no_run : is_run_byte 39 ≡ true → ⊥
unfolding is_run_byte
quote_no_run h = absurd (cc)

-- at a quote stands a string or nothing
no_text_value : (opened : ℕ) (body : Data) → ((other : List ℕ) (rest : Data) → IsContent other → EndsValue rest → plain body ≡ quoted other ++ 39 ∷ plain rest → ⊥)
    → HasAnyValue ((opened, 39) ∷ body) → ⊥
no_text_value opened body lacks h = by h.value h.text h.rest h.spells h.ends h.whole
  where
    by : (v : Value) (text rest : Data) → Spells v (plain text) → EndsValue rest → (opened, 39) ∷ body ≡ text ++ rest → ⊥
    by (Number d) [] rest s e w = absurd s.reads
    by (Number d) (x ∷ text) rest s e w =
        let first = head_of (opened, 39) x body (text ++ rest) w in
        quote_no_run (ap (λ (z : ℕ × ℕ). is_run_byte z.1) first ∙ (and_parts (is_run_byte x.1) (list_all is_run_byte (plain text)) s.bytes).0)
    by (Text content) text rest s e w =
        let all : 39 ∷ plain body ≡ (39 ∷ (quoted content ++ 39 ∷ [])) ++ plain rest =
        ap plain w ∙ plain-append text rest ∙ ap (λ (z : List ℕ). z ++ plain rest) s.whole in
        let behind = same_rest 39 39 (plain body) ((quoted content ++ 39 ∷ []) ++ plain rest) all in
        lacks content rest s.content_is e (behind ∙ append_assoc (quoted content) (39 ∷ []) (plain rest))

pub quoted_no_end : (content : List ℕ) → list_all is_no_line_end content ≡ true → list_all is_no_line_end (quoted content) ≡ true
quoted_no_end [] h = refl
quoted_no_end (b ∷ content) h =
    let both = and_parts (is_no_line_end b) (list_all is_no_line_end content) h in
    let rest = quoted_no_end content both.1 in
    elim (cases_Bool (b == 39)) [
      | inl y ↦ ap (list_all is_no_line_end) (cond-true _ _ _ y) ∙ rest
      | inr n ↦ ap (list_all is_no_line_end) (cond-false _ _ _ n) ∙ and_from _ _ both.0 rest
    ]

text_at : (opened n byte : ℕ) (cause : TextCause) (text more : Data) → InLines ((opened, 39) ∷ (text ++ (n, byte) ∷ more)) → list_all is_no_line_end (plain text) ≡ true
    → cause ≡ BadString → (HasAnyValue ((opened, 39) ∷ (text ++ (n, byte) ∷ more)) → ⊥) → NoValueHere ((opened, 39) ∷ (text ++ (n, byte) ∷ more)) n cause
text_at opened n byte cause text more l ends c lacks =
    (sym (word_line (opened, 39) text (n, byte) more (and_from _ _ refl ends) l), c, lacks)

plain_open : (t : Data) (n : ℕ) (cause : TextCause) → InLines t → cause ≡ BadString → HasOpenText t n → NoValueHere t n cause
plain_open t n cause l c h =
    let written = h.written in
    subst (λ (z : Data). NoValueHere z n cause) (sym h.whole)
    (text_at h.opened n h.byte cause h.text h.more (subst InLines h.whole l) (ap (list_all is_no_line_end) written ∙ quoted_no_end h.content h.content_is.one_line) c
    (no_text_value h.opened (h.text ++ (n, h.byte) ∷ h.more) (λ other rest o e w.
    open_unlike h.content other (plain h.more) (plain rest) h.byte h.breaks o
    (align h.content other (h.byte ∷ plain h.more) (plain rest) (follows_plain rest e)
    (sym (plain-append h.text ((n, h.byte) ∷ h.more) ∙ ap (λ (z : List ℕ). z ++ (h.byte ∷ plain h.more)) written) ∙ w)))))

plain_end : (t : Data) (n : ℕ) (cause : TextCause) → InLines t → cause ≡ BadString → HasBadEnd t n → NoValueHere t n cause
plain_end t n cause l c h =
    let written = h.written in
    subst (λ (z : Data). NoValueHere z n cause) (sym h.whole)
    (text_at h.opened n h.byte cause h.text h.more (subst InLines h.whole l)
    (ap (list_all is_no_line_end) written ∙ list_all-append is_no_line_end (quoted h.content) (39 ∷ []) ∙ and_from _ _ (quoted_no_end h.content h.content_is.one_line) refl) c
    (no_text_value h.opened (h.text ++ (n, h.byte) ∷ h.more) (λ other rest o e w.
    end_unlike h.content other (plain h.more) (plain rest) h.byte h.breaks o (follows_plain rest e)
    (align h.content other (39 ∷ (h.byte ∷ plain h.more)) (plain rest) (follows_plain rest e)
    (sym (plain-append h.text ((n, h.byte) ∷ h.more) ∙ ap (λ (z : List ℕ). z ++ (h.byte ∷ plain h.more)) written ∙ append_assoc (quoted h.content) (39 ∷ []) (h.byte ∷ plain h.more)) ∙ w)))))

pub plain_value : (t : Data) (n : ℕ) (cause : TextCause) → InLines t → HasBadValue t n cause → NoValueHere t n cause
plain_value t n cause l (inl (begins, h)) = plain_run t n cause l begins h
plain_value t n cause l (inr (c, inl h)) = plain_open t n cause l c h
plain_value t n cause l (inr (c, inr h)) = plain_end t n cause l c h
