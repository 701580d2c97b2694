-- Where the plain table finds no value, the reader stops at a byte of it.
use Rattle.std.proofs.Common.{inl, inr, ◌⊎◌, ◌≡◌, ℕ, true, false, List, [], ◌∷◌, ◌++◌, length, refl, ap, sym, ◌∙◌, subst, append_assoc, arith}
use Rattle.std.specs.Prelude.{◌==◌, nat_lt}
use Rattle.std.proofs.lemmas.Bool.{cases_Bool, cond-true, eqb-true}
use Rattle.st_kernel_text.specs.Bytes.{is_run_byte}
use Rattle.st_kernel_text.specs.FaultSteps.{BeginsWithout, is_quote, HasBadRun, HasOpenText, HasBadEnd, HasBadValue}
use Rattle.st_kernel_text.specs.Faults.{HasAnyValue, cause_of}
use Rattle.st_kernel_text.specs.Grammar.{Data, plain}
use Rattle.st_kernel_text.specs.Values.{IsContent, quoted, cause_of_run, may_follow}
use Rattle.st_kernel_text.specs.declared.fault.TextCause.{TextCause}
use Rattle.st_kernel_text.specs.declared.fault.TextCause.TheVariants.{BadString}
use Rattle.st_kernel_text.specs.declared.value.Value.TheVariants.{Number, Text}
use Rattle.st_kernel_text.proofs.DataLines.{InLines, split}
use Rattle.st_kernel_text.proofs.Grows.{quoted_byte, quoted_quote}
use Rattle.st_kernel_text.proofs.LiveTokens.{content_more, full}
use Rattle.st_kernel_text.proofs.PlainValues.{NoValueHere, plain_value, line_feed_no_run}
use Rattle.st_kernel_text.proofs.States.{plain-append}

-- what stands after the quote of line `opened`: a string, or one that breaks at some line
abbrev Broken : ℕ → Data → Type 0
Broken opened body = (n : ℕ) × (HasOpenText ((opened, 39) ∷ body) n ⊎ HasBadEnd ((opened, 39) ∷ body) n)

abbrev Scanned : ℕ → Data → Type 0
Scanned opened body = HasAnyValue ((opened, 39) ∷ body) ⊎ Broken opened body

open_here : (opened : ℕ) (done : List ℕ) (seen : Data) (x : ℕ × ℕ) (u : Data) → IsContent done → plain seen ≡ quoted done
    → (x.1 ≡ 10) ⊎ ((length done ≡ 80) × ((x.1 == 39) ≡ false)) → Scanned opened (seen ++ x ∷ u)
open_here opened done seen x u is written breaks =
    inr (x.0, inl (record { opened = opened; content = done; text = seen; byte = x.1; more = u; content_is = is; written = written; breaks = breaks; whole = refl }))

closed_text : (done : List ℕ) (seen : Data) (x : ℕ × ℕ) → plain seen ≡ quoted done → x.1 ≡ 39 → plain (seen ++ x ∷ []) ≡ quoted done ++ 39 ∷ []
closed_text done seen x written q = plain-append seen (x ∷ []) ∙ ap (λ (z : List ℕ). z ++ (x.1 ∷ [])) written ∙ ap (λ (z : ℕ). quoted done ++ z ∷ []) q

end_here : (opened : ℕ) (done : List ℕ) (seen : Data) (x c : ℕ × ℕ) (u : Data) → IsContent done → plain seen ≡ quoted done → x.1 ≡ 39
    → ((c.1 ≡ 39) × (length done ≡ 80)) ⊎ (((c.1 == 39) ≡ false) × (may_follow c.1 ≡ false)) → Scanned opened (seen ++ x ∷ (c ∷ u))
end_here opened done seen x c u is written q breaks =
    inr (
      c.0,
      inr (record {
        opened = opened;
        content = done;
        text = seen ++ x ∷ [];
        byte = c.1;
        more = u;
        content_is = is;
        written = closed_text done seen x written q;
        breaks = breaks;
        whole = ap (λ (z : Data). (opened, 39) ∷ z) (sym (append_assoc seen (x ∷ []) (c ∷ u)));
      }),
    )

value_here : (opened : ℕ) (done : List ℕ) (seen : Data) (x c : ℕ × ℕ) (u : Data) → IsContent done → plain seen ≡ quoted done → x.1 ≡ 39
    → may_follow c.1 ≡ true → Scanned opened (seen ++ x ∷ (c ∷ u))
value_here opened done seen x c u is written q follows =
    inl (record {
      value = Text done;
      text = (opened, 39) ∷ (seen ++ x ∷ []);
      rest = c ∷ u;
      fits = tt;
      spells = record { content_is = is; whole = ap (λ (z : List ℕ). 39 ∷ z) (closed_text done seen x written q) };
      ends = follows;
      whole = ap (λ (z : Data). (opened, 39) ∷ z) (sym (append_assoc seen (x ∷ []) (c ∷ u)));
    })

more_seen : (opened : ℕ) (seen : Data) (x : ℕ × ℕ) (u : Data) → Scanned opened ((seen ++ x ∷ []) ++ u) → Scanned opened (seen ++ x ∷ u)
more_seen opened seen x u h = subst (Scanned opened) (append_assoc seen (x ∷ []) u) h

byte_written : (done : List ℕ) (seen : Data) (x : ℕ × ℕ) → plain seen ≡ quoted done → (x.1 == 39) ≡ false → plain (seen ++ x ∷ []) ≡ quoted (done ++ x.1 ∷ [])
byte_written done seen x written q = plain-append seen (x ∷ []) ∙ ap (λ (z : List ℕ). z ++ (x.1 ∷ [])) written ∙ sym (quoted_byte done x.1 q)

two_written : (done : List ℕ) (seen : Data) (x c : ℕ × ℕ) → plain seen ≡ quoted done → x.1 ≡ 39 → c.1 ≡ 39 → plain ((seen ++ x ∷ []) ++ c ∷ []) ≡ quoted (done ++ 39 ∷ [])
two_written done seen x c written q r =
    plain-append (seen ++ x ∷ []) (c ∷ []) ∙ ap (λ (z : List ℕ). z ++ (c.1 ∷ [])) (closed_text done seen x written q)
    ∙ ap (λ (z : ℕ). (quoted done ++ 39 ∷ []) ++ z ∷ []) r ∙ sym (quoted_quote done)

-- a byte that is no quote
plain_byte : (opened : ℕ) (done : List ℕ) (seen : Data) (x : ℕ × ℕ) (u : Data) → IsContent done → plain seen ≡ quoted done → (x.1 == 39) ≡ false
    → ((x.1 == 10) ≡ false → IsContent (done ++ x.1 ∷ []) → Scanned opened ((seen ++ x ∷ []) ++ u)) → Scanned opened (seen ++ x ∷ u)
plain_byte opened done seen x u is written q on =
    elim (cases_Bool (x.1 == 10)) [
      | inl y ↦ open_here opened done seen x u is written (inl (eqb-true _ _ y))
      | inr n ↦ elim (cases_Bool (nat_lt (length done) 80)) [
        | inl less ↦ more_seen opened seen x u (on n (content_more done x.1 is less n))
        | inr all ↦ open_here opened done seen x u is written (inr (full done is all, q))
      ]
    ]

-- a quote, and the byte after it
quote_then : (opened : ℕ) (done : List ℕ) (seen : Data) (x c : ℕ × ℕ) (u : Data) → IsContent done → plain seen ≡ quoted done → x.1 ≡ 39
    → (c.1 ≡ 39 → IsContent (done ++ 39 ∷ []) → Scanned opened (((seen ++ x ∷ []) ++ c ∷ []) ++ u)) → Scanned opened (seen ++ x ∷ (c ∷ u))
quote_then opened done seen x c u is written q on =
    elim (cases_Bool (c.1 == 39)) [
      | inl y ↦ elim (cases_Bool (nat_lt (length done) 80)) [
        | inl less ↦ more_seen opened seen x (c ∷ u) (more_seen opened (seen ++ x ∷ []) c u (on (eqb-true _ _ y) (content_more done 39 is less refl)))
        | inr all ↦ end_here opened done seen x c u is written q (inl (eqb-true _ _ y, full done is all))
      ]
      | inr n ↦ elim (cases_Bool (may_follow c.1)) [
        | inl f ↦ value_here opened done seen x c u is written q f
        | inr f ↦ end_here opened done seen x c u is written q (inr (n, f))
      ]
    ]

no_end_quote : (b : ℕ) → b ≡ 10 → b ≡ 39 → ⊥
no_end_quote b e f = absurd (omega (arith, e, f))

scan : (opened : ℕ) (x : ℕ × ℕ) (u : Data) (done : List ℕ) (seen : Data) → InLines (x ∷ u) → IsContent done → plain seen ≡ quoted done → Scanned opened (seen ++ x ∷ u)
scan opened x [] done seen l is written = open_here opened done seen x [] is written (inl l)
scan opened x (c ∷ []) done seen l is written =
    elim (cases_Bool (x.1 == 39)) [
      | inl y ↦ quote_then opened done seen x c [] is written (eqb-true _ _ y) (λ q k. absurd (no_end_quote c.1 l.1 q))
      | inr n ↦ plain_byte opened done seen x (c ∷ []) is written n (λ e k. scan opened c [] (done ++ x.1 ∷ []) (seen ++ x ∷ []) l.1 k (byte_written done seen x written n))
    ]
scan opened x (c ∷ d ∷ u) done seen l is written =
    elim (cases_Bool (x.1 == 39)) [
      | inl y ↦ quote_then opened done seen x c (d ∷ u) is written (eqb-true _ _ y)
          (λ q k. scan opened d u (done ++ 39 ∷ []) ((seen ++ x ∷ []) ++ c ∷ []) l.1.1 k (two_written done seen x c written (eqb-true _ _ y) q))
      | inr n ↦ plain_byte opened done seen x (c ∷ d ∷ u) is written n (λ e k. scan opened c (d ∷ u) (done ++ x.1 ∷ []) (seen ++ x ∷ []) l.1 k (byte_written done seen x written n))
    ]

no_content : IsContent []
no_content = record { most = omega arith; one_line = refl }

-- the first line is that of the whole token
first_line : (n : ℕ) (b : ℕ × ℕ) (t : Data) (cause : TextCause) → NoValueHere (b ∷ t) n cause → n ≡ b.0
first_line n b t cause h = h.0

at_first : (n : ℕ) (b : ℕ × ℕ) (t : Data) (cause : TextCause) → InLines (b ∷ t) → HasBadValue (b ∷ t) n cause → HasBadValue (b ∷ t) b.0 cause
at_first n b t cause l h = subst (λ (z : ℕ). HasBadValue (b ∷ t) z cause) (first_line n b t cause (plain_value (b ∷ t) n cause l h)) h

text_stops : (b : ℕ × ℕ) (t : Data) → InLines (b ∷ t) → b.1 ≡ 39 → (HasAnyValue (b ∷ t) → ⊥) → HasBadValue (b ∷ t) b.0 BadString
text_stops b [] l q lacks = absurd (no_end_quote b.1 l q)
text_stops b (x ∷ t) l q lacks =
    let same : (b.0, 39) ∷ (x ∷ t) ≡ b ∷ (x ∷ t) = ap (λ (z : ℕ). (b.0, z) ∷ (x ∷ t)) (sym q) in
    by same (scan b.0 x t [] [] l.1 no_content refl)
  where
    by : (b.0, 39) ∷ (x ∷ t) ≡ b ∷ (x ∷ t) → Scanned b.0 (x ∷ t) → HasBadValue (b ∷ (x ∷ t)) b.0 BadString
    by same (inl value) = absurd (lacks (subst HasAnyValue same value))
    by same (inr (n, inl h)) = at_first n b (x ∷ t) BadString l (inr (refl, inl (subst (λ (z : Data). HasOpenText z n) same h)))
    by same (inr (n, inr h)) = at_first n b (x ∷ t) BadString l (inr (refl, inr (subst (λ (z : Data). HasBadEnd z n) same h)))

run_cause : (b : ℕ × ℕ) (t : Data) (n : ℕ) (cause : TextCause) → InLines (b ∷ t) → BeginsWithout is_quote (b ∷ t) → HasBadRun (b ∷ t) n cause → HasBadValue (b ∷ t) b.0 (cause_of b.1)
run_cause b t n cause l begins h =
    let bad : HasBadValue (b ∷ t) n cause = inl (begins, h) in
    subst (HasBadValue (b ∷ t) b.0) (plain_value (b ∷ t) n cause l bad).1 (at_first n b t cause l bad)

run_stops : (b : ℕ × ℕ) (t : Data) → InLines (b ∷ t) → (b.1 == 39) ≡ false → (HasAnyValue (b ∷ t) → ⊥) → HasBadValue (b ∷ t) b.0 (cause_of b.1)
run_stops b t l q lacks =
    let s = split is_run_byte line_feed_no_run b t l in
    run_cause b t s.byte.0 (cause_of_run (plain s.word)) l q (record {
      word = s.word;
      byte = s.byte.1;
      more = s.more;
      bytes = s.passes;
      longest = s.stops;
      none = λ follows d reads. lacks (record {
        value = Number d;
        text = s.word;
        rest = s.byte ∷ s.more;
        fits = tt;
        spells = record { bytes = s.passes; reads = reads };
        ends = follows;
        whole = s.whole;
      });
      cause_is = refl;
      whole = s.whole;
    })

pub stopped_value : (b : ℕ × ℕ) (t : Data) (cause : TextCause) → InLines (b ∷ t) → cause ≡ cause_of b.1 → (HasAnyValue (b ∷ t) → ⊥) → HasBadValue (b ∷ t) b.0 cause
stopped_value b t cause l c lacks =
    elim (cases_Bool (b.1 == 39)) [
      | inl y ↦ subst (HasBadValue (b ∷ t) b.0) (sym (c ∙ cond-true _ _ _ y)) (text_stops b t l (eqb-true _ _ y) lacks)
      | inr n ↦ subst (HasBadValue (b ∷ t) b.0) (sym c) (run_stops b t l n lacks)
    ]
