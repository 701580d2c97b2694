-- The plain table of faults says the same as the byte at which the reader stops, row by row.
use Rattle.std.proofs.Common.{inl, inr, ◌≡◌, ℕ, true, false, List, [], ◌∷◌, ◌++◌, refl, ap, sym, ◌∙◌, subst}
use Rattle.std.specs.List.{list_all}
use Rattle.std.proofs.lemmas.Bool.{and_from}
use Rattle.std.proofs.lemmas.List.Folds.{list_all-append}
use Rattle.st_kernel_text.specs.Bytes.{is_space, is_run_byte}
use Rattle.st_kernel_text.specs.FaultSteps as steps
use Rattle.st_kernel_text.specs.FaultSteps.{BeginsWithout, HasByte, HasNoSign, HasPlusAlone, HasBadValue, HasOtherKind}
use Rattle.st_kernel_text.specs.Faults as plainly
use Rattle.st_kernel_text.specs.Faults.{Row, between, behind_name, behind_sign, in_list, behind_values, HasValue, HasAnyValue, IsOther, cause_of, is_before_value}
use Rattle.st_kernel_text.specs.Grammar.{Data, plain, EndsValue, same_kind}
use Rattle.st_kernel_text.specs.Values.{Spells, quoted, is_no_line_end, may_follow}
use Rattle.st_kernel_text.specs.declared.fault.TextCause.{TextCause}
use Rattle.st_kernel_text.specs.declared.fault.TextCause.TheVariants.{MixedKinds, TrailingText}
use Rattle.st_kernel_text.specs.declared.value.Value.{Value}
use Rattle.st_kernel_text.specs.declared.value.Value.TheVariants.{Number, Text}
use Rattle.st_kernel_text.proofs.DataLines.{InLines, rest_lines, word_line, weaker, head_of}
use Rattle.st_kernel_text.proofs.PlainNames.{plain_name, plain_sign, plain_plus, stopped_name, stopped_sign}
use Rattle.st_kernel_text.proofs.PlainScan.{stopped_value}
use Rattle.st_kernel_text.proofs.PlainValues.{NoValueHere, plain_value, run_no_end, quoted_no_end}

-- a value that is spelled has no end of a line in it
value_no_end : (v : Value) (text : List ℕ) → Spells v text → list_all is_no_line_end text ≡ true
value_no_end (Number d) text s = weaker is_run_byte is_no_line_end run_no_end text s.bytes
value_no_end (Text content) text s =
    ap (list_all is_no_line_end) s.whole
    ∙ list_all-append is_no_line_end (quoted content) (39 ∷ [])
    ∙ and_from _ _ (quoted_no_end content s.content_is.one_line) refl

value_some : (v : Value) → Spells v [] → ⊥
value_some (Number d) s = s.reads
value_some (Text content) s = let f = s.whole in absurd (cc)

-- from the reader's byte to the token
value_row : (line : ℕ) (t : Data) (n : ℕ) (cause : TextCause) → BeginsWithout is_before_value t → NoValueHere t n cause → plainly.Breaks (behind_sign line) t n cause
value_row line [] n cause b h = absurd h
value_row line (x ∷ t) n cause b (l, c, lacks) = (l, inr (c, b, lacks))

item_row : (line : ℕ) (vs : List Value) (t : Data) (n : ℕ) (cause : TextCause) → BeginsWithout may_follow t → NoValueHere t n cause → plainly.Breaks (in_list line vs) t n cause
item_row line vs [] n cause b h = absurd h
item_row line vs (x ∷ t) n cause b (l, c, lacks) = (l, inr (inl (c, b, lacks)))

is_other : (first v : Value) (vs others : List Value) → vs ≡ first ∷ others → same_kind first v ≡ false → IsOther vs v
is_other first v vs others e h = subst (λ (z : List Value). IsOther z v) (sym e) h

other_at : (line n byte : ℕ) (vs : List Value) (cause : TextCause) (v : Value) (text more : Data) → InLines (text ++ (n, byte) ∷ more) → cause ≡ MixedKinds → IsOther vs v
    → Spells v (plain text) → may_follow byte ≡ true → plainly.Breaks (in_list line vs) (text ++ (n, byte) ∷ more) n cause
other_at line n byte vs cause v [] more l c other s f = absurd (value_some v s)
other_at line n byte vs cause v (x ∷ text) more l c other s f = (
  sym (word_line x text (n, byte) more (value_no_end v (plain (x ∷ text)) s) l),
  inr (inr (c, record { value = v; text = x ∷ text; rest = (n, byte) ∷ more; fits = other; spells = s; ends = f; whole = refl })),
)

other_row : (line : ℕ) (vs : List Value) (t : Data) (n : ℕ) (cause : TextCause) → InLines t → cause ≡ MixedKinds → HasOtherKind vs t n → plainly.Breaks (in_list line vs) t n cause
other_row line vs t n cause l c h =
    subst (λ (z : Data). plainly.Breaks (in_list line vs) z n cause) (sym h.whole)
    (other_at line n h.byte vs cause h.value h.text h.more (subst InLines h.whole l) c (is_other h.first h.value vs h.others h.before h.other) h.spells h.ends)

trailing_at : (n byte : ℕ) (more : Data) (cause : TextCause) → cause ≡ TrailingText → BeginsWithout is_space ((n, byte) ∷ more) → plainly.Breaks behind_values ((n, byte) ∷ more) n cause
trailing_at n byte more cause c b = (refl, (c, b))

pub plain_row : (row : Row) (t : Data) (n : ℕ) (cause : TextCause) → InLines t → steps.Breaks row t n cause → plainly.Breaks row t n cause
plain_row between t n cause l (c, h) = plain_name t n cause l c h
plain_row behind_name t n cause l (c, inl h) = plain_sign t n cause c h
plain_row behind_name t n cause l (c, inr h) = plain_plus t n cause l c h
plain_row (behind_sign line) t n cause l (inl (c, h)) =
    subst (λ (z : Data). plainly.Breaks (behind_sign line) z n cause) (sym h.whole) (refl, inl (c, refl))
plain_row (behind_sign line) t n cause l (inr (b, h)) = value_row line t n cause b (plain_value t n cause l h)
plain_row (in_list line vs) t n cause l (inl (c, e, h)) =
    subst (λ (z : Data). plainly.Breaks (in_list line vs) z n cause) (sym h.whole) (refl, inl (c, refl, e))
plain_row (in_list line vs) t n cause l (inr (inl (c, h))) = other_row line vs t n cause l c h
plain_row (in_list line vs) t n cause l (inr (inr (b, h))) = item_row line vs t n cause b (plain_value t n cause l h)
plain_row behind_values t n cause l (c, b, (byte, h)) =
    subst (λ (z : Data). plainly.Breaks behind_values z n cause) (sym h.whole) (trailing_at n byte h.more cause c (subst (BeginsWithout is_space) h.whole b))

-- and from the token to the byte
other_kind : (vs : List Value) (b : ℕ × ℕ) (t : Data) → InLines (b ∷ t) → HasValue (IsOther vs) (b ∷ t) → HasOtherKind vs (b ∷ t) b.0
other_kind vs b t l h = by vs h.value h.text h.rest h.fits h.spells h.ends h.whole
  where
    by : (us : List Value) (v : Value) (text rest : Data) → IsOther us v → Spells v (plain text) → EndsValue rest → b ∷ t ≡ text ++ rest → HasOtherKind us (b ∷ t) b.0
    by [] v text rest f s e w = absurd f
    by (u ∷ us) v text [] f s e w = absurd e
    by (u ∷ us) v [] (y ∷ rest) f s e w = absurd (value_some v s)
    by (u ∷ us) v (x ∷ text) (y ∷ rest) f s e w =
        let line : b.0 ≡ y.0 =
        ap (λ (z : ℕ × ℕ). z.0) (head_of b x t (text ++ y ∷ rest) w) ∙ word_line x text y rest (value_no_end v (plain (x ∷ text)) s) (subst InLines w l) in
        record {
          first = u;
          others = us;
          value = v;
          text = x ∷ text;
          byte = y.1;
          more = rest;
          before = refl;
          other = f;
          spells = s;
          ends = e;
          whole = w ∙ ap (λ (k : ℕ). (x ∷ text) ++ ((k, y.1) ∷ rest)) (sym line);
        }

as_byte : (b : ℕ × ℕ) (c : ℕ) (t : Data) → b.1 ≡ c → HasByte c (b ∷ t) b.0
as_byte b c t e = record { more = t; whole = ap (λ (z : ℕ). (b.0, z) ∷ t) e }

at_token : (row : Row) (b : ℕ × ℕ) (t : Data) (cause : TextCause) → InLines (b ∷ t) → plainly.BreaksAt row b.1 (b ∷ t) cause → steps.Breaks row (b ∷ t) b.0 cause
at_token between b t cause l (c, s, lacks) = (c, stopped_name b t l s lacks)
at_token behind_name b t cause l (c, s, lacks) = (c, stopped_sign b t l s lacks)
at_token (behind_sign line) b t cause l (inl (c, e)) = inl (c, as_byte b 41 t e)
at_token (behind_sign line) b t cause l (inr (c, s, lacks)) = inr (s, stopped_value b t cause l c lacks)
at_token (in_list line vs) b t cause l (inl (c, e, none)) = inl (c, none, as_byte b 41 t e)
at_token (in_list line vs) b t cause l (inr (inl (c, s, lacks))) = inr (inr (s, stopped_value b t cause l c lacks))
at_token (in_list line vs) b t cause l (inr (inr (c, h))) = inr (inl (c, other_kind vs b t l h))
at_token behind_values b t cause l (c, s) = (c, s, (b.1, as_byte b b.1 t refl))

pub stopped_row : (row : Row) (t : Data) (n : ℕ) (cause : TextCause) → InLines t → plainly.Breaks row t n cause → steps.Breaks row t n cause
stopped_row row [] n cause l h = absurd h
stopped_row row (b ∷ t) n cause l (e, h) = subst (λ (k : ℕ). steps.Breaks row (b ∷ t) k cause) (sym e) (at_token row b t cause l h)

-- faults of the data of lines
pub plain_fault : (t : Data) (n : ℕ) (cause : TextCause) → InLines t → steps.HasFault t n cause → plainly.HasFault t n cause
plain_fault t n cause l h = record {
  row = h.row;
  before = h.before;
  rest = h.rest;
  stands = h.stands;
  breaks = plain_row h.row h.rest n cause (rest_lines h.before h.rest (subst InLines h.whole l)) h.breaks;
  whole = h.whole;
}

pub stopped_fault : (t : Data) (n : ℕ) (cause : TextCause) → InLines t → plainly.HasFault t n cause → steps.HasFault t n cause
stopped_fault t n cause l h = record {
  row = h.row;
  before = h.before;
  rest = h.rest;
  stands = h.stands;
  breaks = stopped_row h.row h.rest n cause (rest_lines h.before h.rest (subst InLines h.whole l)) h.breaks;
  whole = h.whole;
}
