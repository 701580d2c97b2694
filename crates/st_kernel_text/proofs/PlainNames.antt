-- The plain table of faults says the same as the byte at which the reader stops: names and signs.
use Rattle.std.proofs.Common.{inl, inr, ◌⊎◌, ◌≡◌, ℕ, Bool, true, false, List, [], ◌∷◌, ◌++◌, refl, ap, sym, ◌∙◌, subst, arith, append_assoc, eq-eqb}
use Rattle.std.specs.Prelude.{◌==◌, ◌||◌}
use Rattle.std.specs.List.{list_all}
use Rattle.std.proofs.lemmas.Bool.{or_parts, cases_Bool, eqb-true}
use Rattle.std.proofs.lemmas.Bool.Decides.{nat_tests}
use Rattle.std.proofs.lemmas.Grind.{common_steps}
use Rattle.st_text.specs.Bytes.{is_blank}
use Rattle.st_kernel_text.specs.Bytes.{is_space, is_name_byte}
use Rattle.st_kernel_text.specs.FaultSteps.{BeginsWithout, HasNoName, HasNoSign, HasPlusAlone}
use Rattle.st_kernel_text.specs.Faults.{EndsName, HasName, HasSign, HasSignOf, between, behind_name, Breaks}
use Rattle.st_kernel_text.specs.Grammar.{Data, plain, IsName, SpellsSign}
use Rattle.st_kernel_text.specs.Values.{is_no_line_end}
use Rattle.st_kernel_text.specs.declared.assignment.Mode.{Mode}
use Rattle.st_kernel_text.specs.declared.assignment.Mode.TheVariants.{Set, Add}
use Rattle.st_kernel_text.specs.declared.fault.TextCause.{TextCause}
use Rattle.st_kernel_text.specs.declared.fault.TextCause.TheVariants.{NoName, NoSign}
use Rattle.st_kernel_text.proofs.DataLines.{InLines, Split, split, one_split, weaker, word_line, same_line, head_of, tail_of}
use Rattle.st_kernel_text.proofs.Grows.{all_more, snoc_some}
use Rattle.st_kernel_text.proofs.States.{plain-append}

line_feed_no_name : is_name_byte 10 ≡ false
unfolding is_name_byte
line_feed_no_name = refl

equals_no_name : is_name_byte 61 ≡ false
unfolding is_name_byte
equals_no_name = refl

plus_name : is_name_byte 43 ≡ true
unfolding is_name_byte
plus_name = refl

name_no_end : (b : ℕ) → is_name_byte b ≡ true → is_no_line_end b ≡ true
unfolding is_name_byte
name_no_end b h = grind (arith, nat_tests, common_steps)

whole_name : (n byte : ℕ) (word more name rest : Data) → list_all is_name_byte (plain word) ≡ true → is_name_byte byte ≡ false → (IsName (plain word) → ⊥)
    → IsName (plain name) → EndsName rest → word ++ (n, byte) ∷ more ≡ name ++ rest → ⊥
whole_name n byte word more name [] bytes longest none is e w = absurd e
whole_name n byte word more name (y ∷ rest) bytes longest none is e w =
    let s = one_split is_name_byte word name (n, byte) y more rest bytes is.bytes longest e w in
    none (subst (λ (z : Data). IsName (plain z)) (sym s.0) is)

signed_name : (n byte k m : ℕ) (word more name rest sign behind : Data) → list_all is_name_byte (plain word) ≡ true → is_name_byte byte ≡ false
    → ((front : List ℕ) → byte ≡ 61 → plain word ≡ front ++ 43 ∷ [] → IsName front → ⊥)
    → IsName (plain name) → sign ≡ (k, 43) ∷ ((m, 61) ∷ []) → rest ≡ sign ++ behind → word ++ (n, byte) ∷ more ≡ name ++ rest → ⊥
signed_name n byte k m word more name rest sign behind bytes longest added is s r w =
    let behind_plus : word ++ (n, byte) ∷ more ≡ (name ++ (k, 43) ∷ []) ++ (m, 61) ∷ behind =
    w ∙ ap (λ (z : Data). name ++ z) (r ∙ ap (λ (z : Data). z ++ behind) s) ∙ sym (append_assoc name ((k, 43) ∷ []) ((m, 61) ∷ behind)) in
    let all : list_all is_name_byte (plain (name ++ (k, 43) ∷ [])) ≡ true = all_more is_name_byte name k 43 is.bytes plus_name in
    let o = one_split is_name_byte word (name ++ (k, 43) ∷ []) (n, byte) (m, 61) more behind bytes all longest equals_no_name behind_plus in
    added (plain name) (ap (λ (z : ℕ × ℕ). z.1) o.1) (ap plain o.0 ∙ plain-append name ((k, 43) ∷ [])) is

no_name_here : (n byte : ℕ) (word more : Data) → list_all is_name_byte (plain word) ≡ true → is_name_byte byte ≡ false → (IsName (plain word) → ⊥)
    → ((front : List ℕ) → byte ≡ 61 → plain word ≡ front ++ 43 ∷ [] → IsName front → ⊥) → HasName (word ++ (n, byte) ∷ more) → ⊥
no_name_here n byte word more bytes longest none added has = by has.ends
  where
    by : EndsName has.rest ⊎ HasSignOf Add has.rest → ⊥
    by (inl e) = whole_name n byte word more has.name has.rest bytes longest none has.is e has.whole
    by (inr (m, sign, behind, (k, s), r)) = signed_name n byte k m word more has.name has.rest sign behind bytes longest added has.is s r has.whole

name_at : (n : ℕ) (cause : TextCause) (word : Data) (byte : ℕ) (more : Data) → InLines (word ++ (n, byte) ∷ more) → cause ≡ NoName
    → BeginsWithout is_space (word ++ (n, byte) ∷ more) → list_all is_name_byte (plain word) ≡ true → (HasName (word ++ (n, byte) ∷ more) → ⊥)
    → Breaks between (word ++ (n, byte) ∷ more) n cause
name_at n cause [] byte more l c begins bytes lacks = (refl, (c, begins, lacks))
name_at n cause (x ∷ word) byte more l c begins bytes lacks =
    (sym (word_line x word (n, byte) more (weaker is_name_byte is_no_line_end name_no_end (plain (x ∷ word)) bytes) l), (c, begins, lacks))

pub plain_name : (t : Data) (n : ℕ) (cause : TextCause) → InLines t → cause ≡ NoName → HasNoName t n → Breaks between t n cause
plain_name t n cause l c h =
    subst (λ (z : Data). Breaks between z n cause) (sym h.whole)
    (name_at n cause h.word h.byte h.more (subst InLines h.whole l) c (subst (BeginsWithout is_space) h.whole h.begins) h.bytes
    (no_name_here n h.byte h.word h.more h.bytes h.longest h.none h.none_added))

snoc_data : (w : Data) (front : List ℕ) (b : ℕ) → plain w ≡ front ++ b ∷ [] → (v : Data) × (k : ℕ) × (plain v ≡ front) × (w ≡ v ++ (k, b) ∷ [])
snoc_data [] front b e = absurd (snoc_some front b e)
snoc_data (x ∷ []) [] b e = let h : x.1 ≡ b = cc in ([], x.0, refl, ap (λ (z : ℕ). (x.0, z) ∷ []) h)
snoc_data (x ∷ y ∷ w) [] b e = absurd (cc)
snoc_data (x ∷ w) (c ∷ front) b e =
    let h : x.1 ≡ c = cc in
    let t : plain w ≡ front ++ b ∷ [] = cc in
    let (v, k, p, q) = snoc_data w front b t in
    (x ∷ v, k, cc, ap (λ (z : Data). x ∷ z) q)

name_stops : (b : ℕ × ℕ) (t : Data) → is_space b.1 ≡ false → (HasName (b ∷ t) → ⊥) → (s : Split is_name_byte (b ∷ t)) → HasNoName (b ∷ t) s.byte.0
name_stops b t begins lacks s = record {
  word = s.word;
  byte = s.byte.1;
  more = s.more;
  begins = begins;
  bytes = s.passes;
  longest = s.stops;
  none = λ is. lacks (record { name = s.word; rest = s.byte ∷ s.more; is = is; ends = inl s.stops; whole = s.whole });
  none_added = λ front e is named.
      let (v, k, p, q) = snoc_data s.word front 43 is in
      lacks (record {
        name = v;
        rest = (k, 43) ∷ (s.byte ∷ s.more);
        is = subst IsName (sym p) named;
        ends = inr (s.byte.0, (k, 43) ∷ ((s.byte.0, 61) ∷ []), s.more, (k, refl), ap (λ (z : ℕ). (k, 43) ∷ ((s.byte.0, z) ∷ s.more)) e);
        whole = s.whole ∙ ap (λ (z : Data). z ++ (s.byte ∷ s.more)) q ∙ append_assoc v ((k, 43) ∷ []) (s.byte ∷ s.more);
      });
  whole = s.whole;
}

first_line : (n : ℕ) (b : ℕ × ℕ) (t : Data) (cause : TextCause) → Breaks between (b ∷ t) n cause → n ≡ b.0
first_line n b t cause h = h.0

pub stopped_name : (b : ℕ × ℕ) (t : Data) → InLines (b ∷ t) → is_space b.1 ≡ false → (HasName (b ∷ t) → ⊥) → HasNoName (b ∷ t) b.0
stopped_name b t l begins lacks =
    let s = split is_name_byte line_feed_no_name b t l in
    let h = name_stops b t begins lacks s in
    subst (HasNoName (b ∷ t)) (first_line s.byte.0 b t NoName (plain_name (b ∷ t) s.byte.0 NoName l refl h)) h

-- signs
not_same : (b c : ℕ) → (b == c) ≡ false → b ≡ c → ⊥
not_same b c h e = let y = eq-eqb b c e in absurd (cc)

no_sign_at : (mode : Mode) (k n b : ℕ) (sign rest more : Data) → (b == 61) ≡ false → (b == 43) ≡ false → SpellsSign mode k sign → (n, b) ∷ more ≡ sign ++ rest → ⊥
no_sign_at Set k n b sign rest more e p s w =
    not_same b 61 e (ap (λ (z : ℕ × ℕ). z.1) (head_of (n, b) (k, 61) more rest (w ∙ ap (λ (z : Data). z ++ rest) s)))
no_sign_at Add k n b sign rest more e p (j, s) w =
    not_same b 43 p (ap (λ (z : ℕ × ℕ). z.1) (head_of (n, b) (j, 43) more ((k, 61) ∷ rest) (w ∙ ap (λ (z : Data). z ++ rest) s)))

sign_at : (n byte : ℕ) (more : Data) (cause : TextCause) → cause ≡ NoSign → (is_blank byte || (byte == 61) || (byte == 43)) ≡ false
    → Breaks behind_name ((n, byte) ∷ more) n cause
sign_at n byte more cause c other =
    let all = or_parts (is_blank byte || (byte == 61)) (byte == 43) other in
    let two = or_parts (is_blank byte) (byte == 61) all.0 in
    (refl, (c, two.0, λ (mode, (k, sign, rest, s, w)). no_sign_at mode k n byte sign rest more two.1 all.1 s w))

pub plain_sign : (t : Data) (n : ℕ) (cause : TextCause) → cause ≡ NoSign → HasNoSign t n → Breaks behind_name t n cause
plain_sign t n cause c h =
    subst (λ (z : Data). Breaks behind_name z n cause) (sym h.whole) (sign_at n h.byte h.more cause c h.other)

not_equals : ◌≡◌ {A = ℕ} 43 61 → ⊥
not_equals e = absurd (omega (arith, e))

no_added_at : (mode : Mode) (k l n b : ℕ) (sign rest more : Data) → (b == 61) ≡ false → SpellsSign mode k sign → (l, 43) ∷ ((n, b) ∷ more) ≡ sign ++ rest → ⊥
no_added_at Set k l n b sign rest more e s w =
    not_equals (ap (λ (z : ℕ × ℕ). z.1) (head_of (l, 43) (k, 61) ((n, b) ∷ more) rest (w ∙ ap (λ (z : Data). z ++ rest) s)))
no_added_at Add k l n b sign rest more e (j, s) w =
    let behind = tail_of (l, 43) (j, 43) ((n, b) ∷ more) ((k, 61) ∷ rest) (w ∙ ap (λ (z : Data). z ++ rest) s) in
    not_same b 61 e (ap (λ (z : ℕ × ℕ). z.1) (head_of (n, b) (k, 61) more rest behind))

not_line_end : ◌≡◌ {A = ℕ} 43 10 → ⊥
not_line_end e = absurd (omega (arith, e))

plus_at : (line n byte : ℕ) (more : Data) (cause : TextCause) → InLines ((line, 43) ∷ ((n, byte) ∷ more)) → cause ≡ NoSign → (byte == 61) ≡ false
    → Breaks behind_name ((line, 43) ∷ ((n, byte) ∷ more)) n cause
plus_at line n byte more cause l c other = (
  sym (same_line (line, 43) (n, byte) more l not_line_end),
  (c, refl, λ (mode, (k, sign, rest, s, w)). no_added_at mode k line n byte sign rest more other s w),
)

pub plain_plus : (t : Data) (n : ℕ) (cause : TextCause) → InLines t → cause ≡ NoSign → HasPlusAlone t n → Breaks behind_name t n cause
plain_plus t n cause l c h =
    subst (λ (z : Data). Breaks behind_name z n cause) (sym h.whole) (plus_at h.line n h.byte h.more cause (subst InLines h.whole l) c h.other)

as_byte : (b : ℕ × ℕ) (c : ℕ) (t : Data) → b.1 ≡ c → b ∷ t ≡ (b.0, c) ∷ t
as_byte b c t e = ap (λ (z : ℕ). (b.0, z) ∷ t) e

stopped_plus : (b : ℕ × ℕ) (t : Data) → InLines (b ∷ t) → b.1 ≡ 43 → (HasSign (b ∷ t) → ⊥) → HasPlusAlone (b ∷ t) b.0
stopped_plus b [] l e lacks = absurd (not_line_end (sym e ∙ l))
stopped_plus b (c ∷ t) l e lacks =
    let line : b.0 ≡ c.0 = same_line b c t l (λ f. not_line_end (sym e ∙ f)) in
    elim (cases_Bool (c.1 == 61)) [
      | inl y ↦ absurd (lacks (Add, (c.0, (b.0, 43) ∷ ((c.0, 61) ∷ []), t, (b.0, refl), as_byte b 43 (c ∷ t) e ∙ ap (λ (z : Data). (b.0, 43) ∷ z) (as_byte c 61 t (eqb-true _ _ y)))))
      | inr n ↦ record {
        line = b.0;
        byte = c.1;
        more = t;
        other = n;
        whole = as_byte b 43 (c ∷ t) e ∙ ap (λ (z : ℕ). (b.0, 43) ∷ ((z, c.1) ∷ t)) (sym line);
      }
    ]

or_none : (x y z : Bool) → x ≡ false → y ≡ false → z ≡ false → (x || y || z) ≡ false
or_none x y z h k l = rw (h, k, l) refl

pub stopped_sign : (b : ℕ × ℕ) (t : Data) → InLines (b ∷ t) → is_blank b.1 ≡ false → (HasSign (b ∷ t) → ⊥) → HasNoSign (b ∷ t) b.0 ⊎ HasPlusAlone (b ∷ t) b.0
stopped_sign b t l blank lacks =
    elim (cases_Bool (b.1 == 61)) [
      | inl y ↦ absurd (lacks (Set, (b.0, (b.0, 61) ∷ [], t, refl, as_byte b 61 t (eqb-true _ _ y))))
      | inr x ↦ elim (cases_Bool (b.1 == 43)) [
        | inl y ↦ inr (stopped_plus b t l (eqb-true _ _ y) lacks)
        | inr z ↦ inl (record { byte = b.1; more = t; other = or_none (is_blank b.1) (b.1 == 61) (b.1 == 43) blank x z; whole = refl })
      ]
    ]
