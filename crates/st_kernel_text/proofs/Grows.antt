-- Spellings that go on by one byte, one value or one assignment.
use Rattle.std.proofs.Common.{◌≡◌, ℕ, Bool, true, false, List, [], ◌∷◌, ◌++◌, refl, ap, sym, ◌∙◌, append_assoc}
use Rattle.std.specs.Prelude.{◌==◌, if◌then◌else◌}
use Rattle.std.specs.List.{list_all}
use Rattle.std.proofs.lemmas.Bool.{and_from, cond-false}
use Rattle.std.proofs.lemmas.List.{append-nil}
use Rattle.std.proofs.lemmas.List.Folds.{list_all-append}
use Rattle.st_kernel_text.specs.Bytes.{is_space, is_separator}
use Rattle.st_kernel_text.specs.Grammar.{Data, plain, EndsValue, same_kind, AreOfOneKind, SpellsItems, SpellsAssignment, SpellsAll}
use Rattle.st_kernel_text.specs.ValueMachine.{fits}
use Rattle.st_kernel_text.specs.Values.{Spells, quoted, may_follow}
use Rattle.st_kernel_text.specs.declared.assignment.Assignment.{Assignment}
use Rattle.st_kernel_text.specs.declared.value.Value.{Value}
use Rattle.st_kernel_text.proofs.States.{all_both}

pub append3 : (a b c x : Data) → (a ++ (b ++ c)) ++ x ≡ a ++ (b ++ (c ++ x))
append3 a b c x = append_assoc a (b ++ c) x ∙ ap (λ (z : Data). a ++ z) (append_assoc b c x)

-- one more byte of a kind
pub all_more : (test : ℕ → Bool) (t : Data) (n b : ℕ) → list_all test (plain t) ≡ true → test b ≡ true → list_all test (plain (t ++ (n, b) ∷ [])) ≡ true
all_more test t n b h e = all_both test t ((n, b) ∷ []) h (and_from _ _ e refl)

pub all_space : (done : List Assignment) (t : Data) (n b : ℕ) → SpellsAll done t → is_space b ≡ true → SpellsAll done (t ++ (n, b) ∷ [])
all_space [] t n b h e = all_more is_space t n b h e
all_space (a ∷ more) t n b h e = record {
  gap = h.gap;
  text = h.text;
  rest = h.rest ++ (n, b) ∷ [];
  are_spaces = h.are_spaces;
  assignment = h.assignment;
  more = all_space more h.rest n b h.more e;
  whole = ap (λ (z : Data). z ++ (n, b) ∷ []) h.whole ∙ append3 h.gap h.text h.rest ((n, b) ∷ []);
}

pub all_push : (done : List Assignment) (a : Assignment) (t u : Data) → SpellsAll done t → SpellsAssignment a u → SpellsAll (done ++ a ∷ []) (t ++ u)
all_push [] a t u h k = record {
  gap = t;
  text = u;
  rest = [];
  are_spaces = h;
  assignment = k;
  more = refl;
  whole = ap (λ (z : Data). t ++ z) (sym (append-nil u));
}
all_push (d ∷ done) a t u h k = record {
  gap = h.gap;
  text = h.text;
  rest = h.rest ++ u;
  are_spaces = h.are_spaces;
  assignment = h.assignment;
  more = all_push done a h.rest u h.more k;
  whole = ap (λ (z : Data). z ++ u) h.whole ∙ append3 h.gap h.text h.rest u;
}

ends_shift : (rest : Data) (n b : ℕ) → EndsValue (rest ++ (n, b) ∷ []) → EndsValue ((rest ++ (n, b) ∷ []) ++ [])
ends_shift [] n b h = h
ends_shift (x ∷ rest) n b h = h

-- what followed the values is a separator among them
pub items_gap : (vs : List Value) (t : Data) (n b : ℕ) → SpellsItems vs t ((n, b) ∷ []) → is_separator b ≡ true → SpellsItems vs (t ++ (n, b) ∷ []) []
items_gap [] t n b h e = all_more is_separator t n b h e
items_gap (v ∷ vs) t n b h e = record {
  gap = h.gap;
  text = h.text;
  rest = h.rest ++ (n, b) ∷ [];
  are_separators = h.are_separators;
  value = h.value;
  ends = ends_shift h.rest n b h.ends;
  more = items_gap vs h.rest n b h.more e;
  whole = ap (λ (z : Data). z ++ (n, b) ∷ []) h.whole ∙ append3 h.gap h.text h.rest ((n, b) ∷ []);
}

ends_push : (rest text : Data) (x : ℕ × ℕ) → EndsValue (rest ++ []) → EndsValue ((rest ++ text) ++ x ∷ [])
ends_push [] text x h = absurd h
ends_push (b ∷ rest) text x h = h

pub items_push : (vs : List Value) (v : Value) (t text : Data) (n b : ℕ) → SpellsItems vs t [] → Spells v (plain text) → may_follow b ≡ true
    → SpellsItems (vs ++ v ∷ []) (t ++ text) ((n, b) ∷ [])
items_push [] v t text n b h s e = record {
  gap = t;
  text = text;
  rest = [];
  are_separators = h;
  value = s;
  ends = e;
  more = refl;
  whole = ap (λ (z : Data). t ++ z) (sym (append-nil text));
}
items_push (u ∷ vs) v t text n b h s e = record {
  gap = h.gap;
  text = h.text;
  rest = h.rest ++ text;
  are_separators = h.are_separators;
  value = h.value;
  ends = ends_push h.rest text (n, b) h.ends;
  more = items_push vs v h.rest text n b h.more s e;
  whole = ap (λ (z : Data). z ++ text) h.whole ∙ append3 h.gap h.text h.rest text;
}

pub kinds_push : (vs : List Value) (v : Value) → AreOfOneKind vs → fits vs v ≡ true → AreOfOneKind (vs ++ v ∷ [])
kinds_push [] v h e = refl
kinds_push (first ∷ vs) v h e = list_all-append (same_kind first) vs (v ∷ []) ∙ and_from _ _ h (and_from _ _ e refl)

-- the written form of a content that goes on
quoted_step : (b : ℕ) (content rest : List ℕ) → quoted (b ∷ content) ++ rest ≡ (if b == 39 then 39 ∷ (39 ∷ (quoted content ++ rest)) else b ∷ (quoted content ++ rest))
quoted_step b content rest = by_test (b == 39)
  where
    by_test : (c : Bool) → (if c then 39 ∷ (39 ∷ quoted content) else b ∷ quoted content) ++ rest ≡ (if c then 39 ∷ (39 ∷ (quoted content ++ rest)) else b ∷ (quoted content ++ rest))
    by_test true = refl
    by_test false = refl

pub quoted-append : (content more : List ℕ) → quoted (content ++ more) ≡ quoted content ++ quoted more
quoted-append [] more = refl
quoted-append (b ∷ content) more =
    ap (λ (z : List ℕ). if b == 39 then 39 ∷ (39 ∷ z) else b ∷ z) (quoted-append content more) ∙ sym (quoted_step b content (quoted more))

pub quoted_byte : (content : List ℕ) (b : ℕ) → (b == 39) ≡ false → quoted (content ++ b ∷ []) ≡ quoted content ++ b ∷ []
quoted_byte content b h = quoted-append content (b ∷ []) ∙ ap (λ (z : List ℕ). quoted content ++ z) (cond-false _ _ _ h)

pub quoted_quote : (content : List ℕ) → quoted (content ++ 39 ∷ []) ≡ (quoted content ++ 39 ∷ []) ++ 39 ∷ []
quoted_quote content = quoted-append content (39 ∷ []) ∙ sym (append_assoc (quoted content) (39 ∷ []) (39 ∷ []))

pub snoc_some : (front : List ℕ) (b : ℕ) → [] ≡ front ++ b ∷ [] → ⊥
snoc_some [] b h = absurd (cc)
snoc_some (x ∷ front) b h = absurd (cc)
