-- One more byte between assignments, in a name, after it and in its sign.
use Rattle.std.proofs.Common.{inl, ◌≡◌, ℕ, ◌<◌, true, false, ◌&&◌, List, [], ◌∷◌, ◌++◌, length, None, refl, ap, sym, ◌∙◌, subst, arith, append_assoc}
use Rattle.std.specs.Prelude.{◌==◌}
use Rattle.std.specs.List.{list_all}
use Rattle.std.proofs.lemmas.Bool.{and_parts, and_from, cond_both, eqb-true, eq-eqb, or_from, both_ways}
use Rattle.std.proofs.lemmas.List.{append-nil}
use Rattle.st_text.specs.Bytes.{is_blank}
use Rattle.st_kernel_text.specs.Bytes.{is_space, is_name_byte}
use Rattle.st_kernel_text.specs.FaultSteps.{HasFault, BeginsWithout}
use Rattle.st_kernel_text.specs.Faults.{between, behind_name, EndsName}
use Rattle.st_kernel_text.specs.Grammar.{Data, plain, IsName, SpellsHead, SpellsAll}
use Rattle.st_kernel_text.specs.ParserMachine.{fresh, is_name, ends_in_plus, without_last, named_of, added_of, step_of}
use Rattle.st_kernel_text.specs.declared.assignment.Assignment.{Assignment}
use Rattle.st_kernel_text.specs.declared.assignment.Mode.TheVariants.{Set, Add}
use Rattle.st_kernel_text.specs.declared.fault.TextCause.TheVariants.{NoName, NoSign}
use Rattle.st_kernel_text.specs.declared.parser.Stage.{Stage}
use Rattle.st_kernel_text.specs.declared.parser.Stage.TheVariants.{Name, Named, Signed}
use Rattle.st_kernel_text.proofs.Forced.{front_bytes}
use Rattle.st_kernel_text.proofs.Grows.{all_more, all_space, snoc_some}
use Rattle.st_kernel_text.proofs.Heads.{name_from, name_test, plus_parts, plus_snoc, without_last_snoc}
use Rattle.st_kernel_text.proofs.Live.{waits_signed, live_between, live_naming, live_named, live_waits, Outcome, goes_on, breaks_off}
use Rattle.st_kernel_text.proofs.ReadValues.{split, cut, no_bytes}
use Rattle.st_kernel_text.proofs.States.{naming, signed, plain-append, name_byte_no_space}

no_empty_name : IsName [] → ⊥
no_empty_name h = absurd (omega (arith, h.some))

at_first : (done : List Assignment) (t rest : Data) (n b : ℕ) → SpellsAll done t → is_space b ≡ false → is_name_byte b ≡ false
    → HasFault (t ++ ((n, b) ∷ rest)) n NoName
at_first done t rest n b s space byte = record {
  row = between;
  before = t;
  rest = (n, b) ∷ rest;
  stands = record { done = done; spells = s };
  breaks = (
    refl,
    record {
      word = [];
      byte = b;
      more = rest;
      begins = space;
      bytes = refl;
      longest = byte;
      none = no_empty_name;
      none_added = λ front e is h. snoc_some front 43 is;
      whole = refl;
    },
  );
  whole = refl;
}

pub on_between : (done : List Assignment) (t : Data) (n b : ℕ) → SpellsAll done t → Outcome t n b (step_of (fresh done) n b)
unfolding step_of
on_between done t n b s =
    cond_both (is_space b) _ _ (Outcome t n b)
    (λ space. goes_on t n b (fresh done) (live_between (record { done = done; is = refl; spells = all_space done t n b s space })))
    (λ space. cond_both (is_name_byte b) _ _ (Outcome t n b)
    (λ byte. goes_on t n b (naming Name done (b ∷ [])) (live_naming (record {
      done = done;
      front = t;
      word = (n, b) ∷ [];
      is = refl;
      spells = s;
      some = omega arith;
      bytes = and_from _ _ byte refl;
      whole = refl;
    })))
    (λ byte. breaks_off t n b _ (λ rest. at_first done t rest n b s space byte)))

-- a name with one more byte, and the state
named_more : (s : Stage) (done : List Assignment) (word : Data) (n b : ℕ) → naming s done (plain word ++ b ∷ []) ≡ naming s done (plain (word ++ (n, b) ∷ []))
named_more s done word n b = ap (naming s done) (sym (plain-append word ((n, b) ∷ [])))

begins_name : (word rest : Data) → 0 < length (plain word) → list_all is_name_byte (plain word) ≡ true → BeginsWithout is_space (word ++ rest)
begins_name [] rest s h = absurd (omega (arith, s))
begins_name (x ∷ word) rest s h = name_byte_no_space x.1 (and_parts (is_name_byte x.1) (list_all is_name_byte (plain word)) h).0

some_more : (word : Data) (x : ℕ × ℕ) → 0 < length (plain (word ++ x ∷ []))
some_more [] x = omega arith
some_more (y ∷ word) x = omega arith

at_name : (done : List Assignment) (t front word rest : Data) (n b : ℕ) → SpellsAll done front → 0 < length (plain word)
    → list_all is_name_byte (plain word) ≡ true → t ≡ front ++ word → is_name_byte b ≡ false → (IsName (plain word) → ⊥)
    → ((f : List ℕ) → b ≡ 61 → plain word ≡ f ++ 43 ∷ [] → IsName f → ⊥) → HasFault (t ++ ((n, b) ∷ rest)) n NoName
at_name done t front word rest n b s some bytes w byte none added = record {
  row = between;
  before = front;
  rest = word ++ ((n, b) ∷ rest);
  stands = record { done = done; spells = s };
  breaks = (
    refl,
    record {
      word = word;
      byte = b;
      more = rest;
      begins = begins_name word ((n, b) ∷ rest) some bytes;
      bytes = bytes;
      longest = byte;
      none = none;
      none_added = added;
      whole = refl;
    },
  );
  whole = ap (λ (z : Data). z ++ ((n, b) ∷ rest)) w ∙ append_assoc front word ((n, b) ∷ rest);
}

not_named : (w : List ℕ) → is_name w ≡ false → IsName w → ⊥
not_named w e h = both_ways (is_name w) e (name_test w h)

plus_word : (w front : List ℕ) → w ≡ front ++ 43 ∷ [] → ends_in_plus w ≡ true
plus_word w front e = ap ends_in_plus e ∙ plus_snoc front 43

-- a head whose sign is its last token
pub set_head : (word blanks : Data) (name : List ℕ) (n : ℕ) → IsName name → plain word ≡ name → list_all is_blank (plain blanks) ≡ true
    → SpellsHead name Set n (word ++ (blanks ++ (n, 61) ∷ []))
set_head word blanks name n h is b = record {
  word = word;
  blanks = blanks;
  sign = (n, 61) ∷ [];
  spaces = [];
  name_is = h;
  is = is;
  are_blanks = b;
  sign_is = refl;
  are_spaces = refl;
  whole = refl;
}

pub add_head : (word blanks : Data) (name : List ℕ) (k n : ℕ) → IsName name → plain word ≡ name → list_all is_blank (plain blanks) ≡ true
    → SpellsHead name Add n (word ++ (blanks ++ ((k, 43) ∷ ((n, 61) ∷ []))))
add_head word blanks name k n h is b = record {
  word = word;
  blanks = blanks;
  sign = (k, 43) ∷ ((n, 61) ∷ []);
  spaces = [];
  name_is = h;
  is = is;
  are_blanks = b;
  sign_is = (k, refl);
  are_spaces = refl;
  whole = refl;
}

pub byte_is : (n b c : ℕ) (t : Data) → (b == c) ≡ true → t ++ (n, b) ∷ [] ≡ t ++ (n, c) ∷ []
byte_is n b c t e = ap (λ (z : ℕ). t ++ (n, z) ∷ []) (eqb-true b c e)

pub byte_is2 : (t : Data) (k n b : ℕ) → (b == 61) ≡ true → t ++ ((k, 43) ∷ ((n, b) ∷ [])) ≡ t ++ ((k, 43) ∷ ((n, 61) ∷ []))
byte_is2 t k n b e = ap (λ (z : ℕ). t ++ ((k, 43) ∷ ((n, z) ∷ []))) (eqb-true b 61 e)

plus_name_byte : is_name_byte 43 ≡ false → ⊥
unfolding is_name_byte
plus_name_byte h = absurd (cc)

plus_no_end : (b : ℕ) → is_name_byte b ≡ false → (b == 43) ≡ true → ⊥
plus_no_end b h e = plus_name_byte (subst (λ (z : ℕ). is_name_byte z ≡ false) (eqb-true b 43 e) h)

on_added : (done : List Assignment) (t front word : Data) (n b : ℕ) → SpellsAll done front → 0 < length (plain word)
    → list_all is_name_byte (plain word) ≡ true → t ≡ front ++ word → is_name_byte b ≡ false → ((b == 61) && ends_in_plus (plain word)) ≡ true
    → Outcome t n b (added_of (naming Name done (plain word)) n)
on_added done t front word n b s some bytes w byte test =
    let both = and_parts (b == 61) (ends_in_plus (plain word)) test in
    let parts = plus_parts (plain word) both.1 in
    cond_both (is_name (without_last (plain word))) _ _ (Outcome t n b)
    (λ name.
    let h = name_from (without_last (plain word)) name (front_bytes (plain word) bytes both.1) in
    let pieces = split word (without_last (plain word)) (43 ∷ []) parts in
    let plus = cut pieces.right 43 [] pieces.right_is in
    let right : pieces.right ≡ (plus.line, 43) ∷ [] = plus.whole ∙ ap (λ (z : Data). (plus.line, 43) ∷ z) (no_bytes plus.more plus.more_is) in
    let text : word ++ (n, b) ∷ [] ≡ pieces.left ++ ((plus.line, 43) ∷ ((n, 61) ∷ [])) =
    byte_is n b 61 word both.0 ∙ ap (λ (z : Data). z ++ (n, 61) ∷ []) (pieces.whole ∙ ap (λ (z : Data). pieces.left ++ z) right)
    ∙ append_assoc pieces.left ((plus.line, 43) ∷ []) ((n, 61) ∷ []) in
    goes_on t n b (signed Signed done (without_last (plain word)) Add n None [] []) (live_waits (waits_signed (record {
      done = done;
      name = without_last (plain word);
      mode = Add;
      line = n;
      is = refl;
      head = record {
        front = front;
        head = pieces.left ++ ([] ++ ((plus.line, 43) ∷ ((n, 61) ∷ [])));
        spells = s;
        head_is = add_head pieces.left [] (without_last (plain word)) plus.line n h pieces.left_is refl;
        whole = ap (λ (z : Data). z ++ (n, b) ∷ []) w ∙ append_assoc front word ((n, b) ∷ []) ∙ ap (λ (z : Data). front ++ z) text;
      };
    }))))
    (λ name. breaks_off t n b _ (λ rest. at_name done t front word rest n b s some bytes w byte
    (λ h. h.last (without_last (plain word)) parts)
    (λ f e is h. not_named (without_last (plain word)) name
    (subst IsName (sym (ap without_last is ∙ without_last_snoc f 43)) h))))

pub at_sign : (done : List Assignment) (t front word blanks rest : Data) (n b : ℕ) → SpellsAll done front → IsName (plain word)
    → list_all is_blank (plain blanks) ≡ true → EndsName (blanks ++ ((n, b) ∷ rest)) → t ≡ front ++ (word ++ blanks)
    → is_blank b ≡ false → (b == 61) ≡ false → (b == 43) ≡ false → HasFault (t ++ ((n, b) ∷ rest)) n NoSign
at_sign done t front word blanks rest n b s name blank ends w x y z = record {
  row = behind_name;
  before = t;
  rest = (n, b) ∷ rest;
  stands = record { done = done; front = front; word = word; blanks = blanks; spells = s; name_is = name; are_blanks = blank; ends = ends; whole = w };
  breaks = (refl, inl (record { byte = b; more = rest; other = or_from _ _ (or_from _ _ x y) z; whole = refl }));
  whole = refl;
}

-- a byte that ends a good name
on_ended : (done : List Assignment) (t front word : Data) (n b : ℕ) → SpellsAll done front → IsName (plain word)
    → t ≡ front ++ word → is_name_byte b ≡ false → Outcome t n b (named_of (naming Name done (plain word)) n b)
on_ended done t front word n b s name w byte =
    let longer : t ++ (n, b) ∷ [] ≡ front ++ (word ++ (n, b) ∷ []) = ap (λ (z : Data). z ++ (n, b) ∷ []) w ∙ append_assoc front word ((n, b) ∷ []) in
    cond_both (is_blank b) _ _ (Outcome t n b)
    (λ blank. goes_on t n b (naming Named done (plain word)) (live_named (record {
      done = done;
      front = front;
      word = word;
      blank = (n, b);
      blanks = [];
      is = refl;
      spells = s;
      name_is = name;
      are_blanks = and_from _ _ blank refl;
      whole = longer;
    })))
    (λ blank. cond_both (b == 61) _ _ (Outcome t n b)
    (λ equals. goes_on t n b (signed Signed done (plain word) Set n None [] []) (live_waits (waits_signed (record {
      done = done;
      name = plain word;
      mode = Set;
      line = n;
      is = refl;
      head = record {
        front = front;
        head = word ++ ([] ++ (n, 61) ∷ []);
        spells = s;
        head_is = set_head word [] (plain word) n name refl refl;
        whole = longer ∙ ap (λ (z : Data). front ++ z) (byte_is n b 61 word equals);
      };
    }))))
    (λ equals. cond_both (b == 43) _ _ (Outcome t n b)
    (λ plus. absurd (plus_no_end b byte plus))
    (λ plus. breaks_off t n b _ (λ rest. at_sign done t front word [] rest n b s name refl byte
    (w ∙ ap (λ (z : Data). front ++ z) (sym (append-nil word))) blank equals plus))))

pub on_naming : (done : List Assignment) (t front word : Data) (n b : ℕ) → SpellsAll done front → 0 < length (plain word)
    → list_all is_name_byte (plain word) ≡ true → t ≡ front ++ word → Outcome t n b (step_of (naming Name done (plain word)) n b)
unfolding step_of
on_naming done t front word n b s some bytes w =
    cond_both (is_name_byte b) _ _ (Outcome t n b)
    (λ byte. goes_on t n b (naming Name done (plain word ++ b ∷ [])) (live_naming (record {
      done = done;
      front = front;
      word = word ++ (n, b) ∷ [];
      is = named_more Name done word n b;
      spells = s;
      some = some_more word (n, b);
      bytes = all_more is_name_byte word n b bytes byte;
      whole = ap (λ (z : Data). z ++ (n, b) ∷ []) w ∙ append_assoc front word ((n, b) ∷ []);
    })))
    (λ byte. cond_both ((b == 61) && ends_in_plus (plain word)) _ _ (Outcome t n b)
    (λ test. on_added done t front word n b s some bytes w byte test)
    (λ test. cond_both (is_name (plain word)) _ _ (Outcome t n b)
    (λ name. on_ended done t front word n b s (name_from (plain word) name bytes) w byte)
    (λ name. breaks_off t n b _ (λ rest. at_name done t front word rest n b s some bytes w byte
    (not_named (plain word) name)
    (λ f e is h. both_ways _ test (and_from _ _ (eq-eqb b 61 e) (plus_word (plain word) f is)))))))
