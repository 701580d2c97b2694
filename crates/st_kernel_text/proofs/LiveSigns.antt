-- One more byte after a name and in its sign.
use Rattle.std.proofs.Common.{inr, ◌≡◌, ℕ, true, false, List, [], ◌∷◌, ◌++◌, None, refl, ap, sym, ◌∙◌, append_assoc}
use Rattle.std.specs.Prelude.{◌==◌}
use Rattle.std.specs.List.{list_all}
use Rattle.std.proofs.lemmas.Bool.{and_parts, cond_both}
use Rattle.st_text.specs.Bytes.{is_blank}
use Rattle.st_kernel_text.specs.Bytes.{is_name_byte}
use Rattle.st_kernel_text.specs.Faults.{behind_name}
use Rattle.st_kernel_text.specs.Grammar.{Data, plain, IsName, SpellsAll}
use Rattle.st_kernel_text.specs.ParserMachine.{step_of}
use Rattle.st_kernel_text.specs.declared.assignment.Assignment.{Assignment}
use Rattle.st_kernel_text.specs.declared.assignment.Mode.TheVariants.{Set, Add}
use Rattle.st_kernel_text.specs.declared.parser.Stage.TheVariants.{Named, Plus, Signed}
use Rattle.st_kernel_text.proofs.Grows.{all_more, append3}
use Rattle.st_kernel_text.proofs.Live.{waits_signed, live_named, live_plus, live_waits, Outcome, goes_on, breaks_off}
use Rattle.st_kernel_text.proofs.States.{naming, signed, blank_no_name_byte}
use Rattle.st_kernel_text.proofs.LiveNames.{set_head, add_head, byte_is, byte_is2, at_sign}

blank_begins : (x : ℕ × ℕ) (blanks : Data) → list_all is_blank (plain (x ∷ blanks)) ≡ true → is_name_byte x.1 ≡ false
blank_begins x blanks h = blank_no_name_byte x.1 (and_parts (is_blank x.1) (list_all is_blank (plain blanks)) h).0

pub on_named : (done : List Assignment) (t front word blanks : Data) (x : ℕ × ℕ) (n b : ℕ) → SpellsAll done front → IsName (plain word)
    → list_all is_blank (plain (x ∷ blanks)) ≡ true → t ≡ front ++ (word ++ (x ∷ blanks)) → Outcome t n b (step_of (naming Named done (plain word)) n b)
unfolding step_of
on_named done t front word blanks x n b s name bs w =
    let longer : t ++ (n, b) ∷ [] ≡ front ++ (word ++ ((x ∷ blanks) ++ (n, b) ∷ [])) =
    ap (λ (z : Data). z ++ (n, b) ∷ []) w ∙ append3 front word (x ∷ blanks) ((n, b) ∷ []) in
    cond_both (is_blank b) _ _ (Outcome t n b)
    (λ blank. goes_on t n b (naming Named done (plain word)) (live_named (record {
      done = done;
      front = front;
      word = word;
      blank = x;
      blanks = blanks ++ (n, b) ∷ [];
      is = refl;
      spells = s;
      name_is = name;
      are_blanks = all_more is_blank (x ∷ blanks) n b bs blank;
      whole = longer;
    })))
    (λ blank. cond_both (b == 61) _ _ (Outcome t n b)
    (λ equals. goes_on t n b (signed Signed done (plain word) Set n None [] []) (live_waits (waits_signed (record {
      done = done;
      name = plain word;
      mode = Set;
      line = n;
      is = refl;
      head = record {
        front = front;
        head = word ++ ((x ∷ blanks) ++ (n, 61) ∷ []);
        spells = s;
        head_is = set_head word (x ∷ blanks) (plain word) n name refl bs;
        whole = longer ∙ ap (λ (z : Data). front ++ (word ++ z)) (byte_is n b 61 (x ∷ blanks) equals);
      };
    }))))
    (λ equals. cond_both (b == 43) _ _ (Outcome t n b)
    (λ plus. goes_on t n b (naming Plus done (plain word)) (live_plus (record {
      done = done;
      front = front;
      word = word;
      blank = x;
      blanks = blanks;
      line = n;
      is = refl;
      spells = s;
      name_is = name;
      are_blanks = bs;
      whole = longer ∙ ap (λ (z : Data). front ++ (word ++ z)) (byte_is n b 43 (x ∷ blanks) plus);
    })))
    (λ plus. breaks_off t n b _ (λ rest. at_sign done t front word (x ∷ blanks) rest n b s name bs (blank_begins x blanks bs) w blank equals plus))))

pub on_plus : (done : List Assignment) (t front word blanks : Data) (x : ℕ × ℕ) (k n b : ℕ) → SpellsAll done front → IsName (plain word)
    → list_all is_blank (plain (x ∷ blanks)) ≡ true → t ≡ front ++ (word ++ ((x ∷ blanks) ++ (k, 43) ∷ [])) → Outcome t n b (step_of (naming Plus done (plain word)) n b)
unfolding step_of
on_plus done t front word blanks x k n b s name bs w =
    cond_both (b == 61) _ _ (Outcome t n b)
    (λ equals. goes_on t n b (signed Signed done (plain word) Add n None [] []) (live_waits (waits_signed (record {
      done = done;
      name = plain word;
      mode = Add;
      line = n;
      is = refl;
      head = record {
        front = front;
        head = word ++ ((x ∷ blanks) ++ ((k, 43) ∷ ((n, 61) ∷ [])));
        spells = s;
        head_is = add_head word (x ∷ blanks) (plain word) k n name refl bs;
        whole = ap (λ (z : Data). z ++ (n, b) ∷ []) w ∙ append3 front word ((x ∷ blanks) ++ (k, 43) ∷ []) ((n, b) ∷ [])
            ∙ ap (λ (z : Data). front ++ (word ++ z)) (append_assoc (x ∷ blanks) ((k, 43) ∷ []) ((n, b) ∷ []) ∙ byte_is2 (x ∷ blanks) k n b equals);
      };
    }))))
    (λ equals. breaks_off t n b _ (λ rest. record {
      row = behind_name;
      before = front ++ (word ++ (x ∷ blanks));
      rest = (k, 43) ∷ ((n, b) ∷ rest);
      stands = record { done = done; front = front; word = word; blanks = x ∷ blanks; spells = s; name_is = name; are_blanks = bs; ends = blank_begins x blanks bs; whole = refl };
      breaks = (refl, inr (record { line = k; byte = b; more = rest; other = equals; whole = refl }));
      whole = ap (λ (z : Data). z ++ ((n, b) ∷ rest)) w ∙ append3 front word ((x ∷ blanks) ++ (k, 43) ∷ []) ((n, b) ∷ rest)
          ∙ ap (λ (z : Data). front ++ (word ++ z)) (append_assoc (x ∷ blanks) ((k, 43) ∷ []) ((n, b) ∷ rest))
          ∙ sym (append3 front word (x ∷ blanks) ((k, 43) ∷ ((n, b) ∷ rest)));
    }))
