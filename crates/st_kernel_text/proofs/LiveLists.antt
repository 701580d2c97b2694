-- One more byte in a list, and a whole value with the byte after it.
use Rattle.std.proofs.Common.{inl, inr, ◌≡◌, ℕ, ◌<◌, true, false, List, [], ◌∷◌, ◌++◌, length, Some, None, Ok, refl, ap, sym, ◌∙◌, subst, arith, append_assoc}
use Rattle.std.specs.Prelude.{◌==◌}
use Rattle.std.proofs.lemmas.Bool.{cond_both, eqb-true, eqb-false, or_from, both_ways}
use Rattle.std.proofs.lemmas.Bool.Decides.{nat_tests}
use Rattle.std.proofs.lemmas.Grind.{common_steps}
use Rattle.std.proofs.lemmas.List.{append-nil, length_push}
use Rattle.st_kernel_text.specs.Bytes.{is_separator, is_run_byte}
use Rattle.st_kernel_text.specs.FaultSteps.{HasOtherKind}
use Rattle.st_kernel_text.specs.Faults.{in_list}
use Rattle.st_kernel_text.specs.Grammar.{Data, plain, AreOfOneKind, SpellsItems}
use Rattle.st_kernel_text.specs.ParserMachine.{put_of, list_of, step_of}
use Rattle.st_kernel_text.specs.ValueMachine.{fits}
use Rattle.st_kernel_text.specs.Values.{Spells, may_follow}
use Rattle.st_kernel_text.specs.declared.assignment.Assignment.{Assignment}
use Rattle.st_kernel_text.specs.declared.assignment.Mode.{Mode}
use Rattle.st_kernel_text.specs.declared.fault.TextCause.TheVariants.{BadNumber}
use Rattle.st_kernel_text.specs.declared.parser.Parser.{Parser}
use Rattle.st_kernel_text.specs.declared.parser.Stage.TheVariants.{Signed, InList}
use Rattle.st_kernel_text.specs.declared.value.Value.{Value}
use Rattle.st_kernel_text.proofs.Grows.{items_gap, items_push, kinds_push}
use Rattle.st_kernel_text.proofs.Live.{IsHead, IsSigned, IsListed, Waits, waits_signed, waits_listed, live_waits, live_closed, Outcome, goes_on, breaks_off}
use Rattle.st_kernel_text.proofs.ReadAll.{closed, items_more}
use Rattle.st_kernel_text.proofs.States.{signed}
use Rattle.st_kernel_text.proofs.LiveValues.{listed_stands, listed_breaks, on_closed, open_quote, open_run, empty_run}

-- the list with these values is at its end
list_ends : (done : List Assignment) (name : List ℕ) (mode : Mode) (k l : ℕ) (vs : List Value) (t front items : Data) (n b : ℕ)
    → IsHead done name mode k front → AreOfOneKind vs → SpellsItems vs items ((n, b) ∷ []) → t ≡ front ++ ((l, 40) ∷ items) → (b == 41) ≡ true
    → 0 < length vs → Outcome t n b (Ok (closed done name mode k (Some l) vs))
list_ends done name mode k l vs t front items n b head kind spells w close some =
    let is = eqb-true b 41 close in
    goes_on t n b (closed done name mode k (Some l) vs) (live_closed (record {
      done = done;
      name = name;
      mode = mode;
      line = k;
      opened = Some l;
      values = vs;
      front = front;
      body = (l, 40) ∷ (items ++ (n, 41) ∷ []);
      blanks = [];
      is = refl;
      head = head;
      body_is = λ rest. inr (record {
        opened = l;
        items = items;
        closed = n;
        some = some;
        kind = kind;
        spells = subst (λ (z : ℕ). SpellsItems vs items ((n, z) ∷ [])) is spells;
        whole = refl;
      });
      are_blanks = refl;
      whole = ap (λ (z : Data). z ++ (n, b) ∷ []) w ∙ append_assoc front ((l, 40) ∷ items) ((n, b) ∷ [])
          ∙ ap (λ (z : ℕ). front ++ ((l, 40) ∷ (items ++ (n, z) ∷ []))) is ∙ ap (λ (z : Data). front ++ z) (sym (append-nil _));
    }))

list_goes : (done : List Assignment) (name : List ℕ) (mode : Mode) (k l : ℕ) (vs : List Value) (t front items : Data) (n b : ℕ)
    → IsHead done name mode k front → AreOfOneKind vs → SpellsItems vs items ((n, b) ∷ []) → t ≡ front ++ ((l, 40) ∷ items) → is_separator b ≡ true
    → Outcome t n b (Ok (signed InList done name mode k (Some l) vs []))
list_goes done name mode k l vs t front items n b head kind spells w sep =
    goes_on t n b (signed InList done name mode k (Some l) vs []) (live_waits (waits_listed (record {
      done = done;
      name = name;
      mode = mode;
      line = k;
      opened = l;
      values = vs;
      front = front;
      items = items ++ (n, b) ∷ [];
      is = refl;
      head = head;
      kind = kind;
      spells = items_gap vs items n b spells sep;
      whole = ap (λ (z : Data). z ++ (n, b) ∷ []) w ∙ append_assoc front ((l, 40) ∷ items) ((n, b) ∷ []);
    })))

no_values : (vs : List Value) → (length vs == 0) ≡ true → vs ≡ []
no_values [] h = refl
no_values (v ∷ vs) h = absurd (grind (arith, nat_tests, h))

some_values : (vs : List Value) → (length vs == 0) ≡ false → 0 < length vs
some_values vs h = omega (arith, eqb-false (length vs) 0 h)

on_list_open : (done : List Assignment) (name : List ℕ) (mode : Mode) (k l : ℕ) (vs : List Value) (t front items : Data) (n b : ℕ)
    → IsHead done name mode k front → AreOfOneKind vs → SpellsItems vs items [] → t ≡ front ++ ((l, 40) ∷ items)
    → Outcome t n b (list_of (signed InList done name mode k (Some l) vs []) n b)
on_list_open done name mode k l vs t front items n b head kind spells w =
    let p : Parser = signed InList done name mode k (Some l) vs [] in
    let here : IsListed t p = record { done = done; name = name; mode = mode; line = k; opened = l; values = vs; front = front; items = items; is = refl; head = head; kind = kind; spells = spells; whole = w } in
    let before = items_more vs items [] ((n, b) ∷ []) spells in
    cond_both (is_separator b) _ _ (Outcome t n b)
    (λ sep. list_goes done name mode k l vs t front items n b head kind before w sep)
    (λ sep. cond_both (b == 41) _ _ (Outcome t n b)
    (λ close. cond_both (length vs == 0) _ _ (Outcome t n b)
    (λ none. breaks_off t n b _ (λ rest. record {
      row = in_list l vs;
      before = t;
      rest = (n, b) ∷ rest;
      stands = listed_stands t p here;
      breaks = inl (refl, no_values vs none, record { more = rest; whole = ap (λ (z : ℕ). (n, z) ∷ rest) (eqb-true b 41 close) });
      whole = refl;
    }))
    (λ some. list_ends done name mode k l vs t front items n b head kind before w close (some_values vs some)))
    (λ close. cond_both (b == 39) _ _ (Outcome t n b)
    (λ quote. open_quote t p n b (waits_listed here) quote)
    (λ quote. cond_both (is_run_byte b) _ _ (Outcome t n b)
    (λ byte. open_run t p n b (waits_listed here) byte)
    (λ byte. cond_both (b == 41) _ _ (Outcome t n b)
    (λ again. absurd (both_ways (b == 41) close again))
    (λ again. breaks_off t n b _ (λ rest. listed_breaks t ((n, b) ∷ rest) p n BadNumber here
    (or_from _ _ sep close) (empty_run n b rest quote byte)))))))

pub on_list : (done : List Assignment) (name : List ℕ) (mode : Mode) (k l : ℕ) (vs : List Value) (t front items : Data) (n b : ℕ)
    → IsHead done name mode k front → AreOfOneKind vs → SpellsItems vs items [] → t ≡ front ++ ((l, 40) ∷ items)
    → Outcome t n b (step_of (signed InList done name mode k (Some l) vs []) n b)
unfolding step_of
on_list done name mode k l vs t front items n b head kind spells w = on_list_open done name mode k l vs t front items n b head kind spells w

-- a whole value and the byte after it
follows_list : (b : ℕ) → may_follow b ≡ true → is_separator b ≡ false → (b == 41) ≡ true
follows_list b h e = grind (arith, nat_tests, common_steps)

length_some : (vs : List Value) (v : Value) → 0 < length (vs ++ v ∷ [])
length_some vs v = omega (arith, length_push vs v)

on_listed_value : (done : List Assignment) (name : List ℕ) (mode : Mode) (k l : ℕ) (vs : List Value) (v : Value) (t front items : Data) (n b : ℕ)
    → IsHead done name mode k front → AreOfOneKind (vs ++ v ∷ []) → SpellsItems (vs ++ v ∷ []) items ((n, b) ∷ []) → t ≡ front ++ ((l, 40) ∷ items) → may_follow b ≡ true
    → Outcome t n b (list_of (signed InList done name mode k (Some l) (vs ++ v ∷ []) []) n b)
on_listed_value done name mode k l vs v t front items n b head kind spells w f =
    cond_both (is_separator b) _ _ (Outcome t n b)
    (λ sep. list_goes done name mode k l (vs ++ v ∷ []) t front items n b head kind spells w sep)
    (λ sep.
    let close = follows_list b f sep in
    cond_both (b == 41) _ _ (Outcome t n b)
    (λ c. cond_both (length (vs ++ v ∷ []) == 0) _ _ (Outcome t n b)
    (λ none. absurd (omega (arith, eqb-true (length (vs ++ v ∷ [])) 0 none, length_some vs v)))
    (λ some. list_ends done name mode k l (vs ++ v ∷ []) t front items n b head kind spells w c (length_some vs v)))
    (λ c. absurd (both_ways (b == 41) c close)))

mixed : (vs : List Value) (v : Value) (t : Data) (n b : ℕ) (rest : Data) → fits vs v ≡ false → Spells v (plain t) → may_follow b ≡ true → HasOtherKind vs (t ++ ((n, b) ∷ rest)) n
mixed [] v t n b rest h s f = absurd (cc)
mixed (first ∷ others) v t n b rest h s f =
    record { first = first; others = others; value = v; text = t; byte = b; more = rest; before = refl; other = h; spells = s; ends = f; whole = refl }

put_listed : (t front text : Data) (q : Parser) (v : Value) (n b : ℕ) → (h : IsListed front q) → Spells v (plain text) → may_follow b ≡ true → t ≡ front ++ text
    → Outcome t n b (put_of (signed InList h.done h.name h.mode h.line (Some h.opened) h.values []) v n b)
unfolding put_of
put_listed t front text q v n b h s f w =
    cond_both (fits h.values v) _ _ (Outcome t n b)
    (λ fit. on_listed_value h.done h.name h.mode h.line h.opened h.values v t h.front (h.items ++ text) n b h.head
    (kinds_push h.values v h.kind fit) (items_push h.values v h.items text n b h.spells s f)
    (w ∙ ap (λ (z : Data). z ++ text) h.whole ∙ append_assoc h.front ((h.opened, 40) ∷ h.items) text) f)
    (λ fit. breaks_off t n b _ (λ rest. record {
      row = in_list h.opened h.values;
      before = front;
      rest = text ++ ((n, b) ∷ rest);
      stands = listed_stands front q h;
      breaks = inr (inl (refl, mixed h.values v text n b rest fit s f));
      whole = ap (λ (z : Data). z ++ ((n, b) ∷ rest)) w ∙ append_assoc front text ((n, b) ∷ rest);
    }))

put_signed : (t front text : Data) (q : Parser) (v : Value) (n b : ℕ) → (h : IsSigned front q) → Spells v (plain text) → may_follow b ≡ true → t ≡ front ++ text
    → Outcome t n b (put_of (signed Signed h.done h.name h.mode h.line None [] []) v n b)
unfolding put_of
put_signed t front text q v n b h s f w =
    on_closed h.done h.name h.mode h.line None (v ∷ []) t front text [] n b h.head
    (λ rest. inl (record { value = v; one = refl; spells = s; ends = f })) refl (w ∙ ap (λ (z : Data). front ++ z) (sym (append-nil text)))

pub put_value : (t front text : Data) (q : Parser) (v : Value) (n b : ℕ) → Waits front q → Spells v (plain text) → may_follow b ≡ true → t ≡ front ++ text
    → Outcome t n b (put_of q v n b)
put_value t front text q v n b (waits_signed h) s f w =
    subst (λ (z : Parser). Outcome t n b (put_of z v n b)) (sym h.is) (put_signed t front text q v n b h s f w)
put_value t front text q v n b (waits_listed h) s f w =
    subst (λ (z : Parser). Outcome t n b (put_of z v n b)) (sym h.is) (put_listed t front text q v n b h s f w)
