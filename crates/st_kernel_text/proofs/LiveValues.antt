-- One more byte before a value, in it and after it.
use Rattle.std.proofs.Common.{inl, inr, ◌≡◌, ℕ, true, false, List, [], ◌∷◌, ◌++◌, Option, Some, None, Ok, refl, ap, sym, ◌∙◌, subst, arith, append_assoc}
use Rattle.std.specs.Prelude.{◌==◌}
use Rattle.std.specs.List.{list_all}
use Rattle.std.proofs.lemmas.Bool.{and_from, cond_both, eqb-true, or_from}
use Rattle.std.proofs.lemmas.Bool.Decides.{nat_tests}
use Rattle.std.proofs.lemmas.Grind.{common_steps}
use Rattle.st_text.specs.Bytes.{is_blank}
use Rattle.st_kernel_text.specs.Bytes.{is_space, is_run_byte}
use Rattle.st_kernel_text.specs.FaultSteps.{HasFault, HasBadValue, BeginsWithout}
use Rattle.st_kernel_text.specs.Faults.{behind_sign, in_list, behind_values, is_before_value, StandsListed}
use Rattle.st_kernel_text.specs.Grammar.{Data, plain, SpellsValues, SpellsAll}
use Rattle.st_kernel_text.specs.ParserMachine.{fresh, closed_of, step_of}
use Rattle.st_kernel_text.specs.Values.{may_follow}
use Rattle.st_kernel_text.specs.declared.assignment.Assignment.{Assignment}
use Rattle.st_kernel_text.specs.declared.assignment.Mode.{Mode}
use Rattle.st_kernel_text.specs.declared.fault.TextCause.{TextCause}
use Rattle.st_kernel_text.specs.declared.fault.TextCause.TheVariants.{BadNumber}
use Rattle.st_kernel_text.specs.declared.parser.Parser.{Parser}
use Rattle.st_kernel_text.specs.declared.parser.Stage.TheVariants.{Signed, InList}
use Rattle.st_kernel_text.specs.declared.value.Value.{Value}
use Rattle.st_kernel_text.proofs.Grows.{all_more, all_push, append3}
use Rattle.st_kernel_text.proofs.Live.{IsHead, head_stands, IsSigned, IsListed, Waits, waits_signed, waits_listed, live_between, live_waits, live_run, live_text, live_closed, Outcome, goes_on, breaks_off}
use Rattle.st_kernel_text.proofs.ReadAll.{closed, assigned}
use Rattle.st_kernel_text.proofs.ReadValues.{opens_value, in_run, in_text}
use Rattle.st_kernel_text.proofs.States.{signed}

-- the first byte of a value is nothing that may stand before it
opens_before : (b : ℕ) → opens_value b ≡ true → is_before_value b ≡ false
unfolding is_run_byte
opens_before b h = grind (arith, nat_tests, common_steps)

opens_follow : (b : ℕ) → opens_value b ≡ true → may_follow b ≡ false
unfolding is_run_byte
opens_follow b h = grind (arith, nat_tests, common_steps)

-- a value that breaks where the reader expects one
abbrev pub OpensValue : Data → Type 0
OpensValue [] = ⊥
OpensValue (b ∷ t) = opens_value b.1 ≡ true

without_before : (rest : Data) → OpensValue rest → BeginsWithout is_before_value rest
without_before [] h = absurd h
without_before (b ∷ rest) h = opens_before b.1 h

without_follow : (rest : Data) → OpensValue rest → BeginsWithout may_follow rest
without_follow [] h = absurd h
without_follow (b ∷ rest) h = opens_follow b.1 h

pub listed_stands : (t : Data) (p : Parser) → (h : IsListed t p) → StandsListed h.opened h.values t
listed_stands t p h =
    record { sign_line = h.line; front = h.front; items = h.items; signed = head_stands h.done h.name h.mode h.line h.front h.head; kind = h.kind; spells = h.spells; whole = h.whole }

signed_breaks : (t rest : Data) (p : Parser) (n : ℕ) (cause : TextCause) → IsSigned t p → BeginsWithout is_before_value rest → HasBadValue rest n cause → HasFault (t ++ rest) n cause
signed_breaks t rest p n cause h b v = record {
  row = behind_sign h.line;
  before = t;
  rest = rest;
  stands = head_stands h.done h.name h.mode h.line t h.head;
  breaks = inr (b, v);
  whole = refl;
}

pub listed_breaks : (t rest : Data) (p : Parser) (n : ℕ) (cause : TextCause) → IsListed t p → BeginsWithout may_follow rest → HasBadValue rest n cause → HasFault (t ++ rest) n cause
listed_breaks t rest p n cause h b v = record {
  row = in_list h.opened h.values;
  before = t;
  rest = rest;
  stands = listed_stands t p h;
  breaks = inr (inr (b, v));
  whole = refl;
}

pub value_breaks : (t rest : Data) (p : Parser) (n : ℕ) (cause : TextCause) → Waits t p → OpensValue rest → HasBadValue rest n cause → HasFault (t ++ rest) n cause
value_breaks t rest p n cause (waits_signed h) o v = signed_breaks t rest p n cause h (without_before rest o) v
value_breaks t rest p n cause (waits_listed h) o v = listed_breaks t rest p n cause h (without_follow rest o) v

-- after the values
pub on_closed : (done : List Assignment) (name : List ℕ) (mode : Mode) (k : ℕ) (o : Option ℕ) (vs : List Value) (t front body blanks : Data) (n b : ℕ)
    → IsHead done name mode k front → ((rest : Data) → SpellsValues vs body (blanks ++ ((n, b) ∷ rest))) → list_all is_blank (plain blanks) ≡ true
    → t ≡ front ++ (body ++ blanks) → Outcome t n b (closed_of (closed done name mode k o vs) n b)
on_closed done name mode k o vs t front body blanks n b head values bs w =
    let longer : t ++ (n, b) ∷ [] ≡ front ++ (body ++ (blanks ++ (n, b) ∷ [])) = ap (λ (z : Data). z ++ (n, b) ∷ []) w ∙ append3 front body blanks ((n, b) ∷ []) in
    cond_both (b == 10) _ _ (Outcome t n b)
    (λ end.
    let is = eqb-true b 10 end in
    goes_on t n b (fresh (done ++ assigned name mode vs ∷ [])) (live_between (record {
      done = done ++ assigned name mode vs ∷ [];
      is = refl;
      spells = subst (SpellsAll (done ++ assigned name mode vs ∷ []))
          (sym (append_assoc head.front head.head (body ++ (blanks ++ (n, 10) ∷ [])))
          ∙ ap (λ (z : Data). z ++ (body ++ (blanks ++ (n, 10) ∷ []))) (sym head.whole)
          ∙ ap (λ (z : ℕ). front ++ (body ++ (blanks ++ (n, z) ∷ []))) (sym is) ∙ sym longer)
          (all_push done (assigned name mode vs) head.front (head.head ++ (body ++ (blanks ++ (n, 10) ∷ []))) head.spells (record {
            sign_line = k;
            head = head.head;
            body = body;
            blanks = blanks;
            end_line = n;
            head_is = head.head_is;
            body_is = subst (λ (z : ℕ). SpellsValues vs body (blanks ++ (n, z) ∷ [])) is (values []);
            are_blanks = bs;
            whole = refl;
          }));
    })))
    (λ end. cond_both (is_blank b) _ _ (Outcome t n b)
    (λ blank. goes_on t n b (closed done name mode k o vs) (live_closed (record {
      done = done;
      name = name;
      mode = mode;
      line = k;
      opened = o;
      values = vs;
      front = front;
      body = body;
      blanks = blanks ++ (n, b) ∷ [];
      is = refl;
      head = head;
      body_is = λ rest. subst (SpellsValues vs body) (sym (append_assoc blanks ((n, b) ∷ []) rest)) (values rest);
      are_blanks = all_more is_blank blanks n b bs blank;
      whole = longer;
    })))
    (λ blank. breaks_off t n b _ (λ rest. record {
      row = behind_values;
      before = t;
      rest = (n, b) ∷ rest;
      stands = record { sign_line = k; values = vs; front = front; body = body; blanks = blanks; signed = head_stands done name mode k front head; body_is = values rest; are_blanks = bs; whole = w };
      breaks = (refl, or_from _ _ blank end, (b, record { more = rest; whole = refl }));
      whole = refl;
    })))

pub on_behind : (done : List Assignment) (name : List ℕ) (mode : Mode) (k : ℕ) (o : Option ℕ) (vs : List Value) (t front body blanks : Data) (n b : ℕ)
    → IsHead done name mode k front → ((rest : Data) → SpellsValues vs body (blanks ++ ((n, b) ∷ rest))) → list_all is_blank (plain blanks) ≡ true
    → t ≡ front ++ (body ++ blanks) → Outcome t n b (step_of (closed done name mode k o vs) n b)
unfolding step_of
on_behind done name mode k o vs t front body blanks n b head values bs w = on_closed done name mode k o vs t front body blanks n b head values bs w

-- the first byte of a value
pub open_quote : (t : Data) (p : Parser) (n b : ℕ) → Waits t (record p { run = [] }) → (b == 39) ≡ true → Outcome t n b (Ok (in_text p []))
open_quote t p n b waits e = goes_on t n b (in_text p []) (live_text (record {
  state = record p { run = [] };
  front = t;
  line = n;
  text = [];
  content = [];
  is = refl;
  waits = waits;
  content_is = record { most = omega arith; one_line = refl };
  written = refl;
  whole = ap (λ (z : ℕ). t ++ (n, z) ∷ []) (eqb-true b 39 e);
}))

pub open_run : (t : Data) (p : Parser) (n b : ℕ) → Waits t (record p { run = [] }) → is_run_byte b ≡ true → Outcome t n b (Ok (in_run p (b ∷ [])))
open_run t p n b waits e = goes_on t n b (in_run p (b ∷ [])) (live_run (record {
  state = record p { run = [] };
  front = t;
  word = (n, b) ∷ [];
  is = refl;
  waits = waits;
  some = omega arith;
  bytes = and_from _ _ e refl;
  whole = refl;
}))

-- an empty run
pub empty_run : (n b : ℕ) (rest : Data) → (b == 39) ≡ false → is_run_byte b ≡ false → HasBadValue ((n, b) ∷ rest) n BadNumber
empty_run n b rest q r = inl (
  q,
  record {
    word = [];
    byte = b;
    more = rest;
    bytes = refl;
    longest = r;
    none = λ f d h. h;
    cause_is = refl;
    whole = refl;
  },
)

pub on_signed : (done : List Assignment) (name : List ℕ) (mode : Mode) (k : ℕ) (t : Data) (n b : ℕ) → IsHead done name mode k t
    → Outcome t n b (step_of (signed Signed done name mode k None [] []) n b)
unfolding step_of
on_signed done name mode k t n b head =
    let p : Parser = signed Signed done name mode k None [] [] in
    let here : IsSigned t p = record { done = done; name = name; mode = mode; line = k; is = refl; head = head } in
    cond_both (is_space b) _ _ (Outcome t n b)
    (λ space. goes_on t n b p (live_waits (waits_signed (record {
      done = done;
      name = name;
      mode = mode;
      line = k;
      is = refl;
      head = record {
        front = head.front;
        head = head.head ++ (n, b) ∷ [];
        spells = head.spells;
        head_is = record {
          word = head.head_is.word;
          blanks = head.head_is.blanks;
          sign = head.head_is.sign;
          spaces = head.head_is.spaces ++ (n, b) ∷ [];
          name_is = head.head_is.name_is;
          is = head.head_is.is;
          are_blanks = head.head_is.are_blanks;
          sign_is = head.head_is.sign_is;
          are_spaces = all_more is_space head.head_is.spaces n b head.head_is.are_spaces space;
          whole = ap (λ (z : Data). z ++ (n, b) ∷ []) head.head_is.whole
              ∙ append3 head.head_is.word head.head_is.blanks (head.head_is.sign ++ head.head_is.spaces) ((n, b) ∷ [])
              ∙ ap (λ (z : Data). head.head_is.word ++ (head.head_is.blanks ++ z)) (append_assoc head.head_is.sign head.head_is.spaces ((n, b) ∷ []));
        };
        whole = ap (λ (z : Data). z ++ (n, b) ∷ []) head.whole ∙ append_assoc head.front head.head ((n, b) ∷ []);
      };
    }))))
    (λ space. cond_both (b == 40) _ _ (Outcome t n b)
    (λ paren. goes_on t n b (signed InList done name mode k (Some n) [] []) (live_waits (waits_listed (record {
      done = done;
      name = name;
      mode = mode;
      line = k;
      opened = n;
      values = [];
      front = t;
      items = [];
      is = refl;
      head = head;
      kind = tt;
      spells = refl;
      whole = ap (λ (z : ℕ). t ++ (n, z) ∷ []) (eqb-true b 40 paren);
    }))))
    (λ paren. cond_both (b == 39) _ _ (Outcome t n b)
    (λ quote. open_quote t p n b (waits_signed here) quote)
    (λ quote. cond_both (is_run_byte b) _ _ (Outcome t n b)
    (λ byte. open_run t p n b (waits_signed here) byte)
    (λ byte. cond_both (b == 41) _ _ (Outcome t n b)
    (λ close. breaks_off t n b _ (λ rest. record {
      row = behind_sign k;
      before = t;
      rest = (n, b) ∷ rest;
      stands = head_stands done name mode k t head;
      breaks = inl (refl, record { more = rest; whole = ap (λ (z : ℕ). (n, z) ∷ rest) (eqb-true b 41 close) });
      whole = refl;
    }))
    (λ close. breaks_off t n b _ (λ rest. signed_breaks t ((n, b) ∷ rest) p n BadNumber here
    (or_from _ _ (or_from _ _ space paren) close) (empty_run n b rest quote byte)))))))
