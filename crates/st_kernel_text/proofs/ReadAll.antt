-- Lists and whole assignments are read as they are spelled.
use Rattle.std.proofs.Common.{inl, inr, ◌≡◌, ℕ, ◌<◌, true, false, List, [], ◌∷◌, ◌++◌, length, Option, Some, None, Result, Ok, refl, ap, sym, ◌∙◌, subst, arith, append_assoc}
use Rattle.std.specs.Prelude.{◌==◌}
use Rattle.std.proofs.lemmas.Bool.{and_parts, cond-true, cond-false, ne_eqb}
use Rattle.std.proofs.lemmas.Bool.Decides.{nat_tests}
use Rattle.std.proofs.lemmas.Grind.{common_steps}
use Rattle.std.proofs.lemmas.List.{append-nil}
use Rattle.std.proofs.lemmas.List.Folds.{list_all-append}
use Rattle.st_text.specs.Bytes.{is_blank}
use Rattle.st_kernel_text.specs.Bytes.{is_space, is_separator}
use Rattle.st_kernel_text.specs.Fault.{Fault}
use Rattle.st_kernel_text.specs.Grammar.{Data, plain, EndsValue, same_kind, AreOfOneKind, SpellsItems, SpellsList, SpellsValues, SpellsAssignment, SpellsAll}
use Rattle.st_kernel_text.specs.ParserMachine.{◌>>=◌, fresh, put_of, step_of, steps_of}
use Rattle.st_kernel_text.specs.ValueMachine.{fits}
use Rattle.st_kernel_text.specs.Values.{Spells}
use Rattle.st_kernel_text.specs.declared.assignment.Assignment.{Assignment}
use Rattle.st_kernel_text.specs.declared.assignment.Mode.{Mode}
use Rattle.st_kernel_text.specs.declared.parser.Parser.{Parser}
use Rattle.st_kernel_text.specs.declared.parser.Stage.TheVariants.{Signed, InList, Closed}
use Rattle.st_kernel_text.specs.declared.value.Value.{Value}
use Rattle.st_kernel_text.proofs.Heads.{head_read}
use Rattle.st_kernel_text.proofs.ReadValues.{starts_signed, starts_list, value_read}
use Rattle.st_kernel_text.proofs.States.{signed, one_step, skip}

-- what follows may be more
pub ends_more : (rest follow more : Data) → EndsValue (rest ++ follow) → EndsValue (rest ++ (follow ++ more))
ends_more [] [] more h = absurd h
ends_more [] (b ∷ follow) more h = h
ends_more (b ∷ rest) follow more h = h

pub items_more : (vs : List Value) (t follow more : Data) → SpellsItems vs t follow → SpellsItems vs t (follow ++ more)
items_more [] t follow more h = h
items_more (v ∷ vs) t follow more h = record {
  gap = h.gap;
  text = h.text;
  rest = h.rest;
  are_separators = h.are_separators;
  value = h.value;
  ends = ends_more h.rest follow more h.ends;
  more = items_more vs h.rest follow more h.more;
  whole = h.whole;
}

-- a value fits those before it, where all are of one kind
pub fits_kind : (us : List Value) (v : Value) (vs : List Value) → AreOfOneKind (us ++ v ∷ vs) → fits us v ≡ true
fits_kind [] v vs h = refl
fits_kind (u ∷ us) v vs h = (and_parts _ _ ((and_parts _ _ (sym (list_all-append (same_kind u) us (v ∷ vs)) ∙ h)).1)).0

separator_skips : (done : List Assignment) (name : List ℕ) (mode : Mode) (k : ℕ) (o : Option ℕ) (vs : List Value) (n b : ℕ)
    → is_separator b ≡ true → step_of (signed InList done name mode k o vs []) n b ≡ Ok (signed InList done name mode k o vs [])
unfolding step_of
separator_skips done name mode k o vs n b h = cond-true _ _ _ h

-- a value of a list, up to the byte after it, which is read as in the list
listed_put : (done : List Assignment) (name : List ℕ) (mode : Mode) (k l : ℕ) (us : List Value) (v : Value) (n b : ℕ) → fits us v ≡ true
    → put_of (signed InList done name mode k (Some l) us []) v n b ≡ step_of (signed InList done name mode k (Some l) (us ++ v ∷ []) []) n b
unfolding put_of step_of
listed_put done name mode k l us v n b h = cond-true _ _ _ h

item_read : (done : List Assignment) (name : List ℕ) (mode : Mode) (k l : ℕ) (us : List Value) (v : Value) (text rest : Data)
    → Spells v (plain text) → EndsValue rest → fits us v ≡ true
    → steps_of (signed InList done name mode k (Some l) us []) (text ++ rest) ≡ steps_of (signed InList done name mode k (Some l) (us ++ v ∷ []) []) rest
item_read done name mode k l us v text [] s e f = absurd e
item_read done name mode k l us v text (b ∷ rest) s e f =
    value_read _ v text rest b.0 b.1 (starts_list done name mode k (Some l) us) s e
    ∙ ap (λ (r : Result Parser Fault). r >>= λ z. steps_of z rest) (listed_put done name mode k l us v b.0 b.1 f)

pub items_read : (done : List Assignment) (name : List ℕ) (mode : Mode) (k l : ℕ) (us vs : List Value) (t follow : Data)
    → SpellsItems vs t follow → AreOfOneKind (us ++ vs)
    → steps_of (signed InList done name mode k (Some l) us []) (t ++ follow) ≡ steps_of (signed InList done name mode k (Some l) (us ++ vs) []) follow
items_read done name mode k l us [] t follow h kind =
    skip _ is_separator t follow (separator_skips done name mode k (Some l) us) h
    ∙ ap (λ (z : List Value). steps_of (signed InList done name mode k (Some l) z []) follow) (sym (append-nil us))
items_read done name mode k l us (v ∷ vs) t follow h kind =
    let together = append_assoc us (v ∷ []) vs in
    let still : AreOfOneKind ((us ++ v ∷ []) ++ vs) = subst AreOfOneKind (sym together) kind in
    ap (λ (z : Data). steps_of (signed InList done name mode k (Some l) us []) (z ++ follow)) h.whole
    ∙ ap (steps_of (signed InList done name mode k (Some l) us []))
    (append_assoc h.gap (h.text ++ h.rest) follow ∙ ap (λ (z : Data). h.gap ++ z) (append_assoc h.text h.rest follow))
    ∙ skip _ is_separator h.gap (h.text ++ (h.rest ++ follow)) (separator_skips done name mode k (Some l) us) h.are_separators
    ∙ item_read done name mode k l us v h.text (h.rest ++ follow) h.value h.ends (fits_kind us v vs kind)
    ∙ items_read done name mode k l (us ++ v ∷ []) vs h.rest follow h.more still
    ∙ ap (λ (z : List Value). steps_of (signed InList done name mode k (Some l) z []) follow) together

-- after the values of an assignment
abbrev pub closed : List Assignment → List ℕ → Mode → ℕ → Option ℕ → List Value → Parser
closed done name mode k o vs = signed Closed done name mode k o vs []

alone_put : (done : List Assignment) (name : List ℕ) (mode : Mode) (k : ℕ) (v : Value) (n b : ℕ)
    → put_of (signed Signed done name mode k None [] []) v n b ≡ step_of (closed done name mode k None (v ∷ [])) n b
unfolding put_of step_of
alone_put done name mode k v n b = refl

alone_read : (done : List Assignment) (name : List ℕ) (mode : Mode) (k : ℕ) (v : Value) (text rest : Data)
    → Spells v (plain text) → EndsValue rest
    → steps_of (signed Signed done name mode k None [] []) (text ++ rest) ≡ steps_of (closed done name mode k None (v ∷ [])) rest
alone_read done name mode k v text [] s e = absurd e
alone_read done name mode k v text (b ∷ rest) s e =
    value_read _ v text rest b.0 b.1 (starts_signed done name mode k) s e
    ∙ ap (λ (r : Result Parser Fault). r >>= λ z. steps_of z rest) (alone_put done name mode k v b.0 b.1)

pub list_opens : (done : List Assignment) (name : List ℕ) (mode : Mode) (k n : ℕ)
    → step_of (signed Signed done name mode k None [] []) n 40 ≡ Ok (signed InList done name mode k (Some n) [] [])
unfolding step_of
list_opens done name mode k n = refl

list_closes : (done : List Assignment) (name : List ℕ) (mode : Mode) (k l : ℕ) (vs : List Value) (n : ℕ) → 0 < length vs
    → step_of (signed InList done name mode k (Some l) vs []) n 41 ≡ Ok (closed done name mode k (Some l) vs)
unfolding step_of
list_closes done name mode k l vs n h =
    cond-false (length vs == 0) _ _ (ne_eqb (length vs) 0 (λ (e : length vs ≡ 0). absurd (omega (arith, h, e))))

-- where the reader stands after the values, which depends on their parentheses
pub record Behind (done : List Assignment) (name : List ℕ) (mode : Mode) (k : ℕ) (vs : List Value) (t rest : Data) : Type 0 where
  pub opened : Option ℕ
  pub is : steps_of (signed Signed done name mode k None [] []) (t ++ rest) ≡ steps_of (closed done name mode k opened vs) rest

list_read : (done : List Assignment) (name : List ℕ) (mode : Mode) (k : ℕ) (vs : List Value) (t rest : Data) → (h : SpellsList vs t)
    → steps_of (signed Signed done name mode k None [] []) (t ++ rest) ≡ steps_of (closed done name mode k (Some h.opened) vs) rest
list_read done name mode k vs t rest h =
    ap (λ (z : Data). steps_of (signed Signed done name mode k None [] []) (z ++ rest)) h.whole
    ∙ one_step _ _ h.opened 40 ((h.items ++ (h.closed, 41) ∷ []) ++ rest) (list_opens done name mode k h.opened)
    ∙ ap (steps_of (signed InList done name mode k (Some h.opened) [] [])) (append_assoc h.items ((h.closed, 41) ∷ []) rest)
    ∙ items_read done name mode k h.opened [] vs h.items ((h.closed, 41) ∷ rest) (items_more vs h.items ((h.closed, 41) ∷ []) rest h.spells) h.kind
    ∙ one_step _ _ h.closed 41 rest (list_closes done name mode k h.opened vs h.closed h.some)

pub values_read : (done : List Assignment) (name : List ℕ) (mode : Mode) (k : ℕ) (vs : List Value) (t rest : Data)
    → SpellsValues vs t rest → Behind done name mode k vs t rest
values_read done name mode k vs t rest (inl h) = record {
  opened = None;
  is = alone_read done name mode k h.value t rest h.spells h.ends
      ∙ ap (λ (z : List Value). steps_of (closed done name mode k None z) rest) (sym h.one);
}
values_read done name mode k vs t rest (inr h) = record { opened = Some h.opened; is = list_read done name mode k vs t rest h }

pub values_more : (vs : List Value) (t follow more : Data) → SpellsValues vs t follow → SpellsValues vs t (follow ++ more)
values_more vs t follow more (inl h) = inl (record { value = h.value; one = h.one; spells = h.spells; ends = ends_more [] follow more h.ends })
values_more vs t follow more (inr h) = inr h

pub blank_closed : (done : List Assignment) (name : List ℕ) (mode : Mode) (k : ℕ) (o : Option ℕ) (vs : List Value) (n b : ℕ)
    → is_blank b ≡ true → step_of (closed done name mode k o vs) n b ≡ Ok (closed done name mode k o vs)
unfolding step_of
blank_closed done name mode k o vs n b h =
    let other : (b == 10) ≡ false = grind (arith, nat_tests, common_steps) in
    cond-false _ _ _ other ∙ cond-true _ _ _ h

abbrev pub assigned : List ℕ → Mode → List Value → Assignment
assigned name mode vs = record { name = name; mode = mode; values = vs }

pub line_ends : (done : List Assignment) (name : List ℕ) (mode : Mode) (k : ℕ) (o : Option ℕ) (vs : List Value) (n : ℕ)
    → step_of (closed done name mode k o vs) n 10 ≡ Ok (fresh (done ++ assigned name mode vs ∷ []))
unfolding step_of
line_ends done name mode k o vs n = refl

assignment_read : (done : List Assignment) (a : Assignment) (t rest : Data) → SpellsAssignment a t
    → steps_of (fresh done) (t ++ rest) ≡ steps_of (fresh (done ++ a ∷ [])) rest
assignment_read done a t rest h =
    let ended : Data = (h.end_line, 10) ∷ rest in
    let behind = values_read done a.name a.mode h.sign_line a.values h.body (h.blanks ++ ended)
    (subst (SpellsValues a.values h.body) (append_assoc h.blanks ((h.end_line, 10) ∷ []) rest)
    (values_more a.values h.body (h.blanks ++ (h.end_line, 10) ∷ []) rest h.body_is)) in
    ap (λ (z : Data). steps_of (fresh done) (z ++ rest)) h.whole
    ∙ ap (steps_of (fresh done))
    (append_assoc h.head (h.body ++ (h.blanks ++ (h.end_line, 10) ∷ [])) rest
    ∙ ap (λ (z : Data). h.head ++ z) (append_assoc h.body (h.blanks ++ (h.end_line, 10) ∷ []) rest
    ∙ ap (λ (z : Data). h.body ++ z) (append_assoc h.blanks ((h.end_line, 10) ∷ []) rest)))
    ∙ head_read done a.name a.mode h.sign_line h.head (h.body ++ (h.blanks ++ ended)) h.head_is
    ∙ behind.is
    ∙ skip _ is_blank h.blanks ended (blank_closed done a.name a.mode h.sign_line behind.opened a.values) h.are_blanks
    ∙ one_step _ _ h.end_line 10 rest (line_ends done a.name a.mode h.sign_line behind.opened a.values h.end_line)

pub space_skips : (done : List Assignment) (n b : ℕ) → is_space b ≡ true → step_of (fresh done) n b ≡ Ok (fresh done)
unfolding step_of
space_skips done n b h = cond-true _ _ _ h

pub all_read : (done list : List Assignment) (t rest : Data) → SpellsAll list t
    → steps_of (fresh done) (t ++ rest) ≡ steps_of (fresh (done ++ list)) rest
all_read done [] t rest h =
    skip _ is_space t rest (space_skips done) h ∙ ap (λ (z : List Assignment). steps_of (fresh z) rest) (sym (append-nil done))
all_read done (a ∷ list) t rest h =
    ap (λ (z : Data). steps_of (fresh done) (z ++ rest)) h.whole
    ∙ ap (steps_of (fresh done)) (append_assoc h.gap (h.text ++ h.rest) rest ∙ ap (λ (z : Data). h.gap ++ z) (append_assoc h.text h.rest rest))
    ∙ skip _ is_space h.gap (h.text ++ (h.rest ++ rest)) (space_skips done) h.are_spaces
    ∙ assignment_read done a h.text (h.rest ++ rest) h.assignment
    ∙ all_read (done ++ a ∷ []) list h.rest rest h.more
    ∙ ap (λ (z : List Assignment). steps_of (fresh z) rest) (append_assoc done (a ∷ []) list)
