-- Where a token stands the reader is in the state of that row.
use Rattle.std.proofs.Common.{◌≡◌, ℕ, true, List, [], ◌∷◌, ◌++◌, Option, Some, None, Ok, refl, ap, sym, ◌∙◌, subst, append_assoc}
use Rattle.std.specs.List.{list_all}
use Rattle.std.proofs.lemmas.List.{append-nil}
use Rattle.st_text.specs.Bytes.{is_blank}
use Rattle.st_kernel_text.specs.Faults.{Row, between, behind_name, behind_sign, in_list, behind_values, Stands, StandsBetween, StandsNamed, StandsSigned, StandsListed, StandsClosed}
use Rattle.st_kernel_text.specs.Grammar.{Data, plain}
use Rattle.st_kernel_text.specs.ParserMachine.{fresh, steps_of}
use Rattle.st_kernel_text.specs.declared.assignment.Assignment.{Assignment}
use Rattle.st_kernel_text.specs.declared.assignment.Mode.{Mode}
use Rattle.st_kernel_text.specs.declared.parser.Parser.{Parser}
use Rattle.st_kernel_text.specs.declared.parser.Stage.TheVariants.{Name, Named, Signed, InList}
use Rattle.st_kernel_text.specs.declared.value.Value.{Value}
use Rattle.st_kernel_text.proofs.Heads.{head_read, name_read, blanks_read}
use Rattle.st_kernel_text.proofs.ReadAll.{all_read, items_read, items_more, list_opens, values_read, closed, blank_closed}
use Rattle.st_kernel_text.proofs.States.{naming, signed, one_step, skip}

pub record ReadsBetween (t rest : Data) : Type 0 where
  pub done : List Assignment
  pub is : steps_of (fresh []) (t ++ rest) ≡ steps_of (fresh done) rest

pub between_read : (t rest : Data) → StandsBetween t → ReadsBetween t rest
between_read t rest h = record { done = h.done; is = all_read [] h.done t rest h.spells }

pub record ReadsSigned (n : ℕ) (t rest : Data) : Type 0 where
  pub done : List Assignment
  pub name : List ℕ
  pub mode : Mode
  pub is : steps_of (fresh []) (t ++ rest) ≡ steps_of (signed Signed done name mode n None [] []) rest

pub signed_read : (n : ℕ) (t rest : Data) → StandsSigned n t → ReadsSigned n t rest
signed_read n t rest h = record {
  done = h.done;
  name = h.name;
  mode = h.mode;
  is = ap (λ (z : Data). steps_of (fresh []) (z ++ rest)) h.whole
      ∙ ap (steps_of (fresh [])) (append_assoc h.front h.head rest)
      ∙ all_read [] h.done h.front (h.head ++ rest) h.spells
      ∙ head_read h.done h.name h.mode n h.head rest h.head_is;
}

-- after a name the reader is still in it, where no blank follows
pub record ReadsNamed (t rest : Data) (word blanks : Data) : Type 0 where
  pub done : List Assignment
  pub is : steps_of (fresh []) (t ++ rest) ≡ steps_of (naming Name done (plain word)) (blanks ++ rest)

pub named_read : (t rest : Data) → (h : StandsNamed t rest) → ReadsNamed t rest h.word h.blanks
named_read t rest h = record {
  done = h.done;
  is = ap (λ (z : Data). steps_of (fresh []) (z ++ rest)) h.whole
      ∙ ap (steps_of (fresh [])) (append_assoc h.front (h.word ++ h.blanks) rest ∙ ap (λ (z : Data). h.front ++ z) (append_assoc h.word h.blanks rest))
      ∙ all_read [] h.done h.front (h.word ++ (h.blanks ++ rest)) h.spells
      ∙ name_read h.done h.word (h.blanks ++ rest) h.name_is.some h.name_is.bytes;
}

pub record ReadsListed (n : ℕ) (vs : List Value) (t rest : Data) : Type 0 where
  pub done : List Assignment
  pub name : List ℕ
  pub mode : Mode
  pub sign_line : ℕ
  pub is : steps_of (fresh []) (t ++ rest) ≡ steps_of (signed InList done name mode sign_line (Some n) vs []) rest

pub listed_read : (n : ℕ) (vs : List Value) (t rest : Data) → StandsListed n vs t → ReadsListed n vs t rest
listed_read n vs t rest h =
    let before = signed_read h.sign_line h.front ((n, 40) ∷ (h.items ++ rest)) h.signed in
    record {
      done = before.done;
      name = before.name;
      mode = before.mode;
      sign_line = h.sign_line;
      is = ap (λ (z : Data). steps_of (fresh []) (z ++ rest)) h.whole
          ∙ ap (steps_of (fresh [])) (append_assoc h.front ((n, 40) ∷ h.items) rest)
          ∙ before.is
          ∙ one_step _ _ n 40 (h.items ++ rest) (list_opens before.done before.name before.mode h.sign_line n)
          ∙ items_read before.done before.name before.mode h.sign_line n [] vs h.items rest (items_more vs h.items [] rest h.spells) h.kind;
    }

pub record ReadsClosed (t rest : Data) : Type 0 where
  pub done : List Assignment
  pub name : List ℕ
  pub mode : Mode
  pub sign_line : ℕ
  pub opened : Option ℕ
  pub values : List Value
  pub is : steps_of (fresh []) (t ++ rest) ≡ steps_of (closed done name mode sign_line opened values) rest

pub closed_row_read : (t rest : Data) → StandsClosed t rest → ReadsClosed t rest
closed_row_read t rest h =
    let before = signed_read h.sign_line h.front (h.body ++ (h.blanks ++ rest)) h.signed in
    let behind = values_read before.done before.name before.mode h.sign_line h.values h.body (h.blanks ++ rest) h.body_is in
    record {
      done = before.done;
      name = before.name;
      mode = before.mode;
      sign_line = h.sign_line;
      opened = behind.opened;
      values = h.values;
      is = ap (λ (z : Data). steps_of (fresh []) (z ++ rest)) h.whole
          ∙ ap (steps_of (fresh [])) (append_assoc h.front (h.body ++ h.blanks) rest ∙ ap (λ (z : Data). h.front ++ z) (append_assoc h.body h.blanks rest))
          ∙ before.is ∙ behind.is
          ∙ skip _ is_blank h.blanks rest (blank_closed before.done before.name before.mode h.sign_line behind.opened h.values) h.are_blanks;
    }

-- in every row the data before it are read without a fault
pub record ReadsOn (t : Data) : Type 0 where
  pub state : Parser
  pub is : steps_of (fresh []) t ≡ Ok state

whole : (t : Data) (p : Parser) → steps_of (fresh []) (t ++ []) ≡ Ok p → ReadsOn t
whole t p h = record { state = p; is = ap (steps_of (fresh [])) (sym (append-nil t)) ∙ h }

named_on : (done : List Assignment) (word blanks : Data) (t : Data) → (h : StandsNamed t [])
    → steps_of (fresh []) (t ++ []) ≡ steps_of (naming Name done (plain h.word)) (h.blanks ++ []) → (b : Data) → h.blanks ≡ b → ReadsOn t
named_on done word blanks t h e [] i =
    whole t (naming Name done (plain h.word)) (e ∙ ap (λ (z : Data). steps_of (naming Name done (plain h.word)) (z ++ [])) i)
named_on done word blanks t h e (b ∷ bs) i =
    whole t (naming Named done (plain h.word))
    (e ∙ ap (λ (z : Data). steps_of (naming Name done (plain h.word)) (z ++ [])) i
    ∙ blanks_read done (plain h.word) b bs [] h.name_is (subst (λ (z : Data). list_all is_blank (plain z) ≡ true) i h.are_blanks))

pub row_read : (row : Row) (t : Data) → Stands row t [] → ReadsOn t
row_read between t h = let r = between_read t [] h in whole t (fresh r.done) r.is
row_read behind_name t h = let r = named_read t [] h in named_on r.done h.word h.blanks t h r.is h.blanks refl
row_read (behind_sign n) t h = let r = signed_read n t [] h in whole t (signed Signed r.done r.name r.mode n None [] []) r.is
row_read (in_list n vs) t h = let r = listed_read n vs t [] h in whole t (signed InList r.done r.name r.mode r.sign_line (Some n) vs []) r.is
row_read behind_values t h =
    let r = closed_row_read t [] h in whole t (closed r.done r.name r.mode r.sign_line r.opened r.values) r.is
