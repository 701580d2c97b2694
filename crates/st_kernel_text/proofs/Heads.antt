-- A name and its sign are read as they are spelled.
use Rattle.std.proofs.Common.{inl, inr, ◌≡◌, ℕ, ◌-◌, ◌<◌, Bool, true, false, ◌&&◌, List, [], ◌∷◌, ◌++◌, length, take, get_or, None, Ok, refl, ap, sym, ◌∙◌, subst, arith, append_assoc}
use Rattle.std.specs.Prelude.{◌==◌}
use Rattle.std.specs.List.{list_all}
use Rattle.std.proofs.lemmas.Bool.{and_parts, and_from, cond-true, cond-false, leb-true, ltb-true, lt-ltb, le-leb, eqb-true, both_ways, not-true, cases_Bool, not_from_false}
use Rattle.std.proofs.lemmas.Grind.{common_steps}
use Rattle.std.proofs.lemmas.List.{append-nil, length_push, get_or_push}
use Rattle.std.proofs.Math.Seq.{take-append_seam}
use Rattle.st_text.specs.Bytes.{is_blank}
use Rattle.st_text.proofs.Trimmed.{front_and_last}
use Rattle.st_kernel_text.specs.Bytes.{is_space, is_name_byte}
use Rattle.st_kernel_text.specs.Grammar.{Data, plain, IsName, SpellsSign, SpellsHead}
use Rattle.st_kernel_text.specs.ParserMachine.{fresh, is_name, ends_in_plus, without_last, step_of, steps_of, named_of}
use Rattle.st_kernel_text.specs.declared.assignment.Assignment.{Assignment}
use Rattle.st_kernel_text.specs.declared.assignment.Mode.{Mode}
use Rattle.st_kernel_text.specs.declared.assignment.Mode.TheVariants.{Set, Add}
use Rattle.st_kernel_text.specs.declared.parser.Stage.TheVariants.{Name, Named, Plus, Signed}
use Rattle.st_kernel_text.proofs.States.{naming, signed, one_step, skip, name_byte_no_space, blank_no_name_byte}

pub plus_snoc : (front : List ℕ) (x : ℕ) → ends_in_plus (front ++ x ∷ []) ≡ (x == 43)
unfolding ends_in_plus
plus_snoc front x =
    let size = length_push front x in
    let last : get_or (front ++ x ∷ []) (length (front ++ x ∷ []) - 1) 0 ≡ x = get_or_push front x 0 _ (omega arith) in
    ap (λ (b : Bool). b && (get_or (front ++ x ∷ []) (length (front ++ x ∷ []) - 1) 0 == 43)) (lt-ltb 0 _ (omega arith))
    ∙ ap (λ (z : ℕ). z == 43) last

pub without_last_snoc : (front : List ℕ) (x : ℕ) → without_last (front ++ x ∷ []) ≡ front
without_last_snoc front x =
    let size : length (front ++ x ∷ []) - 1 ≡ length front = omega (arith, length_push front x) in
    ap (λ (n : ℕ). take n (front ++ x ∷ [])) size ∙ take-append_seam front (x ∷ [])

pub plus_parts : (name : List ℕ) → ends_in_plus name ≡ true → name ≡ without_last name ++ 43 ∷ []
unfolding ends_in_plus
plus_parts name h =
    let both = and_parts _ _ h in
    front_and_last name (ltb-true _ _ both.0) ∙ ap (λ (z : ℕ). without_last name ++ z ∷ []) (eqb-true _ _ both.1)

no_plus : (name : List ℕ) → IsName name → ends_in_plus name ≡ false
no_plus name h =
    elim (cases_Bool (ends_in_plus name)) [ inl y ↦ absurd (h.last (without_last name) (plus_parts name y)) | inr n ↦ n ]

pub name_test : (name : List ℕ) → IsName name → is_name name ≡ true
unfolding is_name
name_test name h =
    and_from _ _ (and_from _ _ (lt-ltb _ _ h.some) (le-leb _ _ h.most)) (not_from_false _ (no_plus name h))

pub name_from : (name : List ℕ) → is_name name ≡ true → list_all is_name_byte name ≡ true → IsName name
unfolding is_name
name_from name h bytes =
    let both = and_parts _ _ h in
    let sizes = and_parts _ _ both.0 in
    record {
      some = ltb-true _ _ sizes.0;
      most = leb-true _ _ sizes.1;
      bytes = bytes;
      last = λ front e. both_ways (ends_in_plus name) (not-true _ both.1) (ap ends_in_plus e ∙ plus_snoc front 43);
    }

-- from the first byte of a name to its last
fresh_step : (done : List Assignment) (n b : ℕ) → is_name_byte b ≡ true → step_of (fresh done) n b ≡ Ok (naming Name done (b ∷ []))
unfolding step_of
fresh_step done n b h = cond-false _ _ _ (name_byte_no_space b h) ∙ cond-true _ _ _ h

name_step : (done : List Assignment) (w : List ℕ) (n b : ℕ) → is_name_byte b ≡ true → step_of (naming Name done w) n b ≡ Ok (naming Name done (w ++ b ∷ []))
unfolding step_of
name_step done w n b h = cond-true _ _ _ h

pub name_more : (done : List Assignment) (w : List ℕ) (word rest : Data) → list_all is_name_byte (plain word) ≡ true
    → steps_of (naming Name done w) (word ++ rest) ≡ steps_of (naming Name done (w ++ plain word)) rest
name_more done w [] rest h = ap (λ (z : List ℕ). steps_of (naming Name done z) rest) (sym (append-nil w))
name_more done w (b ∷ word) rest h =
    let both = and_parts (is_name_byte b.1) (list_all is_name_byte (plain word)) h in
    one_step _ _ b.0 b.1 (word ++ rest) (name_step done w b.0 b.1 both.0)
    ∙ name_more done (w ++ b.1 ∷ []) word rest both.1
    ∙ ap (λ (z : List ℕ). steps_of (naming Name done z) rest) (append_assoc w (b.1 ∷ []) (plain word))

pub name_read : (done : List Assignment) (word rest : Data) → 0 < length (plain word) → list_all is_name_byte (plain word) ≡ true
    → steps_of (fresh done) (word ++ rest) ≡ steps_of (naming Name done (plain word)) rest
name_read done [] rest s h = absurd (omega (arith, s))
name_read done (b ∷ word) rest s h =
    let both = and_parts (is_name_byte b.1) (list_all is_name_byte (plain word)) h in
    one_step _ _ b.0 b.1 (word ++ rest) (fresh_step done b.0 b.1 both.0) ∙ name_more done (b.1 ∷ []) word rest both.1

-- a byte after a whole name is read in a name as it is read after it
pub ended_step : (done : List Assignment) (name : List ℕ) (n b : ℕ) → IsName name → is_name_byte b ≡ false
    → step_of (naming Name done name) n b ≡ named_of (naming Name done name) n b
unfolding step_of
ended_step done name n b h e =
    let plus : ((b == 61) && ends_in_plus name) ≡ false = grind (arith, common_steps, no_plus name h) in
    cond-false _ _ _ e ∙ cond-false _ _ _ plus ∙ cond-true _ _ _ (name_test name h)

blank_ends : (done : List Assignment) (name : List ℕ) (n b : ℕ) → IsName name → is_blank b ≡ true
    → step_of (naming Name done name) n b ≡ Ok (naming Named done name)
blank_ends done name n b h e = ended_step done name n b h (blank_no_name_byte b e) ∙ cond-true _ _ _ e

pub named_blank : (done : List Assignment) (name : List ℕ) (n b : ℕ) → is_blank b ≡ true → step_of (naming Named done name) n b ≡ Ok (naming Named done name)
unfolding step_of
named_blank done name n b e = cond-true _ _ _ e

-- blanks after a name; without any the reader is still in the name
pub blanks_read : (done : List Assignment) (name : List ℕ) (b : ℕ × ℕ) (blanks rest : Data) → IsName name → list_all is_blank (plain (b ∷ blanks)) ≡ true
    → steps_of (naming Name done name) ((b ∷ blanks) ++ rest) ≡ steps_of (naming Named done name) rest
blanks_read done name b blanks rest h e =
    let both = and_parts (is_blank b.1) (list_all is_blank (plain blanks)) e in
    one_step _ _ b.0 b.1 (blanks ++ rest) (blank_ends done name b.0 b.1 h both.0)
    ∙ skip (naming Named done name) is_blank blanks rest (named_blank done name) both.1

equals_no_byte : is_name_byte 61 ≡ false
unfolding is_name_byte
equals_no_byte = refl

plus_is_byte : is_name_byte 43 ≡ true
unfolding is_name_byte
plus_is_byte = refl

set_named : (done : List Assignment) (name : List ℕ) (n : ℕ) → step_of (naming Named done name) n 61 ≡ Ok (signed Signed done name Set n None [] [])
unfolding step_of
set_named done name n = refl

set_name : (done : List Assignment) (name : List ℕ) (n : ℕ) → IsName name → step_of (naming Name done name) n 61 ≡ Ok (signed Signed done name Set n None [] [])
set_name done name n h = ended_step done name n 61 h equals_no_byte

plus_named : (done : List Assignment) (name : List ℕ) (n : ℕ) → step_of (naming Named done name) n 43 ≡ Ok (naming Plus done name)
unfolding step_of
plus_named done name n = refl

add_plus : (done : List Assignment) (name : List ℕ) (n : ℕ) → step_of (naming Plus done name) n 61 ≡ Ok (signed Signed done name Add n None [] [])
unfolding step_of
add_plus done name n = refl

plus_name : (done : List Assignment) (name : List ℕ) (n : ℕ) → step_of (naming Name done name) n 43 ≡ Ok (naming Name done (name ++ 43 ∷ []))
plus_name done name n = name_step done name n 43 plus_is_byte

add_name : (done : List Assignment) (name : List ℕ) (n : ℕ) → IsName name
    → step_of (naming Name done (name ++ 43 ∷ [])) n 61 ≡ Ok (signed Signed done name Add n None [] [])
unfolding step_of is_name_byte
add_name done name n h =
    let is : is_name (without_last (name ++ 43 ∷ [])) ≡ true = ap is_name (without_last_snoc name 43) ∙ name_test name h in
    cond-true _ _ _ (plus_snoc name 43) ∙ cond-true _ _ _ is
    ∙ ap (λ (z : List ℕ). Ok (signed Signed done z Add n None [] [])) (without_last_snoc name 43)

sign_named : (done : List Assignment) (name : List ℕ) (mode : Mode) (n : ℕ) (sign rest : Data) → SpellsSign mode n sign
    → steps_of (naming Named done name) (sign ++ rest) ≡ steps_of (signed Signed done name mode n None [] []) rest
sign_named done name Set n sign rest h =
    ap (λ (z : Data). steps_of (naming Named done name) (z ++ rest)) h ∙ one_step _ _ n 61 rest (set_named done name n)
sign_named done name Add n sign rest h =
    ap (λ (z : Data). steps_of (naming Named done name) (z ++ rest)) h.1
    ∙ one_step _ _ h.0 43 ((n, 61) ∷ rest) (plus_named done name h.0) ∙ one_step _ _ n 61 rest (add_plus done name n)

sign_name : (done : List Assignment) (name : List ℕ) (mode : Mode) (n : ℕ) (sign rest : Data) → IsName name → SpellsSign mode n sign
    → steps_of (naming Name done name) (sign ++ rest) ≡ steps_of (signed Signed done name mode n None [] []) rest
sign_name done name Set n sign rest i h =
    ap (λ (z : Data). steps_of (naming Name done name) (z ++ rest)) h ∙ one_step _ _ n 61 rest (set_name done name n i)
sign_name done name Add n sign rest i h =
    ap (λ (z : Data). steps_of (naming Name done name) (z ++ rest)) h.1
    ∙ one_step _ _ h.0 43 ((n, 61) ∷ rest) (plus_name done name h.0) ∙ one_step _ _ n 61 rest (add_name done name n i)

behind_name : (done : List Assignment) (name : List ℕ) (mode : Mode) (n : ℕ) (blanks sign rest : Data) → IsName name
    → list_all is_blank (plain blanks) ≡ true → SpellsSign mode n sign
    → steps_of (naming Name done name) (blanks ++ (sign ++ rest)) ≡ steps_of (signed Signed done name mode n None [] []) rest
behind_name done name mode n [] sign rest i b s = sign_name done name mode n sign rest i s
behind_name done name mode n (x ∷ blanks) sign rest i b s =
    blanks_read done name x blanks (sign ++ rest) i b ∙ sign_named done name mode n sign rest s

pub space_before : (done : List Assignment) (name : List ℕ) (mode : Mode) (k n b : ℕ) → is_space b ≡ true
    → step_of (signed Signed done name mode k None [] []) n b ≡ Ok (signed Signed done name mode k None [] [])
unfolding step_of
space_before done name mode k n b e = cond-true _ _ _ e

pub head_read : (done : List Assignment) (name : List ℕ) (mode : Mode) (n : ℕ) (t rest : Data) → SpellsHead name mode n t
    → steps_of (fresh done) (t ++ rest) ≡ steps_of (signed Signed done name mode n None [] []) rest
head_read done name mode n t rest h =
    let some : 0 < length (plain h.word) = subst (λ (z : List ℕ). 0 < length z) (sym h.is) h.name_is.some in
    let bytes : list_all is_name_byte (plain h.word) ≡ true = ap (list_all is_name_byte) h.is ∙ h.name_is.bytes in
    ap (λ (z : Data). steps_of (fresh done) (z ++ rest)) h.whole
    ∙ ap (steps_of (fresh done)) (append_assoc h.word (h.blanks ++ (h.sign ++ h.spaces)) rest)
    ∙ name_read done h.word ((h.blanks ++ (h.sign ++ h.spaces)) ++ rest) some bytes
    ∙ ap (λ (z : List ℕ). steps_of (naming Name done z) ((h.blanks ++ (h.sign ++ h.spaces)) ++ rest)) h.is
    ∙ ap (steps_of (naming Name done name)) (append_assoc h.blanks (h.sign ++ h.spaces) rest ∙ ap (λ (z : Data). h.blanks ++ z) (append_assoc h.sign h.spaces rest))
    ∙ behind_name done name mode n h.blanks h.sign (h.spaces ++ rest) h.name_is h.are_blanks h.sign_is
    ∙ skip (signed Signed done name mode n None [] []) is_space h.spaces rest (space_before done name mode n) h.are_spaces
