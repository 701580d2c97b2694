-- What a write and a push at the end of a map's entries leave under each name.
use Rattle.std.proofs.Common.{◌≡◌, ◌≢◌, ℕ, zero, suc, ◌<◌, ◌≤◌, List, [], ◌∷◌, ◌++◌, length, get_or, get_or-set_same, get_or-set_other, length-set, Bool, true, false, cond, ltb, Option, Some, None, MatchOption, refl, sym, ap, ◌∙◌, subst, arith}
use Rattle.std.proofs.Math.ListN.{set}
use Rattle.std.specs.List.{position_or_len, position}
use Rattle.std.specs.Str.{bytes_eq}
use Rattle.std.proofs.lemmas.Bool.{false≢true, ltb-true, ltb-false}
use Rattle.std.proofs.lemmas.Grind.{common_steps}
use Rattle.std.proofs.lemmas.List.{get_or_default}
use Rattle.std.proofs.lemmas.List.Recursion.{found_at}
use Rattle.std.proofs.lemmas.List.Sums.{fails_before_first, passes_at_first}
use Rattle.std.proofs.lemmas.Slice.Eq.{bytes_eq-Decides}
use Rattle.st_outside.specs.Entries.{Entries, Puts, HasDistinctNames, bytes_of, bytes_at}

-- an entry: a name with its bytes
abbrev pub Entry : Type 0
Entry = List ℕ × List ℕ

-- whether an entry has the name
abbrev pub has_name : List ℕ → Entry → Bool
has_name name e = bytes_eq e.0 name

same_name : (a b : List ℕ) → a ≡ b → bytes_eq a b ≡ true
same_name a b = (bytes_eq-Decides a b).1

other_name_by : (a b : List ℕ) (t : Bool) → t ≡ bytes_eq a b → a ≢ b → t ≡ false
other_name_by a b true h ne = absurd (ne ((bytes_eq-Decides a b).0 (sym h)))
other_name_by a b false h ne = refl

other_name : (a b : List ℕ) → a ≢ b → bytes_eq a b ≡ false
other_name a b ne = other_name_by a b (bytes_eq a b) refl ne

differ : (a b : List ℕ) → bytes_eq a b ≡ false → a ≢ b
differ a b h e = false≢true (sym h ∙ same_name a b e)

flipped : (a b : List ℕ) → bytes_eq a b ≡ false → bytes_eq b a ≡ false
flipped a b h = other_name b a (λ e. differ a b h (sym e))

-- ---- the first entry of a name

pub bytes_of-first : (name : List ℕ) (es : Entries) → position_or_len (has_name name) es < length es → bytes_of name es ≡ Some (bytes_at es (position_or_len (has_name name) es))
bytes_of-first name es lt =
    found_at (bytes_of name) (has_name name) (λ e. Some e.1) None refl (λ _ _. refl) es _ ([], []) lt
    (λ k h. fails_before_first (has_name name) es k ([], []) h)
    (passes_at_first (has_name name) es ([], []) lt)

pub bytes_of-none : (name : List ℕ) (es : Entries) → length es ≤ position_or_len (has_name name) es → bytes_of name es ≡ None
bytes_of-none name [] h = refl
bytes_of-none name (e ∷ es) h = grind (arith, common_steps, bytes_of-none name es)

-- ---- one step along the entries

skipped : (name : List ℕ) (e : Entry) (es : Entries) → bytes_eq e.0 name ≡ false → bytes_of name (e ∷ es) ≡ bytes_of name es
skipped name e es h = rw h

found : (name : List ℕ) (e : Entry) (es : Entries) → bytes_eq e.0 name ≡ true → bytes_of name (e ∷ es) ≡ Some e.1
found name e es h = rw h

-- a name that isn't in the map isn't its first entry's
absent_first_by : (t : Bool) (name : List ℕ) (e : Entry) (es : Entries) → t ≡ bytes_eq e.0 name → bytes_of name (e ∷ es) ≡ None → t ≡ false
absent_first_by true name e es h none = let there = found name e es (sym h) in cc
absent_first_by false name e es h none = refl

absent_first : (name : List ℕ) (e : Entry) (es : Entries) → bytes_of name (e ∷ es) ≡ None → bytes_eq e.0 name ≡ false
absent_first name e es none = absent_first_by (bytes_eq e.0 name) name e es refl none

absent_rest : (name : List ℕ) (e : Entry) (es : Entries) → bytes_of name (e ∷ es) ≡ None → bytes_of name es ≡ None
absent_rest name e es none = sym (skipped name e es (absent_first name e es none)) ∙ none

-- ---- new bytes under a name that the map has

-- what stands under another name stays
pub bytes_of-set_other : (other : List ℕ) (es : Entries) (i : ℕ) (e' : Entry) → (get_or es i e').0 ≡ e'.0 → e'.0 ≢ other
    → bytes_of other (set es i e') ≡ bytes_of other es
bytes_of-set_other other [] i e' same ne = refl
bytes_of-set_other other (e ∷ es) zero e' same ne =
    let ne' : e.0 ≢ other = λ h. ne (sym same ∙ h) in
    skipped other e' es (other_name _ _ ne) ∙ sym (skipped other e es (other_name _ _ ne'))
bytes_of-set_other other (e ∷ es) (suc i) e' same ne =
    ap (λ rest. cond (bytes_eq e.0 other) (Some e.1) rest) (bytes_of-set_other other es i e' same ne)

-- the name has the new bytes
pub bytes_of-set_first : (name : List ℕ) (es : Entries) (e' : Entry) → e'.0 ≡ name → position_or_len (has_name name) es < length es
    → bytes_of name (set es (position_or_len (has_name name) es) e') ≡ Some e'.1
bytes_of-set_first name es e' same lt =
    let i = position_or_len (has_name name) es in
    let here : get_or (set es i e') i ([], []) ≡ e' = get_or-set_same es i e' ([], []) lt in
    let before : (k : ℕ) → k < i → has_name name (get_or (set es i e') k ([], [])) ≡ false =
    λ k h. let ne : k ≢ i = omega arith in rw (get_or-set_other es i k e' ([], []) ne) (fails_before_first (has_name name) es k ([], []) h) in
    let passes : has_name name (get_or (set es i e') i ([], [])) ≡ true = rw here (same_name _ _ same) in
    let room : i < length (set es i e') = rw length-set lt in
    found_at (bytes_of name) (has_name name) (λ e. Some e.1) None refl (λ _ _. refl) (set es i e') i ([], []) room before passes
    ∙ ap (λ e. Some e.1) here

-- no name comes in
absent_set : (name : List ℕ) (es : Entries) (i : ℕ) (e' : Entry) → (get_or es i e').0 ≡ e'.0 → bytes_of name es ≡ None → bytes_of name (set es i e') ≡ None
absent_set name [] i e' same none = refl
absent_set name (e ∷ es) zero e' same none =
    skipped name e' es (subst (λ n. bytes_eq n name ≡ false) same (absent_first name e es none)) ∙ absent_rest name e es none
absent_set name (e ∷ es) (suc i) e' same none =
    skipped name e (set es i e') (absent_first name e es none) ∙ absent_set name es i e' same (absent_rest name e es none)

pub HasDistinctNames-set : (es : Entries) (i : ℕ) (e' : Entry) → (get_or es i e').0 ≡ e'.0 → HasDistinctNames es → HasDistinctNames (set es i e')
HasDistinctNames-set [] i e' same distinct = distinct
HasDistinctNames-set (e ∷ es) zero e' same distinct = (subst (λ n. bytes_of n es ≡ None) same distinct.0, distinct.1)
HasDistinctNames-set (e ∷ es) (suc i) e' same distinct = (absent_set e.0 es i e' same distinct.0, HasDistinctNames-set es i e' same distinct.1)

-- ---- a new name at the end

pub bytes_of-push : (name : List ℕ) (es : Entries) (e' : Entry) → e'.0 ≡ name → bytes_of name es ≡ None → bytes_of name (es ++ e' ∷ []) ≡ Some e'.1
bytes_of-push name [] e' same none = found name e' [] (same_name _ _ same)
bytes_of-push name (e ∷ es) e' same none =
    skipped name e (es ++ e' ∷ []) (absent_first name e es none) ∙ bytes_of-push name es e' same (absent_rest name e es none)

pub bytes_of-push_other : (other : List ℕ) (es : Entries) (e' : Entry) → e'.0 ≢ other → bytes_of other (es ++ e' ∷ []) ≡ bytes_of other es
bytes_of-push_other other [] e' ne = skipped other e' [] (other_name _ _ ne)
bytes_of-push_other other (e ∷ es) e' ne = ap (λ rest. cond (bytes_eq e.0 other) (Some e.1) rest) (bytes_of-push_other other es e' ne)

pub HasDistinctNames-push : (es : Entries) (e' : Entry) → bytes_of e'.0 es ≡ None → HasDistinctNames es → HasDistinctNames (es ++ e' ∷ [])
HasDistinctNames-push [] e' none distinct = (refl, tt)
HasDistinctNames-push (e ∷ es) e' none distinct = (
  bytes_of-push_other e.0 es e' (differ _ _ (flipped e.0 e'.0 (absent_first e'.0 e es none))) ∙ distinct.0,
  HasDistinctNames-push es e' (absent_rest e'.0 e es none) distinct.1,
)

-- ---- what a place found, or not found, says

place_by : (t : Bool) (i p n : ℕ) → t ≡ ltb p n → Some i ≡ cond t (Some p) None → (i ≡ p) × (p < n)
place_by true i p n test h = (cc, ltb-true p n (sym test))
place_by false i p n test h = absurd (cc)

no_place_by : (t : Bool) (p n : ℕ) → t ≡ ltb p n → None ≡ cond t (Some p) None → n ≤ p
no_place_by true p n test h = absurd (cc)
no_place_by false p n test h = ltb-false p n (sym test)

place : (name : List ℕ) (es : Entries) (i : ℕ) → Some i ≡ position (has_name name) es
    → (i ≡ position_or_len (has_name name) es) × (position_or_len (has_name name) es < length es)
place name es i h = place_by _ i _ _ refl h

pub bytes_of-found : (name : List ℕ) (es : Entries) (i : ℕ) → Some i ≡ position (has_name name) es → bytes_of name es ≡ Some (bytes_at es i)
bytes_of-found name es i h =
    let at = place name es i h in
    bytes_of-first name es at.1 ∙ ap (λ k. Some (bytes_at es k)) (sym at.0)

pub bytes_of-absent : (name : List ℕ) (es : Entries) → None ≡ position (has_name name) es → bytes_of name es ≡ None
bytes_of-absent name es h = bytes_of-none name es (no_place_by _ _ _ refl h)

-- the same, for an answer of either kind
pub bytes_of-at_place : (name : List ℕ) (es : Entries) (answer : Option ℕ) → answer ≡ position (has_name name) es
    → MatchOption answer (bytes_of name es ≡ None) (λ i. bytes_of name es ≡ Some (bytes_at es i))
bytes_of-at_place name es None h = bytes_of-absent name es h
bytes_of-at_place name es (Some i) h = bytes_of-found name es i h

has_name-found : (name : List ℕ) (es : Entries) (i : ℕ) (d : Entry) → Some i ≡ position (has_name name) es → (get_or es i d).0 ≡ name
has_name-found name es i d h =
    let at = place name es i h in
    let named : has_name name (get_or es i d) ≡ true = rw at.0 (passes_at_first (has_name name) es d at.1) in
    (bytes_eq-Decides (get_or es i d).0 name).0 named

-- ---- the two ways of a `put`

-- new bytes go to the place r where the name was found
same_name-found : (es : Entries) (name bytes : List ℕ) (i : ℕ) (r : Entry) → Some i ≡ position (has_name name) es → r ≡ get_or es i r
    → (get_or es i (r.0, bytes)).0 ≡ r.0
same_name-found es name bytes i r first read =
    let at = place name es i first in
    let lt : i < length es = rw at.0 at.1 in
    ap (λ e. e.0) (get_or_default es i (r.0, bytes) r lt ∙ sym read)

pub Puts-found : (es : Entries) (name bytes : List ℕ) (i : ℕ) (r : Entry) → Some i ≡ position (has_name name) es → r ≡ get_or es i r
    → Puts es name bytes (set es i (r.0, bytes))
Puts-found es name bytes i r first read =
    let at = place name es i first in
    let same = same_name-found es name bytes i r first read in
    let named : r.0 ≡ name = sym same ∙ has_name-found name es i (r.0, bytes) first in
    record {
      here = ap (λ k. bytes_of name (set es k (r.0, bytes))) at.0 ∙ bytes_of-set_first name es (r.0, bytes) named at.1;
      others = λ other ne. bytes_of-set_other other es i (r.0, bytes) same (λ h. ne (sym h ∙ named));
    }

pub HasDistinctNames-found : (es : Entries) (name bytes : List ℕ) (i : ℕ) (r : Entry) → Some i ≡ position (has_name name) es → r ≡ get_or es i r
    → HasDistinctNames es → HasDistinctNames (set es i (r.0, bytes))
HasDistinctNames-found es name bytes i r first read distinct =
    HasDistinctNames-set es i (r.0, bytes) (same_name-found es name bytes i r first read) distinct

pub Puts-absent : (es : Entries) (name bytes : List ℕ) → None ≡ position (has_name name) es → Puts es name bytes (es ++ (name, bytes) ∷ [])
Puts-absent es name bytes none = record {
  here = bytes_of-push name es (name, bytes) refl (bytes_of-absent name es none);
  others = λ other ne. bytes_of-push_other other es (name, bytes) (λ h. ne (sym h));
}

pub HasDistinctNames-absent : (es : Entries) (name bytes : List ℕ) → None ≡ position (has_name name) es
    → HasDistinctNames es → HasDistinctNames (es ++ (name, bytes) ∷ [])
HasDistinctNames-absent es name bytes none distinct = HasDistinctNames-push es (name, bytes) (bytes_of-absent name es none) distinct
