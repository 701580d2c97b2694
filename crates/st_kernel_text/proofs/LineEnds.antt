-- The lines of a file that is cut at the end of a line, or within one.
use Rattle.std.proofs.Common.{inl, inr, ◌≡◌, ℕ, ◌+◌, ◌<◌, ◌≤◌, Bool, true, false, List, [], ◌∷◌, ◌++◌, length, refl, sym, ◌∙◌, ap, arith, subst, append_assoc, length-append}
use Rattle.std.specs.Prelude.{◌==◌, ◌-◌, ◌&&◌, nat_lt, take, slice_index, if◌then◌else◌}
use Rattle.std.specs.List.{list_all, slice_split, All}
use Rattle.std.proofs.Math.Seq.{get_or-append_seam}
use Rattle.std.proofs.lemmas.Bool.{cases_Bool, eqb-true, and_parts, and_from, lt-ltb, ltb-true, ltb-false}
use Rattle.std.proofs.lemmas.Bool.Decides.{nat_tests}
use Rattle.std.proofs.lemmas.List.{append-nil, length-take-le}
use Rattle.std.proofs.lemmas.List.Elements.{All-nil, All-cons}
use Rattle.std.proofs.lemmas.List.Folds.{list_all-append}
use Rattle.std.proofs.lemmas.List.Splits.{slice_split_at, slice_split_none, length-slice_split}
use Rattle.st_text.specs.Lines.{without_last_empty, without_cr, lines_of}
use Rattle.st_text.proofs.Splits.{lines_of-first, lines_of-nil}
use Rattle.st_kernel_text.specs.Pieces.{IsEnded, HasNoFeed}
use Rattle.st_kernel_text.specs.PiecesMachine.{most_before}
use Rattle.st_kernel_text.specs.Values.{is_no_line_end}

-- bytes without a line feed
pub no_feed_more : (s : List ℕ) (b : ℕ) → HasNoFeed s → (b == 10) ≡ false → HasNoFeed (s ++ b ∷ [])
no_feed_more s b h e =
    let last : list_all is_no_line_end (b ∷ []) ≡ true = grind (arith, nat_tests, e) in
    list_all-append is_no_line_end s (b ∷ []) ∙ and_from _ _ h last

pub no_feed_left : (s t : List ℕ) → HasNoFeed (s ++ t) → HasNoFeed s
no_feed_left s t h = (and_parts _ _ (sym (list_all-append is_no_line_end s t) ∙ h)).0

pub no_feed_right : (s t : List ℕ) → HasNoFeed (s ++ t) → HasNoFeed t
no_feed_right s t h = (and_parts _ _ (sym (list_all-append is_no_line_end s t) ∙ h)).1

pub no_feed_ended : (front : List ℕ) → HasNoFeed (front ++ 10 ∷ []) → ⊥
no_feed_ended front h = let last = no_feed_right front (10 ∷ []) h in absurd (cc)

pub none_ended : (ended : List ℕ) → IsEnded ended → HasNoFeed ended → ended ≡ []
none_ended ended (inl e) h = e
none_ended ended (inr (front, e)) h = absurd (no_feed_ended front (subst HasNoFeed e h))

-- bytes that are ended are so by their last
pub none_begun : (a b : List ℕ) → IsEnded (a ++ b) → HasNoFeed b → b ≡ []
none_begun a b (inl e) h = no_bytes a b e
  where
    no_bytes : (a b : List ℕ) → a ++ b ≡ [] → b ≡ []
    no_bytes [] b e = e
    no_bytes (x ∷ a) b e = absurd (cc)
none_begun a b (inr (front, e)) h = behind a b front e h
  where
    tail : (x y : ℕ) (s t : List ℕ) → x ∷ s ≡ y ∷ t → s ≡ t
    tail x y s t e = cc

    nothing : (a b : List ℕ) → a ++ b ≡ [] → b ≡ []
    nothing [] b e = e
    nothing (x ∷ a) b e = absurd (cc)

    behind : (a b front : List ℕ) → a ++ b ≡ front ++ 10 ∷ [] → HasNoFeed b → b ≡ []
    behind [] b front e h = absurd (no_feed_ended front (subst HasNoFeed e h))
    behind (x ∷ a) b [] e h = nothing a b (tail x 10 (a ++ b) [] e)
    behind (x ∷ a) b (y ∷ front) e h = behind a b front (tail x y (a ++ b) (front ++ 10 ∷ []) e) h

pub ended_more : (a ended : List ℕ) → IsEnded ended → IsEnded (a ++ 10 ∷ ended)
ended_more a ended (inl e) = inr (a, ap (λ (z : List ℕ). a ++ 10 ∷ z) e)
ended_more a ended (inr (front, e)) =
    inr (a ++ 10 ∷ front, ap (λ (z : List ℕ). a ++ 10 ∷ z) e ∙ sym (append_assoc a (10 ∷ front) (10 ∷ [])))

-- lines
pub lines_none : lines_of [] ≡ []
lines_none = lines_of-nil [] refl

keeps_first : (x : List ℕ) (parts : List (List ℕ)) → 0 < length parts → without_last_empty (x ∷ parts) ≡ x ∷ without_last_empty parts
keeps_first x [] h = absurd (omega arith)
keeps_first x (y ∷ more) h = refl

one_part : (x : List ℕ) → 0 < length x → without_last_empty (x ∷ []) ≡ x ∷ []
one_part [] h = absurd (omega arith)
one_part (b ∷ bs) h = grind (arith, nat_tests)

no_feeds : (t : List ℕ) → HasNoFeed t → All (λ b. (b == 10) ≡ false) t
no_feeds [] h = All-nil (λ b. (b == 10) ≡ false)
no_feeds (b ∷ t) h =
    let both = and_parts (is_no_line_end b) (list_all is_no_line_end t) h in
    let no : (b == 10) ≡ false = grind (arith, nat_tests, both.0) in
    All-cons (λ b. (b == 10) ≡ false) b t no (no_feeds t both.1)

pub lines_first : (line rest : List ℕ) → HasNoFeed line → lines_of (line ++ 10 ∷ rest) ≡ without_cr line ∷ lines_of rest
lines_first line rest h =
    let parts = slice_split (λ b. b == 10) rest in
    lines_of-first (line ++ 10 ∷ rest) line rest
    (ap without_last_empty (slice_split_at (λ b. b == 10) line 10 rest (no_feeds line h) refl)
    ∙ keeps_first line parts (omega (arith, length-slice_split (λ b. b == 10) rest)))

pub lines_alone : (line : List ℕ) → HasNoFeed line → 0 < length line → lines_of line ≡ without_cr line ∷ []
lines_alone line h some =
    lines_of-first line line []
    (ap without_last_empty (slice_split_none (λ b. b == 10) line (no_feeds line h)) ∙ one_part line some)
    ∙ ap (λ (z : List (List ℕ)). without_cr line ∷ z) lines_none

-- one more byte of a begun line
pub onto_begun : (begun : List ℕ) (b : ℕ) (t : List ℕ) → begun ++ b ∷ t ≡ (begun ++ b ∷ []) ++ t
onto_begun begun b t = sym (append_assoc begun (b ∷ []) t)

begun_append : (begun front t : List ℕ) → HasNoFeed begun
    → lines_of (begun ++ (front ++ 10 ∷ t)) ≡ lines_of (begun ++ (front ++ 10 ∷ [])) ++ lines_of t
begun_append begun [] t h =
    lines_first begun t h
    ∙ sym (ap (λ (z : List (List ℕ)). z ++ lines_of t) (lines_first begun [] h ∙ ap (λ (z : List (List ℕ)). without_cr begun ∷ z) lines_none))
begun_append begun (b ∷ front) t h =
    elim (cases_Bool (b == 10)) [
      | inl e ↦
          let is : b ≡ 10 = eqb-true b 10 e in
          subst (λ (z : ℕ). lines_of (begun ++ z ∷ (front ++ 10 ∷ t)) ≡ lines_of (begun ++ z ∷ (front ++ 10 ∷ [])) ++ lines_of t) (sym is)
          (lines_first begun (front ++ 10 ∷ t) h
          ∙ ap (λ (z : List (List ℕ)). without_cr begun ∷ z) (begun_append [] front t refl)
          ∙ sym (ap (λ (z : List (List ℕ)). z ++ lines_of t) (lines_first begun (front ++ 10 ∷ []) h)))
      | inr e ↦
          ap lines_of (onto_begun begun b (front ++ 10 ∷ t))
          ∙ begun_append (begun ++ b ∷ []) front t (no_feed_more begun b h e)
          ∙ ap (λ (z : List ℕ). lines_of z ++ lines_of t) (sym (onto_begun begun b (front ++ 10 ∷ [])))
    ]

pub lines_append : (ended t : List ℕ) → IsEnded ended → lines_of (ended ++ t) ≡ lines_of ended ++ lines_of t
lines_append ended t (inl e) =
    ap (λ (z : List ℕ). lines_of (z ++ t)) e
    ∙ sym (ap (λ (z : List (List ℕ)). z ++ lines_of t) (ap lines_of e ∙ lines_none))
lines_append ended t (inr (front, e)) =
    ap (λ (z : List ℕ). lines_of (z ++ t)) e
    ∙ ap lines_of (append_assoc front (10 ∷ []) t)
    ∙ begun_append [] front t refl
    ∙ ap (λ (z : List ℕ). lines_of z ++ lines_of t) (sym e)

-- the first line of bytes that begin without a line feed
pub record FirstLine (begun t : List ℕ) : Type 0 where
  pub more : List ℕ
  pub others : List (List ℕ)
  pub whole : lines_of (begun ++ t) ≡ without_cr (begun ++ more) ∷ others

pub first_line : (begun t : List ℕ) → HasNoFeed begun → 0 < length begun → FirstLine begun t
first_line begun [] h some = record {
  more = [];
  others = [];
  whole = ap lines_of (append-nil begun) ∙ lines_alone begun h some
      ∙ ap (λ (z : List ℕ). without_cr z ∷ []) (sym (append-nil begun));
}
first_line begun (b ∷ t) h some =
    elim (cases_Bool (b == 10)) [
      | inl e ↦ record {
        more = [];
        others = lines_of t;
        whole = ap (λ (z : ℕ). lines_of (begun ++ z ∷ t)) (eqb-true b 10 e) ∙ lines_first begun t h
            ∙ ap (λ (z : List ℕ). without_cr z ∷ lines_of t) (sym (append-nil begun));
      }
      | inr e ↦
          let later = first_line (begun ++ b ∷ []) t (no_feed_more begun b h e) (omega (arith, length-append begun (b ∷ []))) in
          record {
            more = b ∷ later.more;
            others = later.others;
            whole = ap lines_of (onto_begun begun b t) ∙ later.whole
                ∙ ap (λ (z : List ℕ). without_cr z ∷ later.others) (sym (onto_begun begun b later.more));
          }
    ]

-- the bytes of a line that count
ends_in_cr : List ℕ → Bool
ends_in_cr line = nat_lt 0 (length line) && (slice_index line (length line - 1) == 13)

counts_by : (c : Bool) (line : List ℕ) → length (if c then take (length line - 1) line else line) ≡ (if c then length line - 1 else length line)
counts_by true line = length-take-le (length line - 1) line (omega arith)
counts_by false line = refl

counted : (line : List ℕ) → length (without_cr line) ≡ (if ends_in_cr line then length line - 1 else length line)
unfolding without_cr ends_in_cr
counted line = counts_by (ends_in_cr line) line

last_is : (begun : List ℕ) (b : ℕ) → ends_in_cr (begun ++ b ∷ []) ≡ (b == 13)
unfolding ends_in_cr
last_is begun b =
    let long : length (begun ++ b ∷ []) ≡ length begun + 1 = omega (arith, length-append begun (b ∷ [])) in
    let at : length (begun ++ b ∷ []) - 1 ≡ length begun = omega (arith, long) in
    let last : slice_index (begun ++ b ∷ []) (length (begun ++ b ∷ []) - 1) ≡ b = ap (slice_index (begun ++ b ∷ [])) at ∙ get_or-append_seam begun b [] 0 in
    let some : nat_lt 0 (length (begun ++ b ∷ [])) ≡ true = lt-ltb 0 (length (begun ++ b ∷ [])) (omega (arith, long)) in
    ap (λ (z : Bool). z && (slice_index (begun ++ b ∷ []) (length (begun ++ b ∷ []) - 1) == 13)) some
    ∙ ap (λ (z : ℕ). z == 13) last

pub counts_all : (begun : List ℕ) (b : ℕ) → length (without_cr (begun ++ b ∷ [])) ≡ (if b == 13 then length begun else length begun + 1)
counts_all begun b =
    let long : length (begun ++ b ∷ []) ≡ length begun + 1 = omega (arith, length-append begun (b ∷ [])) in
    let at : length (begun ++ b ∷ []) - 1 ≡ length begun = omega (arith, long) in
    counted (begun ++ b ∷ [])
    ∙ ap (λ (c : Bool). if c then length (begun ++ b ∷ []) - 1 else length (begun ++ b ∷ [])) (last_is begun b)
    ∙ ap (λ (n : ℕ). if b == 13 then n else length (begun ++ b ∷ [])) at
    ∙ ap (λ (n : ℕ). if b == 13 then length begun else n) long

pub counts_most : (line : List ℕ) → length (without_cr line) ≤ length line
counts_most line = by (ends_in_cr line) (counted line)
  where
    by : (c : Bool) → length (without_cr line) ≡ (if c then length line - 1 else length line) → length (without_cr line) ≤ length line
    by true e = omega (arith, e)
    by false e = omega (arith, e)

pub counts_least : (line : List ℕ) → length line ≤ length (without_cr line) + 1
counts_least line = by (ends_in_cr line) (counted line)
  where
    by : (c : Bool) → length (without_cr line) ≡ (if c then length line - 1 else length line) → length line ≤ length (without_cr line) + 1
    by true e = omega (arith, e)
    by false e = omega (arith, e)

pub stays_long : (line more : List ℕ) → 1000 < length (without_cr line) → 1000 < length (without_cr (line ++ more))
stays_long line [] h = subst (λ (z : List ℕ). 1000 < length (without_cr z)) (sym (append-nil line)) h
stays_long line (b ∷ more) h =
    omega (arith, h, counts_most line, counts_least (line ++ b ∷ more), length-append line (b ∷ more))

pub fills : (begun : List ℕ) (b : ℕ) → nat_lt (most_before b) (length begun) ≡ true → 1000 < length (without_cr (begun ++ b ∷ []))
fills begun b h = by (b == 13) (counts_all begun b) (ltb-true _ _ h)
  where
    by : (c : Bool) → length (without_cr (begun ++ b ∷ [])) ≡ (if c then length begun else length begun + 1)
        → (if c then 1000 else 999) < length begun → 1000 < length (without_cr (begun ++ b ∷ []))
    by true e l = omega (arith, e, l)
    by false e l = omega (arith, e, l)

pub fits : (begun : List ℕ) (b : ℕ) → nat_lt (most_before b) (length begun) ≡ false → length (without_cr (begun ++ b ∷ [])) ≤ 1000
fits begun b h = by (b == 13) (counts_all begun b) (ltb-false _ _ h)
  where
    by : (c : Bool) → length (without_cr (begun ++ b ∷ [])) ≡ (if c then length begun else length begun + 1)
        → length begun ≤ (if c then 1000 else 999) → length (without_cr (begun ++ b ∷ [])) ≤ 1000
    by true e l = omega (arith, e, l)
    by false e l = omega (arith, e, l)
