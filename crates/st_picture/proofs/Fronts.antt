-- What a text begins with is its longest mark, and there is one.
use Rattle.std.proofs.Common.{◌≡◌, ℕ, zero, suc, ◌+◌, ◌<◌, ◌≤◌, Bool, true, false, not, ◌||◌, ◌&&◌, eqb, nat_lt, cond, List, [], ◌∷◌, ◌++◌, length, drop, Option, Some, None, inl, inr, refl, sym, ap, ◌∙◌, subst, arith, lit<, lit≤, append_assoc, length-append}
use Rattle.std.specs.Prelude.{codes, find, nat_eq}
use Rattle.std.specs.List.{starts_with, list_any, list_all, repeat}
use Rattle.std.proofs.lemmas.Bool.{cases_Bool, cases_lt}
use Rattle.std.proofs.lemmas.Bool.Decides.{Decides-eqb, nat_tests}
use Rattle.std.proofs.lemmas.List.Folds.{list_any_at}
use Rattle.std.proofs.lemmas.Slice.Eq.{starts_is}
use Rattle.st_picture.specs.declared.mark.Case.TheVariants.{Upper, Capital, Lower}
use Rattle.st_picture.specs.declared.mark.Mark.{Mark}
use Rattle.st_picture.specs.declared.mark.Mark.TheVariants.{Year, Month, MonthShort, MonthName, DayOfMonth, DayOfYear, WeekdayShort, WeekdayName, Hour, HourOfHalf, Minute, Second, HalfUpper, HalfLower, Seconds, JulianDate, Scale, Round, Truncate}
use Rattle.st_picture.specs.declared.mark.Piece.{Piece}
use Rattle.st_picture.specs.declared.mark.Piece.TheVariants.{Marked, Plain}
use Rattle.st_picture.specs.declared.mark.ScaleMark.TheVariants.{Utc, Tai, Tdb, Tdt}
use Rattle.st_picture.specs.Mark.{hashes, stem_of, places_of, word_of, piece_text, Begins, IsLongest}
use Rattle.st_picture.specs.ReadingMachine.{stems, has_stem, first_stem, hashes_at, places_behind, with_places, piece_of, front_of}

-- a text begins with a word, as the code tests it
pub test_begins : (text word : List ℕ) → starts_with nat_eq text word ≡ true → text ≡ word ++ drop (length word) text
test_begins text word h = (starts_is Decides-eqb text word (starts_with nat_eq text word) refl).0 h

pub begins_test : (text word rest : List ℕ) → text ≡ word ++ rest → starts_with nat_eq text word ≡ true
begins_test text word rest e = (starts_is Decides-eqb text word (starts_with nat_eq text word) refl).1 rest e

-- of two words that begin one text, the longer begins with the other
prefix_of : (a b r s : List ℕ) → a ++ r ≡ b ++ s → length a ≤ length b → (t : List ℕ) × (b ≡ a ++ t)
prefix_of [] b r s e h = (b, refl)
prefix_of (x ∷ a) [] r s e h = absurd (omega arith)
prefix_of (x ∷ a) (y ∷ b) r s e h =
    let heads : x ≡ y = cc in
    let tails : a ++ r ≡ b ++ s = cc in
    let p = prefix_of a b r s tails (omega arith) in
    (p.0, let q = p.1 in cc)

same_words : (a b r s : List ℕ) → a ++ r ≡ b ++ s → length a ≡ length b → a ≡ b
same_words [] [] r s e h = refl
same_words [] (y ∷ b) r s e h = absurd (omega arith)
same_words (x ∷ a) [] r s e h = absurd (omega arith)
same_words (x ∷ a) (y ∷ b) r s e h =
    let heads : x ≡ y = cc in
    let tails : a ++ r ≡ b ++ s = cc in
    let p = same_words a b r s tails (omega arith) in
    cc

pub same_rests : (a r s : List ℕ) → a ++ r ≡ a ++ s → r ≡ s
same_rests [] r s e = e
same_rests (x ∷ a) r s e = let tails : a ++ r ≡ a ++ s = cc in same_rests a r s tails

longer_begins : (text a b : List ℕ) → starts_with nat_eq text a ≡ true → starts_with nat_eq text b ≡ true → length a ≤ length b → starts_with nat_eq b a ≡ true
longer_begins text a b h k l =
    let p = prefix_of a b (drop (length a) text) (drop (length b) text) (sym (test_begins text a h) ∙ test_begins text b k) l in
    begins_test b a p.0 p.1

-- decimals
hashes_lead : (text : List ℕ) → (rest : List ℕ) × (text ≡ repeat (hashes_at text) (codes "#") ++ rest)
hashes_lead [] = ([], refl)
hashes_lead (b ∷ text) =
    let more = hashes_lead text in
    let P : Bool → Type 0 = λ t. (rest : List ℕ) × (b ∷ text ≡ repeat (cond t (1 + hashes_at text) 0) (codes "#") ++ rest) in
    elim (cases_Bool (eqb b 35)) [
      | inl e ↦
          let is : b ≡ 35 = grind (arith, nat_tests) in
          let n : 1 + hashes_at text ≡ suc (hashes_at text) = omega arith in
          subst P (sym e) (more.0, rw n (rw is (ap (λ (t : List ℕ). 35 ∷ t) more.1)))
      | inr e ↦ subst P (sym e) (b ∷ text, refl)
    ]

hashes_begin : (p : ℕ) (text rest : List ℕ) → text ≡ repeat p (codes "#") ++ rest → p ≤ hashes_at text
hashes_begin zero text rest e = omega arith
hashes_begin (suc p) [] rest e = absurd (cc)
hashes_begin (suc p) (b ∷ text) rest e =
    let is : b ≡ 35 = cc in
    let tail : text ≡ repeat p (codes "#") ++ rest = cc in
    let more = hashes_begin p text rest tail in
    rw is (omega (arith, more))

with_point : (n : ℕ) (text rest : List ℕ) → text ≡ repeat n (codes "#") ++ rest → (after : List ℕ) × (46 ∷ text ≡ hashes n ++ after)
with_point zero text rest e = (46 ∷ text, refl)
with_point (suc n) text rest e = (rest, ap (λ (t : List ℕ). 46 ∷ t) e)

pub places_lead : (text : List ℕ) → (rest : List ℕ) × (text ≡ hashes (places_behind text) ++ rest)
places_lead [] = ([], refl)
places_lead (b ∷ text) =
    let more = hashes_lead text in
    let P : Bool → Type 0 = λ t. (rest : List ℕ) × (b ∷ text ≡ hashes (cond t (hashes_at text) 0) ++ rest) in
    elim (cases_Bool (eqb b 46)) [
      | inl e ↦
          let is : b ≡ 46 = grind (arith, nat_tests) in
          let Q : ℕ → Type 0 = λ x. (rest : List ℕ) × (x ∷ text ≡ hashes (hashes_at text) ++ rest) in
          subst P (sym e) (subst Q (sym is) (with_point (hashes_at text) text more.0 more.1))
      | inr e ↦ subst P (sym e) (b ∷ text, refl)
    ]

pub places_begin : (p : ℕ) (text rest : List ℕ) → text ≡ hashes p ++ rest → p ≤ places_behind text
places_begin zero text rest e = omega arith
places_begin (suc p) [] rest e = absurd (cc)
places_begin (suc p) (b ∷ text) rest e =
    let is : b ≡ 46 = cc in
    let tail : text ≡ repeat (suc p) (codes "#") ++ rest = cc in
    rw is (hashes_begin (suc p) text rest tail)

length-repeat : (n : ℕ) → length (repeat n (codes "#")) ≡ n
length-repeat zero = refl
length-repeat (suc n) = ap suc (length-repeat n)

hashes_rise : (p q : ℕ) → p ≤ q → length (hashes p) ≤ length (hashes q)
hashes_rise zero q h = omega arith
hashes_rise (suc p) zero h = absurd (omega arith)
hashes_rise (suc p) (suc q) h = omega (arith, length-repeat (suc p), length-repeat (suc q))

pub both : (a b : Bool) → (a && b) ≡ true → (a ≡ true) × (b ≡ true)
both true b h = (refl, h)
both false b h = absurd (cc)

pub either : (a b : Bool) → (a || b) ≡ true → a ≡ false → b ≡ true
either true b h e = absurd (cc)
either false b h e = h

opposite : (a : Bool) → not a ≡ true → a ≡ true → ⊥
opposite true h e = cc
opposite false h e = cc

-- what was found in a list passes its test
found_head : (m mark : Mark) (b : Bool) (rest : Option Mark) → b ≡ true → cond b (Some m) rest ≡ Some mark → m ≡ mark
found_head m mark true rest eb e = cc
found_head m mark false rest eb e = absurd (cc)

found_tail : (m : Mark) (b : Bool) (rest found : Option Mark) → b ≡ false → cond b (Some m) rest ≡ found → rest ≡ found
found_tail m true rest found eb e = absurd (cc)
found_tail m false rest found eb e = e

found_all : (p q : Mark → Bool) (marks : List Mark) (mark : Mark) → list_all p marks ≡ true → find q marks ≡ Some mark → p mark ≡ true
found_all p q [] mark h e = absurd (cc)
found_all p q (m ∷ marks) mark h e =
    let parts = both (p m) (list_all p marks) h in
    elim (cases_Bool (q m)) [
      | inl eb ↦ subst (λ (x : Mark). p x ≡ true) (found_head m mark (q m) (find q marks) eb e) parts.0
      | inr eb ↦ found_all p q marks mark parts.1 (found_tail m (q m) (find q marks) (Some mark) eb e)
    ]

found_passes : (q : Mark → Bool) (marks : List Mark) (mark : Mark) → find q marks ≡ Some mark → q mark ≡ true
found_passes q [] mark e = absurd (cc)
found_passes q (m ∷ marks) mark e = elim (cases_Bool (q m)) [
  | inl eb ↦ subst (λ (x : Mark). q x ≡ true) (found_head m mark (q m) (find q marks) eb e) eb
  | inr eb ↦ found_passes q marks mark (found_tail m (q m) (find q marks) (Some mark) eb e)
]

none_passes : (q : Mark → Bool) (marks : List Mark) → find q marks ≡ None → list_any q marks ≡ true → ⊥
none_passes q [] e h = cc
none_passes q (m ∷ marks) e h = elim (cases_Bool (q m)) [
  | inl eb ↦ no_head (q m) (find q marks) eb e
  | inr eb ↦ none_passes q marks (found_tail m (q m) (find q marks) None eb e) (either (q m) (list_any q marks) h eb)
]
  where
    no_head : (b : Bool) (rest : Option Mark) → b ≡ true → cond b (Some m) rest ≡ None → ⊥
    no_head true rest eb e = cc
    no_head false rest eb e = cc

-- each mark, without its decimals, is in the list
pub among_stems : (q : Mark → Bool) (mark : Mark) → q (with_places mark 0) ≡ true → list_any q stems ≡ true
among_stems q Year h = list_any_at q stems 0 Year (lit< tt) h
among_stems q Month h = list_any_at q stems 1 Year (lit< tt) h
among_stems q (MonthName Upper) h = list_any_at q stems 2 Year (lit< tt) h
among_stems q (MonthName Capital) h = list_any_at q stems 3 Year (lit< tt) h
among_stems q (MonthName Lower) h = list_any_at q stems 4 Year (lit< tt) h
among_stems q (MonthShort Upper) h = list_any_at q stems 5 Year (lit< tt) h
among_stems q (MonthShort Capital) h = list_any_at q stems 6 Year (lit< tt) h
among_stems q (MonthShort Lower) h = list_any_at q stems 7 Year (lit< tt) h
among_stems q DayOfMonth h = list_any_at q stems 8 Year (lit< tt) h
among_stems q DayOfYear h = list_any_at q stems 9 Year (lit< tt) h
among_stems q (WeekdayShort Upper) h = list_any_at q stems 10 Year (lit< tt) h
among_stems q (WeekdayShort Capital) h = list_any_at q stems 11 Year (lit< tt) h
among_stems q (WeekdayShort Lower) h = list_any_at q stems 12 Year (lit< tt) h
among_stems q (WeekdayName Upper) h = list_any_at q stems 13 Year (lit< tt) h
among_stems q (WeekdayName Capital) h = list_any_at q stems 14 Year (lit< tt) h
among_stems q (WeekdayName Lower) h = list_any_at q stems 15 Year (lit< tt) h
among_stems q Hour h = list_any_at q stems 16 Year (lit< tt) h
among_stems q HourOfHalf h = list_any_at q stems 17 Year (lit< tt) h
among_stems q Minute h = list_any_at q stems 18 Year (lit< tt) h
among_stems q (Second places) h = list_any_at q stems 19 Year (lit< tt) h
among_stems q HalfUpper h = list_any_at q stems 20 Year (lit< tt) h
among_stems q HalfLower h = list_any_at q stems 21 Year (lit< tt) h
among_stems q (Seconds places) h = list_any_at q stems 22 Year (lit< tt) h
among_stems q (JulianDate places) h = list_any_at q stems 23 Year (lit< tt) h
among_stems q (Scale Utc) h = list_any_at q stems 24 Year (lit< tt) h
among_stems q (Scale Tai) h = list_any_at q stems 25 Year (lit< tt) h
among_stems q (Scale Tdb) h = list_any_at q stems 26 Year (lit< tt) h
among_stems q (Scale Tdt) h = list_any_at q stems 27 Year (lit< tt) h
among_stems q Round h = list_any_at q stems 28 Year (lit< tt) h
among_stems q Truncate h = list_any_at q stems 29 Year (lit< tt) h

-- no stem begins one that stands after it in the list
abbrev ordered : List Mark → Bool
ordered [] = true
ordered (mark ∷ marks) = list_all (λ other. not (starts_with nat_eq (stem_of other) (stem_of mark))) marks && ordered marks

abbrev longer : List ℕ → Mark → Mark → Bool
longer text mark other = has_stem text other && nat_lt (length (stem_of mark)) (length (stem_of other))

never_both : (p q : Mark → Bool) (marks : List Mark) → ((m : Mark) → p m ≡ true → q m ≡ true → ⊥) → list_all p marks ≡ true → list_any q marks ≡ true → ⊥
never_both p q [] f h k = cc
never_both p q (m ∷ marks) f h k =
    let parts = both (p m) (list_all p marks) h in
    elim (cases_Bool (q m)) [
      | inl eb ↦ f m parts.0 eb
      | inr eb ↦ never_both p q marks f parts.1 (either (q m) (list_any q marks) k eb)
    ]

less_of : (a b : ℕ) → nat_lt a b ≡ true → a < b
less_of a b h = grind (arith, nat_tests)

less_is : (a b : ℕ) → a < b → nat_lt a b ≡ true
less_is a b h = grind (arith, nat_tests)

apart : (text : List ℕ) (m x : Mark) → has_stem text m ≡ true → not (starts_with nat_eq (stem_of x) (stem_of m)) ≡ true → longer text m x ≡ true → ⊥
apart text m x hm n l =
    let parts = both (has_stem text x) (nat_lt (length (stem_of m)) (length (stem_of x))) l in
    let less = less_of (length (stem_of m)) (length (stem_of x)) parts.1 in
    opposite (starts_with nat_eq (stem_of x) (stem_of m)) n (longer_begins text (stem_of m) (stem_of x) hm parts.0 (omega arith))

not_itself : (text : List ℕ) (m : Mark) → longer text m m ≡ true → ⊥
not_itself text m l =
    let parts = both (has_stem text m) (nat_lt (length (stem_of m)) (length (stem_of m))) l in
    let less = less_of (length (stem_of m)) (length (stem_of m)) parts.1 in
    omega arith

not_longer : (text : List ℕ) (mark m : Mark) → has_stem text m ≡ false → longer text mark m ≡ false
not_longer text mark m e = rw e refl

longest_first : (text : List ℕ) (marks : List Mark) (mark : Mark) → ordered marks ≡ true → find (has_stem text) marks ≡ Some mark → list_any (longer text mark) marks ≡ true → ⊥
longest_first text [] mark o e h = cc
longest_first text (m ∷ marks) mark o e h =
    let parts = both (list_all (λ other. not (starts_with nat_eq (stem_of other) (stem_of m))) marks) (ordered marks) o in
    elim (cases_Bool (has_stem text m)) [
      | inl eb ↦
          let same : m ≡ mark = found_head m mark (has_stem text m) (find (has_stem text) marks) eb e in
          let g : list_any (longer text m) (m ∷ marks) ≡ true = subst (λ (x : Mark). list_any (longer text x) (m ∷ marks) ≡ true) (sym same) h in
          elim (cases_Bool (longer text m m)) [
            | inl l ↦ not_itself text m l
            | inr l ↦ never_both (λ other. not (starts_with nat_eq (stem_of other) (stem_of m))) (longer text m) marks (λ x. apart text m x eb) parts.0
                (either (longer text m m) (list_any (longer text m) marks) g l)
          ]
      | inr eb ↦ longest_first text marks mark parts.1 (found_tail m (has_stem text m) (find (has_stem text) marks) (Some mark) eb e)
          (either (longer text mark m) (list_any (longer text mark) marks) h (not_longer text mark m eb))
    ]

-- a mark's letters stay, whatever its decimals
stem_with : (mark : Mark) (p : ℕ) → stem_of (with_places mark p) ≡ stem_of mark
stem_with (Second q) p = refl
stem_with (Seconds q) p = refl
stem_with (JulianDate q) p = refl
stem_with mark p = refl

-- marks that take decimals
abbrev takes_places : Mark → Bool
takes_places (Second p) = true
takes_places (Seconds p) = true
takes_places (JulianDate p) = true
takes_places mark = false

places_with : (mark : Mark) (p : ℕ) → takes_places mark ≡ true → places_of (with_places mark p) ≡ p
places_with (Second q) p h = refl
places_with (Seconds q) p h = refl
places_with (JulianDate q) p h = refl
places_with mark p h = absurd (cc)

no_places : (mark : Mark) → takes_places mark ≡ false → places_of mark ≡ 0
no_places (Second q) h = absurd (cc)
no_places (Seconds q) h = absurd (cc)
no_places (JulianDate q) h = absurd (cc)
no_places mark h = refl

no_places_with : (mark : Mark) (p : ℕ) → takes_places mark ≡ false → places_of (with_places mark p) ≡ 0
no_places_with (Second q) p h = absurd (cc)
no_places_with (Seconds q) p h = absurd (cc)
no_places_with (JulianDate q) p h = absurd (cc)
no_places_with mark p h = refl

-- the stems that begin with those of marks that take decimals take them, too, and are no longer
abbrev takes_like : Mark → Mark → Bool
takes_like mark other = not (starts_with nat_eq (stem_of other) (stem_of mark)) || (takes_places other && nat_lt (length (stem_of other)) (suc (length (stem_of mark))))

like_takes : (mark first : Mark) (text : List ℕ) → takes_places mark ≡ true → first_stem text ≡ Some first → takes_like mark first ≡ true
like_takes (Second p) first text h e = found_all (takes_like (Second p)) (has_stem text) stems first refl e
like_takes (Seconds p) first text h e = found_all (takes_like (Seconds p)) (has_stem text) stems first refl e
like_takes (JulianDate p) first text h e = found_all (takes_like (JulianDate p)) (has_stem text) stems first refl e
like_takes mark first text h e = absurd (cc)

pub length_hashes : (p : ℕ) → (p ≡ 0 → ⊥) → p + 1 ≡ length (hashes p)
length_hashes zero h = absurd (h refl)
length_hashes (suc p) h = omega (arith, length-repeat (suc p))

-- what a text begins with stands there
spelled_with : (text rest : List ℕ) (mark : Mark) (p q : ℕ) → places_of (with_places mark p) ≡ q → text ≡ stem_of mark ++ (hashes q ++ rest)
    → text ≡ word_of (with_places mark p) ++ rest
spelled_with text rest mark p q e h =
    h ∙ (λ i. sym (stem_with mark p) i ++ (hashes (sym e i) ++ rest)) ∙ sym (append_assoc (stem_of (with_places mark p)) (hashes (places_of (with_places mark p))) rest)

piece_begins : (text : List ℕ) (o : Option Mark) → 0 < length text → first_stem text ≡ o → (after : List ℕ) × (text ≡ piece_text (piece_of text o) ++ after)
piece_begins [] None some e = absurd (omega arith)
piece_begins (b ∷ text) None some e = (text, refl)
piece_begins text (Some mark) some e =
    let rest = drop (length (stem_of mark)) text in
    let starts = test_begins text (stem_of mark) (found_passes (has_stem text) stems mark e) in
    let behind = places_lead rest in
    elim (cases_Bool (takes_places mark)) [
      | inl t ↦ (
        behind.0,
        spelled_with text behind.0 mark (places_behind rest) (places_behind rest) (places_with mark (places_behind rest) t)
            (starts ∙ ap (λ (r : List ℕ). stem_of mark ++ r) behind.1),
      )
      | inr t ↦ (rest, spelled_with text rest mark (places_behind rest) 0 (no_places_with mark (places_behind rest) t) starts)
    ]

pub front_begins : (text : List ℕ) → 0 < length text → (after : List ℕ) × (text ≡ piece_text (front_of text) ++ after)
unfolding front_of
front_begins text some = piece_begins text (first_stem text) some refl

-- it is the longest mark, where there is one
stem_begins : (text : List ℕ) (mark : Mark) (b : Begins mark text) → text ≡ stem_of mark ++ (hashes (places_of mark) ++ b.rest)
stem_begins text mark b = b.whole ∙ append_assoc (stem_of mark) (hashes (places_of mark)) b.rest

has_its_stem : (text : List ℕ) (mark : Mark) → Begins mark text → has_stem text mark ≡ true
has_its_stem text mark b = begins_test text (stem_of mark) (hashes (places_of mark) ++ b.rest) (stem_begins text mark b)

has_stem_with : (text : List ℕ) (mark : Mark) (p : ℕ) → has_stem text mark ≡ true → has_stem text (with_places mark p) ≡ true
has_stem_with text mark p h = subst (λ (w : List ℕ). starts_with nat_eq text w ≡ true) (sym (stem_with mark p)) h

longer_is : (text : List ℕ) (first mark : Mark) → Begins mark text → length (stem_of first) < length (stem_of mark) → longer text first (with_places mark 0) ≡ true
longer_is text first mark b l =
    let h = has_stem_with text mark 0 (has_its_stem text mark b) in
    let m : length (stem_of first) < length (stem_of (with_places mark 0)) = subst (λ (w : List ℕ). length (stem_of first) < length w) (sym (stem_with mark 0)) l in
    rw (h, less_is (length (stem_of first)) (length (stem_of (with_places mark 0))) m) refl

no_longer_stem : (text : List ℕ) (first mark : Mark) → first_stem text ≡ Some first → Begins mark text → length (stem_of mark) ≤ length (stem_of first)
no_longer_stem text first mark e b = elim (cases_lt (length (stem_of first)) (length (stem_of mark))) [
  | inl l ↦ absurd (longest_first text stems first refl e (among_stems (longer text first) mark (longer_is text first mark b l)))
  | inr l ↦ l
]

length-word : (mark : Mark) → length (word_of mark) ≡ length (stem_of mark) + length (hashes (places_of mark))
length-word mark = length-append (stem_of mark) (hashes (places_of mark))

-- a mark that takes decimals, where the first stem is at least as long
same_stems : (text : List ℕ) (first mark : Mark) → first_stem text ≡ Some first → (b : Begins mark text) → takes_places mark ≡ true
    → (takes_places first ≡ true) × (stem_of first ≡ stem_of mark)
same_stems text first mark e b t =
    let l = no_longer_stem text first mark e b in
    let has = found_passes (has_stem text) stems first e in
    let starts = longer_begins text (stem_of mark) (stem_of first) (has_its_stem text mark b) has l in
    let like = like_takes mark first text t e in
    let take = both (takes_places first) (nat_lt (length (stem_of first)) (suc (length (stem_of mark))))
    (either (not (starts_with nat_eq (stem_of first) (stem_of mark))) (takes_places first && nat_lt (length (stem_of first)) (suc (length (stem_of mark)))) like (denied _ starts)) in
    let few = less_of (length (stem_of first)) (suc (length (stem_of mark))) take.1 in (
      take.0,
      same_words (stem_of first) (stem_of mark) (drop (length (stem_of first)) text) (hashes (places_of mark) ++ b.rest)
          (sym (test_begins text (stem_of first) has) ∙ stem_begins text mark b) (omega arith),
    )
  where
    denied : (b : Bool) → b ≡ true → not b ≡ false
    denied true h = refl
    denied false h = absurd (cc)

longest_mark : (text : List ℕ) (first mark : Mark) → first_stem text ≡ Some first → Begins mark text
    → length (word_of mark) ≤ length (word_of (with_places first (places_behind (drop (length (stem_of first)) text))))
longest_mark text first mark e b =
    let rest = drop (length (stem_of first)) text in
    let p = places_behind rest in
    let l = no_longer_stem text first mark e b in
    let whole = length-word mark in
    let found = length-word (with_places first p) in
    let stem = ap length (stem_with first p) in
    elim (cases_Bool (takes_places mark)) [
      | inl t ↦
          let same = same_stems text first mark e b t in
          let starts = test_begins text (stem_of first) (found_passes (has_stem text) stems first e) in
          let rests = same_rests (stem_of first) rest (hashes (places_of mark) ++ b.rest)
          (sym starts ∙ stem_begins text mark b ∙ ap (λ (w : List ℕ). w ++ (hashes (places_of mark) ++ b.rest)) (sym same.1)) in
          let few = hashes_rise (places_of mark) p (places_begin (places_of mark) rest b.rest rests) in
          let places = ap (λ (q : ℕ). length (hashes q)) (places_with first p same.0) in
          omega arith
      | inr t ↦ let none = ap (λ (q : ℕ). length (hashes q)) (no_places mark t) in omega arith
    ]

piece_longest : (text : List ℕ) (o : Option Mark) → first_stem text ≡ o → IsLongest (piece_of text o) text
piece_longest text None e = λ mark b. none_passes (has_stem text) stems e (among_stems (has_stem text) mark (has_stem_with text mark 0 (has_its_stem text mark b)))
piece_longest text (Some first) e = λ mark b. longest_mark text first mark e b

pub front_longest : (text : List ℕ) → IsLongest (front_of text) text
unfolding front_of
front_longest text = piece_longest text (first_stem text) refl

-- a mark is told by its word
hashes_of : (n : ℕ) → hashes_at (repeat n (codes "#")) ≡ n
hashes_of zero = refl
hashes_of (suc n) = let more = hashes_of n in omega arith

places_hashes : (p : ℕ) → places_behind (hashes p) ≡ p
places_hashes zero = refl
places_hashes (suc p) = hashes_of (suc p)

front_of_word : (mark : Mark) → front_of (word_of mark) ≡ Marked mark
unfolding front_of
front_of_word Year = refl
front_of_word Month = refl
front_of_word (MonthShort Upper) = refl
front_of_word (MonthShort Capital) = refl
front_of_word (MonthShort Lower) = refl
front_of_word (MonthName Upper) = refl
front_of_word (MonthName Capital) = refl
front_of_word (MonthName Lower) = refl
front_of_word DayOfMonth = refl
front_of_word DayOfYear = refl
front_of_word (WeekdayShort Upper) = refl
front_of_word (WeekdayShort Capital) = refl
front_of_word (WeekdayShort Lower) = refl
front_of_word (WeekdayName Upper) = refl
front_of_word (WeekdayName Capital) = refl
front_of_word (WeekdayName Lower) = refl
front_of_word Hour = refl
front_of_word HourOfHalf = refl
front_of_word Minute = refl
front_of_word (Second places) = ap (λ (p : ℕ). Marked (Second p)) (places_hashes places)
front_of_word HalfUpper = refl
front_of_word HalfLower = refl
front_of_word (Seconds places) = ap (λ (p : ℕ). Marked (Seconds p)) (places_hashes places)
front_of_word (JulianDate places) = ap (λ (p : ℕ). Marked (JulianDate p)) (places_hashes places)
front_of_word (Scale Utc) = refl
front_of_word (Scale Tai) = refl
front_of_word (Scale Tdb) = refl
front_of_word (Scale Tdt) = refl
front_of_word Round = refl
front_of_word Truncate = refl

same_marks : (a b : Mark) → word_of a ≡ word_of b → a ≡ b
same_marks a b e =
    let h : Marked a ≡ Marked b = sym (front_of_word a) ∙ ap front_of e ∙ front_of_word b in
    cc

-- of the pieces that may stand at the front of a text there is one
pub one_front : (p q : Piece) (text r s : List ℕ) → text ≡ piece_text p ++ r → text ≡ piece_text q ++ s → IsLongest p text → IsLongest q text → p ≡ q
one_front (Plain a) (Plain b) text r s e f h k = let g : a ∷ r ≡ b ∷ s = sym e ∙ f in let t : a ≡ b = cc in ap Plain t
one_front (Plain a) (Marked m) text r s e f h k = absurd (h m (record { rest = s; whole = f }))
one_front (Marked m) (Plain b) text r s e f h k = absurd (k m (record { rest = r; whole = e }))
one_front (Marked m) (Marked n) text r s e f h k =
    let l = h n (record { rest = s; whole = f }) in
    let g = k m (record { rest = r; whole = e }) in
    ap Marked (same_marks m n (same_words (word_of m) (word_of n) r s (sym e ∙ f) (omega arith)))

pub stem_some : (mark : Mark) → 1 ≤ length (stem_of mark)
stem_some Year = lit≤ tt
stem_some Month = lit≤ tt
stem_some (MonthShort Upper) = lit≤ tt
stem_some (MonthShort Capital) = lit≤ tt
stem_some (MonthShort Lower) = lit≤ tt
stem_some (MonthName Upper) = lit≤ tt
stem_some (MonthName Capital) = lit≤ tt
stem_some (MonthName Lower) = lit≤ tt
stem_some DayOfMonth = lit≤ tt
stem_some DayOfYear = lit≤ tt
stem_some (WeekdayShort Upper) = lit≤ tt
stem_some (WeekdayShort Capital) = lit≤ tt
stem_some (WeekdayShort Lower) = lit≤ tt
stem_some (WeekdayName Upper) = lit≤ tt
stem_some (WeekdayName Capital) = lit≤ tt
stem_some (WeekdayName Lower) = lit≤ tt
stem_some Hour = lit≤ tt
stem_some HourOfHalf = lit≤ tt
stem_some Minute = lit≤ tt
stem_some (Second places) = lit≤ tt
stem_some HalfUpper = lit≤ tt
stem_some HalfLower = lit≤ tt
stem_some (Seconds places) = lit≤ tt
stem_some (JulianDate places) = lit≤ tt
stem_some (Scale Utc) = lit≤ tt
stem_some (Scale Tai) = lit≤ tt
stem_some (Scale Tdb) = lit≤ tt
stem_some (Scale Tdt) = lit≤ tt
stem_some Round = lit≤ tt
stem_some Truncate = lit≤ tt
