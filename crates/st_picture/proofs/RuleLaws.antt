-- The tests of the code tell the rules of a picture.
use Rattle.std.proofs.Common.{◌≡◌, ◌≢◌, ◌⊎◌, ℕ, zero, suc, ◌<◌, Bool, true, false, not, ◌||◌, ◌&&◌, List, [], ◌∷◌, ◌++◌, Some, inl, inr, refl, sym, ap, ◌∙◌, subst, arith}
use Rattle.std.specs.Prelude.{nat_eq, slice_get}
use Rattle.std.specs.List.{starts_with, list_any}
use Rattle.std.proofs.lemmas.Bool.{cases_Bool}
use Rattle.std.proofs.lemmas.Bool.Decides.{nat_tests}
use Rattle.st_dates.specs.declared.system.System.{System}
use Rattle.st_dates.specs.declared.system.System.TheVariants as systems
use Rattle.st_picture.specs.declared.mark.Mark.{Mark}
use Rattle.st_picture.specs.declared.mark.Mark.TheVariants.{Seconds, JulianDate, Scale}
use Rattle.st_picture.specs.declared.mark.Piece.{Piece}
use Rattle.st_picture.specs.declared.mark.Piece.TheVariants.{Marked, Plain}
use Rattle.st_picture.specs.declared.mark.ScaleMark.{ScaleMark}
use Rattle.st_picture.specs.declared.mark.ScaleMark.TheVariants.{Utc, Tai, Tdb, Tdt}
use Rattle.st_picture.specs.Mark.{places_of, spelled}
use Rattle.st_picture.specs.Picture.{Stands}
use Rattle.st_picture.specs.Reading.{left_out, HasLeftOut, HasStrayHash, IsCount, system_of}
use Rattle.st_picture.specs.ReadingMachine.{begins_left_out, has_left_out, is_plain, is_hash, has_many_places, is_count, is_named, names_other, is_utc}
use Rattle.st_picture.proofs.Fronts.{test_begins, begins_test, both, either}

-- a test tells a fact
pub record Tells (test : Bool) (fact : Type 0) : Type 0 where
  pub is : test ≡ true → fact
  pub only : fact → test ≡ true

pub told_not : (test : Bool) (fact : Type 0) → Tells test fact → test ≡ false → fact → ⊥
told_not test fact t e f = let g = t.only f in cc

pub left_true : (a b : Bool) → a ≡ true → (a || b) ≡ true
left_true true b h = refl
left_true false b h = absurd (cc)

pub right_true : (a b : Bool) → b ≡ true → (a || b) ≡ true
right_true true b h = refl
right_true false b h = h

pub both_true : (a b : Bool) → a ≡ true → b ≡ true → (a && b) ≡ true
both_true true b h k = k
both_true false b h k = absurd (cc)

-- a piece of a list that passes a test, and what stands before and after it
pub record HasPiece (p : Piece → Bool) (pieces : List Piece) : Type 0 where
  pub before : List Piece
  pub piece : Piece
  pub after : List Piece
  pub whole : pieces ≡ before ++ (piece ∷ after)
  pub passes : p piece ≡ true

pub any_split : (p : Piece → Bool) (pieces : List Piece) → list_any p pieces ≡ true → HasPiece p pieces
any_split p [] h = absurd (cc)
any_split p (x ∷ pieces) h = elim (cases_Bool (p x)) [
  | inl e ↦ record { before = []; piece = x; after = pieces; whole = refl; passes = e }
  | inr e ↦
      let more = any_split p pieces (either (p x) (list_any p pieces) h e) in
      record { before = x ∷ more.before; piece = more.piece; after = more.after; whole = ap (λ (ps : List Piece). x ∷ ps) more.whole; passes = more.passes }
]

any_at : (p : Piece → Bool) (before : List Piece) (piece : Piece) (after : List Piece) → p piece ≡ true → list_any p (before ++ (piece ∷ after)) ≡ true
any_at p [] piece after h = left_true (p piece) (list_any p after) h
any_at p (b ∷ before) piece after h = right_true (p b) (list_any p (before ++ (piece ∷ after))) (any_at p before piece after h)

pub any_in : (p : Piece → Bool) (pieces before : List Piece) (piece : Piece) (after : List Piece) → pieces ≡ before ++ (piece ∷ after) → p piece ≡ true → list_any p pieces ≡ true
any_in p pieces before piece after e h = subst (λ (ps : List Piece). list_any p ps ≡ true) (sym e) (any_at p before piece after h)

-- marks among the pieces
pub any_mark : (p : Piece → Bool) (pieces : List Piece) (mark : Mark) → Stands pieces mark → p (Marked mark) ≡ true → list_any p pieces ≡ true
any_mark p pieces mark s h = any_in p pieces s.before (Marked mark) s.after s.here h

pub stands_of : (p : Piece → Bool) (pieces : List Piece) (mark : Mark) (h : HasPiece p pieces) → h.piece ≡ Marked mark → Stands pieces mark
stands_of p pieces mark h e = record { before = h.before; after = h.after; here = h.whole ∙ ap (λ (x : Piece). h.before ++ (x ∷ h.after)) e }

pub stands_head : (mark : Mark) (pieces : List Piece) → Stands (Marked mark ∷ pieces) mark
stands_head mark pieces = record { before = []; after = pieces; here = refl }

pub stands_tail : (p : Piece) (pieces : List Piece) (mark : Mark) → Stands pieces mark → Stands (p ∷ pieces) mark
stands_tail p pieces mark s = record { before = p ∷ s.before; after = s.after; here = ap (λ (ps : List Piece). p ∷ ps) s.here }

stands_in : (p : Piece) (pieces before after : List Piece) (mark : Mark) → p ∷ pieces ≡ before ++ (Marked mark ∷ after) → (p ≡ Marked mark) ⊎ Stands pieces mark
stands_in p pieces [] after mark e = inl (cc)
stands_in p pieces (b ∷ before) after mark e = let tail : pieces ≡ before ++ (Marked mark ∷ after) = cc in inr (record { before = before; after = after; here = tail })

pub stands_cases : (p : Piece) (pieces : List Piece) (mark : Mark) → Stands (p ∷ pieces) mark → (p ≡ Marked mark) ⊎ Stands pieces mark
stands_cases p pieces mark s = stands_in p pieces s.before s.after mark s.here

stands_none : (mark : Mark) (before after : List Piece) → [] ≡ before ++ (Marked mark ∷ after) → ⊥
stands_none mark [] after e = cc
stands_none mark (b ∷ before) after e = cc

pub nothing_stands : (mark : Mark) → Stands [] mark → ⊥
nothing_stands mark s = stands_none mark s.before s.after s.here

-- Marks of other pictures.
record BeginsWord (words : List (List ℕ)) (text : List ℕ) : Type 0 where
  place : ℕ
  word : List ℕ
  here : slice_get words place ≡ Some word
  begins : starts_with nat_eq text word ≡ true

any_word : (words : List (List ℕ)) (text : List ℕ) → list_any (starts_with nat_eq text) words ≡ true → BeginsWord words text
any_word [] text h = absurd (cc)
any_word (w ∷ words) text h = elim (cases_Bool (starts_with nat_eq text w)) [
  | inl e ↦ record { place = 0; word = w; here = refl; begins = e }
  | inr e ↦
      let more = any_word words text (either (starts_with nat_eq text w) (list_any (starts_with nat_eq text) words) h e) in
      record { place = suc more.place; word = more.word; here = more.here; begins = more.begins }
]

word_any : (words : List (List ℕ)) (text word : List ℕ) (place : ℕ) → slice_get words place ≡ Some word → starts_with nat_eq text word ≡ true
    → list_any (starts_with nat_eq text) words ≡ true
word_any [] text word place e h = absurd (cc)
word_any (w ∷ words) text word zero e h = let same : w ≡ word = cc in left_true (starts_with nat_eq text w) _ (rw same h)
word_any (w ∷ words) text word (suc place) e h = right_true (starts_with nat_eq text w) _ (word_any words text word place e h)

left_out_is : (pieces : List Piece) → has_left_out pieces ≡ true → HasLeftOut pieces
left_out_is [] h = absurd (cc)
left_out_is (Marked mark ∷ pieces) h =
    let more = left_out_is pieces h in
    record { before = Marked mark ∷ more.before; byte = more.byte; after = more.after; whole = ap (λ (ps : List Piece). Marked mark ∷ ps) more.whole; place = more.place; word = more.word; is_left_out = more.is_left_out; rest = more.rest; begins = more.begins }
left_out_is (Plain b ∷ pieces) h = elim (cases_Bool (begins_left_out (spelled (Plain b ∷ pieces)))) [
  | inl e ↦
      let word = any_word left_out (spelled (Plain b ∷ pieces)) e in
      record { before = []; byte = b; after = pieces; whole = refl; place = word.place; word = word.word; is_left_out = word.here; rest = _; begins = test_begins (spelled (Plain b ∷ pieces)) word.word word.begins }
  | inr e ↦
      let more = left_out_is pieces (either (begins_left_out (spelled (Plain b ∷ pieces))) (has_left_out pieces) h e) in
      record { before = Plain b ∷ more.before; byte = more.byte; after = more.after; whole = ap (λ (ps : List Piece). Plain b ∷ ps) more.whole; place = more.place; word = more.word; is_left_out = more.is_left_out; rest = more.rest; begins = more.begins }
]

left_out_at : (before : List Piece) (b : ℕ) (after : List Piece) → begins_left_out (spelled (Plain b ∷ after)) ≡ true → has_left_out (before ++ (Plain b ∷ after)) ≡ true
left_out_at [] b after h = left_true (begins_left_out (spelled (Plain b ∷ after))) (has_left_out after) h
left_out_at (x ∷ before) b after h = right_true (is_plain x && begins_left_out (spelled (x ∷ (before ++ (Plain b ∷ after))))) _ (left_out_at before b after h)

pub tells_left_out : (pieces : List Piece) → Tells (has_left_out pieces) (HasLeftOut pieces)
tells_left_out pieces = record {
  is = left_out_is pieces;
  only = λ h. subst (λ (ps : List Piece). has_left_out ps ≡ true) (sym h.whole)
      (left_out_at h.before h.byte h.after (word_any left_out (spelled (Plain h.byte ∷ h.after)) h.word h.place h.is_left_out (begins_test (spelled (Plain h.byte ∷ h.after)) h.word h.rest h.begins)));
}

-- A `#` that stands for itself.
hash_is : (piece : Piece) → is_hash piece ≡ true → piece ≡ Plain 35
hash_is (Plain b) h = let e : b ≡ 35 = grind (arith, nat_tests) in ap Plain e
hash_is (Marked mark) h = absurd (cc)

pub tells_hash : (pieces : List Piece) → Tells (list_any is_hash pieces) (HasStrayHash pieces)
tells_hash pieces = record {
  is = λ h. let s = any_split is_hash pieces h in
      record { before = s.before; after = s.after; whole = s.whole ∙ ap (λ (x : Piece). s.before ++ (x ∷ s.after)) (hash_is s.piece s.passes) };
  only = λ h. any_in is_hash pieces h.before (Plain 35) h.after h.whole refl;
}

-- Too many decimals.
many_is : (piece : Piece) → has_many_places piece ≡ true → (mark : Mark) × (piece ≡ Marked mark) × (9 < places_of mark)
many_is (Plain b) h = absurd (cc)
many_is (Marked mark) h = (mark, refl, grind (arith, nat_tests))

many_only : (mark : Mark) → 9 < places_of mark → has_many_places (Marked mark) ≡ true
many_only mark h = grind (arith, nat_tests)

pub tells_many : (pieces : List Piece) → Tells (list_any has_many_places pieces) ((mark : Mark) × Stands pieces mark × (9 < places_of mark))
tells_many pieces = record {
  is = λ h. let s = any_split has_many_places pieces h in
      let m = many_is s.piece s.passes in
      (m.0, stands_of has_many_places pieces m.0 s m.1, m.2);
  only = λ h. any_mark has_many_places pieces h.0 h.1 (many_only h.0 h.2);
}

-- Counts.
pub count_is : (piece : Piece) → is_count piece ≡ true → (mark : Mark) × (piece ≡ Marked mark) × IsCount mark
count_is (Plain b) h = absurd (cc)
count_is (Marked (Seconds p)) h = (Seconds p, refl, tt)
count_is (Marked (JulianDate p)) h = (JulianDate p, refl, tt)
count_is (Marked mark) h = absurd (cc)

pub count_only : (mark : Mark) → IsCount mark → is_count (Marked mark) ≡ true
count_only (Seconds p) h = refl
count_only (JulianDate p) h = refl
count_only mark h = absurd h

utc_is : (system : System) → is_utc system ≡ true → system ≡ systems.Utc
utc_is systems.Utc h = refl
utc_is system h = absurd (cc)

pub tells_count_in_utc : (system : System) (pieces : List Piece)
    → Tells (is_utc system && list_any is_count pieces) ((system ≡ systems.Utc) × ((mark : Mark) × Stands pieces mark × IsCount mark))
tells_count_in_utc system pieces = record {
  is = λ h. let parts = both (is_utc system) (list_any is_count pieces) h in
      let s = any_split is_count pieces parts.1 in
      let m = count_is s.piece s.passes in
      (utc_is system parts.0, (m.0, stands_of is_count pieces m.0 s m.1, m.2));
  only = λ h. both_true (is_utc system) (list_any is_count pieces) (ap is_utc h.0) (any_mark is_count pieces h.1.0 h.1.1 (count_only h.1.0 h.1.2));
}

-- Marks of another system.
named : (system : System) (mark : ScaleMark) → is_named system mark ≡ true → system_of mark ≡ system
named systems.Utc Utc h = refl
named systems.Tai Tai h = refl
named systems.Tdb Tdb h = refl
named systems.Tt Tdt h = refl
named system mark h = absurd (cc)

its_name : (mark : ScaleMark) → is_named (system_of mark) mark ≡ true
its_name Utc = refl
its_name Tai = refl
its_name Tdb = refl
its_name Tdt = refl

other_is : (system : System) (piece : Piece) → names_other system piece ≡ true → (mark : ScaleMark) × (piece ≡ Marked (Scale mark)) × (system_of mark ≢ system)
other_is system (Plain b) h = absurd (cc)
other_is system (Marked (Scale mark)) h = (mark, refl, λ e. let n = its_name mark in let P : System → Type 0 = λ s. is_named s mark ≡ true in denied (is_named system mark) h (subst P e n))
  where
    denied : (b : Bool) → not b ≡ true → b ≡ true → ⊥
    denied true h k = cc
    denied false h k = cc
other_is system (Marked mark) h = absurd (cc)

other_only : (system : System) (mark : ScaleMark) → (system_of mark ≢ system) → names_other system (Marked (Scale mark)) ≡ true
other_only system mark h = elim (cases_Bool (is_named system mark)) [
  | inl e ↦ absurd (h (named system mark e))
  | inr e ↦ rw e refl
]

pub tells_other : (system : System) (pieces : List Piece)
    → Tells (list_any (names_other system) pieces) ((scale : ScaleMark) × Stands pieces (Scale scale) × (system_of scale ≢ system))
tells_other system pieces = record {
  is = λ h. let s = any_split (names_other system) pieces h in
      let m = other_is system s.piece s.passes in
      (m.0, stands_of (names_other system) pieces (Scale m.0) s m.1, m.2);
  only = λ h. any_mark (names_other system) pieces (Scale h.0) h.1 (other_only system h.0 h.2);
}
