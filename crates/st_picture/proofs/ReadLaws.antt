-- What the tests find is the first rule that is broken, or that none is.
use Rattle.std.proofs.Common.{◌≡◌, ℕ, zero, suc, ◌+◌, ◌<◌, ◌≤◌, Bool, true, false, ◌&&◌, cond, List, [], ◌∷◌, ◌++◌, length, Option, Some, None, Result, Ok, Err, inl, inr, refl, sym, ap, ◌∙◌, subst, arith, lit≤, lit<}
use Rattle.std.specs.Prelude.{slice_index_or, position}
use Rattle.std.specs.List.{list_any, position_from, All}
use Rattle.std.proofs.lemmas.Bool.{cases_Bool, cases_lt}
use Rattle.std.proofs.lemmas.Bool.Decides.{nat_tests}
use Rattle.std.proofs.lemmas.Iterator.Adapters.{position_from-zero}
use Rattle.st_dates.specs.declared.system.System.{System}
use Rattle.st_picture.specs.declared.fault.PictureFault.{PictureFault}
use Rattle.st_picture.specs.declared.fault.PictureFault.TheVariants.{TooLong, BadByte, LeftOutMark, StrayHash, TooManyPlaces, Empty, MixedForms, CountInUtc, WrongSystem, NoUnit, OutOfMemory}
use Rattle.st_picture.specs.declared.mark.Mark.{Mark}
use Rattle.st_picture.specs.declared.mark.Mark.TheVariants.{Year, Month, MonthShort, MonthName, DayOfMonth, DayOfYear, WeekdayShort, WeekdayName, Hour, HourOfHalf, Minute, Second, HalfUpper, HalfLower, Seconds, JulianDate, Scale, Round, Truncate}
use Rattle.st_picture.specs.declared.mark.Piece.{Piece}
use Rattle.st_picture.specs.declared.unit.LeastUnit.{LeastUnit}
use Rattle.st_picture.specs.declared.unit.LeastUnit.TheVariants as units
use Rattle.st_picture.specs.Cell.{unit_places}
use Rattle.st_picture.specs.Mark.{IsCut, places_of}
use Rattle.st_picture.specs.Picture.{unit_of, IsLeastUnit, Rounds}
use Rattle.st_picture.specs.Reading.{IsPlainByte, HasBadByte, Breaks, place_of, ReadsPicture}
use Rattle.st_picture.specs.ReadingMachine.{is_bad_byte, has_left_out, is_hash, has_many_places, is_mixed, is_utc, is_count, names_other, least_of, rounds_of, is_never_halved, unit_tested, tested}
use Rattle.st_picture.proofs.Cuts.{each_has_cut}
use Rattle.st_picture.proofs.RuleLaws.{told_not, tells_left_out, tells_hash, tells_many, tells_count_in_utc, tells_other}
use Rattle.st_picture.proofs.UnitLaws.{least_is, none_prints, some_prints, rounds_is, tells_no_unit, tells_mixed}

-- no rule before the nth is broken
abbrev pub Clear : System → List ℕ → List Piece → ℕ → Type 0
Clear system text pieces n = (other : PictureFault) → place_of other < n → Breaks system text pieces other → ⊥

pub fault_at : ℕ → PictureFault
fault_at n = slice_index_or (TooLong ∷ BadByte 0 ∷ LeftOutMark ∷ StrayHash ∷ TooManyPlaces ∷ Empty ∷ MixedForms ∷ CountInUtc ∷ WrongSystem ∷ NoUnit ∷ []) n OutOfMemory

pub other_is : (other : PictureFault) → 2 ≤ place_of other → other ≡ fault_at (place_of other)
unfolding fault_at
other_is TooLong h = absurd (omega arith)
other_is (BadByte i) h = absurd (omega arith)
other_is LeftOutMark h = refl
other_is StrayHash h = refl
other_is TooManyPlaces h = refl
other_is Empty h = refl
other_is MixedForms h = refl
other_is CountInUtc h = refl
other_is WrongSystem h = refl
other_is NoUnit h = refl
other_is OutOfMemory h = refl

clear_next : (system : System) (text : List ℕ) (pieces : List Piece) (n : ℕ) (fault : PictureFault) → 2 ≤ n → fault ≡ fault_at n → Clear system text pieces n
    → (Breaks system text pieces fault → ⊥) → Clear system text pieces (suc n)
clear_next system text pieces n fault some e clear kept = λ other lt b. elim (cases_lt (place_of other) n) [
  | inl l ↦ clear other l b
  | inr g ↦
      let same : place_of other ≡ n = omega arith in
      let P : PictureFault → Type 0 = λ f. Breaks system text pieces f in
      kept (subst P (other_is other (omega arith) ∙ ap fault_at same ∙ sym e) b)
]

-- what the tests of the pieces tell
abbrev pub TestsTo : System → List ℕ → List Piece → Result (LeastUnit × Bool) PictureFault → Type 0
TestsTo system text pieces (Ok found) = IsLeastUnit pieces found.0 × Rounds pieces found.1 × Clear system text pieces 10
TestsTo system text pieces (Err fault) = Breaks system text pieces fault × Clear system text pieces (place_of fault) × (2 ≤ place_of fault) × (place_of fault ≤ 9)

cond_case : {A : Type 0} (P : A → Type 0) (t : Bool) (x y : A) → (t ≡ true → P x) → (t ≡ false → P y) → P (cond t x y)
cond_case P true x y f g = f refl
cond_case P false x y f g = g refl

unit_tests_to : (system : System) (text : List ℕ) (pieces : List Piece) (o : Option LeastUnit) → least_of None pieces ≡ o → Clear system text pieces 5
    → TestsTo system text pieces (unit_tested system pieces o)
unfolding fault_at
unit_tests_to system text pieces None e c5 = (none_prints pieces e, c5, lit≤ tt, lit≤ tt)
unit_tests_to system text pieces (Some u) e c5 =
    let P : Result (LeastUnit × Bool) PictureFault → Type 0 = TestsTo system text pieces in
    let least = least_is pieces u e in
    let c6 = clear_next system text pieces 5 Empty (lit≤ tt) refl c5 (some_prints pieces u e) in
    cond_case P (is_mixed pieces) _ _ (λ t. ((tells_mixed pieces).is t, c6, lit≤ tt, lit≤ tt)) (λ f6.
    let c7 = clear_next system text pieces 6 MixedForms (lit≤ tt) refl c6 (told_not (is_mixed pieces) _ (tells_mixed pieces) f6) in
    cond_case P (is_utc system && list_any is_count pieces) _ _ (λ t. ((tells_count_in_utc system pieces).is t, c7, lit≤ tt, lit≤ tt)) (λ f7.
    let c8 = clear_next system text pieces 7 CountInUtc (lit≤ tt) refl c7 (told_not (is_utc system && list_any is_count pieces) _ (tells_count_in_utc system pieces) f7) in
    cond_case P (list_any (names_other system) pieces) _ _ (λ t. ((tells_other system pieces).is t, c8, lit≤ tt, lit≤ tt)) (λ f8.
    let c9 = clear_next system text pieces 8 WrongSystem (lit≤ tt) refl c8 (told_not (list_any (names_other system) pieces) _ (tells_other system pieces) f8) in
    cond_case P (rounds_of false pieces && is_never_halved u) _ _ (λ t. ((tells_no_unit pieces u least).is t, c9, lit≤ tt, lit≤ tt)) (λ f9. (
      least,
      rounds_is pieces,
      clear_next system text pieces 9 NoUnit (lit≤ tt) refl c9 (told_not (rounds_of false pieces && is_never_halved u) _ (tells_no_unit pieces u least) f9),
    )))))

pub tests_to : (system : System) (text : List ℕ) (pieces : List Piece) → Clear system text pieces 2 → TestsTo system text pieces (tested system pieces)
unfolding fault_at
tests_to system text pieces c2 =
    let P : Result (LeastUnit × Bool) PictureFault → Type 0 = TestsTo system text pieces in
    cond_case P (has_left_out pieces) _ _ (λ t. ((tells_left_out pieces).is t, c2, lit≤ tt, lit≤ tt)) (λ f2.
    let c3 = clear_next system text pieces 2 LeftOutMark (lit≤ tt) refl c2 (told_not (has_left_out pieces) _ (tells_left_out pieces) f2) in
    cond_case P (list_any is_hash pieces) _ _ (λ t. ((tells_hash pieces).is t, c3, lit≤ tt, lit≤ tt)) (λ f3.
    let c4 = clear_next system text pieces 3 StrayHash (lit≤ tt) refl c3 (told_not (list_any is_hash pieces) _ (tells_hash pieces) f3) in
    cond_case P (list_any has_many_places pieces) _ _ (λ t. ((tells_many pieces).is t, c4, lit≤ tt, lit≤ tt)) (λ f4.
    unit_tests_to system text pieces (least_of None pieces) refl
    (clear_next system text pieces 4 TooManyPlaces (lit≤ tt) refl c4 (told_not (list_any has_many_places pieces) _ (tells_many pieces) f4)))))

-- The first byte that is none of the allowed ones.
bad_is : (b : ℕ) → is_bad_byte b ≡ true → IsPlainByte b → ⊥
bad_is b h p = let from = p.from in let to = p.to in grind (arith, nat_tests)

good_is : (b : ℕ) → is_bad_byte b ≡ false → IsPlainByte b
good_is b h = record { from = grind (arith, nat_tests); to = grind (arith, nat_tests) }

all_more : (b : ℕ) (text : List ℕ) → IsPlainByte b → All IsPlainByte text → All IsPlainByte (b ∷ text)
all_more b text h all zero d l = h
all_more b text h all (suc k) d l = all k d (omega arith)

bad_more : (b : ℕ) (text : List ℕ) (i : ℕ) → IsPlainByte b → HasBadByte text i → HasBadByte (b ∷ text) (suc i)
bad_more b text i h bad = record {
  before = b ∷ bad.before;
  byte = bad.byte;
  after = bad.after;
  whole = ap (λ (t : List ℕ). b ∷ t) bad.whole;
  place = ap suc bad.place;
  good = all_more b bad.before h bad.good;
  bad = bad.bad;
}

bad_found : (text : List ℕ) (k i : ℕ) → position_from is_bad_byte k text ≡ Some i → (j : ℕ) × (i ≡ k + j) × HasBadByte text j
bad_found [] k i e = absurd (cc)
bad_found (b ∷ text) k i e = elim (cases_Bool (is_bad_byte b)) [
  | inl t ↦
      let g : Some k ≡ Some i = rw t at e in
      let same : k ≡ i = cc in
      (0, omega arith, record { before = []; byte = b; after = text; whole = refl; place = refl; good = λ m d l. absurd (omega arith); bad = bad_is b t })
  | inr t ↦
      let more = bad_found text (k + 1) i (rw t at e) in
      (suc more.0, let s = more.1 in omega arith, bad_more b text more.0 (good_is b t) more.2)
]

bad_absent : (text : List ℕ) (k : ℕ) → position_from is_bad_byte k text ≡ None → (before : List ℕ) (byte : ℕ) (after : List ℕ) → text ≡ before ++ (byte ∷ after)
    → (IsPlainByte byte → ⊥) → ⊥
bad_absent [] k e [] byte after w bad = cc
bad_absent [] k e (x ∷ before) byte after w bad = cc
bad_absent (b ∷ text) k e [] byte after w bad =
    let same : b ≡ byte = cc in
    elim (cases_Bool (is_bad_byte b)) [
      | inl t ↦ let g : Some k ≡ None = rw t at e in cc
      | inr t ↦ bad (subst IsPlainByte same (good_is b t))
    ]
bad_absent (b ∷ text) k e (x ∷ before) byte after w bad =
    let tail : text ≡ before ++ (byte ∷ after) = cc in
    elim (cases_Bool (is_bad_byte b)) [
      | inl t ↦ let g : Some k ≡ None = rw t at e in cc
      | inr t ↦ bad_absent text (k + 1) (rw t at e) before byte after tail bad
    ]

pub bad_byte_is : (text : List ℕ) (i : ℕ) → position is_bad_byte text ≡ Some i → HasBadByte text i
bad_byte_is text i e =
    let f = bad_found text 0 i (sym (position_from-zero is_bad_byte text) ∙ e) in
    let same : f.0 ≡ i = let s = f.1 in omega arith in
    subst (λ (n : ℕ). HasBadByte text n) same f.2

pub no_bad_byte : (text : List ℕ) (i : ℕ) → position is_bad_byte text ≡ None → HasBadByte text i → ⊥
no_bad_byte text i e h = bad_absent text 0 (sym (position_from-zero is_bad_byte text) ∙ e) h.before h.byte h.after h.whole h.bad

-- the answers of a reader
pub too_long : (system : System) (text : List ℕ) → 255 < length text → ReadsPicture system text (Err TooLong)
too_long system text h = let c = each_has_cut text in (c.0, c.1, h, λ other lt b. absurd (omega arith))

pub clear_one : (system : System) (text : List ℕ) (pieces : List Piece) → length text ≤ 255 → Clear system text pieces 1
clear_one system text pieces h TooLong lt b = omega arith
clear_one system text pieces h other lt b = absurd (omega arith)

pub clear_two : (system : System) (text : List ℕ) (pieces : List Piece) → length text ≤ 255 → position is_bad_byte text ≡ None → Clear system text pieces 2
clear_two system text pieces h e TooLong lt b = omega arith
clear_two system text pieces h e (BadByte i) lt b = no_bad_byte text i e b
clear_two system text pieces h e other lt b = absurd (omega arith)

pub bad_byte_read : (system : System) (text : List ℕ) (i : ℕ) → length text ≤ 255 → position is_bad_byte text ≡ Some i → ReadsPicture system text (Err (BadByte i))
bad_byte_read system text i h e = let c = each_has_cut text in (c.0, c.1, bad_byte_is text i e, clear_one system text c.0 h)

pub all_clear : (system : System) (text : List ℕ) (pieces : List Piece) → Clear system text pieces 10 → (fault : PictureFault) → Breaks system text pieces fault → ⊥
all_clear system text pieces c OutOfMemory b = b
all_clear system text pieces c fault b = c fault (lit< tt) b

pub fault_read : (system : System) (text : List ℕ) (pieces : List Piece) (fault : PictureFault) → IsCut text pieces → TestsTo system text pieces (Err fault)
    → ReadsPicture system text (Err fault)
fault_read system text pieces OutOfMemory c t = tt
fault_read system text pieces TooLong c t = (pieces, c, t.0, t.1)
fault_read system text pieces (BadByte i) c t = (pieces, c, t.0, t.1)
fault_read system text pieces LeftOutMark c t = (pieces, c, t.0, t.1)
fault_read system text pieces StrayHash c t = (pieces, c, t.0, t.1)
fault_read system text pieces TooManyPlaces c t = (pieces, c, t.0, t.1)
fault_read system text pieces Empty c t = (pieces, c, t.0, t.1)
fault_read system text pieces MixedForms c t = (pieces, c, t.0, t.1)
fault_read system text pieces CountInUtc c t = (pieces, c, t.0, t.1)
fault_read system text pieces WrongSystem c t = (pieces, c, t.0, t.1)
fault_read system text pieces NoUnit c t = (pieces, c, t.0, t.1)

pub picture_read : (system : System) (text : List ℕ) (pieces : List Piece) (found : LeastUnit × Bool) → IsCut text pieces → TestsTo system text pieces (Ok found)
    → ReadsPicture system text (Ok (record { system = system; pieces = pieces; unit = found.0; rounds = found.1 }))
picture_read system text pieces found c t = (refl, c, t.0, t.1, all_clear system text pieces t.2)

-- what a picture keeps
few_places : (mark : Mark) (u : LeastUnit) → unit_of mark ≡ Some u → unit_places u ≤ places_of mark
few_places Year u e = let s : units.Year ≡ u = cc in subst (λ (x : LeastUnit). unit_places x ≤ 0) s (omega arith)
few_places Month u e = let s : units.Month ≡ u = cc in subst (λ (x : LeastUnit). unit_places x ≤ 0) s (omega arith)
few_places (MonthShort letters) u e = let s : units.Month ≡ u = cc in subst (λ (x : LeastUnit). unit_places x ≤ 0) s (omega arith)
few_places (MonthName letters) u e = let s : units.Month ≡ u = cc in subst (λ (x : LeastUnit). unit_places x ≤ 0) s (omega arith)
few_places DayOfMonth u e = let s : units.Day ≡ u = cc in subst (λ (x : LeastUnit). unit_places x ≤ 0) s (omega arith)
few_places DayOfYear u e = let s : units.Day ≡ u = cc in subst (λ (x : LeastUnit). unit_places x ≤ 0) s (omega arith)
few_places (WeekdayShort letters) u e = let s : units.Day ≡ u = cc in subst (λ (x : LeastUnit). unit_places x ≤ 0) s (omega arith)
few_places (WeekdayName letters) u e = let s : units.Day ≡ u = cc in subst (λ (x : LeastUnit). unit_places x ≤ 0) s (omega arith)
few_places Hour u e = let s : units.Hour ≡ u = cc in subst (λ (x : LeastUnit). unit_places x ≤ 0) s (omega arith)
few_places HourOfHalf u e = let s : units.Hour ≡ u = cc in subst (λ (x : LeastUnit). unit_places x ≤ 0) s (omega arith)
few_places Minute u e = let s : units.Minute ≡ u = cc in subst (λ (x : LeastUnit). unit_places x ≤ 0) s (omega arith)
few_places HalfUpper u e = let s : units.Hour ≡ u = cc in subst (λ (x : LeastUnit). unit_places x ≤ 0) s (omega arith)
few_places HalfLower u e = let s : units.Hour ≡ u = cc in subst (λ (x : LeastUnit). unit_places x ≤ 0) s (omega arith)
few_places (Second places) u e = let s : units.Second places ≡ u = cc in subst (λ (x : LeastUnit). unit_places x ≤ places) s (omega arith)
few_places (Seconds places) u e = let s : units.Count places ≡ u = cc in subst (λ (x : LeastUnit). unit_places x ≤ places) s (omega arith)
few_places (JulianDate places) u e = let s : units.Julian places ≡ u = cc in subst (λ (x : LeastUnit). unit_places x ≤ places) s (omega arith)
few_places (Scale mark) u e = absurd (cc)
few_places Round u e = absurd (cc)
few_places Truncate u e = absurd (cc)

pub unit_kept : (system : System) (text : List ℕ) (pieces : List Piece) (found : LeastUnit × Bool) → TestsTo system text pieces (Ok found) → unit_places found.0 ≤ 9
unit_kept system text pieces found t =
    let least = t.0 in
    let few = few_places least.mark found.0 least.prints in
    elim (cases_lt 9 (places_of least.mark)) [
      | inl many ↦ absurd (t.2 TooManyPlaces (lit< tt) (least.mark, least.stands, many))
      | inr le ↦ omega arith
    ]

pub places_kept : (system : System) (text : List ℕ) (pieces : List Piece) (found : LeastUnit × Bool) → TestsTo system text pieces (Ok found)
    → list_any has_many_places pieces ≡ false
places_kept system text pieces found t = elim (cases_Bool (list_any has_many_places pieces)) [
  | inl many ↦ absurd (t.2 TooManyPlaces (lit< tt) ((tells_many pieces).is many))
  | inr few ↦ few
]

pub told_of : (system : System) (text : List ℕ) (pieces items : List Piece) (r : Result (LeastUnit × Bool) PictureFault) → length text ≤ 255 → position is_bad_byte text ≡ None
    → items ≡ pieces → r ≡ tested system items → TestsTo system text pieces r
told_of system text pieces items r few good same e =
    let P : Result (LeastUnit × Bool) PictureFault → Type 0 = TestsTo system text pieces in
    subst P (sym (e ∙ ap (tested system) same)) (tests_to system text pieces (clear_two system text pieces few good))
