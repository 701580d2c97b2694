-- A text has one answer as a picture for a system.
use Rattle.std.proofs.Common.{◌≡◌, ◌⊎◌, ℕ, suc, ◌<◌, ◌≤◌, Bool, true, false, List, [], ◌∷◌, ◌++◌, length, Some, None, Result, Ok, Err, inl, inr, refl, sym, ap, ◌∙◌, subst, arith, lit≤}
use Rattle.std.specs.Prelude.{slice_index_or}
use Rattle.std.specs.List.{All}
use Rattle.std.proofs.lemmas.Bool.{cases_order, cases_lt}
use Rattle.st_dates.specs.declared.system.System.{System}
use Rattle.st_picture.specs.declared.fault.PictureFault.{PictureFault}
use Rattle.st_picture.specs.declared.fault.PictureFault.TheVariants.{TooLong, BadByte, LeftOutMark, StrayHash, TooManyPlaces, Empty, MixedForms, CountInUtc, WrongSystem, NoUnit, OutOfMemory}
use Rattle.st_picture.specs.declared.mark.Mark.{Mark}
use Rattle.st_picture.specs.declared.mark.Mark.TheVariants.{Second, Seconds, JulianDate}
use Rattle.st_picture.specs.declared.mark.Piece.{Piece}
use Rattle.st_picture.specs.declared.mark.Piece.TheVariants.{Marked}
use Rattle.st_picture.specs.declared.unit.LeastUnit.{LeastUnit}
use Rattle.st_picture.specs.declared.unit.LeastUnit.TheVariants as units
use Rattle.st_picture.specs.Mark.{IsCut}
use Rattle.st_picture.specs.Picture.{Picture, Stands, unit_of, coarseness, IsLeastUnit, Rounds}
use Rattle.st_picture.specs.Reading.{IsPlainByte, HasBadByte, HasCountBeside, HasUnlikeSeconds, Prints, IsCount, Breaks, place_of, ReadsPicture, Agree}
use Rattle.st_picture.proofs.Cuts.{one_cut}
use Rattle.st_picture.proofs.RuleLaws.{stands_cases, nothing_stands}
use Rattle.st_picture.proofs.ReadLaws.{Clear, fault_at, other_is}

-- the first rule that is broken
record IsFirst (system : System) (text : List ℕ) (fault : PictureFault) : Type 0 where
  pieces : List Piece
  cut : IsCut text pieces
  breaks : Breaks system text pieces fault
  clear : Clear system text pieces (place_of fault)

first_of : (system : System) (text : List ℕ) (fault : PictureFault) → ReadsPicture system text (Err fault) → (fault ≡ OutOfMemory) ⊎ IsFirst system text fault
first_of system text OutOfMemory h = inl refl
first_of system text TooLong h = inr (record { pieces = h.0; cut = h.1; breaks = h.2; clear = h.3 })
first_of system text (BadByte i) h = inr (record { pieces = h.0; cut = h.1; breaks = h.2; clear = h.3 })
first_of system text LeftOutMark h = inr (record { pieces = h.0; cut = h.1; breaks = h.2; clear = h.3 })
first_of system text StrayHash h = inr (record { pieces = h.0; cut = h.1; breaks = h.2; clear = h.3 })
first_of system text TooManyPlaces h = inr (record { pieces = h.0; cut = h.1; breaks = h.2; clear = h.3 })
first_of system text Empty h = inr (record { pieces = h.0; cut = h.1; breaks = h.2; clear = h.3 })
first_of system text MixedForms h = inr (record { pieces = h.0; cut = h.1; breaks = h.2; clear = h.3 })
first_of system text CountInUtc h = inr (record { pieces = h.0; cut = h.1; breaks = h.2; clear = h.3 })
first_of system text WrongSystem h = inr (record { pieces = h.0; cut = h.1; breaks = h.2; clear = h.3 })
first_of system text NoUnit h = inr (record { pieces = h.0; cut = h.1; breaks = h.2; clear = h.3 })

-- the first bad byte has one place
not_later : (p : List ℕ) (b : ℕ) (r q : List ℕ) (c : ℕ) (s : List ℕ) → p ++ (b ∷ r) ≡ q ++ (c ∷ s) → All IsPlainByte q → (IsPlainByte b → ⊥) → length q ≤ length p
not_later p b r [] c s e all bad = omega arith
not_later [] b r (x ∷ q) c s e all bad =
    let same : x ≡ b = cc in
    absurd (bad (subst IsPlainByte same (all 0 x (omega arith))))
not_later (y ∷ p) b r (x ∷ q) c s e all bad =
    let tails : p ++ (b ∷ r) ≡ q ++ (c ∷ s) = cc in
    let more = not_later p b r q c s tails (λ k d l. all (suc k) d (omega arith)) bad in
    omega arith

same_place : (text : List ℕ) (i j : ℕ) → HasBadByte text i → HasBadByte text j → i ≡ j
same_place text i j h k =
    let a = not_later h.before h.byte h.after k.before k.byte k.after (sym h.whole ∙ k.whole) k.good h.bad in
    let b = not_later k.before k.byte k.after h.before h.byte h.after (sym k.whole ∙ h.whole) h.good k.bad in
    let p = h.place in
    let q = k.place in
    omega arith

same_rule : (f g : PictureFault) → 2 ≤ place_of f → place_of f ≡ place_of g → f ≡ g
same_rule f g some e = other_is f some ∙ ap fault_at e ∙ sym (other_is g (omega arith))

same_fault : (system : System) (text : List ℕ) (pieces : List Piece) (f g : PictureFault) → place_of f ≡ place_of g → Breaks system text pieces f → Breaks system text pieces g → f ≡ g
same_fault system text pieces TooLong TooLong e h k = refl
same_fault system text pieces TooLong g e h k = absurd (omega arith)
same_fault system text pieces (BadByte i) (BadByte j) e h k = ap BadByte (same_place text i j h k)
same_fault system text pieces (BadByte i) g e h k = absurd (omega arith)
same_fault system text pieces f g e h k = same_rule f g (lit≤ tt) e

-- two marks that stand in the pieces are one, or stand after one another
record AreTwo (pieces : List Piece) (m n : Mark) : Type 0 where
  before : List Piece
  between : List Piece
  after : List Piece
  whole : pieces ≡ before ++ (Marked m ∷ (between ++ (Marked n ∷ after)))

two_more : (p : Piece) (pieces : List Piece) (m n : Mark) → AreTwo pieces m n → AreTwo (p ∷ pieces) m n
two_more p pieces m n t = record { before = p ∷ t.before; between = t.between; after = t.after; whole = ap (λ (ps : List Piece). p ∷ ps) t.whole }

two_here : (p : Piece) (pieces : List Piece) (m n : Mark) → p ≡ Marked m → Stands pieces n → AreTwo (p ∷ pieces) m n
two_here p pieces m n e s = record { before = []; between = s.before; after = s.after; whole = λ i. e i ∷ s.here i }

one_or_two : (pieces : List Piece) (m n : Mark) → Stands pieces m → Stands pieces n → (m ≡ n) ⊎ (AreTwo pieces m n ⊎ AreTwo pieces n m)
one_or_two [] m n s t = absurd (nothing_stands m s)
one_or_two (p ∷ pieces) m n s t = elim (stands_cases p pieces m s) [
  | inl a ↦ elim (stands_cases p pieces n t) [
    | inl b ↦ inl (let e : Marked m ≡ Marked n = sym a ∙ b in cc)
    | inr b ↦ inr (inl (two_here p pieces m n a b))
  ]
  | inr a ↦ elim (stands_cases p pieces n t) [
    | inl b ↦ inr (inr (two_here p pieces n m b a))
    | inr b ↦ elim (one_or_two pieces m n a b) [
      | inl e ↦ inl e
      | inr two ↦ inr (elim two [ inl x ↦ inl (two_more p pieces m n x) | inr x ↦ inr (two_more p pieces n m x) ])
    ]
  ]
]

prints : (m : Mark) (u : LeastUnit) → unit_of m ≡ Some u → Prints m
prints m u e = λ n. let g : Some u ≡ None = sym e ∙ n in cc

pub beside : (pieces : List Piece) (m n : Mark) (u w : LeastUnit) → unit_of m ≡ Some u → unit_of n ≡ Some w → Stands pieces m → Stands pieces n → IsCount m ⊎ IsCount n
    → (HasCountBeside pieces → ⊥) → u ≡ w
beside pieces m n u w e f s t c alone = elim (one_or_two pieces m n s t) [
  | inl same ↦ let g : Some u ≡ Some w = sym e ∙ ap unit_of same ∙ f in cc
  | inr two ↦ elim two [
    | inl x ↦ absurd (alone (record { before = x.before; first = m; between = x.between; second = n; after = x.after; whole = x.whole; print = (prints m u e, prints n w f); count = c }))
    | inr x ↦ absurd (alone (record { before = x.before; first = n; between = x.between; second = m; after = x.after; whole = x.whole; print = (prints n w f, prints m u e); count = elim c [ inl a ↦ inr a | inr b ↦ inl b ] }))
  ]
]

pub counts : (m : Mark) (p : ℕ) → unit_of m ≡ Some (units.Count p) → IsCount m
counts (Seconds q) p e = tt
counts m p e = absurd (cc)

pub dates : (m : Mark) (p : ℕ) → unit_of m ≡ Some (units.Julian p) → IsCount m
dates (JulianDate q) p e = tt
dates m p e = absurd (cc)

seconds : (m : Mark) (p : ℕ) → unit_of m ≡ Some (units.Second p) → m ≡ Second p
seconds (Second q) p e = let s : q ≡ p = cc in ap Second s
seconds m p e = absurd (cc)

unit_at : ℕ → LeastUnit
unit_at n = slice_index_or (units.Year ∷ units.Minute ∷ units.Hour ∷ units.Day ∷ units.Month ∷ []) n units.Year

coarse_is : (u : LeastUnit) → 1 ≤ coarseness u → u ≡ unit_at (coarseness u)
unfolding unit_at
coarse_is (units.Second p) h = absurd (omega arith)
coarse_is (units.Count p) h = absurd (omega arith)
coarse_is (units.Julian p) h = absurd (omega arith)
coarse_is units.Minute h = refl
coarse_is units.Hour h = refl
coarse_is units.Day h = refl
coarse_is units.Month h = refl
coarse_is units.Year h = refl

fine_is : (pieces : List Piece) (u w : LeastUnit) → coarseness u ≤ 0 → coarseness w ≤ 0 → IsLeastUnit pieces u → IsLeastUnit pieces w
    → (HasCountBeside pieces → ⊥) → (HasUnlikeSeconds pieces → ⊥) → u ≡ w
fine_is pieces (units.Count p) w a b h k alone like = beside pieces h.mark k.mark (units.Count p) w h.prints k.prints h.stands k.stands (inl (counts h.mark p h.prints)) alone
fine_is pieces (units.Julian p) w a b h k alone like = beside pieces h.mark k.mark (units.Julian p) w h.prints k.prints h.stands k.stands (inl (dates h.mark p h.prints)) alone
fine_is pieces (units.Second p) (units.Count q) a b h k alone like = beside pieces h.mark k.mark (units.Second p) (units.Count q) h.prints k.prints h.stands k.stands (inr (counts k.mark q k.prints)) alone
fine_is pieces (units.Second p) (units.Julian q) a b h k alone like = beside pieces h.mark k.mark (units.Second p) (units.Julian q) h.prints k.prints h.stands k.stands (inr (dates k.mark q k.prints)) alone
fine_is pieces (units.Second p) (units.Second q) a b h k alone like =
    let one = subst (λ (m : Mark). Stands pieces m) (seconds h.mark p h.prints) h.stands in
    let other = subst (λ (m : Mark). Stands pieces m) (seconds k.mark q k.prints) k.stands in
    elim (cases_order p q) [
      | inl same ↦ ap units.Second same
      | inr unlike ↦ absurd (like (record { few = p; many = q; one = one; other = other; unlike = λ (e : p ≡ q). elim unlike [ inl l ↦ omega arith | inr l ↦ omega arith ] }))
    ]
fine_is pieces (units.Second p) w a b h k alone like = absurd (omega arith)
fine_is pieces u w a b h k alone like = absurd (omega arith)

one_unit : (pieces : List Piece) (u w : LeastUnit) → IsLeastUnit pieces u → IsLeastUnit pieces w → (HasCountBeside pieces → ⊥) → (HasUnlikeSeconds pieces → ⊥) → u ≡ w
one_unit pieces u w h k alone like =
    let a = h.finest k.mark w k.stands k.prints in
    let b = k.finest h.mark u h.stands h.prints in
    let same : coarseness u ≡ coarseness w = omega arith in
    elim (cases_lt 0 (coarseness u)) [
      | inl coarse ↦ coarse_is u coarse ∙ ap unit_at same ∙ sym (coarse_is w (omega arith))
      | inr fine ↦ fine_is pieces u w fine (omega arith) h k alone like
    ]

one_rounding : (pieces : List Piece) (a b : Bool) → Rounds pieces a → Rounds pieces b → a ≡ b
one_rounding pieces true true h k = refl
one_rounding pieces false false h k = refl
one_rounding pieces true false h k = absurd (k h)
one_rounding pieces false true h k = absurd (h k)

pub same_picture : (system : System) (text : List ℕ) (p q : Picture) → ReadsPicture system text (Ok p) → ReadsPicture system text (Ok q) → p ≡ q
same_picture system text p q h k =
    let s : p.system ≡ q.system = h.0 ∙ sym k.0 in
    let c : p.pieces ≡ q.pieces = one_cut text p.pieces q.pieces h.1 k.1 in
    let P : List Piece → Type 0 = λ ps. IsLeastUnit ps q.unit in
    let R : List Piece → Type 0 = λ ps. Rounds ps q.rounds in
    let u : p.unit ≡ q.unit = one_unit p.pieces p.unit q.unit h.2 (subst P (sym c) k.2) (λ b. h.4 MixedForms (inl b)) (λ b. h.4 MixedForms (inr b)) in
    let r : p.rounds ≡ q.rounds = one_rounding p.pieces p.rounds q.rounds h.3 (subst R (sym c) k.3) in
    λ i. record { system = s i; pieces = c i; unit = u i; rounds = r i }

never_both : (system : System) (text : List ℕ) (p : Picture) (f : PictureFault) → ReadsPicture system text (Ok p) → IsFirst system text f → ⊥
never_both system text p f h first =
    let P : List Piece → Type 0 = λ ps. Breaks system text ps f in
    h.4 f (subst P (one_cut text first.pieces p.pieces first.cut h.1) first.breaks)

not_before : (system : System) (text : List ℕ) (f g : PictureFault) → place_of f < place_of g → IsFirst system text f → IsFirst system text g → ⊥
not_before system text f g l h k =
    let P : List Piece → Type 0 = λ ps. Breaks system text ps f in
    k.clear f l (subst P (one_cut text h.pieces k.pieces h.cut k.cut) h.breaks)

one_first : (system : System) (text : List ℕ) (f g : PictureFault) → IsFirst system text f → IsFirst system text g → f ≡ g
one_first system text f g h k = elim (cases_order (place_of f) (place_of g)) [
  | inl same ↦
      let P : List Piece → Type 0 = λ ps. Breaks system text ps g in
      same_fault system text h.pieces f g same h.breaks (subst P (one_cut text k.pieces h.pieces k.cut h.cut) k.breaks)
  | inr other ↦ elim other [ inl l ↦ absurd (not_before system text f g l h k) | inr l ↦ absurd (not_before system text g f l k h) ]
]

pub one_reading : (system : System) (text : List ℕ) (a b : Result Picture PictureFault) → ReadsPicture system text a → ReadsPicture system text b → Agree a b
one_reading system text (Ok p) (Ok q) h k = inr (inr (ap Ok (same_picture system text p q h k)))
one_reading system text (Ok p) (Err g) h k = elim (first_of system text g k) [
  | inl e ↦ inr (inl (ap Err e))
  | inr first ↦ absurd (never_both system text p g h first)
]
one_reading system text (Err f) (Ok q) h k = elim (first_of system text f h) [
  | inl e ↦ inl (ap Err e)
  | inr first ↦ absurd (never_both system text q f k first)
]
one_reading system text (Err f) (Err g) h k = elim (first_of system text f h) [
  | inl e ↦ inl (ap Err e)
  | inr first ↦ elim (first_of system text g k) [
    | inl e ↦ inr (inl (ap Err e))
    | inr other ↦ inr (inr (ap Err (one_first system text f g first other)))
  ]
]
