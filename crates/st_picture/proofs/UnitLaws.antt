-- The least unit of the pieces, whether they round, and pieces that do not go together.
use Rattle.std.proofs.Common.{◌≡◌, ◌≢◌, ◌⊎◌, ℕ, ◌+◌, ◌<◌, ◌≤◌, Bool, true, false, ◌&&◌, eqb, nat_lt, cond, List, [], ◌∷◌, ◌++◌, Option, Some, None, inl, inr, refl, sym, ap, ◌∙◌, subst, arith, append_assoc}
use Rattle.std.specs.Prelude.{count_by, is_some}
use Rattle.std.specs.List.{list_any}
use Rattle.std.proofs.lemmas.Bool.{cases_Bool, cases_lt}
use Rattle.std.proofs.lemmas.List.Sums.{sum_by-cons}
use Rattle.std.proofs.lemmas.Bool.Decides.{nat_tests}
use Rattle.st_picture.specs.declared.mark.Mark.{Mark}
use Rattle.st_picture.specs.declared.mark.Mark.TheVariants.{Second, Seconds, JulianDate, Round, Truncate}
use Rattle.st_picture.specs.declared.mark.Piece.{Piece}
use Rattle.st_picture.specs.declared.mark.Piece.TheVariants.{Marked, Plain}
use Rattle.st_picture.specs.declared.unit.LeastUnit.{LeastUnit}
use Rattle.st_picture.specs.declared.unit.LeastUnit.TheVariants as units
use Rattle.st_picture.specs.Picture.{Stands, unit_of, coarseness, IsLeastUnit, AsksToRound, Rounds}
use Rattle.st_picture.specs.Reading.{HasCountBeside, HasUnlikeSeconds, Prints, IsCount}
use Rattle.st_picture.specs.ReadingMachine.{piece_unit, is_printing, is_count, seconds_places, is_unlike, has_unlike, is_mixed, finer_of, least_of, rounds_by, rounds_of, is_never_halved}
use Rattle.st_picture.proofs.Fronts.{both, either}
use Rattle.st_picture.proofs.RuleLaws.{Tells, HasPiece, left_true, right_true, both_true, any_split, any_in, count_is, count_only, stands_head, stands_tail, stands_cases, nothing_stands}

-- the finer of two units
record IsFiner (a b : Option LeastUnit) (w : LeastUnit) : Type 0 where
  finer : LeastUnit
  found : finer_of a b ≡ Some finer
  low : coarseness finer ≤ coarseness w

finer_left : (a b : Option LeastUnit) (w : LeastUnit) → a ≡ Some w → IsFiner a b w
finer_left None b w e = absurd (cc)
finer_left (Some u) None w e = let s : u ≡ w = cc in record { finer = u; found = refl; low = subst (λ (x : LeastUnit). coarseness u ≤ coarseness x) s (omega arith) }
finer_left (Some u) (Some v) w e =
    let s : u ≡ w = cc in
    let P : LeastUnit → Type 0 = λ x. IsFiner (Some u) (Some v) x in
    subst P s (elim (cases_Bool (nat_lt (coarseness v) (coarseness u))) [
      | inl l ↦ record { finer = v; found = rw l refl; low = grind (arith, nat_tests) }
      | inr l ↦ record { finer = u; found = rw l refl; low = omega arith }
    ])

finer_right : (a b : Option LeastUnit) (w : LeastUnit) → b ≡ Some w → IsFiner a b w
finer_right None b w e = record { finer = w; found = e; low = omega arith }
finer_right (Some u) None w e = absurd (cc)
finer_right (Some u) (Some v) w e =
    let s : v ≡ w = cc in
    let P : LeastUnit → Type 0 = λ x. IsFiner (Some u) (Some v) x in
    subst P s (elim (cases_Bool (nat_lt (coarseness v) (coarseness u))) [
      | inl l ↦ record { finer = v; found = rw l refl; low = omega arith }
      | inr l ↦ record { finer = u; found = rw l refl; low = grind (arith, nat_tests) }
    ])

finer_from : (a b : Option LeastUnit) (u : LeastUnit) → finer_of a b ≡ Some u → (a ≡ Some u) ⊎ (b ≡ Some u)
finer_from None b u e = inr e
finer_from (Some v) None u e = inl e
finer_from (Some v) (Some w) u e = elim (cases_Bool (nat_lt (coarseness w) (coarseness v))) [
  | inl l ↦ inr (rw l at e)
  | inr l ↦ inl (rw l at e)
]

-- the mark of a piece that has a unit
unit_mark : (piece : Piece) (u : LeastUnit) → piece_unit piece ≡ Some u → (mark : Mark) × (piece ≡ Marked mark) × (unit_of mark ≡ Some u)
unit_mark (Plain b) u e = absurd (cc)
unit_mark (Marked mark) u e = (mark, refl, e)

pub record IsLeastFrom (before : Option LeastUnit) (pieces : List Piece) (u : LeastUnit) : Type 0 where
  pub from : (before ≡ Some u) ⊎ ((mark : Mark) × Stands pieces mark × (unit_of mark ≡ Some u))
  pub low : (w : LeastUnit) → before ≡ Some w → coarseness u ≤ coarseness w
  pub finest : (mark : Mark) (w : LeastUnit) → Stands pieces mark → unit_of mark ≡ Some w → coarseness u ≤ coarseness w

stands_first : (piece : Piece) (pieces : List Piece) (mark : Mark) → piece ≡ Marked mark → Stands (piece ∷ pieces) mark
stands_first piece pieces mark e = subst (λ (p : Piece). Stands (p ∷ pieces) mark) (sym e) (stands_head mark pieces)

least_from : (before : Option LeastUnit) (pieces : List Piece) (u : LeastUnit) → least_of before pieces ≡ Some u → IsLeastFrom before pieces u
least_from before [] u e = record {
  from = inl e;
  low = λ w h. let s : u ≡ w = cc in subst (λ (x : LeastUnit). coarseness u ≤ coarseness x) s (omega arith);
  finest = λ mark w s h. absurd (nothing_stands mark s);
}
least_from before (piece ∷ pieces) u e =
    let more = least_from (finer_of before (piece_unit piece)) pieces u e in record {
      from = elim more.from [
        | inl f ↦ elim (finer_from before (piece_unit piece) u f) [
          | inl g ↦ inl g
          | inr g ↦ let m = unit_mark piece u g in inr (m.0, stands_first piece pieces m.0 m.1, m.2)
        ]
        | inr f ↦ inr (f.0, stands_tail piece pieces f.0 f.1, f.2)
      ];
      low = λ w h. let f = finer_left before (piece_unit piece) w h in let l = more.low f.finer f.found in let g = f.low in omega arith;
      finest = λ mark w s h. elim (stands_cases piece pieces mark s) [
        | inl is ↦
            let unit : piece_unit piece ≡ Some w = ap piece_unit is ∙ h in
            let f = finer_right before (piece_unit piece) w unit in
            let l = more.low f.finer f.found in
            let g = f.low in
            omega arith
        | inr there ↦ more.finest mark w there h
      ];
    }

pub least_is : (pieces : List Piece) (u : LeastUnit) → least_of None pieces ≡ Some u → IsLeastUnit pieces u
least_is pieces u e =
    let l = least_from None pieces u e in
    let m = only l.from in
    record { mark = m.0; stands = m.1; prints = m.2; finest = l.finest }
  where
    only : ((None ≡ Some u) ⊎ ((mark : Mark) × Stands pieces mark × (unit_of mark ≡ Some u))) → (mark : Mark) × Stands pieces mark × (unit_of mark ≡ Some u)
    only (inl e) = absurd (cc)
    only (inr h) = h

-- no unit
never_less : (before : Option LeastUnit) (pieces : List Piece) (u : LeastUnit) → before ≡ Some u → least_of before pieces ≡ None → ⊥
never_less before [] u e h = cc
never_less before (piece ∷ pieces) u e h = let f = finer_left before (piece_unit piece) u e in never_less (finer_of before (piece_unit piece)) pieces f.finer f.found h

none_stands : (pieces : List Piece) (mark : Mark) → least_of None pieces ≡ None → Stands pieces mark → Prints mark → ⊥
none_stands [] mark e s p = nothing_stands mark s
none_stands (piece ∷ pieces) mark e s p = by (piece_unit piece) refl
    (λ none. elim (stands_cases piece pieces mark s) [
      | inl is ↦ p (ap piece_unit (sym is) ∙ none)
      | inr there ↦ none_stands pieces mark (subst (λ (o : Option LeastUnit). least_of o pieces ≡ None) none e) there p
    ])
  where
    by : (o : Option LeastUnit) → piece_unit piece ≡ o → (piece_unit piece ≡ None → ⊥) → ⊥
    by None h f = f h
    by (Some u) h f = never_less (piece_unit piece) pieces u h e

pub none_prints : (pieces : List Piece) → least_of None pieces ≡ None → (mark : Mark) → Stands pieces mark → Prints mark → ⊥
none_prints pieces e mark s p = none_stands pieces mark e s p

pub some_prints : (pieces : List Piece) (u : LeastUnit) → least_of None pieces ≡ Some u → ((mark : Mark) → Stands pieces mark → Prints mark → ⊥) → ⊥
some_prints pieces u e f = let l = least_is pieces u e in let h = l.prints in f l.mark l.stands (λ n. let g : Some u ≡ None = sym h ∙ n in cc)

-- Rounding: the last of the two marks counts.
record HasLast (before : Bool) (pieces : List Piece) : Type 0 where
  is : rounds_of before pieces ≡ true → AsksToRound pieces ⊎ ((before ≡ true) × (Stands pieces Truncate → ⊥))
  asked : AsksToRound pieces → rounds_of before pieces ≡ true
  kept : before ≡ true → (Stands pieces Truncate → ⊥) → rounds_of before pieces ≡ true

asks_tail : (piece : Piece) (pieces : List Piece) → AsksToRound pieces → AsksToRound (piece ∷ pieces)
asks_tail piece pieces a = record { before = piece ∷ a.before; after = a.after; here = ap (λ (ps : List Piece). piece ∷ ps) a.here; last = a.last }

asks_in : (piece : Piece) (pieces before after : List Piece) → piece ∷ pieces ≡ before ++ (Marked Round ∷ after) → (Stands after Truncate → ⊥)
    → ((piece ≡ Marked Round) × (Stands pieces Truncate → ⊥)) ⊎ AsksToRound pieces
asks_in piece pieces [] after e last =
    let head : piece ≡ Marked Round = cc in
    let tail : pieces ≡ after = cc in
    inl (head, λ s. last (subst (λ (ps : List Piece). Stands ps Truncate) tail s))
asks_in piece pieces (b ∷ before) after e last =
    let tail : pieces ≡ before ++ (Marked Round ∷ after) = cc in
    inr (record { before = before; after = after; here = tail; last = last })

asks_none : (before after : List Piece) → [] ≡ before ++ (Marked Round ∷ after) → ⊥
asks_none [] after e = cc
asks_none (b ∷ before) after e = cc

-- what a piece makes of it: it asks, it forbids, or it leaves all as it was
data Asking (piece : Piece) : Type 0 where
  asks : piece ≡ Marked Round → ((b : Bool) → rounds_by b piece ≡ true) → Asking piece
  forbids : piece ≡ Marked Truncate → ((b : Bool) → rounds_by b piece ≡ false) → Asking piece
  leaves : (piece ≡ Marked Round → ⊥) → (piece ≡ Marked Truncate → ⊥) → ((b : Bool) → rounds_by b piece ≡ b) → Asking piece

asking : (piece : Piece) → Asking piece
asking (Marked Round) = asks refl (λ b. refl)
asking (Marked Truncate) = forbids refl (λ b. refl)
asking (Marked mark) = leaves (λ e. cc) (λ e. cc) (λ b. refl)
asking (Plain c) = leaves (λ e. cc) (λ e. cc) (λ b. refl)

last_of : (before : Bool) (pieces : List Piece) → HasLast before pieces
last_of before [] = record {
  is = λ e. inr (e, λ s. nothing_stands Truncate s);
  asked = λ a. absurd (asks_none a.before a.after a.here);
  kept = λ e n. e;
}
last_of before (piece ∷ pieces) = step (asking piece) (λ b. last_of b pieces)
  where
    step : Asking piece → ((b : Bool) → HasLast b pieces) → HasLast before (piece ∷ pieces)
    step (asks is by) more =
        let m = more true in
        let P : Bool → Type 0 = λ b. rounds_of b pieces ≡ true in record {
          is = λ e. elim (m.is (subst P (by before) e)) [
            | inl a ↦ inl (asks_tail piece pieces a)
            | inr n ↦ inl (record { before = []; after = pieces; here = ap (λ (p : Piece). p ∷ pieces) is; last = n.1 })
          ];
          asked = λ a. subst P (sym (by before)) (elim (asks_in piece pieces a.before a.after a.here a.last) [
            | inl h ↦ m.kept refl h.1
            | inr h ↦ m.asked h
          ]);
          kept = λ e n. subst P (sym (by before)) (m.kept refl (λ s. n (stands_tail piece pieces Truncate s)));
        }
    step (forbids is by) more =
        let m = more false in
        let P : Bool → Type 0 = λ b. rounds_of b pieces ≡ true in record {
          is = λ e. elim (m.is (subst P (by before) e)) [
            | inl a ↦ inl (asks_tail piece pieces a)
            | inr n ↦ let no = n.0 in absurd (cc)
          ];
          asked = λ a. subst P (sym (by before)) (elim (asks_in piece pieces a.before a.after a.here a.last) [
            | inl h ↦ let other : Marked Truncate ≡ Marked Round = sym is ∙ h.0 in absurd (cc)
            | inr h ↦ m.asked h
          ]);
          kept = λ e n. absurd (n (stands_first piece pieces Truncate is));
        }
    step (leaves no_round no_truncate by) more =
        let m = more before in
        let P : Bool → Type 0 = λ b. rounds_of b pieces ≡ true in record {
          is = λ e. elim (m.is (subst P (by before) e)) [
            | inl a ↦ inl (asks_tail piece pieces a)
            | inr n ↦ inr (n.0, λ s. elim (stands_cases piece pieces Truncate s) [ inl is ↦ no_truncate is | inr there ↦ n.1 there ])
          ];
          asked = λ a. subst P (sym (by before)) (elim (asks_in piece pieces a.before a.after a.here a.last) [
            | inl h ↦ absurd (no_round h.0)
            | inr h ↦ m.asked h
          ]);
          kept = λ e n. subst P (sym (by before)) (m.kept e (λ s. n (stands_tail piece pieces Truncate s)));
        }

pub tells_rounds : (pieces : List Piece) → Tells (rounds_of false pieces) (AsksToRound pieces)
tells_rounds pieces = record {
  is = λ e. only ((last_of false pieces).is e);
  only = (last_of false pieces).asked;
}
  where
    only : (AsksToRound pieces ⊎ ((false ≡ true) × (Stands pieces Truncate → ⊥))) → AsksToRound pieces
    only (inl a) = a
    only (inr n) = let no = n.0 in absurd (cc)

pub rounds_is : (pieces : List Piece) → Rounds pieces (rounds_of false pieces)
rounds_is pieces = by (rounds_of false pieces) refl
  where
    by : (b : Bool) → rounds_of false pieces ≡ b → Rounds pieces b
    by true e = (tells_rounds pieces).is e
    by false e = λ a. let t = (tells_rounds pieces).only a in cc

-- A month or a year that is to be rounded.
never_halved : (u : LeastUnit) → is_never_halved u ≡ true → (u ≡ units.Month) ⊎ (u ≡ units.Year)
never_halved units.Month h = inl refl
never_halved units.Year h = inr refl
never_halved u h = absurd (cc)

coarse : (u : LeastUnit) → 4 ≤ coarseness u → is_never_halved u ≡ true
coarse units.Month h = refl
coarse units.Year h = refl
coarse units.Day h = absurd (omega arith)
coarse units.Hour h = absurd (omega arith)
coarse units.Minute h = absurd (omega arith)
coarse (units.Second p) h = absurd (omega arith)
coarse (units.Count p) h = absurd (omega arith)
coarse (units.Julian p) h = absurd (omega arith)

as_coarse : (pieces : List Piece) (u w : LeastUnit) → IsLeastUnit pieces u → IsLeastUnit pieces w → coarseness w ≤ coarseness u
as_coarse pieces u w h k = k.finest h.mark u h.stands h.prints

pub tells_no_unit : (pieces : List Piece) (u : LeastUnit) → IsLeastUnit pieces u
    → Tells (rounds_of false pieces && is_never_halved u) (AsksToRound pieces × (IsLeastUnit pieces units.Month ⊎ IsLeastUnit pieces units.Year))
tells_no_unit pieces u least = record {
  is = λ e. let parts = both (rounds_of false pieces) (is_never_halved u) e in (
    (tells_rounds pieces).is parts.0,
    elim (never_halved u parts.1) [
      | inl m ↦ inl (subst (λ (x : LeastUnit). IsLeastUnit pieces x) m least)
      | inr y ↦ inr (subst (λ (x : LeastUnit). IsLeastUnit pieces x) y least)
    ],
  );
  only = λ h. both_true (rounds_of false pieces) (is_never_halved u) ((tells_rounds pieces).only h.0) (coarse u (elim h.1 [
    | inl m ↦ as_coarse pieces u units.Month least m
    | inr y ↦ let l = as_coarse pieces u units.Year least y in omega arith
  ]));
}

-- Counts beside other marks.
count_step : (piece : Piece) (pieces : List Piece) → count_by is_printing (piece ∷ pieces) ≡ cond {A = ℕ} (is_printing piece) 1 0 + count_by is_printing pieces
count_step piece pieces = sum_by-cons (λ (x : Piece). cond {A = ℕ} (is_printing x) 1 0) piece pieces

count_printing : (piece : Piece) (after : List Piece) → is_printing piece ≡ true → count_by is_printing (piece ∷ after) ≡ 1 + count_by is_printing after
count_printing piece after e = count_step piece after ∙ ap (λ (b : Bool). cond {A = ℕ} b 1 0 + count_by is_printing after) e

count_more : (before : List Piece) (piece : Piece) (after : List Piece) → is_printing piece ≡ true
    → count_by is_printing (before ++ (piece ∷ after)) ≡ count_by is_printing before + (1 + count_by is_printing after)
count_more [] piece after e = count_printing piece after e ∙ plain (count_by is_printing after)
  where
    plain : (n : ℕ) → 1 + n ≡ 0 + (1 + n)
    plain n = omega arith
count_more (b ∷ before) piece after e =
    sums (cond {A = ℕ} (is_printing b) 1 0) _ _ _ _ _ (count_step b (before ++ (piece ∷ after))) (count_step b before) (count_more before piece after e)
  where
    sums : (a x y z c d : ℕ) → x ≡ a + y → z ≡ a + c → y ≡ c + d → x ≡ z + d
    sums a x y z c d h k l = omega arith

count_behind : (piece : Piece) (pieces : List Piece) → is_printing piece ≡ false → 1 ≤ count_by is_printing (piece ∷ pieces) → 1 ≤ count_by is_printing pieces
count_behind piece pieces e h = less _ _ h (count_step piece pieces ∙ ap (λ (b : Bool). cond {A = ℕ} b 1 0 + count_by is_printing pieces) e)
  where
    less : (x y : ℕ) → 1 ≤ x → x ≡ 0 + y → 1 ≤ y
    less x y h e = omega arith

count_split : (pieces : List Piece) → 1 ≤ count_by is_printing pieces → HasPiece is_printing pieces
count_split [] h = absurd (omega arith)
count_split (piece ∷ pieces) h = elim (cases_Bool (is_printing piece)) [
  | inl e ↦ record { before = []; piece = piece; after = pieces; whole = refl; passes = e }
  | inr e ↦
      let more = count_split pieces (count_behind piece pieces e h) in
      record { before = piece ∷ more.before; piece = more.piece; after = more.after; whole = ap (λ (ps : List Piece). piece ∷ ps) more.whole; passes = more.passes }
]

printing_is : (piece : Piece) → is_printing piece ≡ true → (mark : Mark) × (piece ≡ Marked mark) × Prints mark
printing_is (Plain b) h = absurd (cc)
printing_is (Marked mark) h = (mark, refl, λ e. let g : is_some (unit_of mark) ≡ false = rw e refl in cc)

printing_only : (mark : Mark) → Prints mark → is_printing (Marked mark) ≡ true
printing_only mark p = by (unit_of mark) refl
  where
    by : (o : Option LeastUnit) → unit_of mark ≡ o → is_some (unit_of mark) ≡ true
    by None e = absurd (p e)
    by (Some u) e = rw e refl

count_prints : (mark : Mark) → IsCount mark → Prints mark
count_prints (Seconds p) h = λ e. cc
count_prints (JulianDate p) h = λ e. cc
count_prints mark h = absurd h

beside : (pieces before between after : List Piece) (p q : Piece) (m n : Mark) → pieces ≡ before ++ (p ∷ (between ++ (q ∷ after))) → p ≡ Marked m → q ≡ Marked n
    → Prints m → Prints n → IsCount m ⊎ IsCount n → HasCountBeside pieces
beside pieces before between after p q m n e f g pm pn c = record {
  before = before;
  first = m;
  between = between;
  second = n;
  after = after;
  whole = e ∙ (λ i. before ++ (f i ∷ (between ++ (g i ∷ after))));
  print = (pm, pn);
  count = c;
}

pub count_beside_is : (pieces : List Piece) → (list_any is_count pieces && nat_lt 1 (count_by is_printing pieces)) ≡ true → HasCountBeside pieces
count_beside_is pieces h =
    let parts = both (list_any is_count pieces) (nat_lt 1 (count_by is_printing pieces)) h in
    let s = any_split is_count pieces parts.0 in
    let m = count_is s.piece s.passes in
    let prints = count_prints m.0 m.2 in
    let printing : is_printing s.piece ≡ true = ap is_printing m.1 ∙ printing_only m.0 prints in
    let sum = ap (count_by is_printing) s.whole ∙ count_more s.before s.piece s.after printing in
    let many : 1 < count_by is_printing pieces = let t = parts.1 in grind (arith, nat_tests) in
    elim (cases_lt 0 (count_by is_printing s.before)) [
      | inl some ↦
          let t = count_split s.before (omega arith) in
          let n = printing_is t.piece t.passes in
          beside pieces t.before t.after s.after t.piece s.piece n.0 m.0
          (s.whole ∙ ap (λ (ps : List Piece). ps ++ (s.piece ∷ s.after)) t.whole ∙ append_assoc t.before (t.piece ∷ t.after) (s.piece ∷ s.after)) n.1 m.1 n.2 prints (inr m.2)
      | inr none ↦
          let t = count_split s.after (omega arith) in
          let n = printing_is t.piece t.passes in
          beside pieces s.before t.before t.after s.piece t.piece m.0 n.0
          (s.whole ∙ ap (λ (ps : List Piece). s.before ++ (s.piece ∷ ps)) t.whole) m.1 n.1 prints n.2 (inl m.2)
    ]

pub count_beside_only : (pieces : List Piece) → HasCountBeside pieces → (list_any is_count pieces && nat_lt 1 (count_by is_printing pieces)) ≡ true
count_beside_only pieces h =
    let first = printing_only h.first h.print.0 in
    let second = printing_only h.second h.print.1 in
    let sum = ap (count_by is_printing) h.whole ∙ count_more h.before (Marked h.first) (h.between ++ (Marked h.second ∷ h.after)) first in
    let more = count_more h.between (Marked h.second) h.after second in
    let many : nat_lt 1 (count_by is_printing pieces) ≡ true = less_is 1 (count_by is_printing pieces) (omega (arith, sum, more)) in
    let again : pieces ≡ (h.before ++ (Marked h.first ∷ h.between)) ++ (Marked h.second ∷ h.after) =
    h.whole ∙ sym (append_assoc h.before (Marked h.first ∷ h.between) (Marked h.second ∷ h.after)) in
    both_true (list_any is_count pieces) (nat_lt 1 (count_by is_printing pieces)) (elim h.count [
      | inl c ↦ any_in is_count pieces h.before (Marked h.first) (h.between ++ (Marked h.second ∷ h.after)) h.whole (count_only h.first c)
      | inr c ↦ any_in is_count pieces (h.before ++ (Marked h.first ∷ h.between)) (Marked h.second) h.after again (count_only h.second c)
    ]) many
  where
    less_is : (a b : ℕ) → a < b → nat_lt a b ≡ true
    less_is a b h = grind (arith, nat_tests)

-- Seconds with different decimals.
seconds_mark : (piece : Piece) (n : ℕ) → seconds_places piece ≡ Some n → piece ≡ Marked (Second n)
seconds_mark (Plain b) n e = absurd (cc)
seconds_mark (Marked (Second p)) n e = let s : p ≡ n = cc in ap (λ (x : ℕ). Marked (Second x)) s
seconds_mark (Marked mark) n e = absurd (cc)

unlike_is : (n : ℕ) (o : Option ℕ) → is_unlike n o ≡ true → (m : ℕ) × (o ≡ Some m) × (n ≢ m)
unlike_is n None h = absurd (cc)
unlike_is n (Some m) h = (m, refl, λ e. grind (arith, nat_tests))

unlike_only : (n m : ℕ) → (n ≢ m) → is_unlike n (Some m) ≡ true
unlike_only n m h = grind (arith, nat_tests)

unlike_behind : (n : ℕ) (pieces : List Piece) → has_unlike (Some n) pieces ≡ true → (m : ℕ) × Stands pieces (Second m) × (n ≢ m)
unlike_behind n [] h = absurd (cc)
unlike_behind n (piece ∷ pieces) h = elim (cases_Bool (is_unlike n (seconds_places piece))) [
  | inl e ↦ let u = unlike_is n (seconds_places piece) e in (u.0, stands_first piece pieces (Second u.0) (seconds_mark piece u.0 u.1), u.2)
  | inr e ↦
      let more = unlike_behind n pieces (either (is_unlike n (seconds_places piece)) (has_unlike (Some n) pieces) h e) in
      (more.0, stands_tail piece pieces (Second more.0) more.1, more.2)
]

unlike_stands : (n : ℕ) (pieces : List Piece) (m : ℕ) → Stands pieces (Second m) → (n ≢ m) → has_unlike (Some n) pieces ≡ true
unlike_stands n [] m s d = absurd (nothing_stands (Second m) s)
unlike_stands n (piece ∷ pieces) m s d = elim (stands_cases piece pieces (Second m) s) [
  | inl is ↦ left_true (is_unlike n (seconds_places piece)) (has_unlike (Some n) pieces) (ap (λ (p : Piece). is_unlike n (seconds_places p)) is ∙ unlike_only n m d)
  | inr there ↦ right_true (is_unlike n (seconds_places piece)) (has_unlike (Some n) pieces) (unlike_stands n pieces m there d)
]

unlike_seconds_is : (pieces : List Piece) → has_unlike None pieces ≡ true → HasUnlikeSeconds pieces
unlike_seconds_is [] h = absurd (cc)
unlike_seconds_is (piece ∷ pieces) h = by (seconds_places piece) refl (unlike_seconds_is pieces)
  where
    by : (o : Option ℕ) → seconds_places piece ≡ o → (has_unlike None pieces ≡ true → HasUnlikeSeconds pieces) → HasUnlikeSeconds (piece ∷ pieces)
    by None e f =
        let more = f (subst (λ (o : Option ℕ). has_unlike o pieces ≡ true) e h) in
        record { few = more.few; many = more.many; one = stands_tail piece pieces (Second more.few) more.one; other = stands_tail piece pieces (Second more.many) more.other; unlike = more.unlike }
    by (Some n) e f =
        let u = unlike_behind n pieces (subst (λ (o : Option ℕ). has_unlike o pieces ≡ true) e h) in
        record { few = n; many = u.0; one = stands_first piece pieces (Second n) (seconds_mark piece n e); other = stands_tail piece pieces (Second u.0) u.1; unlike = u.2 }

unlike_seconds_only : (pieces : List Piece) (few many : ℕ) → Stands pieces (Second few) → Stands pieces (Second many) → (few ≢ many) → has_unlike None pieces ≡ true
unlike_seconds_only [] few many s t d = absurd (nothing_stands (Second few) s)
unlike_seconds_only (piece ∷ pieces) few many s t d = by (stands_cases piece pieces (Second few) s) (stands_cases piece pieces (Second many) t) (unlike_seconds_only pieces few many)
  where
    by : (piece ≡ Marked (Second few)) ⊎ Stands pieces (Second few) → (piece ≡ Marked (Second many)) ⊎ Stands pieces (Second many)
        → (Stands pieces (Second few) → Stands pieces (Second many) → (few ≢ many) → has_unlike None pieces ≡ true) → has_unlike (seconds_places piece) pieces ≡ true
    by (inl a) (inl b) f = absurd (d (let e : Marked (Second few) ≡ Marked (Second many) = sym a ∙ b in cc))
    by (inl a) (inr b) f = subst (λ (p : Piece). has_unlike (seconds_places p) pieces ≡ true) (sym a) (unlike_stands few pieces many b d)
    by (inr a) (inl b) f = subst (λ (p : Piece). has_unlike (seconds_places p) pieces ≡ true) (sym b) (unlike_stands many pieces few a (λ e. d (sym e)))
    by (inr a) (inr b) f = at (seconds_places piece) refl
      where
        at : (o : Option ℕ) → seconds_places piece ≡ o → has_unlike (seconds_places piece) pieces ≡ true
        at None e = subst (λ (o : Option ℕ). has_unlike o pieces ≡ true) (sym e) (f a b d)
        at (Some n) e = subst (λ (o : Option ℕ). has_unlike o pieces ≡ true) (sym e) (elim (cases_Bool (eqb n few)) [
          | inl t ↦ let same : n ≡ few = grind (arith, nat_tests) in unlike_stands n pieces many b (λ g. d (sym same ∙ g))
          | inr t ↦ unlike_stands n pieces few a (λ g. grind (arith, nat_tests))
        ])

pub tells_mixed : (pieces : List Piece) → Tells (is_mixed pieces) (HasCountBeside pieces ⊎ HasUnlikeSeconds pieces)
tells_mixed pieces = record {
  is = λ h. elim (cases_Bool (list_any is_count pieces && nat_lt 1 (count_by is_printing pieces))) [
    | inl e ↦ inl (count_beside_is pieces e)
    | inr e ↦ inr (unlike_seconds_is pieces (either (list_any is_count pieces && nat_lt 1 (count_by is_printing pieces)) (has_unlike None pieces) h e))
  ];
  only = λ h. elim h [
    | inl c ↦ left_true (list_any is_count pieces && nat_lt 1 (count_by is_printing pieces)) (has_unlike None pieces) (count_beside_only pieces c)
    | inr u ↦ right_true (list_any is_count pieces && nat_lt 1 (count_by is_printing pieces)) (has_unlike None pieces) (unlike_seconds_only pieces u.few u.many u.one u.other u.unlike)
  ];
}
