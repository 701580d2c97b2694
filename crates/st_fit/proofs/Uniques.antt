-- Pairs have one fit.
use Rattle.std.proofs.Common.{◌≡◌, ℕ, suc, ◌^◌, ◌<◌, ℤ, pos, ◌+ℤ◌, List, [], ◌∷◌, length, take, drop, refl, sym, ap, ◌∙◌, subst, arith, lit<}
use Rattle.std.proofs.lemmas.Option.{same_Some, slice_get_within}
use Rattle.st_fraction.specs.Fraction.{over}
use Rattle.st_fraction.specs.Floor.{IsFloor}
use Rattle.st_fraction.proofs.Ring.{lin}
use Rattle.st_fraction.proofs.Floors.{floor_is_one}
use Rattle.st_fit.specs.declared.pair.Pair.{Pair}
use Rattle.st_fit.specs.declared.pair.Record.{Record}
use Rattle.st_fit.specs.declared.pair.Terms.{Terms}
use Rattle.st_fit.specs.Fit.{IsMiddle, IsRateOf, IsRecordOf, AreRecords, IsFit}
use Rattle.st_fit.proofs.Places.{by_le}
use Rattle.st_fit.proofs.Cuttings.{best_is_one}

pub middle_is_one : (t : Terms) (run : List Pair) (a b : ℤ) → IsMiddle t run a → IsMiddle t run b → a ≡ b
middle_is_one t run a b h k =
    let l1 = h.least_is k.least k.least_fits in
    let l2 = k.least_is h.least h.least_fits in
    let g1 = h.greatest_is k.greatest k.greatest_fits in
    let g2 = k.greatest_is h.greatest h.greatest_fits in
    let e : h.least +ℤ h.greatest ≡ k.least +ℤ k.greatest = omega (arith, lin) in
    let P : ℤ → Type 0 = λ n. IsFloor (over n 2) a in
    floor_is_one (over (k.least +ℤ k.greatest) 2) a b (lit< tt) (subst P e h.middle) k.middle

pub rate_is_one : (t : Terms) (before : ℤ) (run : List Pair) (a b : ℤ) → 0 < length run → IsRateOf t before run a → IsRateOf t before run b → a ≡ b
rate_is_one t before run a b some h k = by_le (length run) 1
    (λ l. let e : length run ≡ 1 = omega arith in h.alone e ∙ sym (k.alone e))
    (λ l. middle_is_one t run a b (h.more l) (k.more l))

same_record : (a b : Record) → a.ticks ≡ b.ticks → a.time ≡ b.time → a.rate ≡ b.rate → a ≡ b
same_record a b h k l = λ i. record { ticks = h i; time = k i; rate = l i }

pub record_is_one : (t : Terms) (before : ℤ) (run : List Pair) (a b : Record) → IsRecordOf t before run a → IsRecordOf t before run b → a ≡ b
record_is_one t before run a b h k =
    let s : h.start ≡ k.start = same_Some h.start k.start (sym h.starts ∙ k.starts) in
    let w = slice_get_within run 0 h.start h.starts in
    same_record a b (h.ticks ∙ ap (λ (p : Pair). p.ticks) s ∙ sym k.ticks) (h.time ∙ ap (λ (p : Pair). p.time) s ∙ sym k.time)
    (rate_is_one t before run a.rate b.rate w h.rate k.rate)

pub records_are_one : (t : Terms) (before : ℤ) (pairs : List Pair) (ls : List ℕ) (xs ys : List Record) → AreRecords t before pairs ls xs → AreRecords t before pairs ls ys → xs ≡ ys
records_are_one t before pairs [] [] [] h k = refl
records_are_one t before pairs [] [] (b ∷ ys) h k = absurd k
records_are_one t before pairs [] (a ∷ xs) ys h k = absurd h
records_are_one t before pairs (l ∷ ls) [] ys h k = absurd h
records_are_one t before pairs (l ∷ ls) (a ∷ xs) [] h k = absurd k
records_are_one t before pairs (l ∷ ls) (a ∷ xs) (b ∷ ys) h k =
    let e = record_is_one t before (take l pairs) a b h.0 k.0 in
    let P : ℤ → Type 0 = λ r. AreRecords t r (drop l pairs) ls xs in
    let f = records_are_one t b.rate (drop l pairs) ls xs ys (subst P (ap (λ (r : Record). r.rate) e) h.1) k.1 in
    both a b xs ys e f
  where
    both : (a b : Record) (xs ys : List Record) → a ≡ b → xs ≡ ys → ◌≡◌ {A = List Record} (a ∷ xs) (b ∷ ys)
    both a b xs ys h k = λ i. h i ∷ k i

pub fit_is_one : (t : Terms) (pairs : List Pair) (a b : List Record) → IsFit t pairs a → IsFit t pairs b → a ≡ b
fit_is_one t pairs a b h k =
    let e = best_is_one t pairs h.lengths k.lengths h.best k.best in
    let P : List ℕ → Type 0 = λ ls. AreRecords t (pos (10 ^ 18)) pairs ls a in
    records_are_one t (pos (10 ^ 18)) pairs k.lengths a b (subst P e h.written) k.written

pub as_many : (t : Terms) (before : ℤ) (pairs : List Pair) (ls : List ℕ) (rs : List Record) → AreRecords t before pairs ls rs → length rs ≡ length ls
as_many t before pairs [] [] h = refl
as_many t before pairs [] (r ∷ rs) h = absurd h
as_many t before pairs (l ∷ ls) [] h = absurd h
as_many t before pairs (l ∷ ls) (r ∷ rs) h = ap suc (as_many t r.rate (drop l pairs) ls rs h.1)
