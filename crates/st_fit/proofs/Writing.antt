-- What a fit's records are: a clock that passes each pair.
use Rattle.std.proofs.Common.{◌≡◌, ℕ, zero, suc, ◌+◌, ◌-◌, ◌^◌, ◌<◌, ◌≤◌, ℤ, pos, ◌+ℤ◌, ◌≤ℤ◌, ◌<ℤ◌, List, [], ◌∷◌, length, take, drop, Some, refl, sym, ap, ◌∙◌, subst, arith}
use Rattle.std.specs.List.{slice_get}
use Rattle.std.proofs.lemmas.Int.{ints}
use Rattle.std.proofs.lemmas.List.{length-take-le}
use Rattle.std.proofs.lemmas.Option.{none-some, same_Some}
use Rattle.st_fraction.specs.Fraction.{over}
use Rattle.st_fraction.specs.Floor.{IsFloor}
use Rattle.st_fraction.proofs.Ring.{lin, le-mul_z}
use Rattle.st_fit.specs.declared.pair.Pair.{Pair}
use Rattle.st_fit.specs.declared.pair.Record.{Record}
use Rattle.st_fit.specs.declared.pair.Terms.{Terms}
use Rattle.st_fit.specs.Fit.{Passes, IsRate, IsRun, IsGood, IsMiddle, IsRecordOf, AreRecords, AreRising, IsFit}
use Rattle.st_fit.specs.Laws.{start_of, IsPassed, AreClockRecords, CanBeFitted}
use Rattle.st_fit.proofs.Places.{by_le, taken, get-take, get-drop}
use Rattle.st_fit.proofs.Lines.{passes_between, between_passes, passes_start}
use Rattle.st_fit.proofs.Cuttings.{good_starts}
use Rattle.st_fit.proofs.Uniques.{as_many}

-- a rate between two that pass a pair passes it
between_rates : (t : Terms) (start p : Pair) (a b c : ℤ) → 0 < t.tpm → start.ticks ≤ p.ticks → a ≤ℤ c → c ≤ℤ b → Passes t start a p → Passes t start b p → Passes t start c p
between_rates t start p a b c some h l m x y =
    let u = passes_between t start p a some h x in
    let v = passes_between t start p b some h y in
    let ul = u.low in
    let vh = v.high in
    let d = le-mul_z a c (p.ticks - start.ticks) l in
    let e = le-mul_z c b (p.ticks - start.ticks) m in
    between_passes t start p c some h (record { low = omega (arith, lin); high = omega (arith, lin) })

-- the middle of two whole numbers lies between them
mean_between : (a b c : ℤ) → a ≤ℤ b → IsFloor (over (a +ℤ b) 2) c → (a ≤ℤ c) × (c ≤ℤ b)
mean_between a b c h f =
    let l = f.at_most.le in
    let m = f.below_next.lt in
    (omega (arith, ints), omega (arith, ints))

-- the pairs of rising ones are not before the first
not_before : (pairs : List Pair) (i : ℕ) (start p : Pair) → AreRising pairs → slice_get pairs 0 ≡ Some start → slice_get pairs i ≡ Some p → start.ticks ≤ p.ticks
not_before pairs zero start p h s e = let f = ap (λ (q : Pair). q.ticks) (same_Some start p (sym s ∙ e)) in omega arith
not_before pairs (suc i) start p h s e = let l = (h 0 (suc i) start p (omega arith) s e).0 in omega arith

-- the middle rate fits
pub middle_fits : (t : Terms) (run : List Pair) (rate : ℤ) → 0 < t.tpm → AreRising run → IsMiddle t run rate → IsRate t run rate
middle_fits t run rate some rising m =
    let b = mean_between m.least m.greatest rate (m.least_is m.greatest m.greatest_fits) m.middle in
    let f = m.least_fits.from in
    let g = m.greatest_fits.to in
    let l = b.0 in
    let r = b.1 in
    record {
      from = omega (arith, lin);
      to = omega (arith, lin);
      passes = λ i start p s e.
          between_rates t start p m.least m.greatest rate some (not_before run i start p rising s e) l r
          (m.least_fits.passes i start p s e) (m.greatest_fits.passes i start p s e);
    }

-- what the record of a run is: it starts at the first pair, and its rate fits
pub record StandsFor (t : Terms) (run : List Pair) (r : Record) : Type 0 where
  pub starts : slice_get run 0 ≡ Some (start_of r)
  pub fits : IsRate t run r.rate

pub rising_first : (pairs : List Pair) (n : ℕ) → AreRising pairs → AreRising (take n pairs)
rising_first pairs n h i j p q l a b = h i j p q l (taken n pairs i p a).1 (taken n pairs j q b).1

pub rising_rest : (pairs : List Pair) (k : ℕ) → AreRising pairs → AreRising (drop k pairs)
rising_rest pairs k h i j p q l a b = h (k + i) (k + j) p q (omega arith) (sym (get-drop k pairs i) ∙ a) (sym (get-drop k pairs j) ∙ b)

pub stands_for : (t : Terms) (before : ℤ) (pairs : List Pair) (l : ℕ) (r : Record) → CanBeFitted t pairs → pos 1 ≤ℤ before → before ≤ℤ pos (10 ^ 23)
    → IsRun t pairs l → IsRecordOf t before (take l pairs) r → StandsFor t (take l pairs) r
stands_for t before pairs l r can from to run w = record { starts = starts; fits = by_le l 1 one more }
  where
    same : (a b : Pair) → a.ticks ≡ b.ticks → a.time ≡ b.time → a ≡ b
    same a b h k = λ i. record { ticks = h i; time = k i }

    starts : slice_get (take l pairs) 0 ≡ Some (start_of r)
    starts = w.starts ∙ ap (λ (p : Pair). Some p) (same w.start (start_of r) (sym w.ticks) (sym w.time))

    long : length (take l pairs) ≡ l
    long = length-take-le l pairs run.within

    one : l ≤ 1 → IsRate t (take l pairs) r.rate
    one h =
        let s = run.some in
        let e = w.rate.alone (let i = long in omega arith) in
        record {
          from = omega (arith, lin);
          to = omega (arith, lin);
          passes = λ i start p s q. passed i start p (taken l pairs i p q).0 s q;
        }
      where
        passed : (i : ℕ) (start p : Pair) → i < l → slice_get (take l pairs) 0 ≡ Some start → slice_get (take l pairs) i ≡ Some p → Passes t start r.rate p
        passed i start p k s q =
            let P : ℕ → Type 0 = λ n. slice_get (take l pairs) n ≡ Some p in
            let e : i ≡ 0 = omega arith in
            let Q : Pair → Type 0 = λ z. Passes t start r.rate z in
            subst Q (same_Some start p (sym s ∙ subst P e q)) (passes_start t start r.rate can.some can.tolerance)

    more : 1 < l → IsRate t (take l pairs) r.rate
    more h = middle_fits t (take l pairs) r.rate can.some (rising_first pairs l can.rising) (w.rate.more (let i = long in omega arith))

-- what is told of all records, run by run
pub can_rest : (t : Terms) (pairs : List Pair) (k : ℕ) → CanBeFitted t pairs → CanBeFitted t (drop k pairs)
can_rest t pairs k can = record { some = can.some; tolerance = can.tolerance; rising = rising_rest pairs k can.rising }

-- each record starts at a pair, and its rate is one that a record may have
pub record IsStarted (pairs : List Pair) (r : Record) : Type 0 where
  pub at : (j : ℕ) × slice_get pairs j ≡ Some (start_of r)
  pub from : pos 1 ≤ℤ r.rate
  pub to : r.rate ≤ℤ pos (10 ^ 23)

pub started : (t : Terms) (before : ℤ) (pairs : List Pair) (ls : List ℕ) (rs : List Record) → CanBeFitted t pairs → pos 1 ≤ℤ before → before ≤ℤ pos (10 ^ 23)
    → IsGood t pairs ls → AreRecords t before pairs ls rs → (i : ℕ) (r : Record) → slice_get rs i ≡ Some r → IsStarted pairs r
started t before pairs [] [] can from to g w i r e = absurd (none-some r e)
started t before pairs [] (x ∷ rs) can from to g w i r e = absurd w
started t before pairs (l ∷ ls) [] can from to g w i r e = absurd w
started t before pairs (l ∷ ls) (x ∷ rs) can from to g w zero r e =
    let s = stands_for t before pairs l x can from to g.0 w.0 in
    let P : Record → Type 0 = λ z. IsStarted pairs z in
    subst P (same_Some x r e) (record { at = (0, sym (get-take l pairs 0 g.0.some) ∙ s.starts); from = s.fits.from; to = s.fits.to })
started t before pairs (l ∷ ls) (x ∷ rs) can from to g w (suc i) r e =
    let s = stands_for t before pairs l x can from to g.0 w.0 in
    let h = started t x.rate (drop l pairs) ls rs (can_rest t pairs l can) s.fits.from s.fits.to g.1 w.1 i r e in
    record { at = (l + h.at.0, sym (get-drop l pairs h.at.0) ∙ h.at.1); from = h.from; to = h.to }

-- a record of later pairs starts after all pairs of the first run
pub later_record : (t : Terms) (pairs : List Pair) (l i : ℕ) (p : Pair) (s : Record) → CanBeFitted t pairs → i < l → slice_get pairs i ≡ Some p → IsStarted (drop l pairs) s
    → (p.ticks < s.ticks) × (p.time <ℤ s.time)
later_record t pairs l i p s can h e k = can.rising i (l + k.at.0) p (start_of s) (omega arith) e (sym (get-drop l pairs k.at.0) ∙ k.at.1)

pub records_rise : (t : Terms) (before : ℤ) (pairs : List Pair) (ls : List ℕ) (rs : List Record) → CanBeFitted t pairs → pos 1 ≤ℤ before → before ≤ℤ pos (10 ^ 23)
    → IsGood t pairs ls → AreRecords t before pairs ls rs → (i j : ℕ) (r s : Record) → i < j → slice_get rs i ≡ Some r → slice_get rs j ≡ Some s
    → (r.ticks < s.ticks) × (r.time <ℤ s.time)
records_rise t before pairs [] [] can from to g w i j r s h e k = absurd (none-some r e)
records_rise t before pairs [] (x ∷ rs) can from to g w i j r s h e k = absurd w
records_rise t before pairs (l ∷ ls) [] can from to g w i j r s h e k = absurd w
records_rise t before pairs (l ∷ ls) (x ∷ rs) can from to g w zero zero r s h e k = absurd (omega arith)
records_rise t before pairs (l ∷ ls) (x ∷ rs) can from to g w zero (suc j) r s h e k =
    let f = stands_for t before pairs l x can from to g.0 w.0 in
    let b = started t x.rate (drop l pairs) ls rs (can_rest t pairs l can) f.fits.from f.fits.to g.1 w.1 j s k in
    let P : Record → Type 0 = λ z. (z.ticks < s.ticks) × (z.time <ℤ s.time) in
    subst P (same_Some x r e) (later_record t pairs l 0 (start_of x) s can g.0.some (sym (get-take l pairs 0 g.0.some) ∙ f.starts) b)
records_rise t before pairs (l ∷ ls) (x ∷ rs) can from to g w (suc i) zero r s h e k = absurd (omega arith)
records_rise t before pairs (l ∷ ls) (x ∷ rs) can from to g w (suc i) (suc j) r s h e k =
    let f = stands_for t before pairs l x can from to g.0 w.0 in
    records_rise t x.rate (drop l pairs) ls rs (can_rest t pairs l can) f.fits.from f.fits.to g.1 w.1 i j r s (omega arith) e k

pub records_pass : (t : Terms) (before : ℤ) (pairs : List Pair) (ls : List ℕ) (rs : List Record) → CanBeFitted t pairs → pos 1 ≤ℤ before → before ≤ℤ pos (10 ^ 23)
    → IsGood t pairs ls → AreRecords t before pairs ls rs → (i : ℕ) (p : Pair) → slice_get pairs i ≡ Some p → IsPassed t rs p
records_pass t before pairs [] [] can from to g w i p e =
    let P : List Pair → Type 0 = λ z. slice_get z i ≡ Some p in
    absurd (none-some p (subst P g e))
records_pass t before pairs [] (x ∷ rs) can from to g w i p e = absurd w
records_pass t before pairs (l ∷ ls) [] can from to g w i p e = absurd w
records_pass t before pairs (l ∷ ls) (x ∷ rs) can from to g w i p e =
    by_le l i
    (λ h.
    let s = stands_for t before pairs l x can from to g.0 w.0 in
    let n : l + (i - l) ≡ i = omega arith in
    let P : ℕ → Type 0 = λ k. slice_get pairs k ≡ Some p in
    later (records_pass t x.rate (drop l pairs) ls rs (can_rest t pairs l can) s.fits.from s.fits.to g.1 w.1 (i - l) p (get-drop l pairs (i - l) ∙ subst P (sym n) e)))
    here
  where
    f : StandsFor t (take l pairs) x
    f = stands_for t before pairs l x can from to g.0 w.0

    none : i < l → (j : ℕ) (s : Record) → 0 < j → slice_get (x ∷ rs) j ≡ Some s → s.ticks ≤ p.ticks → ⊥
    none h zero s k es m = absurd (omega arith)
    none h (suc j) s k es m =
        let b = started t x.rate (drop l pairs) ls rs (can_rest t pairs l can) f.fits.from f.fits.to g.1 w.1 j s es in
        let c = (later_record t pairs l i p s can h e b).0 in
        omega arith

    here : i < l → IsPassed t (x ∷ rs) p
    here h =
        let q = get-take l pairs i h ∙ e in
        record {
          by = x;
          in_force = record {
            place = 0;
            here = refl;
            started = not_before pairs i (start_of x) p can.rising (sym (get-take l pairs 0 g.0.some) ∙ f.starts) e;
            none_later = none h;
          };
          near = f.fits.passes i (start_of x) p f.starts q;
        }

    later : IsPassed t rs p → IsPassed t (x ∷ rs) p
    later b = record {
      by = b.by;
      in_force = record {
        place = suc b.in_force.place;
        here = b.in_force.here;
        started = b.in_force.started;
        none_later = past b;
      };
      near = b.near;
    }
      where
        past : (b : IsPassed t rs p) → (j : ℕ) (s : Record) → suc b.in_force.place < j → slice_get (x ∷ rs) j ≡ Some s → s.ticks ≤ p.ticks → ⊥
        past b zero s k es m = absurd (omega arith)
        past b (suc j) s k es m = b.in_force.none_later j s (omega arith) es m

pub fit_passes : (t : Terms) (pairs : List Pair) (records : List Record) → CanBeFitted t pairs → IsFit t pairs records → (i : ℕ) (p : Pair) → slice_get pairs i ≡ Some p → IsPassed t records p
fit_passes t pairs records can f = records_pass t (pos (10 ^ 18)) pairs f.lengths records can (omega (arith, ints)) (omega (arith, ints)) f.best.good f.written

pub fit_is_clock : (t : Terms) (pairs : List Pair) (records : List Record) → CanBeFitted t pairs → IsFit t pairs records → AreClockRecords pairs records
fit_is_clock t pairs records can f = record {
  some = λ h. let g = good_starts t pairs f.lengths h f.best.good in let n = as_many t (pos (10 ^ 18)) pairs f.lengths records f.written in omega arith;
  starts = λ i r e. (all i r e).at;
  rates = λ i r e. ((all i r e).from, (all i r e).to);
  rising = records_rise t (pos (10 ^ 18)) pairs f.lengths records can (omega (arith, ints)) (omega (arith, ints)) f.best.good f.written;
}
  where
    all : (i : ℕ) (r : Record) → slice_get records i ≡ Some r → IsStarted pairs r
    all = started t (pos (10 ^ 18)) pairs f.lengths records can (omega (arith, ints)) (omega (arith, ints)) f.best.good f.written

pub fit_is_fewest : (t : Terms) (pairs : List Pair) (records : List Record) (others : List ℕ) → IsFit t pairs records → IsGood t pairs others → length records ≤ length others
fit_is_fewest t pairs records others f g =
    let n = as_many t (pos (10 ^ 18)) pairs f.lengths records f.written in
    let m = f.best.fewest others g in
    omega arith
