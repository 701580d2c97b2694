-- The rates that fit a run are those from a least to a greatest one, and a longer run narrows them.
use Rattle.std.proofs.Common.{◌≡◌, ℕ, ◌+◌, ◌^◌, ◌<◌, ◌≤◌, ℤ, pos, ◌≤ℤ◌, ◌<ℤ◌, List, length, take, Some, sym, ◌∙◌, subst, arith}
use Rattle.std.specs.List.{slice_get}
use Rattle.std.proofs.lemmas.Int.{ints}
use Rattle.std.proofs.lemmas.Option.{same_Some}
use Rattle.st_fraction.proofs.Ring.{lin}
use Rattle.st_fit.specs.declared.pair.Pair.{Pair}
use Rattle.st_fit.specs.declared.pair.Terms.{Terms}
use Rattle.st_fit.specs.declared.rates.Rates.{Rates}
use Rattle.st_fit.specs.Fit.{Passes, IsRate, IsRun}
use Rattle.st_fit.specs.FitSteps.{Holds, AreRatesOf}
use Rattle.st_fit.proofs.Places.{by_le, taken, get-take}
use Rattle.st_fit.proofs.Lines.{passes_start}

-- a rate of a run is one of its first pairs
pub rate_of_part : (t : Terms) (pairs : List Pair) (k m : ℕ) (rate : ℤ) → k ≤ m → IsRate t (take m pairs) rate → IsRate t (take k pairs) rate
rate_of_part t pairs k m rate h r = record {
  from = r.from;
  to = r.to;
  passes = λ i start p s q.
      let a = taken k pairs 0 start s in
      let b = taken k pairs i p q in
      r.passes i start p (get-take m pairs 0 (omega (arith, a.0)) ∙ a.1) (get-take m pairs i (omega (arith, b.0)) ∙ b.1);
}

-- all rates fit a run of one pair
pub rate_of_one : (t : Terms) (pairs : List Pair) (rate : ℤ) → 0 < t.tpm → pos 0 ≤ℤ t.tolerance → pos 1 ≤ℤ rate → rate ≤ℤ pos (10 ^ 23) → IsRate t (take 1 pairs) rate
rate_of_one t pairs rate some tol from to = record {
  from = from;
  to = to;
  passes = λ i start p s q. passed i start p (taken 1 pairs 0 start s) (taken 1 pairs i p q);
}
  where
    passed : (i : ℕ) (start p : Pair) → (0 < 1) × (slice_get pairs 0 ≡ Some start) → (i < 1) × (slice_get pairs i ≡ Some p) → Passes t start rate p
    passed i start p a b =
        let e : i ≡ 0 = omega (arith, b.0) in
        let P : ℕ → Type 0 = λ n. slice_get pairs n ≡ Some p in
        let f : start ≡ p = same_Some start p (sym a.1 ∙ subst P e b.1) in
        let Q : Pair → Type 0 = λ q. Passes t start rate q in
        subst Q f (passes_start t start rate some tol)

pub rates_of_one : (t : Terms) (pairs : List Pair) (r : Rates) → 0 < t.tpm → pos 0 ≤ℤ t.tolerance → r.least ≡ pos 1 → r.greatest ≡ pos (10 ^ 23) → AreRatesOf t (take 1 pairs) r
rates_of_one t pairs r some tol least greatest = record {
  fits = λ rate h. rate_of_one t pairs rate some tol (let f = h.from in omega (arith, lin)) (let f = h.to in omega (arith, lin));
  only = λ rate k. record { from = let f = k.from in omega (arith, lin); to = let f = k.to in omega (arith, lin) };
}

pub run_of_one : (t : Terms) (pairs : List Pair) → 0 < t.tpm → pos 0 ≤ℤ t.tolerance → 0 < length pairs → IsRun t pairs 1
run_of_one t pairs some tol l = record { some = omega arith; within = omega arith; rate = pos 1; fits = rate_of_one t pairs (pos 1) some tol (omega (arith, ints)) (omega (arith, ints)) }

-- what narrowing by one pair more gives
pub record IsNarrowed (t : Terms) (start p : Pair) (r n : Rates) : Type 0 where
  pub fits : (rate : ℤ) → Holds n rate → Holds r rate × Passes t start rate p
  pub only : (rate : ℤ) → Holds r rate → Passes t start rate p → Holds n rate

pub rates_more : (t : Terms) (pairs : List Pair) (i : ℕ) (start p : Pair) (r n : Rates) → 0 < i → slice_get pairs 0 ≡ Some start → slice_get pairs i ≡ Some p
    → AreRatesOf t (take i pairs) r → IsNarrowed t start p r n → AreRatesOf t (take (i + 1) pairs) n
rates_more t pairs i start p r n some first here a w = record { fits = fits; only = only }
  where
    fits : (rate : ℤ) → Holds n rate → IsRate t (take (i + 1) pairs) rate
    fits rate h =
        let f = w.fits rate h in
        let old = a.fits rate f.0 in
        record { from = old.from; to = old.to; passes = passed old f.1 }
      where
        passed : IsRate t (take i pairs) rate → Passes t start rate p → (j : ℕ) (s q : Pair) → slice_get (take (i + 1) pairs) 0 ≡ Some s → slice_get (take (i + 1) pairs) j ≡ Some q → Passes t s rate q
        passed old at_p j s q es eq =
            let x = taken (i + 1) pairs 0 s es in
            let y = taken (i + 1) pairs j q eq in
            by_le i j (λ l. new (omega (arith, y.0)) x.1 y.1)
            (λ l. old.passes j s q (get-take i pairs 0 some ∙ x.1) (get-take i pairs j l ∙ y.1))
          where
            new : j ≡ i → slice_get pairs 0 ≡ Some s → slice_get pairs j ≡ Some q → Passes t s rate q
            new e x y =
                let P : ℕ → Type 0 = λ n. slice_get pairs n ≡ Some q in
                let f : start ≡ s = same_Some start s (sym first ∙ x) in
                let g : p ≡ q = same_Some p q (sym here ∙ subst P e y) in
                let Q : Pair → Type 0 = λ z. Passes t z rate q in
                let R : Pair → Type 0 = λ z. Passes t start rate z in
                subst Q f (subst R g at_p)

    only : (rate : ℤ) → IsRate t (take (i + 1) pairs) rate → Holds n rate
    only rate k = w.only rate (a.only rate (rate_of_part t pairs i (i + 1) rate (omega arith) k))
        (k.passes i start p (get-take (i + 1) pairs 0 (omega arith) ∙ first) (get-take (i + 1) pairs i (omega arith) ∙ here))

pub run_of_rates : (t : Terms) (pairs : List Pair) (m : ℕ) (r : Rates) → 0 < m → m ≤ length pairs → AreRatesOf t (take m pairs) r → r.least ≤ℤ r.greatest → IsRun t pairs m
run_of_rates t pairs m r some l a h = record { some = some; within = l; rate = r.least; fits = a.fits r.least (record { from = omega (arith, lin); to = h }) }

-- where no rate fits, no run is as long
pub none_longer : (t : Terms) (pairs : List Pair) (m : ℕ) (r : Rates) → AreRatesOf t (take m pairs) r → r.greatest <ℤ r.least → (l : ℕ) → m ≤ l → IsRun t pairs l → ⊥
none_longer t pairs m r a h l k run =
    let o = a.only run.rate (rate_of_part t pairs m l run.rate k run.fits) in
    let f = o.from in
    let g = o.to in
    omega (arith, lin)
