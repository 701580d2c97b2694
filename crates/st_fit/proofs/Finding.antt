-- Each list of rising pairs has a fit.
use Rattle.std.proofs.Common.{◌≡◌, ℕ, zero, suc, ◌+◌, ◌-◌, ◌^◌, ◌<◌, ◌≤◌, ℤ, pos, ◌+ℤ◌, ◌-ℤ◌, ◌*ℤ◌, List, [], ◌∷◌, length, take, drop, refl, subst, arith, lit<, length-drop}
use Rattle.std.specs.Int.{int_div_euclid, int_max, int_min}
use Rattle.std.proofs.lemmas.Int.{by_lt_z}
use Rattle.std.proofs.lemmas.List.{length-take-le}
use Rattle.st_fraction.specs.Fraction.{over}
use Rattle.st_fraction.proofs.Floors.{floor_found}
use Rattle.st_fit.specs.declared.pair.Pair.{Pair}
use Rattle.st_fit.specs.declared.pair.Record.{Record}
use Rattle.st_fit.specs.declared.pair.Terms.{Terms}
use Rattle.st_fit.specs.declared.rates.Rates.{Rates}
use Rattle.st_fit.specs.Fit.{IsRun, IsGood, IsBest, IsRateOf, AreRecords, IsFit}
use Rattle.st_fit.specs.FitSteps.{AreRatesOf, IsBestTo}
use Rattle.st_fit.specs.Laws.{CanBeFitted}
use Rattle.st_fit.proofs.Places.{by_le, found}
use Rattle.st_fit.proofs.Quotient.{quotient, quotient_is, least_is}
use Rattle.st_fit.proofs.Runs.{IsNarrowed, rates_of_one, rates_more, run_of_one, run_of_rates, none_longer}
use Rattle.st_fit.proofs.Narrowing.{narrowed_is, have_ends, middle_of}
use Rattle.st_fit.proofs.Cuttings.{best_to_one, best_to_more, best_to_same, best_at_end}
use Rattle.st_fit.proofs.Starting.{best_of_none, none_beyond}
use Rattle.st_fit.proofs.Writing.{can_rest}

-- the rates that one pair more leaves
narrow : (t : Terms) (start p : Pair) (r : Rates) → 0 < t.tpm → start.ticks < p.ticks → (n : Rates) × IsNarrowed t start p r n
narrow t start p r some later =
    let span = p.ticks - start.ticks in
    let has : 0 < p.ticks - start.ticks = omega arith in
    let low = (p.time -ℤ start.time -ℤ t.tolerance) *ℤ pos t.tpm in
    let high = (p.time -ℤ start.time +ℤ t.tolerance) *ℤ pos t.tpm in
    let least = pos 0 -ℤ int_div_euclid (pos 0 -ℤ low) (pos span) in
    let greatest = int_div_euclid high (pos span) in
    let n : Rates = record { least = int_max r.least least; greatest = int_min r.greatest greatest } in (
      n,
      narrowed_is t start p r n low high least greatest some (omega arith) refl refl
          (least_is low (int_div_euclid (pos 0 -ℤ low) (pos span)) span (quotient_is (pos 0 -ℤ low) (int_div_euclid (pos 0 -ℤ low) (pos span)) span has (quotient (pos 0 -ℤ low) span has)))
          (quotient_is high greatest span has (quotient high span has)) refl refl,
    )

-- the rates that fit the first m + 1 pairs
rates_found : (t : Terms) (pairs : List Pair) (m : ℕ) → CanBeFitted t pairs → m < length pairs → (r : Rates) × AreRatesOf t (take (m + 1) pairs) r
rates_found t pairs zero can l =
    let r : Rates = record { least = pos 1; greatest = pos (10 ^ 23) } in
    (r, rates_of_one t pairs r can.some can.tolerance refl refl)
rates_found t pairs (suc m) can l = more (rates_found t pairs m can (omega arith))
  where
    more : (r : Rates) × AreRatesOf t (take (m + 1) pairs) r → (r : Rates) × AreRatesOf t (take (suc m + 1) pairs) r
    more h =
        let first = found pairs 0 (omega arith) in
        let here = found pairs (m + 1) (omega arith) in
        let later = (can.rising 0 (m + 1) first.0 here.0 (omega arith) first.1 here.1).0 in
        let n = narrow t first.0 here.0 h.0 can.some later in
        let a = rates_more t pairs (m + 1) first.0 here.0 h.0 n.0 (omega arith) first.1 here.1 h.1 n.1 in
        let P : ℕ → Type 0 = λ k. AreRatesOf t (take k pairs) n.0 in
        (n.0, subst P (let e : m + 1 + 1 ≡ suc m + 1 = omega arith in e) a)

-- the best cutting, by the length of its first run
search_more : (t : Terms) (pairs : List Pair) (k m : ℕ) (ls : List ℕ) → CanBeFitted t pairs → 0 < m → m + k ≡ length pairs
    → ((l : ℕ) → 0 < l → l ≤ length pairs → (ks : List ℕ) × IsBest t (drop l pairs) ks) → IsBestTo t pairs m ls → (ls : List ℕ) × IsBest t pairs ls
search_more t pairs zero m ls can some e rest b = (ls, best_at_end t pairs m ls b (λ l h. none_beyond t pairs m (omega arith) l (omega arith)))
search_more t pairs (suc k) m ls can some e rest b = by_rates (rates_found t pairs m can (omega arith))
    (λ more. search_more t pairs k (m + 1) more.0 can (omega arith) (omega arith) rest more.1)
  where
    ks : (ks : List ℕ) × IsBest t (drop (m + 1) pairs) ks
    ks = rest (m + 1) (omega arith) (omega arith)

    by_rates : (r : Rates) × AreRatesOf t (take (m + 1) pairs) r → ((more : List ℕ) × IsBestTo t pairs (m + 1) more → (ls : List ℕ) × IsBest t pairs ls) → (ls : List ℕ) × IsBest t pairs ls
    by_rates r go = by_lt_z r.0.greatest r.0.least
        (λ h. (ls, best_at_end t pairs m ls b (λ l k. none_longer t pairs (m + 1) r.0 r.1 h l (omega arith))))
        (λ h. go (by_le (length ks.0 + 1) (length ls)
        (λ le. ((m + 1) ∷ ks.0, best_to_more t pairs m ls ks.0 b (run_of_rates t pairs (m + 1) r.0 (omega arith) (omega arith) r.1 h) ks.1 le))
        (λ lt. (ls, best_to_same t pairs m ls ks.0 b ks.1 lt))))

best_found : (n : ℕ) (t : Terms) (pairs : List Pair) → CanBeFitted t pairs → length pairs ≤ n → (ls : List ℕ) × IsBest t pairs ls
best_found n t [] can h = ([], best_of_none t [] refl)
best_found zero t (p ∷ pairs) can h = absurd (omega arith)
best_found (suc n) t (p ∷ pairs) can h = from (λ l some le. best_found n t (drop l (p ∷ pairs)) (can_rest t (p ∷ pairs) l can) (omega (arith, length-drop l (p ∷ pairs))))
  where
    from : ((l : ℕ) → 0 < l → l ≤ length (p ∷ pairs) → (ks : List ℕ) × IsBest t (drop l (p ∷ pairs)) ks) → (ls : List ℕ) × IsBest t (p ∷ pairs) ls
    from rest =
        let ks = rest 1 (omega arith) (omega arith) in
        search_more t (p ∷ pairs) (length pairs) 1 (1 ∷ ks.0) can (omega arith) (omega arith) rest
        (best_to_one t (p ∷ pairs) ks.0 (omega arith) (run_of_one t (p ∷ pairs) can.some can.tolerance (omega arith)) ks.1)

-- a run's rate
rate_found : (t : Terms) (before : ℤ) (pairs : List Pair) (l : ℕ) → CanBeFitted t pairs → IsRun t pairs l → (rate : ℤ) × IsRateOf t before (take l pairs) rate
rate_found t before pairs l can run = by_le l 1 one more
  where
    long : length (take l pairs) ≡ l
    long = length-take-le l pairs run.within

    one : l ≤ 1 → (rate : ℤ) × IsRateOf t before (take l pairs) rate
    one h = (before, record { alone = λ e. refl; more = λ k. absurd (let e = long in omega arith) })

    more : 1 < l → (rate : ℤ) × IsRateOf t before (take l pairs) rate
    more h =
        let w = run.within in
        let r = rates_found t pairs (l - 1) can (omega arith) in
        let P : ℕ → Type 0 = λ k. AreRatesOf t (take k pairs) r.0 in
        let a = subst P (let e : l - 1 + 1 ≡ l = omega arith in e) r.1 in
        let f = floor_found (over (r.0.least +ℤ r.0.greatest) 2) (lit< tt) in
        let m = middle_of t (take l pairs) r.0 f.0 a (have_ends t (take l pairs) r.0 run.rate a run.fits) f.1 in
        (f.0, record { alone = λ k. absurd (let e = long in omega arith); more = λ k. m })

records_found : (t : Terms) (before : ℤ) (pairs : List Pair) (ls : List ℕ) → CanBeFitted t pairs → IsGood t pairs ls → (rs : List Record) × AreRecords t before pairs ls rs
records_found t before pairs [] can g = ([], tt)
records_found t before pairs (l ∷ ls) can g =
    let rate = rate_found t before pairs l can g.0 in
    let s = g.0.some in
    let w = g.0.within in
    let n = length-take-le l pairs w in
    let start = found (take l pairs) 0 (omega arith) in
    let r : Record = record { ticks = start.0.ticks; time = start.0.time; rate = rate.0 } in
    let rest = records_found t rate.0 (drop l pairs) ls (can_rest t pairs l can) g.1 in
    (r ∷ rest.0, (record { start = start.0; starts = start.1; ticks = refl; time = refl; rate = rate.1 }, rest.1))

pub fit_found : (t : Terms) (pairs : List Pair) → CanBeFitted t pairs → (records : List Record) × IsFit t pairs records
fit_found t pairs can =
    let b = best_found (length pairs) t pairs can (omega arith) in
    let r = records_found t (pos (10 ^ 18)) pairs b.0 can b.1.good in
    (r.0, record { lengths = b.0; best = b.1; written = r.1 })
