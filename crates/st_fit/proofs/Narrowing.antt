-- What one pair more leaves of the rates.
use Rattle.std.proofs.Common.{◌≡◌, ◌-◌, ◌<◌, ◌≤◌, ◌↔◌, ℤ, pos, ◌+ℤ◌, ◌-ℤ◌, ◌*ℤ◌, ◌≤ℤ◌, List, arith}
use Rattle.std.specs.Int.{int_max, int_min}
use Rattle.std.proofs.lemmas.Int.{ints, clamps}
use Rattle.st_fraction.proofs.Ring.{lin}
use Rattle.st_fraction.specs.Fraction.{over}
use Rattle.st_fraction.specs.Floor.{IsFloor}
use Rattle.st_fit.specs.declared.pair.Pair.{Pair}
use Rattle.st_fit.specs.declared.pair.Terms.{Terms}
use Rattle.st_fit.specs.declared.rates.Rates.{Rates}
use Rattle.st_fit.specs.Fit.{Passes, IsRate, IsMiddle}
use Rattle.st_fit.specs.FitSteps.{Holds, AreRatesOf}
use Rattle.st_fit.proofs.Lines.{passes_between, between_passes}
use Rattle.st_fit.proofs.Runs.{IsNarrowed}

max_below : (a b rate : ℤ) → int_max a b ≤ℤ rate → (a ≤ℤ rate) × (b ≤ℤ rate)
max_below a b rate h = (omega (arith, ints, clamps), omega (arith, ints, clamps))

below_max : (a b rate : ℤ) → a ≤ℤ rate → b ≤ℤ rate → int_max a b ≤ℤ rate
below_max a b rate h k = omega (arith, ints, clamps)

min_above : (a b rate : ℤ) → rate ≤ℤ int_min a b → (rate ≤ℤ a) × (rate ≤ℤ b)
min_above a b rate h = (omega (arith, ints, clamps), omega (arith, ints, clamps))

above_min : (a b rate : ℤ) → rate ≤ℤ a → rate ≤ℤ b → rate ≤ℤ int_min a b
above_min a b rate h k = omega (arith, ints, clamps)

pub narrowed_is : (t : Terms) (start p : Pair) (r n : Rates) (low high least greatest : ℤ) → 0 < t.tpm → start.ticks ≤ p.ticks
    → low ≡ (p.time -ℤ start.time -ℤ t.tolerance) *ℤ pos t.tpm → high ≡ (p.time -ℤ start.time +ℤ t.tolerance) *ℤ pos t.tpm
    → ((rate : ℤ) → low ≤ℤ (rate *ℤ pos (p.ticks - start.ticks)) ↔ least ≤ℤ rate)
    → ((rate : ℤ) → (rate *ℤ pos (p.ticks - start.ticks)) ≤ℤ high ↔ rate ≤ℤ greatest)
    → n.least ≡ int_max r.least least → n.greatest ≡ int_min r.greatest greatest → IsNarrowed t start p r n
narrowed_is t start p r n low high least greatest some le el eh hl hh en em = record { fits = fits; only = only }
  where
    fits : (rate : ℤ) → Holds n rate → Holds r rate × Passes t start rate p
    fits rate h =
        let a = max_below r.least least rate (rw (en) at h.from) in
        let b = min_above r.greatest greatest rate (rw (em) at h.to) in
        let l = (hl rate).1 a.1 in
        let g = (hh rate).1 b.1 in
        (record { from = a.0; to = b.0 }, between_passes t start p rate some le (record { low = omega (arith, lin); high = omega (arith, lin) }))

    only : (rate : ℤ) → Holds r rate → Passes t start rate p → Holds n rate
    only rate h k =
        let b = passes_between t start p rate some le k in
        let bl = b.low in
        let bh = b.high in
        let l = (hl rate).0 (omega (arith, lin)) in
        let g = (hh rate).0 (omega (arith, lin)) in
        record { from = rw en (below_max r.least least rate h.from l); to = rw em (above_min r.greatest greatest rate h.to g) }

-- the least and the greatest rate of a run that has one
pub record HaveEnds (t : Terms) (run : List Pair) (r : Rates) : Type 0 where
  pub least : IsRate t run r.least
  pub greatest : IsRate t run r.greatest

pub have_ends : (t : Terms) (run : List Pair) (r : Rates) (rate : ℤ) → AreRatesOf t run r → IsRate t run rate → HaveEnds t run r
have_ends t run r rate a k =
    let h = a.only rate k in
    let f = h.from in
    let g = h.to in
    record {
      least = a.fits r.least (record { from = omega (arith, lin); to = omega (arith, lin) });
      greatest = a.fits r.greatest (record { from = omega (arith, lin); to = omega (arith, lin) });
    }

pub middle_of : (t : Terms) (run : List Pair) (r : Rates) (rate : ℤ) → AreRatesOf t run r → HaveEnds t run r → IsFloor (over (r.least +ℤ r.greatest) 2) rate → IsMiddle t run rate
middle_of t run r rate a h f = record {
  least = r.least;
  greatest = r.greatest;
  least_fits = h.least;
  greatest_fits = h.greatest;
  least_is = λ other k. (a.only other k).from;
  greatest_is = λ other k. (a.only other k).to;
  middle = f;
}
