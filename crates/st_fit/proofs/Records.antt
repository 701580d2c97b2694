-- The records of a best cutting, gathered from the first run on.
use Rattle.std.proofs.Common.{◌≡◌, ℕ, ◌+◌, ◌-◌, ◌^◌, ◌<◌, ◌≤◌, ℤ, pos, List, [], ◌∷◌, ◌++◌, length, take, drop, get_or, sym, ap, ◌∙◌, subst, arith, append_assoc, append-nil}
use Rattle.std.proofs.lemmas.Option.{slice_get-get_or}
use Rattle.std.proofs.lemmas.List.{drop_all}
use Rattle.st_fit.specs.declared.pair.Pair.{Pair}
use Rattle.st_fit.specs.declared.pair.Record.{Record}
use Rattle.st_fit.specs.declared.pair.Terms.{Terms}
use Rattle.st_fit.specs.declared.starts.Start.{Start}
use Rattle.st_fit.specs.Fit.{IsRun, IsGood, IsBest, IsRecordOf, AreRecords, IsFit, AreRising, AreSmall}
use Rattle.st_fit.specs.FitSteps.{first_of, IsStart, AreStarts}
use Rattle.st_fit.proofs.Places.{taken, get-drop}
use Rattle.st_fit.proofs.Cuttings.{best_is_one, best_after}
use Rattle.st_fit.proofs.Starting.{best_of_none}

-- a part of rising pairs is rising, and of small ones small
pub rising_part : (pairs : List Pair) (k n : ℕ) → AreRising pairs → AreRising (take n (drop k pairs))
rising_part pairs k n h i j p q l a b =
    h (k + i) (k + j) p q (omega arith)
    (sym (get-drop k pairs i) ∙ (taken n (drop k pairs) i p a).1)
    (sym (get-drop k pairs j) ∙ (taken n (drop k pairs) j q b).1)

pub small_part : (pairs : List Pair) (k n : ℕ) → AreSmall pairs → AreSmall (take n (drop k pairs))
small_part pairs k n h i p a = h (k + i) p (sym (get-drop k pairs i) ∙ (taken n (drop k pairs) i p a).1)

-- the start of the pairs from a place on, in the table
pub start_from : (t : Terms) (pairs : List Pair) (starts : List Start) (from : ℕ) (d : Start) → length starts ≡ length pairs + 1 → from ≤ length pairs → AreStarts t pairs starts
    → IsStart t (drop from pairs) (get_or starts (length pairs - from) d)
start_from t pairs starts from d e l a =
    let n = length pairs - from in
    let h = a n (get_or starts n d) (slice_get-get_or starts n d (omega arith)) in
    let P : ℕ → Type 0 = λ k. IsStart t (drop k pairs) (get_or starts n d) in
    subst P (let f : length pairs - n ≡ from = omega arith in f) h

-- its first run is one
pub first_run : (t : Terms) (ps : List Pair) (s : Start) → 0 < length ps → IsStart t ps s → IsRun t ps s.first
first_run t ps s some h = by h.lengths h.best.good h.start.first
  where
    by : (ls : List ℕ) → IsGood t ps ls → s.first ≡ first_of ls → IsRun t ps s.first
    by [] g e = absurd (omega (arith, ap length g))
    by (l ∷ ls) g e = let P : ℕ → Type 0 = λ n. IsRun t ps n in subst P (sym e) g.0

-- whatever completes the records with those of the pairs ps makes a fit of all
pub record Completes (t : Terms) (all ps : List Pair) (before : ℤ) (records : List Record) : Type 0 where
  pub fit : (lengths : List ℕ) (rest : List Record) → IsBest t ps lengths → AreRecords t before ps lengths rest → IsFit t all (records ++ rest)

pub completes_none : (t : Terms) (all : List Pair) (rate : ℤ) → rate ≡ pos (10 ^ 18) → Completes t all (drop 0 all) rate []
completes_none t all rate e = record {
  fit = λ lengths rest b w.
      let P : ℤ → Type 0 = λ r. AreRecords t r all lengths rest in
      record { lengths = lengths; best = b; written = subst P e w };
}

pub completes_more : (t : Terms) (all ps : List Pair) (s : Start) (before : ℤ) (records : List Record) (r : Record) (n : ℕ) → 0 < length ps → IsStart t ps s
    → n ≡ s.first → IsRecordOf t before (take n ps) r → Completes t all ps before records → Completes t all (drop s.first ps) r.rate (records ++ r ∷ [])
completes_more t all ps s before records r n some h i w c = by h.lengths h.best h.start.first
  where
    by : (ls : List ℕ) → IsBest t ps ls → s.first ≡ first_of ls → Completes t all (drop s.first ps) r.rate (records ++ r ∷ [])
    by [] b e = absurd (omega (arith, ap length b.good))
    by (l ∷ ls) b e = record { fit = fit }
      where
        fit : (lengths : List ℕ) (rest : List Record) → IsBest t (drop s.first ps) lengths → AreRecords t r.rate (drop s.first ps) lengths rest → IsFit t all ((records ++ r ∷ []) ++ rest)
        fit lengths rest bl wl =
            let P : ℕ → Type 0 = λ n. IsBest t (drop n ps) lengths in
            let Q : ℕ → Type 0 = λ n. AreRecords t r.rate (drop n ps) lengths rest in
            let R : ℕ → Type 0 = λ k. IsRecordOf t before (take k ps) r in
            let same = best_is_one t (drop l ps) ls lengths (best_after t ps l ls b) (subst P e bl) in
            let S : List ℕ → Type 0 = λ z. IsBest t ps (l ∷ z) in
            let f = c.fit (l ∷ lengths) (r ∷ rest) (subst S same b) (subst R (i ∙ e) w, subst Q e wl) in
            let T : List Record → Type 0 = λ z. IsFit t all z in
            subst T (sym (append_assoc records (r ∷ []) rest)) f

pub completes_all : (t : Terms) (all : List Pair) (from : ℕ) (before : ℤ) (records : List Record) → length all ≤ from → Completes t all (drop from all) before records → IsFit t all records
completes_all t all from before records l c =
    let e : drop from all ≡ [] = drop_all from all l in
    let f = c.fit [] [] (best_of_none t (drop from all) e) tt in
    let T : List Record → Type 0 = λ z. IsFit t all z in
    subst T (append-nil records) f
