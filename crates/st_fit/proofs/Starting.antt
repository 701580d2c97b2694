-- The start of the best cutting of some last pairs, by those of fewer.
use Rattle.std.proofs.Common.{◌≡◌, ℕ, zero, suc, ◌+◌, ◌-◌, ◌<◌, ◌≤◌, inl, inr, pos, ◌≤ℤ◌, List, [], ◌∷◌, ◌++◌, length, take, drop, get_or, sym, ap, ◌∙◌, subst, arith, length-drop}
use Rattle.std.proofs.lemmas.Option.{none-some, same_Some, slice_get_within, slice_get-get_or}
use Rattle.std.proofs.lemmas.List.{drop-drop, drop_all, take_rest}
use Rattle.st_fit.specs.declared.pair.Pair.{Pair}
use Rattle.st_fit.specs.declared.pair.Terms.{Terms}
use Rattle.st_fit.specs.declared.starts.Start.{Start}
use Rattle.st_fit.specs.Fit.{IsRun, IsGood, IsNoGreater, IsBest}
use Rattle.st_fit.specs.FitSteps.{IsStart, IsStartTo, AreStarts}
use Rattle.st_fit.proofs.Places.{by_le, pushed}
use Rattle.st_fit.proofs.Cuttings.{good_short, best_to_one, best_to_more, best_to_same, best_at_end}
use Rattle.st_fit.proofs.Runs.{run_of_one}

-- the start of the pairs after the first i + 1, in a table of all starts
pub later_at : (t : Terms) (pairs : List Pair) (later : List Start) (i : ℕ) (d : Start) → length later ≡ length pairs → i < length pairs → AreStarts t pairs later
    → IsStart t (drop (i + 1) pairs) (get_or later (length pairs - 1 - i) d)
later_at t pairs later i d e l a =
    let n = length pairs - 1 - i in
    let h = a n (get_or later n d) (slice_get-get_or later n d (omega arith)) in
    let f : length pairs - n ≡ i + 1 = omega arith in
    let P : ℕ → Type 0 = λ k. IsStart t (drop k pairs) (get_or later n d) in
    subst P f h

-- and of those after the first one
pub later_first : (t : Terms) (pairs : List Pair) (later : List Start) (d : Start) → length later ≡ length pairs → 0 < length pairs → AreStarts t pairs later
    → IsStart t (drop 1 pairs) (get_or later (length pairs - 1) d)
later_first t pairs later d e l a =
    let P : ℕ → Type 0 = λ k. IsStart t (drop 1 pairs) (get_or later k d) in
    subst P (let f : length pairs - 1 - 0 ≡ length pairs - 1 = omega arith in f) (later_at t pairs later 0 d e l a)

-- it has no more runs than there are pairs
pub runs_few : (t : Terms) (pairs : List Pair) (i : ℕ) (s : Start) → i < length pairs → IsStart t (drop (i + 1) pairs) s → s.runs + 1 ≤ length pairs
runs_few t pairs i s l h =
    let g = good_short t (drop (i + 1) pairs) h.lengths h.best.good in
    let r = h.start.runs in
    omega (arith, length-drop (i + 1) pairs)

pub start_to_one : (t : Terms) (pairs : List Pair) (s r : Start) → 0 < t.tpm → pos 0 ≤ℤ t.tolerance → 0 < length pairs → IsStart t (drop 1 pairs) s
    → r.runs ≡ s.runs + 1 → r.first ≡ 1 → IsStartTo t pairs 1 r
start_to_one t pairs s r tpm tol some h runs first = record {
  lengths = 1 ∷ h.lengths;
  best = best_to_one t pairs h.lengths some (run_of_one t pairs tpm tol some) h.best;
  start = record { runs = let e = h.start.runs in omega arith; first = first };
}

pub start_to_next : (t : Terms) (pairs : List Pair) (m : ℕ) (s n l r : Start) → IsStartTo t pairs m s → IsRun t pairs (m + 1) → IsStart t (drop (m + 1) pairs) l
    → n.runs ≡ l.runs + 1 → n.first ≡ m + 1 → (n.runs ≤ s.runs → r ≡ n) → (s.runs < n.runs → r ≡ s) → IsStartTo t pairs (m + 1) r
start_to_next t pairs m s n l r h run k runs first few many = by_le n.runs s.runs
    (λ le. let P : Start → Type 0 = λ z. IsStartTo t pairs (m + 1) z in subst P (sym (few le)) (more le))
    (λ lt. let P : Start → Type 0 = λ z. IsStartTo t pairs (m + 1) z in subst P (sym (many lt)) (same lt))
  where
    more : n.runs ≤ s.runs → IsStartTo t pairs (m + 1) n
    more le =
        let a = h.start.runs in
        let b = k.start.runs in
        record {
          lengths = (m + 1) ∷ k.lengths;
          best = best_to_more t pairs m h.lengths k.lengths h.best run k.best (omega arith);
          start = record { runs = omega arith; first = first };
        }

    same : s.runs < n.runs → IsStartTo t pairs (m + 1) s
    same lt =
        let a = h.start.runs in
        let b = k.start.runs in
        record { lengths = h.lengths; best = best_to_same t pairs m h.lengths k.lengths h.best k.best (omega arith); start = h.start }

pub start_at_end : (t : Terms) (pairs : List Pair) (m : ℕ) (s : Start) → IsStartTo t pairs m s → ((l : ℕ) → m + 1 ≤ l → IsRun t pairs l → ⊥) → IsStart t pairs s
start_at_end t pairs m s h none = record { lengths = h.lengths; best = best_at_end t pairs m h.lengths h.best (λ l k. none l (omega arith)); start = h.start }

-- a run has no more pairs than there are
pub none_beyond : (t : Terms) (pairs : List Pair) (m : ℕ) → length pairs ≤ m → (l : ℕ) → m + 1 ≤ l → IsRun t pairs l → ⊥
none_beyond t pairs m h l k run = let w = run.within in omega arith

-- of no pairs the empty cutting is the best
pub best_of_none : (t : Terms) (pairs : List Pair) → pairs ≡ [] → IsBest t pairs []
best_of_none t pairs none = record { good = none; fewest = λ others g. omega arith; greatest = great }
  where
    great : (others : List ℕ) → IsGood t pairs others → length others ≡ 0 → IsNoGreater others []
    great [] g e = tt
    great (k ∷ others) g e = absurd (omega arith)

-- the table begins with the start of no pairs
pub start_of_none : (t : Terms) (pairs : List Pair) (s : Start) → s.runs ≡ 0 → s.first ≡ 0 → AreStarts t pairs (s ∷ [])
start_of_none t pairs s runs first zero r h =
    let P : Start → Type 0 = λ z. IsStart t (drop (length pairs - 0) pairs) z in
    let none : drop (length pairs - 0) pairs ≡ [] = drop_all (length pairs - 0) pairs (omega arith) in
    subst P (same_Some s r h) (record {
      lengths = [];
      best = best_of_none t (drop (length pairs - 0) pairs) none;
      start = record { runs = runs; first = first };
    })
start_of_none t pairs s runs first (suc n) r h = absurd (none-some r h)

-- a start more
pub starts_pushed : (t : Terms) (pairs : List Pair) (starts : List Start) (n : ℕ) (s : Start) → length starts ≡ n → AreStarts t pairs starts → IsStart t (drop (length pairs - n) pairs) s
    → AreStarts t pairs (starts ++ s ∷ [])
starts_pushed t pairs starts n s e a h m r k = elim (pushed starts s m r k) [ inl l ↦ a m r l | inr l ↦ new l.0 l.1 ]
  where
    new : m ≡ length starts → r ≡ s → IsStart t (drop (length pairs - m) pairs) r
    new i j =
        let P : ℕ → Type 0 = λ k. IsStart t (drop (length pairs - k) pairs) r in
        let Q : Start → Type 0 = λ z. IsStart t (drop (length pairs - n) pairs) z in
        subst P (let f : n ≡ m = omega arith in f) (subst Q (sym j) h)

-- the starts of the last pairs are those of the last pairs of a part
pub starts_of_part : (t : Terms) (pairs : List Pair) (starts : List Start) (k : ℕ) → k ≤ length pairs → length starts ≡ length pairs - k → AreStarts t pairs starts → AreStarts t (drop k pairs) starts
starts_of_part t pairs starts k l e a n s h =
    let w = slice_get_within starts n s h in
    let i : k + (length (drop k pairs) - n) ≡ length pairs - n = omega (arith, length-drop k pairs) in
    let j : drop (length (drop k pairs) - n) (drop k pairs) ≡ drop (length pairs - n) pairs = drop-drop (length (drop k pairs) - n) k pairs ∙ ap (λ z. drop z pairs) i in
    let P : List Pair → Type 0 = λ z. IsStart t z s in
    subst P (sym j) (a n s h)

-- the last pairs as the code takes them
pub starts_of_rest : (t : Terms) (pairs : List Pair) (starts : List Start) (k : ℕ) → k ≤ length pairs → length starts ≡ length pairs - k → AreStarts t pairs starts
    → AreStarts t (take (length pairs - k) (drop k pairs)) starts
starts_of_rest t pairs starts k l e a =
    let P : List Pair → Type 0 = λ z. AreStarts t z starts in
    subst P (sym (take_rest pairs k)) (starts_of_part t pairs starts k l e a)

pub start_of_rest : (t : Terms) (pairs : List Pair) (n : ℕ) (s : Start) → n < length pairs
    → IsStart t (take (length pairs - (length pairs - 1 - n)) (drop (length pairs - 1 - n) pairs)) s → IsStart t (drop (length pairs - (n + 1)) pairs) s
start_of_rest t pairs n s l h =
    let P : List Pair → Type 0 = λ z. IsStart t z s in
    let Q : ℕ → Type 0 = λ k. IsStart t (drop k pairs) s in
    subst Q (let e : length pairs - 1 - n ≡ length pairs - (n + 1) = omega arith in e) (subst P (take_rest pairs (length pairs - 1 - n)) h)
