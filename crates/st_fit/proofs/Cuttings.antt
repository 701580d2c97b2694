-- The best cutting, found by the length of its first run: among the cuttings whose first run has at most m pairs, then
-- at most m + 1. Of a run nothing is used here but that it has a pair.
use Rattle.std.proofs.Common.{◌≡◌, ℕ, suc, ◌+◌, ◌<◌, ◌≤◌, inl, inr, List, [], ◌∷◌, length, drop, refl, sym, ap, subst, arith, length-drop}
use Rattle.st_fit.proofs.Places.{by_le}
use Rattle.st_fit.specs.declared.pair.Pair.{Pair}
use Rattle.st_fit.specs.declared.pair.Terms.{Terms}
use Rattle.st_fit.specs.Fit.{IsRun, IsGood, IsNoGreater, IsBest}
use Rattle.st_fit.specs.FitSteps.{first_of, IsBestTo}

no_greater_refl : (ls : List ℕ) → IsNoGreater ls ls
no_greater_refl [] = tt
no_greater_refl (l ∷ ls) = inr (refl, no_greater_refl ls)

no_greater_both : (xs ys : List ℕ) → length xs ≡ length ys → IsNoGreater xs ys → IsNoGreater ys xs → xs ≡ ys
no_greater_both [] [] e h k = refl
no_greater_both [] (b ∷ ys) e h k = absurd k
no_greater_both (a ∷ xs) [] e h k = absurd h
no_greater_both (a ∷ xs) (b ∷ ys) e h k =
    elim h [
      | inl l ↦ elim k [ inl m ↦ absurd (omega arith) | inr m ↦ absurd (omega (arith, m.0)) ]
      | inr l ↦ elim k [
        | inl m ↦ absurd (omega (arith, l.0))
        | inr m ↦ both a b xs ys l.0 (no_greater_both xs ys (omega arith) l.1 m.1)
      ]
    ]
  where
    both : (a b : ℕ) (xs ys : List ℕ) → a ≡ b → xs ≡ ys → ◌≡◌ {A = List ℕ} (a ∷ xs) (b ∷ ys)
    both a b xs ys h k = λ i. h i ∷ k i

-- there is one best cutting
pub best_is_one : (t : Terms) (pairs : List Pair) (xs ys : List ℕ) → IsBest t pairs xs → IsBest t pairs ys → xs ≡ ys
best_is_one t pairs xs ys h k =
    let m = h.fewest ys k.good in
    let n = k.fewest xs h.good in
    let e : length xs ≡ length ys = omega arith in
    no_greater_both xs ys e (k.greatest xs h.good e) (h.greatest ys k.good (sym e))

-- what is left of a best cutting after its first run is the best one of the pairs left
pub best_after : (t : Terms) (pairs : List Pair) (l : ℕ) (ls : List ℕ) → IsBest t pairs (l ∷ ls) → IsBest t (drop l pairs) ls
best_after t pairs l ls h = record {
  good = h.good.1;
  fewest = λ others g. let m = h.fewest (l ∷ others) (h.good.0, g) in omega arith;
  greatest = λ others g e. tail others (h.greatest (l ∷ others) (h.good.0, g) (ap suc e));
}
  where
    tail : (others : List ℕ) → IsNoGreater (l ∷ others) (l ∷ ls) → IsNoGreater others ls
    tail others m = elim m [ inl k ↦ absurd (omega arith) | inr k ↦ k.1 ]

-- a good cutting of some pairs has a first run
pub good_starts : (t : Terms) (pairs : List Pair) (ls : List ℕ) → 0 < length pairs → IsGood t pairs ls → 0 < length ls
good_starts t pairs [] some g = absurd (omega (arith, ap length g))
good_starts t pairs (l ∷ ls) some g = omega arith

-- each of its runs has a pair
pub good_short : (t : Terms) (pairs : List Pair) (ls : List ℕ) → IsGood t pairs ls → length ls ≤ length pairs
good_short t pairs [] g = omega arith
good_short t pairs (l ∷ ls) g = let h = good_short t (drop l pairs) ls g.1 in omega (arith, length-drop {A = Pair}, g.0.some, g.0.within)

-- a run of one pair first
pub best_to_one : (t : Terms) (pairs : List Pair) (ls : List ℕ) → 0 < length pairs → IsRun t pairs 1 → IsBest t (drop 1 pairs) ls → IsBestTo t pairs 1 (1 ∷ ls)
best_to_one t pairs ls some run h = record {
  good = (run, h.good);
  small = omega arith;
  fewest = few;
  greatest = great;
}
  where
    one : (k : ℕ) (others : List ℕ) → IsGood t pairs (k ∷ others) → k ≤ 1 → (k ≡ 1) × IsGood t (drop 1 pairs) others
    one k others g m =
        let e : k ≡ 1 = omega (arith, g.0.some) in
        let P : ℕ → Type 0 = λ n. IsGood t (drop n pairs) others in
        (e, subst P e g.1)

    few : (others : List ℕ) → IsGood t pairs others → first_of others ≤ 1 → length (1 ∷ ls) ≤ length others
    few [] g m = absurd (omega (arith, ap length g))
    few (k ∷ others) g m = let l = h.fewest others (one k others g m).1 in omega arith

    great : (others : List ℕ) → IsGood t pairs others → first_of others ≤ 1 → length others ≡ length (1 ∷ ls) → IsNoGreater others (1 ∷ ls)
    great [] g m e = tt
    great (k ∷ others) g m e =
        let o = one k others g m in
        inr (o.0, h.greatest others o.1 (omega arith))

-- a cutting with a longer first run, and no more runs
pub best_to_more : (t : Terms) (pairs : List Pair) (m : ℕ) (ls ks : List ℕ) → IsBestTo t pairs m ls → IsRun t pairs (m + 1)
    → IsBest t (drop (m + 1) pairs) ks → length ks + 1 ≤ length ls → IsBestTo t pairs (m + 1) ((m + 1) ∷ ks)
best_to_more t pairs m ls ks b run h short = record {
  good = (run, h.good);
  small = omega arith;
  fewest = few;
  greatest = great;
}
  where
    few : (others : List ℕ) → IsGood t pairs others → first_of others ≤ m + 1 → length ((m + 1) ∷ ks) ≤ length others
    few others g n = by_le (first_of others) m
        (λ l. let f = b.fewest others g l in omega arith)
        (λ l. same others g (omega arith))
      where
        same : (others : List ℕ) → IsGood t pairs others → first_of others ≡ m + 1 → length ((m + 1) ∷ ks) ≤ length others
        same [] g e = absurd (omega arith)
        same (k ∷ others) g e =
            let P : ℕ → Type 0 = λ n. IsGood t (drop n pairs) others in
            let f = h.fewest others (subst P e g.1) in
            omega arith

    great : (others : List ℕ) → IsGood t pairs others → first_of others ≤ m + 1 → length others ≡ length ((m + 1) ∷ ks) → IsNoGreater others ((m + 1) ∷ ks)
    great [] g n e = tt
    great (k ∷ others) g n e = by_le k m
        (λ l. inl (omega arith))
        (λ l.
        let f : k ≡ m + 1 = omega arith in
        let P : ℕ → Type 0 = λ n. IsGood t (drop n pairs) others in
        inr (f, h.greatest others (subst P f g.1) (omega arith)))

-- a longer first run with more runs leaves the best
pub best_to_same : (t : Terms) (pairs : List Pair) (m : ℕ) (ls ks : List ℕ) → IsBestTo t pairs m ls
    → IsBest t (drop (m + 1) pairs) ks → length ls < length ks + 1 → IsBestTo t pairs (m + 1) ls
best_to_same t pairs m ls ks b h long = record {
  good = b.good;
  small = let s = b.small in omega arith;
  fewest = few;
  greatest = great;
}
  where
    same : (k : ℕ) (others : List ℕ) → IsGood t pairs (k ∷ others) → k ≡ m + 1 → length ks ≤ length others
    same k others g e =
        let P : ℕ → Type 0 = λ n. IsGood t (drop n pairs) others in
        h.fewest others (subst P e g.1)

    few : (others : List ℕ) → IsGood t pairs others → first_of others ≤ m + 1 → length ls ≤ length others
    few [] g n = b.fewest [] g (omega arith)
    few (k ∷ others) g n = by_le k m
        (λ l. b.fewest (k ∷ others) g l)
        (λ l. let f = same k others g (omega arith) in omega arith)

    great : (others : List ℕ) → IsGood t pairs others → first_of others ≤ m + 1 → length others ≡ length ls → IsNoGreater others ls
    great [] g n e = tt
    great (k ∷ others) g n e = by_le k m
        (λ l. b.greatest (k ∷ others) g l e)
        (λ l. let f = same k others g (omega arith) in absurd (omega arith))

-- where no first run is longer, it is the best of all
pub best_at_end : (t : Terms) (pairs : List Pair) (m : ℕ) (ls : List ℕ) → IsBestTo t pairs m ls
    → ((l : ℕ) → m < l → IsRun t pairs l → ⊥) → IsBest t pairs ls
best_at_end t pairs m ls b none = record {
  good = b.good;
  fewest = λ others g. b.fewest others g (small others g);
  greatest = λ others g e. b.greatest others g (small others g) e;
}
  where
    small : (others : List ℕ) → IsGood t pairs others → first_of others ≤ m
    small [] g = omega arith
    small (k ∷ others) g = by_le k m (λ l. l) (λ l. absurd (none k l g.0))
