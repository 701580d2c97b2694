-- Lists of rules: all of them kept, and the first one that is broken, which is one.
use Rattle.std.proofs.Common.{◌≡◌, ℕ, zero, suc, ◌+◌, ◌≤◌, ◌<◌, List, [], ◌∷◌, ◌++◌, refl, sym, ◌∙◌, ap, subst, inl, inr, append_assoc, arith}
use Rattle.std.proofs.lemmas.Bool.{cases_lt}
use Rattle.st_rules.specs.Rules.{AreKept, IsFirstBroken, rules_at}

module _ {R : Type 0} (K : R → Type 0) where
  heads : (a b : R) (xs ys : List R) → a ∷ xs ≡ b ∷ ys → a ≡ b
  heads a b xs ys e = cc

  tails : (a b : R) (xs ys : List R) → a ∷ xs ≡ b ∷ ys → xs ≡ ys
  tails a b xs ys e = cc

  -- rules in front and after
  pub kept_both : (xs ys : List R) → AreKept K xs → AreKept K ys → AreKept K (xs ++ ys)
  kept_both [] ys h k = k
  kept_both (x ∷ xs) ys h k = (h.0, kept_both xs ys h.1 k)

  pub kept_front : (xs ys : List R) → AreKept K (xs ++ ys) → AreKept K xs
  kept_front [] ys h = tt
  kept_front (x ∷ xs) ys h = (h.0, kept_front xs ys h.1)

  pub kept_back : (xs ys : List R) → AreKept K (xs ++ ys) → AreKept K ys
  kept_back [] ys h = h
  kept_back (x ∷ xs) ys h = kept_back xs ys h.1

  kept_at : (before after : List R) (r : R) → AreKept K (before ++ (r ∷ after)) → K r
  kept_at [] after r h = h.0
  kept_at (b ∷ before) after r h = kept_at before after r h.1

  pub none_broken : (rules : List R) (r : R) → AreKept K rules → IsFirstBroken K rules r → ⊥
  none_broken rules r h f = f.broken (kept_at f.before f.after r (subst (λ (xs : List R). AreKept K xs) f.stands h))

  -- of two splits of one list at broken rules, after rules that are kept
  one_at : (before before' after after' : List R) (r s : R) → before ++ (r ∷ after) ≡ before' ++ (s ∷ after')
      → AreKept K before → AreKept K before' → (K r → ⊥) → (K s → ⊥) → r ≡ s
  one_at [] [] after after' r s e h k m n = heads r s after after' e
  one_at [] (b ∷ before') after after' r s e h k m n = absurd (m (subst (λ x. K x) (sym (heads r b after (before' ++ (s ∷ after')) e)) k.0))
  one_at (b ∷ before) [] after after' r s e h k m n = absurd (n (subst (λ x. K x) (heads b s (before ++ (r ∷ after)) after' e) h.0))
  one_at (b ∷ before) (b' ∷ before') after after' r s e h k m n =
      one_at before before' after after' r s (tails b b' (before ++ (r ∷ after)) (before' ++ (s ∷ after')) e) h.1 k.1 m n

  pub one_first : (rules : List R) (r s : R) → IsFirstBroken K rules r → IsFirstBroken K rules s → r ≡ s
  one_first rules r s f g = one_at f.before g.before f.after g.after r s (sym f.stands ∙ g.stands) f.kept g.kept f.broken g.broken

  -- of a list that is written out
  pub first_at : (before after : List R) (r : R) → AreKept K before → (K r → ⊥) → IsFirstBroken K (before ++ (r ∷ after)) r
  first_at before after r k b = record { before = before; after = after; stands = refl; kept = k; broken = b }

  pub first_in_front : (xs ys : List R) (r : R) → IsFirstBroken K xs r → IsFirstBroken K (xs ++ ys) r
  first_in_front xs ys r f = record {
    before = f.before;
    after = f.after ++ ys;
    stands = ap (λ (zs : List R). zs ++ ys) f.stands ∙ append_assoc f.before (r ∷ f.after) ys;
    kept = f.kept;
    broken = f.broken;
  }

  pub first_after : (xs ys : List R) (r : R) → AreKept K xs → IsFirstBroken K ys r → IsFirstBroken K (xs ++ ys) r
  first_after xs ys r h f = record {
    before = xs ++ f.before;
    after = f.after;
    stands = ap (λ (zs : List R). xs ++ zs) f.stands ∙ sym (append_assoc xs f.before (r ∷ f.after));
    kept = kept_both xs f.before h f.kept;
    broken = f.broken;
  }

  rest_from : (xs ys before after : List R) (r : R) → xs ++ ys ≡ before ++ (r ∷ after) → AreKept K xs → AreKept K before → (K r → ⊥)
      → IsFirstBroken K ys r
  rest_from [] ys before after r e h k b = record { before = before; after = after; stands = e; kept = k; broken = b }
  rest_from (x ∷ xs) ys [] after r e h k b = absurd (b (subst (λ s. K s) (heads x r (xs ++ ys) after e) h.0))
  rest_from (x ∷ xs) ys (c ∷ before) after r e h k b = rest_from xs ys before after r (tails x c (xs ++ ys) (before ++ (r ∷ after)) e) h.1 k.1 b

  -- where the rules in front are kept, the first broken one is one of the others
  pub first_of_rest : (xs ys : List R) (r : R) → AreKept K xs → IsFirstBroken K (xs ++ ys) r → IsFirstBroken K ys r
  first_of_rest xs ys r h f = rest_from xs ys f.before f.after r f.stands h f.kept f.broken

  -- rules of places in turn
  module _ (of : ℕ → List R) where
    pub places_kept : (place n : ℕ) → ((i : ℕ) → place ≤ i → i < n + place → AreKept K (of i)) → AreKept K (rules_at of place n)
    places_kept place zero h = tt
    places_kept place (suc n) h =
        kept_both (of place) (rules_at of (suc place) n) (h place (omega arith) (omega arith))
        (places_kept (suc place) n (λ i l m. h i (omega (arith, l)) (omega (arith, m))))

    pub place_kept : (place n i : ℕ) → place ≤ i → i < n + place → AreKept K (rules_at of place n) → AreKept K (of i)
    place_kept place zero i l m h = absurd (omega (arith, l, m))
    place_kept place (suc n) i l m h =
        elim (cases_lt place i) [
          | inl before ↦ place_kept (suc place) n i (omega (arith, before)) (omega (arith, m)) (kept_back (of place) (rules_at of (suc place) n) h)
          | inr now ↦ subst (λ j. AreKept K (of j)) (here place i l now) (kept_front (of place) (rules_at of (suc place) n) h)
        ]
      where
        here : (place i : ℕ) → place ≤ i → i ≤ place → place ≡ i
        here place i l m = omega (arith, l, m)

    -- where the rules of the places before are kept, the first broken rule of a place is that of all
    pub first_of_place : (place n i : ℕ) (r : R) → i < n → ((j : ℕ) → place ≤ j → j < i + place → AreKept K (of j))
        → IsFirstBroken K (of (i + place)) r → IsFirstBroken K (rules_at of place n) r
    first_of_place place zero i r l h f = absurd (omega (arith, l))
    first_of_place place (suc n) zero r l h f =
        let here : 0 + place ≡ place = omega arith in
        first_in_front (of place) (rules_at of (suc place) n) r (subst (λ j. IsFirstBroken K (of j) r) here f)
    first_of_place place (suc n) (suc i) r l h f =
        first_after (of place) (rules_at of (suc place) n) r (h place (omega arith) (omega arith))
        (first_of_place (suc place) n i r (omega (arith, l)) (λ j g m. h j (omega (arith, g)) (omega (arith, m))) (subst (λ j. IsFirstBroken K (of j) r) (moved i place) f))
      where
        moved : (i place : ℕ) → suc i + place ≡ i + suc place
        moved i place = omega arith
