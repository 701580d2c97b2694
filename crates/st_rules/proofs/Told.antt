-- What can be told: it is so, or it isn't. Rules that can be told are kept, or have a first one that is broken.
use Rattle.std.proofs.Common.{◌≡◌, ℕ, ◌≤◌, ◌⊎◌, inl, inr, refl, ap, arith, List, [], ◌∷◌}
use Rattle.std.specs.List.{All}
use Rattle.std.proofs.lemmas.Bool.{cases_lt}
use Rattle.std.proofs.lemmas.List.Elements.{All-nil, All-cons, All-head, All-tail}
use Rattle.st_rules.specs.Rules.{AreKept, IsFirstBroken}

abbrev pub IsTold : Type 0 → Type 0
IsTold P = P ⊎ (P → ⊥)

pub told_along : (P Q : Type 0) → (P → Q) → (Q → P) → IsTold P → IsTold Q
told_along P Q to from (inl p) = inl (to p)
told_along P Q to from (inr n) = inr (λ q. n (from q))

pub told_both : (P Q : Type 0) → IsTold P → IsTold Q → IsTold (P × Q)
told_both P Q (inl p) (inl q) = inl (p, q)
told_both P Q (inl p) (inr n) = inr (λ h. n h.1)
told_both P Q (inr n) q = inr (λ h. n h.0)

pub told_le : (m n : ℕ) → IsTold (m ≤ n)
told_le m n = elim (cases_lt n m) [ inl l ↦ inr (λ h. absurd (omega (arith, h, l))) | inr g ↦ inl g ]

pub told_same : (m n : ℕ) → IsTold (m ≡ n)
told_same m n = told_along ((m ≤ n) × (n ≤ m)) (m ≡ n) (λ h. omega (arith, h.0, h.1)) (λ e. (omega (arith, e), omega (arith, e))) (told_both (m ≤ n) (n ≤ m) (told_le m n) (told_le n m))

pub told_all : {X : Type 0} (P : X → Type 0) → ((x : X) → IsTold (P x)) → (xs : List X) → IsTold (All P xs)
told_all P told [] = inl (All-nil P)
told_all P told (x ∷ xs) =
    elim (told x) [
      | inr n ↦ inr (λ h. n (All-head P x xs h))
      | inl p ↦ elim (told_all P told xs) [ inl h ↦ inl (All-cons P x xs p h) | inr n ↦ inr (λ h. n (All-tail P x xs h)) ]
    ]

pub kept_or_broken : {R : Type 0} (Keeps : R → Type 0) → ((rule : R) → IsTold (Keeps rule)) → (rules : List R)
    → AreKept Keeps rules ⊎ ((rule : R) × IsFirstBroken Keeps rules rule)
kept_or_broken Keeps told [] = inl tt
kept_or_broken Keeps told (rule ∷ more) =
    elim (told rule) [
      | inr broken ↦ inr (rule, record { before = []; after = more; stands = refl; kept = tt; broken = broken })
      | inl kept ↦ elim (kept_or_broken Keeps told more) [
        | inl h ↦ inl (kept, h)
        | inr f ↦ inr (
          f.0,
          record {
            before = rule ∷ f.1.before;
            after = f.1.after;
            stands = ap (λ (rules : List _). rule ∷ rules) f.1.stands;
            kept = (kept, f.1.kept);
            broken = f.1.broken;
          },
        )
      ]
    ]
