-- Two ways to keep the same rules that come to the same.
use Rattle.std.proofs.Common.{List, [], ◌∷◌, ◌++◌, subst}
use Rattle.st_rules.specs.Rules.{AreKept, IsFirstBroken}

module _ {R : Type 0} where
  -- two ways to keep the rules of a list that come to the same
  abbrev pub Alike : (R → Type 0) → (R → Type 0) → List R → Type 0
  Alike K L [] = Unit {0}
  Alike K L (r ∷ more) = ((K r → L r) × (L r → K r)) × Alike K L more

  pub alike_both : (K L : R → Type 0) (xs ys : List R) → Alike K L xs → Alike K L ys → Alike K L (xs ++ ys)
  alike_both K L [] ys h k = k
  alike_both K L (x ∷ xs) ys h k = (h.0, alike_both K L xs ys h.1 k)

  kept_before : (K L : R → Type 0) (before after : List R) → Alike K L (before ++ after) → AreKept K before → AreKept L before
  kept_before K L [] after h k = tt
  kept_before K L (r ∷ before) after h k = (h.0.0 k.0, kept_before K L before after h.1 k.1)

  rule_before : (K L : R → Type 0) (before after : List R) (r : R) → Alike K L (before ++ (r ∷ after)) → L r → K r
  rule_before K L [] after r h l = h.0.1 l
  rule_before K L (s ∷ before) after r h l = rule_before K L before after r h.1 l

  pub kept_along : (K L : R → Type 0) (rules : List R) → Alike K L rules → AreKept K rules → AreKept L rules
  kept_along K L [] h k = tt
  kept_along K L (r ∷ rules) h k = (h.0.0 k.0, kept_along K L rules h.1 k.1)

  pub first_along : (K L : R → Type 0) (rules : List R) (r : R) → Alike K L rules → IsFirstBroken K rules r → IsFirstBroken L rules r
  first_along K L rules r h f =
      let g = subst (λ (xs : List R). Alike K L xs) f.stands h in
      record {
        before = f.before;
        after = f.after;
        stands = f.stands;
        kept = kept_before K L f.before (r ∷ f.after) g f.kept;
        broken = λ l. f.broken (rule_before K L f.before f.after r g l);
      }
