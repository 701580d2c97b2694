-- Rules that stand in an order, and the first of them that is broken.
use Rattle.std.specs.Prelude.{◌≡◌, ℕ, zero, suc, List, [], ◌∷◌, ◌++◌}

-- every rule of the list is kept
abbrev pub AreKept : {R : Type 0} → (R → Type 0) → List R → Type 0
AreKept Keeps [] = Unit {0}
AreKept Keeps (rule ∷ more) = Keeps rule × AreKept Keeps more

-- the rule is broken, and all that stand before it are kept
pub record IsFirstBroken {R : Type 0} (Keeps : R → Type 0) (rules : List R) (rule : R) : Type 0 where
  pub before : List R
  pub after : List R
  pub stands : rules ≡ before ++ (rule ∷ after)
  pub kept : AreKept Keeps before
  pub broken : Keeps rule → ⊥

-- the rules of so many places in turn, from this place on
abbrev pub rules_at : {R : Type 0} → (ℕ → List R) → ℕ → ℕ → List R
rules_at of place zero = []
rules_at of place (suc more) = of place ++ rules_at of (suc place) more
