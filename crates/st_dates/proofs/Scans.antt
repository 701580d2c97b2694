-- How the code cuts a text, and parts with dashes between them, from two cuts.
use Rattle.std.proofs.Common.{◌≡◌, ℕ, List, ◌∷◌, ◌++◌, append_assoc}
use Rattle.st_text.proofs.Runs.{leading-take, behind-drop, rest}

pub ruleset cut = (leading-take, behind-drop, rest)

-- three parts with dashes between them and what follows
pub glued_three : (a b c rest text mid : List ℕ) → text ≡ b ++ (45 ∷ mid) → mid ≡ c ++ rest → a ++ (45 ∷ text) ≡ (a ++ (45 ∷ (b ++ (45 ∷ c)))) ++ rest
glued_three a b c rest text mid e f = rw (e, f) (simp append_assoc)

pub glued_two : (a b rest text : List ℕ) → text ≡ b ++ rest → a ++ (45 ∷ text) ≡ (a ++ (45 ∷ b)) ++ rest
glued_two a b rest text e = rw e (simp append_assoc)
