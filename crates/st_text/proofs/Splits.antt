-- The first line of bytes, by the place of the first line feed.
use Rattle.std.proofs.Common.{◌≡◌, ℕ, ◌+◌, ◌-◌, ◌<◌, ◌==◌, Bool, true, false, cond, List, [], ◌∷◌, length, map, take, drop, Some, None, refl, sym, ◌∙◌, ap, arith, nat_lt, subst}
use Rattle.std.specs.List.{slice_split, position, position_or_len}
use Rattle.std.proofs.lemmas.List.Splits.{slice_split_first, slice_split_none, length-slice_split}
use Rattle.std.proofs.lemmas.List.{take_rest, drop_all}
use Rattle.std.proofs.lemmas.List.Sums.{fails_before_first}
use borrow.Author.Tests.{ltb-true, ltb-false}
use Rattle.std.proofs.lemmas.Bool.Decides.{nat_tests}
use Rattle.st_text.specs.Lines.{raw_lines, without_last_empty, without_cr, lines_of}

some_from : (b : Bool) (n i : ℕ) → cond b (Some n) None ≡ Some i → (b ≡ true) × (n ≡ i)
some_from true n i h = (refl, cc)
some_from false n i h = absurd (cc)

none_from : (b : Bool) (n : ℕ) → cond b (Some n) None ≡ None → b ≡ false
none_from true n h = absurd (cc)
none_from false n h = refl

keeps_first : (x : List ℕ) (parts : List (List ℕ)) → 0 < length parts → without_last_empty (x ∷ parts) ≡ x ∷ without_last_empty parts
keeps_first x [] h = absurd (omega arith)
keeps_first x (y ∷ more) h = refl

one_part : (x : List ℕ) → 0 < length x → without_last_empty (x ∷ []) ≡ x ∷ []
one_part [] h = absurd (omega arith)
one_part (b ∷ bs) h = grind (arith, nat_tests)

first_at : (bytes : List ℕ) → position_or_len (λ b. b == 10) bytes < length bytes
    → raw_lines bytes ≡ take (position_or_len (λ b. b == 10) bytes) bytes ∷ raw_lines (drop (position_or_len (λ b. b == 10) bytes + 1) bytes)
first_at bytes h =
    let rest = drop (position_or_len (λ b. b == 10) bytes + 1) bytes in
    ap without_last_empty (slice_split_first (λ b. b == 10) bytes 0 h)
    ∙ keeps_first (take (position_or_len (λ b. b == 10) bytes) bytes) (slice_split (λ b. b == 10) rest) (omega (arith, length-slice_split (λ b. b == 10) rest))

pub raw_lines-at : (bytes : List ℕ) (i : ℕ) → position (λ b. b == 10) bytes ≡ Some i → raw_lines bytes ≡ take i bytes ∷ raw_lines (drop (i + 1) bytes)
raw_lines-at bytes i h =
    let parts = some_from (nat_lt (position_or_len (λ b. b == 10) bytes) (length bytes)) (position_or_len (λ b. b == 10) bytes) i h in
    let at = first_at bytes (ltb-true _ _ parts.0) in
    subst (λ (n : ℕ). raw_lines bytes ≡ take n bytes ∷ raw_lines (drop (n + 1) bytes)) parts.1 at

pub raw_lines-none : (bytes : List ℕ) → 0 < length bytes → position (λ b. b == 10) bytes ≡ None → raw_lines bytes ≡ bytes ∷ []
raw_lines-none bytes some h =
    let beyond = ltb-false _ _ (none_from (nat_lt (position_or_len (λ b. b == 10) bytes) (length bytes)) (position_or_len (λ b. b == 10) bytes) h) in
    ap without_last_empty (slice_split_none (λ b. b == 10) bytes (λ k d l. fails_before_first (λ b. b == 10) bytes k d (omega arith)))
    ∙ one_part bytes some

-- the same, as the code cuts the bytes
pub first_line : (bytes : List ℕ) (i : ℕ) → position (λ b. b == 10) bytes ≡ Some i → raw_lines bytes ≡ take i bytes ∷ raw_lines (take (length bytes - (i + 1)) (drop (i + 1) bytes))
first_line bytes i h = raw_lines-at bytes i h ∙ ap (λ (rest : List ℕ). take i bytes ∷ raw_lines rest) (sym (take_rest bytes (i + 1)))

pub only_line : (bytes : List ℕ) → 0 < length bytes → position (λ b. b == 10) bytes ≡ None → raw_lines bytes ≡ bytes ∷ raw_lines (take (length bytes - length bytes) (drop (length bytes) bytes))
only_line bytes some h =
    raw_lines-none bytes some h
    ∙ ap (λ (rest : List ℕ). bytes ∷ raw_lines rest) (sym (take_rest bytes (length bytes) ∙ drop_all (length bytes) bytes (omega arith)))

-- a file's lines, one line on and at its end
pub lines_of-first : (bytes first rest : List ℕ) → raw_lines bytes ≡ first ∷ raw_lines rest → lines_of bytes ≡ without_cr first ∷ lines_of rest
unfolding lines_of
lines_of-first bytes first rest e = ap (map without_cr) e

pub lines_of-nil : (bytes : List ℕ) → length bytes ≡ 0 → lines_of bytes ≡ []
unfolding lines_of
lines_of-nil [] e = refl
lines_of-nil (b ∷ bs) e = absurd (omega arith)
