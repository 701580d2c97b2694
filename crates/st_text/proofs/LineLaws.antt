-- How bytes are cut into lines.
use Rattle.std.proofs.Common.{◌≡◌, ℕ, ◌+◌, ◌<◌, ◌≤◌, ◌==◌, Bool, true, false, ◌||◌, cond, not, List, [], ◌∷◌, ◌++◌, length, Some, None, refl, ◌∙◌, ap, arith, nat_lt, length-append}
use Rattle.std.specs.List.{list_any, position_or_len}
use Rattle.std.proofs.Math.Seq.{take-append_seam, drop-append-add}
use borrow.Author.Tests.{lt-ltb, le-ltb}
use Rattle.st_text.specs.Laws.{LastLine, LineEnds, NoLine}
use Rattle.st_text.specs.Lines.{HasNoFeed, lines_of, without_cr}
use Rattle.st_text.proofs.Splits.{raw_lines-at, raw_lines-none, lines_of-first, lines_of-nil}

-- the place of the line feed after a text that has none
feed_behind : (line rest : List ℕ) → HasNoFeed line → position_or_len (λ b. b == 10) (line ++ (10 ∷ rest)) ≡ length line
feed_behind [] rest h = refl
feed_behind (b ∷ bs) rest h = by (b == 10) h (feed_behind bs rest)
  where
    by : (t : Bool) → (t || list_any (λ c. c == 10) bs) ≡ false
        → (HasNoFeed bs → position_or_len (λ c. c == 10) (bs ++ (10 ∷ rest)) ≡ length bs)
        → cond (not t) (1 + position_or_len (λ c. c == 10) (bs ++ (10 ∷ rest))) 0 ≡ length (b ∷ bs)
    by true e more = absurd (cc)
    by false e more = omega (arith, more e)

-- a text without a line feed has no place of one
no_feed_behind : (line : List ℕ) → HasNoFeed line → position_or_len (λ b. b == 10) line ≡ length line
no_feed_behind [] h = refl
no_feed_behind (b ∷ bs) h = by (b == 10) h (no_feed_behind bs)
  where
    by : (t : Bool) → (t || list_any (λ c. c == 10) bs) ≡ false
        → (HasNoFeed bs → position_or_len (λ c. c == 10) bs ≡ length bs)
        → cond (not t) (1 + position_or_len (λ c. c == 10) bs) 0 ≡ length (b ∷ bs)
    by true e more = absurd (cc)
    by false e more = omega (arith, more e)

to_some : (b : Bool) (n i : ℕ) → b ≡ true → n ≡ i → cond b (Some n) None ≡ Some i
to_some true n i p q = ap Some q
to_some false n i p q = absurd (cc)

to_none : (b : Bool) (n : ℕ) → b ≡ false → cond b (Some n) None ≡ None
to_none true n p = absurd (cc)
to_none false n p = refl

-- no bytes have no line
pub no-line : NoLine
no-line = lines_of-nil [] refl

-- the first line of a text is what stands before its first line feed
pub line-ends : LineEnds
line-ends line rest h =
    let text = line ++ (10 ∷ rest) in
    let n = position_or_len (λ b. b == 10) text in
    let place = feed_behind line rest h in
    let within : n < length text = omega (arith, place, length-append line (10 ∷ rest)) in
    let found = to_some (nat_lt n (length text)) n (length line) (lt-ltb _ _ within) place in
    let front = take-append_seam line (10 ∷ rest) in
    let behind = drop-append-add line (10 ∷ rest) 1 in
    lines_of-first text line rest (rw front at (rw behind at (raw_lines-at text (length line) found)))

-- a text without a line feed is one line
pub last-line : LastLine
last-line line some h =
    let n = position_or_len (λ b. b == 10) line in
    let place = no_feed_behind line h in
    let none = to_none (nat_lt n (length line)) n (le-ltb _ _ (omega (arith, place))) in
    lines_of-first line line [] (raw_lines-none line some none) ∙ ap (λ (l : List (List ℕ)). without_cr line ∷ l) no-line
