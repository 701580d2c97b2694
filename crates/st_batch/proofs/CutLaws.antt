-- How texts that follow a begun line end lines.
use Rattle.std.proofs.Common.{◌≡◌, ℕ, suc, ◌+◌, ◌-◌, ◌<◌, ◌≤◌, ◌==◌, Bool, true, false, ◌||◌, cond, not, List, [], ◌∷◌, ◌++◌, length, take, drop, Some, None, refl, sym, ◌∙◌, ap, arith, nat_lt, subst, append_assoc, length-append}
use Rattle.std.specs.List.{list_any, position, position_or_len}
use Rattle.std.proofs.Math.Seq.{take-append_seam, drop-append-add}
use Rattle.std.proofs.lemmas.List.{append_cancel_right, take_rest}
use Rattle.std.proofs.lemmas.List.Folds.{list_any-append}
use borrow.Author.Tests.{ltb-true, ltb-false, lt-ltb, le-ltb, eqb-true}
use Rattle.st_text.specs.Lines.{HasNoFeed, lines_of, without_cr}
use Rattle.st_text.proofs.LineLaws.{line-ends, no-line}
use Rattle.st_batch.specs.Laws.{OneEnding}
use Rattle.st_batch.specs.LinesSteps.{CutsAtFeed, Cuts, EndsLines}

-- two texts without a line feed have none together
pub joined_no_feed : (a b : List ℕ) → HasNoFeed a → HasNoFeed b → HasNoFeed (a ++ b)
joined_no_feed a b p q = list_any-append (λ c. c == 10) a b ∙ ap (λ t. t || list_any (λ c. c == 10) b) p ∙ q

-- a byte that is no line feed stands before a text that is cut
cut_onto : (b : ℕ) (bs : List ℕ) (n i j : ℕ) → (b == 10) ≡ false → i ≡ suc n → j ≡ suc (n + 1)
    → CutsAtFeed bs (take n bs) (drop (n + 1) bs) → CutsAtFeed (b ∷ bs) (take i (b ∷ bs)) (drop j (b ∷ bs))
cut_onto b bs n i j e p q cut =
    let whole : b ∷ bs ≡ b ∷ (take n bs ++ (10 ∷ drop (n + 1) bs)) = ap (λ (l : List ℕ). b ∷ l) cut.whole in
    let none : HasNoFeed (b ∷ take n bs) = ap (λ (t : Bool). t || list_any (λ c. c == 10) (take n bs)) e ∙ cut.no_feed in
    rw (p, q) (record { whole = whole; no_feed = none })

-- a text that has a line feed is cut at its first one
cut_first : (text : List ℕ) → position_or_len (λ b. b == 10) text < length text
    → CutsAtFeed text (take (position_or_len (λ b. b == 10) text) text) (drop (position_or_len (λ b. b == 10) text + 1) text)
cut_first [] h = absurd (omega arith)
cut_first (b ∷ bs) h = by (b == 10) refl h (cut_first bs)
  where
    by : (t : Bool) → (b == 10) ≡ t → cond (not t) (1 + position_or_len (λ c. c == 10) bs) 0 < length (b ∷ bs)
        → (position_or_len (λ c. c == 10) bs < length bs
        → CutsAtFeed bs (take (position_or_len (λ c. c == 10) bs) bs) (drop (position_or_len (λ c. c == 10) bs + 1) bs))
        → CutsAtFeed (b ∷ bs) (take (cond (not t) (1 + position_or_len (λ c. c == 10) bs) 0) (b ∷ bs))
        (drop (cond (not t) (1 + position_or_len (λ c. c == 10) bs) 0 + 1) (b ∷ bs))
    by true e less more = record { whole = ap (λ (n : ℕ). n ∷ bs) (eqb-true b 10 e); no_feed = refl }
    by false e less more = cut_onto b bs (position_or_len (λ c. c == 10) bs) _ _ e (omega arith) (omega arith) (more (omega arith))

some_from : (b : Bool) (n i : ℕ) → cond b (Some n) None ≡ Some i → (b ≡ true) × (n ≡ i)
some_from true n i h = (refl, cc)
some_from false n i h = absurd (cc)

none_from : (b : Bool) (n : ℕ) → cond b (Some n) None ≡ None → b ≡ false
none_from true n h = absurd (cc)
none_from false n h = refl

-- the same, as the code cuts a text
pub cut_at : (text : List ℕ) (i : ℕ) → position (λ b. b == 10) text ≡ Some i → CutsAtFeed text (take i text) (take (length text - (i + 1)) (drop (i + 1) text))
cut_at text i h =
    let place = position_or_len (λ b. b == 10) text in
    let parts = some_from (nat_lt place (length text)) place i h in
    let cut = cut_first text (ltb-true _ _ parts.0) in
    rw (take_rest text (i + 1)) (subst (λ (n : ℕ). CutsAtFeed text (take n text) (drop (n + 1) text)) parts.1 cut)

-- a text whose first line feed would stand after it has none
no_feed_within : (text : List ℕ) → length text ≤ position_or_len (λ b. b == 10) text → HasNoFeed text
no_feed_within [] h = refl
no_feed_within (b ∷ bs) h = by (b == 10) h (no_feed_within bs)
  where
    by : (t : Bool) → length (b ∷ bs) ≤ cond (not t) (1 + position_or_len (λ c. c == 10) bs) 0
        → (length bs ≤ position_or_len (λ c. c == 10) bs → HasNoFeed bs) → (t || list_any (λ c. c == 10) bs) ≡ false
    by true far more = absurd (omega arith)
    by false far more = more (omega arith)

-- a text with no place of a line feed has none
pub no_feed_from : (text : List ℕ) → position (λ b. b == 10) text ≡ None → HasNoFeed text
no_feed_from text h =
    no_feed_within text (ltb-false _ _ (none_from (nat_lt (position_or_len (λ b. b == 10) text) (length text)) (position_or_len (λ b. b == 10) text) h))

-- no text ends no line
pub cuts-none : (begun : List ℕ) → Cuts begun [] [] begun
cuts-none begun = λ later. refl

-- two texts in a row end the lines of both
pub cuts-join : (a b c s t : List ℕ) (xs ys : List (List ℕ)) → Cuts a s xs b → Cuts b t ys c → Cuts a (s ++ t) (xs ++ ys) c
cuts-join a b c s t xs ys p q = λ later.
    ap (λ (l : List ℕ). lines_of (a ++ l)) (append_assoc s t later)
    ∙ p (t ++ later)
    ∙ ap (λ (l : List (List ℕ)). xs ++ l) (q later)
    ∙ sym (append_assoc xs ys (lines_of (c ++ later)))

-- a text that ends no line is begun with the rest
pub cuts-begun : (begun text : List ℕ) → Cuts begun text [] (begun ++ text)
cuts-begun begun text = λ later. ap lines_of (sym (append_assoc begun text later))

-- a line feed ends one line
pub cuts-line : (begun end : List ℕ) → HasNoFeed begun → HasNoFeed end → Cuts begun (end ++ (10 ∷ [])) (without_cr (begun ++ end) ∷ []) []
cuts-line begun end p q = λ later.
    ap (λ (l : List ℕ). lines_of (begun ++ l)) (append_assoc end (10 ∷ []) later)
    ∙ ap lines_of (sym (append_assoc begun end (10 ∷ later)))
    ∙ line-ends (begun ++ end) later (joined_no_feed begun end p q)

-- a text ends the lines that it is cut into
pub ends-cut : (a b s : List ℕ) (xs : List (List ℕ)) → Cuts a s xs b → EndsLines a s xs
ends-cut a b s xs p = λ later. (lines_of (b ++ later), p later)

-- any text ends no lines and perhaps more
pub ends-none : (a s : List ℕ) → EndsLines a s []
ends-none a s = λ later. (lines_of (a ++ (s ++ later)), refl)

-- a longer text ends the same lines and perhaps more
pub ends-longer : (a s t : List ℕ) (xs : List (List ℕ)) → EndsLines a s xs → EndsLines a (s ++ t) xs
ends-longer a s t xs p = λ later.
    ((p (t ++ later)).0, ap (λ (l : List ℕ). lines_of (a ++ l)) (append_assoc s t later) ∙ (p (t ++ later)).1)

-- a text that is cut into lines, and one after it, end the lines of both
pub ends-join : (a b s t : List ℕ) (xs ys : List (List ℕ)) → Cuts a s xs b → EndsLines b t ys → EndsLines a (s ++ t) (xs ++ ys)
ends-join a b s t xs ys p q = λ later.
    let rest = q later in (
      rest.0,
      ap (λ (l : List ℕ). lines_of (a ++ l)) (append_assoc s t later)
          ∙ p (t ++ later)
          ∙ ap (λ (l : List (List ℕ)). xs ++ l) rest.1
          ∙ sym (append_assoc xs ys rest.0),
    )

-- lists that are one with an element after them are one
unsnoc : (xs ys : List (List ℕ)) (x y : List ℕ) → xs ++ (x ∷ []) ≡ ys ++ (y ∷ []) → xs ≡ ys
unsnoc xs ys x y e =
    let long : length xs ≡ length ys = omega (arith, ap length e, length-append xs (x ∷ []), length-append ys (y ∷ [])) in
    sym (take-append_seam xs (x ∷ [])) ∙ ap (λ (n : ℕ). take n (xs ++ (x ∷ []))) long ∙ ap (λ (l : List (List ℕ)). take (length ys) l) e ∙ take-append_seam ys (y ∷ [])

-- a begun line that is ended is the only one
line-alone : (begun : List ℕ) → HasNoFeed begun → lines_of (begun ++ (10 ∷ [])) ≡ without_cr begun ∷ []
line-alone begun h = line-ends begun [] h ∙ ap (λ (l : List (List ℕ)). without_cr begun ∷ l) no-line

-- what was read of an input ends one list of lines: a line feed after it ends the one that has begun, and no more
pub one-ending : OneEnding
one-ending input left lines other p q =
    let same : p.read ≡ q.read = append_cancel_right p.read q.read left (sym p.consumed ∙ q.consumed) in
    let whole : lines ++ (without_cr p.begun ∷ []) ≡ other ++ (without_cr q.begun ∷ []) =
    sym (p.first (10 ∷ []) ∙ ap (λ (l : List (List ℕ)). lines ++ l) (line-alone p.begun p.unended))
    ∙ ap (λ (r : List ℕ). lines_of (r ++ (10 ∷ []))) same
    ∙ q.first (10 ∷ [])
    ∙ ap (λ (l : List (List ℕ)). other ++ l) (line-alone q.begun q.unended) in
    unsnoc lines other (without_cr p.begun) (without_cr q.begun) whole
