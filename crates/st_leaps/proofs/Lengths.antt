-- The lengths of days: counts go up or down by one from a day to the next, or stay.
use Rattle.std.proofs.Common.{◌≡◌, ℕ, suc, ◌+◌, Bool, true, false, cond, ℤ, pos, negsuc, neg_ℤ, ◌+ℤ◌, ◌-ℤ◌, ◌≤ℤ◌, ◌<ℤ◌, int_le, unsigned_abs, List, [], ◌∷◌, Option, Some, None, refl, ap, ◌∙◌, subst, arith}
use Rattle.std.specs.Prelude.{slice_get}
use Rattle.std.specs.Option.{option_or}
use Rattle.std.proofs.lemmas.Int.{ints, by_lt_z}
use Rattle.st_leaps.specs.Label.{length_of}
use Rattle.st_leaps.specs.Table.{Rise, IsLeapTable, count_before, count_or, count_on, last_pair}
use Rattle.st_leaps.specs.declared.pair.LeapPair.{LeapPair}
use Rattle.st_leaps.proofs.CountLaws.{found_last}

pub record AreClose (a b : ℤ) : Type 0 where
  pub up : b ≤ℤ (a +ℤ pos 1)
  pub down : a ≤ℤ (b +ℤ pos 1)

one_apart : (z : ℤ) → unsigned_abs z ≡ 1 → (neg_ℤ (pos 1) ≤ℤ z) × (z ≤ℤ pos 1)
one_apart (pos n) e = (omega (arith, ints), omega (arith, ints))
one_apart (negsuc n) e = (omega (arith, ints), omega (arith, ints))

rise_tail : (p : LeapPair) (pairs : List LeapPair) → Rise (p ∷ pairs) → Rise pairs
rise_tail p pairs r = λ k a b at next.
    let e : suc (k + 1) ≡ suc k + 1 = omega arith in
    let P : ℕ → Type 0 = λ n. slice_get (p ∷ pairs) n ≡ Some b in
    r (suc k) a b at (subst P e next)

-- the count of the first pair is one more or one less than what stands before it
abbrev pub StepsFrom : ℤ → List LeapPair → Type 0
StepsFrom b [] = Unit {0}
StepsFrom b (p ∷ pairs) = unsigned_abs (pos p.count -ℤ b) ≡ 1

steps_on : (p : LeapPair) (pairs : List LeapPair) → Rise (p ∷ pairs) → StepsFrom (pos p.count) pairs
steps_on p [] r = tt
steps_on p (q ∷ pairs) r = (r 0 p q refl refl).step

count_last : (b day : ℤ) (p : LeapPair) (pairs : List LeapPair) → count_or b (last_pair (p ∷ pairs) day) ≡ count_or (cond (int_le p.day day) (pos p.count) b) (last_pair pairs day)
count_last b day p pairs =
    ap (λ o. count_or b o) (found_last (λ q. int_le q.day day) p pairs) ∙ by (last_pair pairs day) (int_le p.day day)
  where
    by : (o : Option LeapPair) (t : Bool) → count_or b (option_or o (cond t (Some p) None)) ≡ count_or (cond t (pos p.count) b) o
    by (Some q) t = refl
    by None true = refl
    by None false = refl

-- before the first date no pair counts
none_yet : (b day : ℤ) (p : LeapPair) (pairs : List LeapPair) → Rise (p ∷ pairs) → day <ℤ p.day → count_or b (last_pair (p ∷ pairs) day) ≡ b
none_yet b day p [] r early =
    let fails : int_le p.day day ≡ false = grind (arith, ints) in
    count_last b day p [] ∙ rw fails refl
none_yet b day p (q ∷ pairs) r early =
    let fails : int_le p.day day ≡ false = grind (arith, ints) in
    let step = (r 0 p q refl refl).later in
    count_last b day p (q ∷ pairs) ∙ rw fails (none_yet b day q pairs (rise_tail p (q ∷ pairs) r) (omega (arith, ints)))

-- at the first date its pair counts
first_counts : (b day : ℤ) (p : LeapPair) (pairs : List LeapPair) → Rise (p ∷ pairs) → p.day ≡ day → count_or b (last_pair (p ∷ pairs) day) ≡ pos p.count
first_counts b day p [] r at =
    let passes : int_le p.day day ≡ true = grind (arith, ints) in
    count_last b day p [] ∙ rw passes refl
first_counts b day p (q ∷ pairs) r at =
    let passes : int_le p.day day ≡ true = grind (arith, ints) in
    let step = (r 0 p q refl refl).later in
    count_last b day p (q ∷ pairs) ∙ rw passes (none_yet (pos p.count) day q pairs (rise_tail p (q ∷ pairs) r) (omega (arith, ints)))

both : (a b c d : ℤ) → a ≡ c → b ≡ d → AreClose c d → AreClose a b
both a b c d e f h =
    let up = h.up in
    let down = h.down in
    record { up = omega (arith, ints); down = omega (arith, ints) }

-- the count of a day and that of the next are close
close : (b day : ℤ) (pairs : List LeapPair) → Rise pairs → StepsFrom b pairs → AreClose (count_or b (last_pair pairs day)) (count_or b (last_pair pairs (day +ℤ pos 1)))
close b day [] r s = record { up = omega (arith, ints); down = omega (arith, ints) }
close b day (p ∷ pairs) r s =
    fork (close (pos p.count) day pairs (rise_tail p pairs r) (steps_on p pairs r))
  where
    fork : AreClose (count_or (pos p.count) (last_pair pairs day)) (count_or (pos p.count) (last_pair pairs (day +ℤ pos 1)))
        → AreClose (count_or b (last_pair (p ∷ pairs) day)) (count_or b (last_pair (p ∷ pairs) (day +ℤ pos 1)))
    fork more = by_lt_z day p.day
        (λ (early : day <ℤ p.day). by_lt_z (day +ℤ pos 1) p.day
        (λ (still : (day +ℤ pos 1) <ℤ p.day).
        both _ _ b b (none_yet b day p pairs r early) (none_yet b (day +ℤ pos 1) p pairs r still)
        (record { up = omega (arith, ints); down = omega (arith, ints) }))
        (λ (now : p.day ≤ℤ (day +ℤ pos 1)).
        let near = one_apart (pos p.count -ℤ b) s in
        let from = near.0 in
        let to = near.1 in
        both _ _ b (pos p.count) (none_yet b day p pairs r early) (first_counts b (day +ℤ pos 1) p pairs r (omega (arith, ints)))
        (record { up = omega (arith, ints); down = omega (arith, ints) })))
        (λ (late : p.day ≤ℤ day).
        let passes : int_le p.day day ≡ true = grind (arith, ints) in
        let next : int_le p.day (day +ℤ pos 1) ≡ true = grind (arith, ints) in
        both _ _ _ _ (count_last b day p pairs ∙ rw passes refl) (count_last b (day +ℤ pos 1) p pairs ∙ rw next refl) more)

steps_from_first : (pairs : List LeapPair) → StepsFrom (count_before pairs) pairs
steps_from_first [] = tt
steps_from_first (p ∷ pairs) =
    let one : pos p.count -ℤ (pos p.count -ℤ pos 1) ≡ pos 1 = omega (arith, ints) in
    ap (λ (z : ℤ). unsigned_abs z) one

pub day_lengths : (pairs : List LeapPair) (day : ℤ) → IsLeapTable pairs
    → (pos 86_399 ≤ℤ length_of (count_on pairs) day) × (length_of (count_on pairs) day ≤ℤ pos 86_401)
unfolding count_on
day_lengths pairs day t =
    let c = close (count_before pairs) day pairs t.rise (steps_from_first pairs) in
    let up = c.up in
    let down = c.down in
    (omega (arith, ints), omega (arith, ints))
