-- The counts of a table's days, and where a day's pair stands in the table.
use Rattle.std.proofs.Common.{◌≡◌, ℕ, zero, suc, ◌+◌, ◌-◌, ◌<◌, ◌≤◌, Bool, true, false, cond, ℤ, pos, neg_ℤ, ◌≤ℤ◌, int_le, List, [], ◌∷◌, length, get_or, reverse, Option, Some, None, refl, sym, ap, ◌∙◌, subst, arith}
use Rattle.std.specs.Prelude.{find, slice_get, IfSome}
use Rattle.std.specs.List.{All}
use Rattle.std.specs.List.Sorted.{IsPartitionPoint, IsPartitionedBy}
use Rattle.std.specs.Option.{option_or}
use Rattle.std.proofs.lemmas.Int.{ints}
use Rattle.std.proofs.lemmas.List.{reverse-append}
use Rattle.std.proofs.lemmas.List.Folds.{find-append}
use Rattle.std.proofs.lemmas.Option.{slice_get-get_or}
use Rattle.st_leaps.specs.Label.{AreCounts}
use Rattle.st_leaps.specs.Table.{IsInRange, IsStep, Rise, IsLeapTable, count_before, count_or, count_on, last_pair}
use Rattle.st_leaps.specs.declared.pair.LeapPair.{LeapPair}

-- what is found from the end
pub found_last : {X : Type 0} (f : X → Bool) (x : X) (xs : List X) → find f (reverse (x ∷ xs)) ≡ option_or (find f (reverse xs)) (cond (f x) (Some x) None)
found_last f x xs = ap (λ l. find f l) (reverse-append (x ∷ []) xs) ∙ find-append f (reverse xs) (x ∷ [])

-- the element before a place, if there is one
abbrev pub before : {X : Type 0} → List X → ℕ → Option X
before xs zero = None
before xs (suc i) = slice_get xs i

point_tail : {X : Type 0} (f : X → Bool) (x : X) (xs : List X) (i : ℕ) → IsPartitionPoint (λ y. f y ≡ true) (λ y. f y ≡ false) (x ∷ xs) (suc i)
    → IsPartitionPoint (λ y. f y ≡ true) (λ y. f y ≡ false) xs i
point_tail f x xs i p = (λ k d from to. p.0 (suc k) d (omega arith) (omega arith), λ k d from to. p.1 (suc k) d (omega arith) (omega arith))

none_tail : {X : Type 0} (f : X → Bool) (x : X) (xs : List X) → IsPartitionPoint (λ y. f y ≡ true) (λ y. f y ≡ false) (x ∷ xs) 0
    → IsPartitionPoint (λ y. f y ≡ true) (λ y. f y ≡ false) xs 0
none_tail f x xs p = (λ k d from to. absurd (omega arith), λ k d from to. p.1 (suc k) d (omega arith) (omega arith))

-- the last element that passes stands before the point from which none passes
pub last_before : {X : Type 0} (f : X → Bool) (xs : List X) (i : ℕ) → i ≤ length xs → IsPartitionPoint (λ y. f y ≡ true) (λ y. f y ≡ false) xs i
    → find f (reverse xs) ≡ before xs i
last_before f [] zero h p = refl
last_before f [] (suc i) h p = absurd (omega arith)
last_before f (x ∷ xs) zero h p =
    let more = last_before f xs zero (omega arith) (none_tail f x xs p) in
    let fails : f x ≡ false = p.1 0 x (omega arith) (omega arith) in
    found_last f x xs ∙ rw (more, fails) refl
last_before f (x ∷ xs) (suc zero) h p =
    let more = last_before f xs zero (omega arith) (point_tail f x xs zero p) in
    let passes : f x ≡ true = p.0 0 x (omega arith) (omega arith) in
    found_last f x xs ∙ rw (more, passes) refl
last_before f (x ∷ xs) (suc (suc i)) h p =
    let more = last_before f xs (suc i) (omega arith) (point_tail f x xs (suc i) p) in
    let there = slice_get-get_or xs i x (omega arith) in
    found_last f x xs ∙ rw (more, there) refl

-- what the code takes: the pair before the point, if there is one
pub last_is : (pairs : List LeapPair) (day : ℤ) (i : ℕ) (other : LeapPair) → i ≤ length pairs
    → IsPartitionPoint (λ p. int_le p.day day ≡ true) (λ p. int_le p.day day ≡ false) pairs i → (i ≡ 0 → ⊥)
    → Some (get_or pairs (i - 1) other) ≡ last_pair pairs day
last_is pairs day zero other h p some = absurd (some refl)
last_is pairs day (suc i) other h p some =
    let e : suc i - 1 ≡ i = omega arith in
    rw e (sym (last_before (λ q. int_le q.day day) pairs (suc i) h p ∙ slice_get-get_or pairs i other (omega arith)))

pub last_is_none : (pairs : List LeapPair) (day : ℤ) (i : ℕ)
    → IsPartitionPoint (λ p. int_le p.day day ≡ true) (λ p. int_le p.day day ≡ false) pairs i → i ≡ 0 → None ≡ last_pair pairs day
last_is_none pairs day zero p none = sym (last_before (λ q. int_le q.day day) pairs zero (omega arith) p)
last_is_none pairs day (suc i) p none = absurd (omega arith)

-- the dates of pairs rise
rise_at : (pairs : List LeapPair) (k : ℕ) (other : LeapPair) → Rise pairs → k + 1 < length pairs → IsStep (get_or pairs k other) (get_or pairs (k + 1) other)
rise_at pairs k other r h =
    r k (get_or pairs k other) (get_or pairs (k + 1) other) (slice_get-get_or pairs k other (omega arith)) (slice_get-get_or pairs (k + 1) other h)

days_rise : (pairs : List LeapPair) (other : LeapPair) (i n : ℕ) → Rise pairs → i + n < length pairs → (get_or pairs i other).day ≤ℤ (get_or pairs (i + n) other).day
days_rise pairs other i zero r h =
    let e : i + zero ≡ i = omega arith in
    let P : ℕ → Type 0 = λ m. (get_or pairs i other).day ≤ℤ (get_or pairs m other).day in
    subst P (sym e) (omega (arith, ints))
days_rise pairs other i (suc n) r h =
    let more = days_rise pairs other i n r (omega arith) in
    let step = (rise_at pairs (i + n) other r (omega arith)).later in
    let e : i + n + 1 ≡ i + suc n = omega arith in
    let P : ℕ → Type 0 = λ m. (get_or pairs i other).day ≤ℤ (get_or pairs m other).day in
    subst P e (omega (arith, ints))

passed : (a b day : ℤ) → a ≤ℤ b → int_le b day ≡ true → int_le a day ≡ true
passed a b day h e = grind (arith, ints)

pub parted : (pairs : List LeapPair) (day : ℤ) → Rise pairs → IsPartitionedBy (λ p. int_le p.day day) pairs
parted pairs day r = λ i j d le within e.
    let sum : i + (j - i) ≡ j = omega arith in
    let P : ℕ → Type 0 = λ m. (get_or pairs i d).day ≤ℤ (get_or pairs m d).day in
    passed (get_or pairs i d).day (get_or pairs j d).day day (subst P sum (days_rise pairs d i (j - i) r (omega arith))) e

-- the counts of a table's days
range_tail : (p : LeapPair) (pairs : List LeapPair) → All IsInRange (p ∷ pairs) → All IsInRange pairs
range_tail p pairs all = λ k d h. all (suc k) d (omega arith)

pub last_in_range : (pairs : List LeapPair) (day : ℤ) → All IsInRange pairs → IfSome (last_pair pairs day) (λ p. p.count ≤ 1000)
last_in_range [] day all = tt
last_in_range (p ∷ pairs) day all =
    let P : Option LeapPair → Type 0 = λ o. IfSome o (λ p. p.count ≤ 1000) in
    subst P (sym (found_last (λ q. int_le q.day day) p pairs))
    (either (last_pair pairs day) (cond (int_le p.day day) (Some p) None) (last_in_range pairs day (range_tail p pairs all))
    (one (int_le p.day day) (all 0 p (omega arith)).count))
  where
    either : (a b : Option LeapPair) → IfSome a (λ p. p.count ≤ 1000) → IfSome b (λ p. p.count ≤ 1000) → IfSome (option_or a b) (λ p. p.count ≤ 1000)
    either None b h k = k
    either (Some a) b h k = h

    one : (b : Bool) → p.count ≤ 1000 → IfSome (cond b (Some p) None) (λ p. p.count ≤ 1000)
    one true h = h
    one false h = tt

pub first_from : (pairs : List LeapPair) → All IsInRange pairs → (neg_ℤ (pos 1) ≤ℤ count_before pairs) × (count_before pairs ≤ℤ pos 1000)
first_from [] all = (omega (arith, ints), omega (arith, ints))
first_from (p ∷ pairs) all =
    let most = (all 0 p (omega arith)).count in
    (omega (arith, ints), omega (arith, ints))

count_or_in_range : (b : ℤ) (o : Option LeapPair) → (neg_ℤ (pos 1) ≤ℤ b) × (b ≤ℤ pos 1000) → IfSome o (λ p. p.count ≤ 1000)
    → (neg_ℤ (pos 1) ≤ℤ count_or b o) × (count_or b o ≤ℤ pos 1000)
count_or_in_range b None h k = h
count_or_in_range b (Some p) h k = (omega (arith, ints), omega (arith, ints))

pub in_range : (pairs : List LeapPair) (day : ℤ) → All IsInRange pairs → (neg_ℤ (pos 1) ≤ℤ count_on pairs day) × (count_on pairs day ≤ℤ pos 1000)
unfolding count_on
in_range pairs day all = count_or_in_range (count_before pairs) (last_pair pairs day) (first_from pairs all) (last_in_range pairs day all)

pub tables_count : (pairs : List LeapPair) → IsLeapTable pairs → AreCounts (count_on pairs)
tables_count pairs t = record {
  from = λ day. (in_range pairs day t.in_range).0;
  to = λ day. (in_range pairs day t.in_range).1;
}
