-- The first rule that numbers break: none before the pairs that are spelled, and then by the next pair's rules in order.
use Rattle.std.proofs.Common.{◌≡◌, ◌≢◌, ℕ, ◌+◌, ◌-◌, ◌*◌, ◌<◌, ◌≤◌, inl, inr, ℤ, pos, ◌-ℤ◌, ◌≤ℤ◌, ◌<ℤ◌, unsigned_abs, List, [], ◌∷◌, ◌++◌, length, get_or, Some, Ok, Err, refl, sym, ap, ◌∙◌, subst, arith}
use Rattle.std.specs.Prelude.{slice_get}
use Rattle.std.specs.List.{All}
use Rattle.std.proofs.lemmas.Int.{ints}
use Rattle.std.proofs.lemmas.Bool.{cases_lt}
use Rattle.std.proofs.lemmas.Option.{same_Some, slice_get-get_or, slice_get_within}
use Rattle.st_decimal.specs.declared.number.Dec.{Dec}
use Rattle.st_leaps.specs.Faults.{Breaks, FallsBack, LeapsBadly, HasPair, IsFirstFault, place_of}
use Rattle.st_leaps.specs.Numbers.{IsCount, IsMidnight, HasCount, HasDay, IsTableOf}
use Rattle.st_leaps.specs.NumbersMachine.{AreSpelled, HasLength, PairGives, StepGives}
use Rattle.st_leaps.specs.Table.{IsStep, Rise, IsInRange}
use Rattle.st_leaps.specs.declared.fault.LeapFault.{LeapFault}
use Rattle.st_leaps.specs.declared.fault.LeapFault.TheVariants.{Empty, Odd, TooMany, NotWhole, NotMidnight, NotRising, BadStep, OutOfMemory}
use Rattle.st_leaps.specs.declared.pair.LeapPair.{LeapPair}
use Rattle.st_leaps.proofs.NumberLaws.{one_count_of, one_day_of, number_of_count, number_of_day, grown, element}

-- pair n, which is spelled
record IsSpelled (numbers : List Dec) (pairs : List LeapPair) (earlier : ℕ) : Type 0 where
  pair : LeapPair
  stands : slice_get pairs earlier ≡ Some pair
  has_count : HasCount numbers (earlier + 1) pair.count
  has_day : HasDay numbers (earlier + 1) pair.day

spelled : (numbers : List Dec) (pairs : List LeapPair) (earlier : ℕ) → AreSpelled numbers pairs → earlier < length pairs → IsSpelled numbers pairs earlier
spelled numbers pairs earlier s h =
    let e = element pairs earlier h in
    record { pair = e.0; stands = e.1; has_count = s.counts earlier e.0 e.1; has_day = s.days earlier e.0 e.1 }

-- pairs that are spelled break no rule
counts_stand : (numbers : List Dec) (pairs : List LeapPair) (n : ℕ) → AreSpelled numbers pairs → 1 ≤ n → n ≤ length pairs → ((count : ℕ) → HasCount numbers n count → ⊥) → ⊥
counts_stand numbers pairs n s from to none =
    let p = spelled numbers pairs (n - 1) s (omega arith) in
    let e : n - 1 + 1 ≡ n = omega arith in
    let P : ℕ → Type 0 = λ m. HasCount numbers m p.pair.count in
    none p.pair.count (subst P e p.has_count)

days_stand : (numbers : List Dec) (pairs : List LeapPair) (n : ℕ) → AreSpelled numbers pairs → 1 ≤ n → n ≤ length pairs → ((day : ℤ) → HasDay numbers n day → ⊥) → ⊥
days_stand numbers pairs n s from to none =
    let p = spelled numbers pairs (n - 1) s (omega arith) in
    let e : n - 1 + 1 ≡ n = omega arith in
    let P : ℕ → Type 0 = λ m. HasDay numbers m p.pair.day in
    none p.pair.day (subst P e p.has_day)

days_rise : (numbers : List Dec) (pairs : List LeapPair) (n : ℕ) → AreSpelled numbers pairs → n ≤ length pairs → FallsBack numbers n → ⊥
days_rise numbers pairs n s to f =
    let k = f.has_before.earlier in
    let nth = f.has_before.nth in
    let next = f.next in
    let p = spelled numbers pairs k s (omega arith) in
    let q = spelled numbers pairs (k + 1) s (omega arith) in
    let P : ℕ → Type 0 = λ m. HasDay numbers m q.pair.day in
    let Q : ℕ → Type 0 = λ m. HasDay numbers m p.pair.day in
    let here : k + 1 + 1 ≡ n = omega arith in
    let first = one_day_of numbers f.before p.pair.day f.day_before (subst Q (sym nth) p.has_day) f.has_before in
    let second = one_day_of numbers n q.pair.day f.day (subst P here q.has_day) f.has_day in
    let later = (s.rise k p.pair q.pair p.stands q.stands).later in
    let falls = f.falls in
    omega (arith, ints)

counts_step : (numbers : List Dec) (pairs : List LeapPair) (n : ℕ) → AreSpelled numbers pairs → n ≤ length pairs → LeapsBadly numbers n → ⊥
counts_step numbers pairs n s to f =
    let k = f.has_before.earlier in
    let nth = f.has_before.nth in
    let next = f.next in
    let p = spelled numbers pairs k s (omega arith) in
    let q = spelled numbers pairs (k + 1) s (omega arith) in
    let P : ℕ → Type 0 = λ m. HasCount numbers m q.pair.count in
    let Q : ℕ → Type 0 = λ m. HasCount numbers m p.pair.count in
    let here : k + 1 + 1 ≡ n = omega arith in
    let first = one_count_of numbers f.before p.pair.count f.count_before (subst Q (sym nth) p.has_count) f.has_before in
    let second = one_count_of numbers n q.pair.count f.count (subst P here q.has_count) f.has_count in
    let step = (s.rise k p.pair q.pair p.stands q.stands).step in
    f.leaps ((λ i. unsigned_abs (pos (sym second i) -ℤ pos (sym first i))) ∙ step)

pub kept : (numbers : List Dec) (pairs : List LeapPair) → HasLength (length numbers) → AreSpelled numbers pairs → (other : LeapFault)
    → place_of other < 4 * (length pairs + 1) + 4 → Breaks numbers other → ⊥
kept numbers pairs l s Empty h b = let some = l.some in absurd (omega (arith, ap length b))
kept numbers pairs l s Odd h b = let even = l.even in absurd (omega arith)
kept numbers pairs l s TooMany h b = let few = l.few in absurd (omega arith)
kept numbers pairs l s OutOfMemory h b = b
kept numbers pairs l s (NotWhole n) h b = counts_stand numbers pairs n s b.0.from (omega arith) b.1
kept numbers pairs l s (NotMidnight n) h b = days_stand numbers pairs n s b.0.from (omega arith) b.1
kept numbers pairs l s (NotRising n) h b = days_rise numbers pairs n s (omega arith) b
kept numbers pairs l s (BadStep n) h b = counts_step numbers pairs n s (omega arith) b

-- a rule of pair n is the first that is broken where none of the earlier pairs and none before it of pair n is
first : (numbers : List Dec) (n : ℕ) (fault : LeapFault) → 1 ≤ n → ((other : LeapFault) → place_of other < 4 * n + 4 → Breaks numbers other → ⊥)
    → (4 * n + 4 < place_of fault → Breaks numbers (NotWhole n) → ⊥)
    → (4 * n + 5 < place_of fault → Breaks numbers (NotMidnight n) → ⊥)
    → (4 * n + 6 < place_of fault → Breaks numbers (NotRising n) → ⊥)
    → place_of fault < 4 * n + 8 → Breaks numbers fault → IsFirstFault numbers fault
first numbers n fault some earlier whole midnight rising last breaks = record { breaks = breaks; first = by }
  where
    by : (other : LeapFault) → place_of other < place_of fault → Breaks numbers other → ⊥
    by Empty h b = earlier Empty (omega arith) b
    by Odd h b = earlier Odd (omega arith) b
    by TooMany h b = earlier TooMany (omega arith) b
    by OutOfMemory h b = b
    by (NotWhole m) h b = elim (cases_lt m n) [
      | inl less ↦ earlier (NotWhole m) (omega arith) b
      | inr more ↦
          let same : m ≡ n = omega arith in
          let P : ℕ → Type 0 = λ k. Breaks numbers (NotWhole k) in
          whole (omega arith) (subst P same b)
    ]
    by (NotMidnight m) h b = elim (cases_lt m n) [
      | inl less ↦ earlier (NotMidnight m) (omega arith) b
      | inr more ↦
          let same : m ≡ n = omega arith in
          let P : ℕ → Type 0 = λ k. Breaks numbers (NotMidnight k) in
          midnight (omega arith) (subst P same b)
    ]
    by (NotRising m) h b = elim (cases_lt m n) [
      | inl less ↦ earlier (NotRising m) (omega arith) b
      | inr more ↦
          let same : m ≡ n = omega arith in
          let P : ℕ → Type 0 = λ k. Breaks numbers (NotRising k) in
          rising (omega arith) (subst P same b)
    ]
    by (BadStep m) h b = elim (cases_lt m n) [
      | inl less ↦ earlier (BadStep m) (omega arith) b
      | inr more ↦ absurd (omega arith)
    ]

-- the next pair, by the numbers that stand after those that are spelled
pub record IsNext (numbers : List Dec) (pairs : List LeapPair) (count date : Dec) : Type 0 where
  pub size : HasLength (length numbers)
  pub spelled : AreSpelled numbers pairs
  pub more : 2 * length pairs < length numbers
  pub count_at : slice_get numbers (2 * length pairs) ≡ Some count
  pub date_at : slice_get numbers (2 * length pairs + 1) ≡ Some date

has_pair : (numbers : List Dec) (pairs : List LeapPair) (count date : Dec) → IsNext numbers pairs count date → HasPair numbers (length pairs + 1)
has_pair numbers pairs count date x =
    let more = x.more in
    let even = x.size.even in
    record { from = omega arith; to = omega arith }

has_count : (numbers : List Dec) (pairs : List LeapPair) (count date : Dec) (c : ℕ) → IsNext numbers pairs count date → IsCount count c → HasCount numbers (length pairs + 1) c
has_count numbers pairs count date c x is = record { earlier = length pairs; nth = refl; number = count; stands = x.count_at; is = is }

has_day : (numbers : List Dec) (pairs : List LeapPair) (count date : Dec) (day : ℤ) → IsNext numbers pairs count date → IsMidnight date day → HasDay numbers (length pairs + 1) day
has_day numbers pairs count date day x is = record { earlier = length pairs; nth = refl; number = date; stands = x.date_at; is = is }

pub first_not_whole : (numbers : List Dec) (pairs : List LeapPair) (count date : Dec) → IsNext numbers pairs count date → ((c : ℕ) → IsCount count c → ⊥)
    → IsFirstFault numbers (NotWhole (length pairs + 1))
first_not_whole numbers pairs count date x none =
    first numbers (length pairs + 1) (NotWhole (length pairs + 1)) (omega arith) (kept numbers pairs x.size x.spelled)
    (λ h b. absurd (omega arith)) (λ h b. absurd (omega arith)) (λ h b. absurd (omega arith)) (omega arith)
    (has_pair numbers pairs count date x, λ c has. none c (number_of_count numbers (length pairs) c count x.count_at has))

pub first_not_midnight : (numbers : List Dec) (pairs : List LeapPair) (count date : Dec) (c : ℕ) → IsNext numbers pairs count date → IsCount count c
    → ((day : ℤ) → IsMidnight date day → ⊥) → IsFirstFault numbers (NotMidnight (length pairs + 1))
first_not_midnight numbers pairs count date c x is none =
    first numbers (length pairs + 1) (NotMidnight (length pairs + 1)) (omega arith) (kept numbers pairs x.size x.spelled)
    (λ h b. b.1 c (has_count numbers pairs count date c x is)) (λ h b. absurd (omega arith)) (λ h b. absurd (omega arith)) (omega arith)
    (has_pair numbers pairs count date x, λ day has. none day (number_of_day numbers (length pairs) day date x.date_at has))

-- the last pair that is spelled, if there is one, is the one before
pub record IsLast (pairs : List LeapPair) (p : LeapPair) : Type 0 where
  pub before : ℕ
  pub last : length pairs ≡ before + 1
  pub stands : slice_get pairs before ≡ Some p

pub first_not_rising : (numbers : List Dec) (pairs : List LeapPair) (count date : Dec) (p q : LeapPair) → IsNext numbers pairs count date → IsLast pairs p
    → IsCount count q.count → IsMidnight date q.day → q.day ≤ℤ p.day → IsFirstFault numbers (NotRising (length pairs + 1))
first_not_rising numbers pairs count date p q x l c d falls =
    let P : ℕ → Type 0 = λ n. HasDay numbers n p.day in
    first numbers (length pairs + 1) (NotRising (length pairs + 1)) (omega arith) (kept numbers pairs x.size x.spelled)
    (λ h b. b.1 q.count (has_count numbers pairs count date q.count x c)) (λ h b. b.1 q.day (has_day numbers pairs count date q.day x d))
    (λ h b. absurd (omega arith)) (omega arith)
    (record {
      before = length pairs;
      next = refl;
      day_before = p.day;
      has_before = subst P (sym l.last) (x.spelled.days l.before p l.stands);
      day = q.day;
      has_day = has_day numbers pairs count date q.day x d;
      falls = falls;
    })

pub first_bad_step : (numbers : List Dec) (pairs : List LeapPair) (count date : Dec) (p q : LeapPair) → IsNext numbers pairs count date → IsLast pairs p
    → IsCount count q.count → IsMidnight date q.day → p.day <ℤ q.day → unsigned_abs (pos q.count -ℤ pos p.count) ≢ 1 → IsFirstFault numbers (BadStep (length pairs + 1))
first_bad_step numbers pairs count date p q x l c d rises leaps =
    let P : ℕ → Type 0 = λ n. HasCount numbers n p.count in
    let Q : ℕ → Type 0 = λ n. HasDay numbers n p.day in
    first numbers (length pairs + 1) (BadStep (length pairs + 1)) (omega arith) (kept numbers pairs x.size x.spelled)
    (λ h b. b.1 q.count (has_count numbers pairs count date q.count x c)) (λ h b. b.1 q.day (has_day numbers pairs count date q.day x d))
    (λ h b. still b (subst Q (sym l.last) (x.spelled.days l.before p l.stands))) (omega arith)
    (record {
      before = length pairs;
      next = refl;
      count_before = p.count;
      has_before = subst P (sym l.last) (x.spelled.counts l.before p l.stands);
      count = q.count;
      has_count = has_count numbers pairs count date q.count x c;
      leaps = leaps;
    })
  where
    still : FallsBack numbers (length pairs + 1) → HasDay numbers (length pairs) p.day → ⊥
    still f has =
        let next = f.next in
        let same : f.before ≡ length pairs = omega arith in
        let R : ℕ → Type 0 = λ n. HasDay numbers n f.day_before in
        let first = one_day_of numbers (length pairs) p.day f.day_before has (subst R same f.has_before) in
        let second = one_day_of numbers (length pairs + 1) q.day f.day (has_day numbers pairs count date q.day x d) f.has_day in
        let falls = f.falls in
        omega (arith, ints)

-- one more pair is spelled
pub one_more : (numbers : List Dec) (pairs : List LeapPair) (count date : Dec) (q : LeapPair) → IsNext numbers pairs count date
    → IsCount count q.count → IsMidnight date q.day → ((p : LeapPair) → IsLast pairs p → IsStep p q) → AreSpelled numbers (pairs ++ q ∷ [])
one_more numbers pairs count date q x c d step = record { counts = counts; days = days; rise = rise }
  where
    counts : (k : ℕ) (p : LeapPair) → slice_get (pairs ++ q ∷ []) k ≡ Some p → HasCount numbers (k + 1) p.count
    counts k p at = elim (grown pairs q p k at) [
      | inl old ↦ x.spelled.counts k p old
      | inr new ↦
          let P : ℕ → Type 0 = λ n. HasCount numbers (n + 1) p.count in
          let Q : LeapPair → Type 0 = λ r. IsCount count r.count in
          subst P (sym new.0) (has_count numbers pairs count date p.count x (subst Q new.1 c))
    ]

    days : (k : ℕ) (p : LeapPair) → slice_get (pairs ++ q ∷ []) k ≡ Some p → HasDay numbers (k + 1) p.day
    days k p at = elim (grown pairs q p k at) [
      | inl old ↦ x.spelled.days k p old
      | inr new ↦
          let P : ℕ → Type 0 = λ n. HasDay numbers (n + 1) p.day in
          let Q : LeapPair → Type 0 = λ r. IsMidnight date r.day in
          subst P (sym new.0) (has_day numbers pairs count date p.day x (subst Q new.1 d))
    ]

    rise : Rise (pairs ++ q ∷ [])
    rise k a b at next = elim (grown pairs q b (k + 1) next) [
      | inl old ↦ elim (grown pairs q a k at) [
        | inl there ↦ x.spelled.rise k a b there old
        | inr past ↦
            let end = past.0 in
            let within = slice_get_within pairs (k + 1) b old in
            absurd (omega arith)
      ]
      | inr new ↦ elim (grown pairs q a k at) [
        | inl there ↦
            let P : LeapPair → Type 0 = λ r. IsStep a r in
            subst P new.1 (step a (record { before = k; last = sym new.0; stands = there }))
        | inr past ↦
            let end = past.0 in
            let here = new.0 in
            absurd (omega arith)
      ]
    ]

-- pairs that all numbers spell are their table
pub all_spelled : (numbers : List Dec) (pairs : List LeapPair) → HasLength (length numbers) → AreSpelled numbers pairs → length numbers ≡ 2 * length pairs → IsTableOf numbers pairs
all_spelled numbers pairs l s two =
    let some = l.some in
    let few = l.few in
    record {
      two_each = two;
      counts = s.counts;
      days = s.days;
      is_table = record { some = omega arith; few = omega arith; in_range = in_range; rise = s.rise };
    }
  where
    in_range : All IsInRange pairs
    in_range k d h = record {
      count = (s.counts k _ (slice_get-get_or pairs k d h)).is.in_range;
      day = (s.days k _ (slice_get-get_or pairs k d h)).is.in_range;
    }

-- the same of what the code has at hand
pub next_is : (numbers : List Dec) (pairs : List LeapPair) (d e : Dec) → HasLength (length numbers) → AreSpelled numbers pairs → 2 * length pairs < length numbers
    → IsNext numbers pairs (get_or numbers (2 * length pairs) d) (get_or numbers (2 * length pairs + 1) e)
next_is numbers pairs d e l s more =
    let even = l.even in
    record {
      size = l;
      spelled = s;
      more = more;
      count_at = slice_get-get_or numbers (2 * length pairs) d more;
      date_at = slice_get-get_or numbers (2 * length pairs + 1) e (omega arith);
    }

pub pair_fault : (numbers : List Dec) (pairs : List LeapPair) (count date : Dec) (fault : LeapFault) → IsNext numbers pairs count date
    → PairGives count date (length pairs + 1) (Err fault) → IsFirstFault numbers fault
pair_fault numbers pairs count date (NotWhole n) x (e, none) =
    let P : ℕ → Type 0 = λ m. IsFirstFault numbers (NotWhole m) in
    subst P (sym e) (first_not_whole numbers pairs count date x none)
pair_fault numbers pairs count date (NotMidnight n) x (e, c, none) =
    let P : ℕ → Type 0 = λ m. IsFirstFault numbers (NotMidnight m) in
    subst P (sym e) (first_not_midnight numbers pairs count date c.0 x c.1 none)
pair_fault numbers pairs count date Empty x h = absurd h
pair_fault numbers pairs count date Odd x h = absurd h
pair_fault numbers pairs count date TooMany x h = absurd h
pair_fault numbers pairs count date (NotRising n) x h = absurd h
pair_fault numbers pairs count date (BadStep n) x h = absurd h
pair_fault numbers pairs count date OutOfMemory x h = absurd h

pub step_fault : (numbers : List Dec) (pairs : List LeapPair) (count date : Dec) (p q : LeapPair) (fault : LeapFault) → IsNext numbers pairs count date → IsLast pairs p
    → PairGives count date (length pairs + 1) (Ok q) → StepGives p q (length pairs + 1) (Err fault) → IsFirstFault numbers fault
step_fault numbers pairs count date p q (NotRising n) x l is (e, falls) =
    let P : ℕ → Type 0 = λ m. IsFirstFault numbers (NotRising m) in
    subst P (sym e) (first_not_rising numbers pairs count date p q x l is.0 is.1 falls)
step_fault numbers pairs count date p q (BadStep n) x l is (e, rises, leaps) =
    let P : ℕ → Type 0 = λ m. IsFirstFault numbers (BadStep m) in
    subst P (sym e) (first_bad_step numbers pairs count date p q x l is.0 is.1 rises leaps)
step_fault numbers pairs count date p q Empty x l is h = absurd h
step_fault numbers pairs count date p q Odd x l is h = absurd h
step_fault numbers pairs count date p q TooMany x l is h = absurd h
step_fault numbers pairs count date p q (NotWhole n) x l is h = absurd h
step_fault numbers pairs count date p q (NotMidnight n) x l is h = absurd h
step_fault numbers pairs count date p q OutOfMemory x l is h = absurd h

-- one last pair
pub one_last : (pairs : List LeapPair) (a b : LeapPair) → IsLast pairs a → IsLast pairs b → a ≡ b
one_last pairs a b h k =
    let one = h.last in
    let other = k.last in
    let same : h.before ≡ k.before = omega arith in
    same_Some a b (sym h.stands ∙ ap (slice_get pairs) same ∙ k.stands)

-- the first pair has none before it
pub no_last : (pairs : List LeapPair) (p : LeapPair) → length pairs ≡ 0 → IsLast pairs p → ⊥
no_last pairs p none l = let last = l.last in omega arith

pub last_is : (pairs : List LeapPair) (p : LeapPair) → slice_get pairs (length pairs - 1) ≡ Some p → IsLast pairs p
last_is pairs p at =
    let within = slice_get_within pairs (length pairs - 1) p at in
    record { before = length pairs - 1; last = omega arith; stands = at }
