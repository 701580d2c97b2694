-- Each list of numbers is one table, or has one first rule that it breaks.
use Rattle.std.proofs.Common.{◌≡◌, ◌≢◌, ℕ, zero, suc, ◌+◌, ◌-◌, ◌*◌, ◌%◌, ◌<◌, ◌≤◌, ◌⊎◌, inl, inr, ℤ, pos, ◌-ℤ◌, ◌≤ℤ◌, ◌<ℤ◌, unsigned_abs, List, [], ◌∷◌, ◌++◌, length, length-append, ◌/◌, Result, Ok, Err, refl, sym, ap, ◌∙◌, subst, arith}
use Rattle.std.proofs.lemmas.Bool.{cases_lt}
use Rattle.std.proofs.lemmas.Int.{by_lt_z}
use Rattle.std.proofs.lemmas.List.{nil_from_length}
use Rattle.std.proofs.lemmas.Option.{none-some, slice_get_within}
use Rattle.st_decimal.specs.declared.number.Dec.{Dec}
use Rattle.st_leaps.specs.Faults.{Agree, Breaks, Gives, IsFirstFault, place_of}
use Rattle.st_leaps.specs.Numbers.{IsCount, IsMidnight, HasCount, HasDay, IsTableOf}
use Rattle.st_leaps.specs.NumbersMachine.{AreSpelled, HasLength}
use Rattle.st_leaps.specs.Table.{IsStep}
use Rattle.st_leaps.specs.declared.fault.LeapFault.{LeapFault}
use Rattle.st_leaps.specs.declared.fault.LeapFault.TheVariants.{Empty, Odd, TooMany, NotWhole, NotMidnight, NotRising, BadStep, OutOfMemory}
use Rattle.st_leaps.specs.declared.pair.LeapPair.{LeapPair}
use Rattle.st_leaps.proofs.NumberLaws.{one_count_of, one_day_of, told_count, told_midnight, same_lists, element}
use Rattle.st_leaps.proofs.FaultLaws.{kept, all_spelled, IsNext, IsLast, first_not_whole, first_not_midnight, first_not_rising, first_bad_step, one_last, one_more, no_last}

-- numbers are one table
one_table : (numbers : List Dec) (a b : List LeapPair) → IsTableOf numbers a → IsTableOf numbers b → a ≡ b
one_table numbers a b h k =
    let one = h.two_each in
    let other = k.two_each in
    same_lists a b (omega arith) (λ i p q at there.
    let count = one_count_of numbers (i + 1) p.count q.count (h.counts i p at) (k.counts i q there) in
    let day = one_day_of numbers (i + 1) p.day q.day (h.days i p at) (k.days i q there) in
    λ j. record { count = count j; day = day j })

-- a table breaks no rule
table_size : (numbers : List Dec) (pairs : List LeapPair) → IsTableOf numbers pairs → HasLength (length numbers)
table_size numbers pairs t =
    let two = t.two_each in
    let some = t.is_table.some in
    let few = t.is_table.few in
    record { some = omega arith; even = omega arith; few = omega arith }

day_within : (numbers : List Dec) (pairs : List LeapPair) (n : ℕ) (day : ℤ) → length numbers ≡ 2 * length pairs → HasDay numbers n day → n ≤ length pairs
day_within numbers pairs n day two h =
    let nth = h.nth in
    let within = slice_get_within numbers (2 * h.earlier + 1) h.number h.stands in
    omega arith

count_within : (numbers : List Dec) (pairs : List LeapPair) (n count : ℕ) → length numbers ≡ 2 * length pairs → HasCount numbers n count → n ≤ length pairs
count_within numbers pairs n count two h =
    let nth = h.nth in
    let within = slice_get_within numbers (2 * h.earlier) h.number h.stands in
    omega arith

table_keeps : (numbers : List Dec) (pairs : List LeapPair) (fault : LeapFault) → IsTableOf numbers pairs → Breaks numbers fault → ⊥
table_keeps numbers pairs fault t b =
    kept numbers pairs (table_size numbers pairs t) (record { counts = t.counts; days = t.days; rise = t.is_table.rise }) fault (within fault b) b
  where
    within : (f : LeapFault) → Breaks numbers f → place_of f < 4 * (length pairs + 1) + 4
    within Empty b = omega arith
    within Odd b = omega arith
    within TooMany b = omega arith
    within OutOfMemory b = omega arith
    within (NotWhole n) b =
        let two = t.two_each in
        let to = b.0.to in
        omega arith
    within (NotMidnight n) b =
        let two = t.two_each in
        let to = b.0.to in
        omega arith
    within (NotRising n) b = let few = day_within numbers pairs n b.day t.two_each b.has_day in omega arith
    within (BadStep n) b = let few = count_within numbers pairs n b.count t.two_each b.has_count in omega arith

-- a rule is told by its place
build : ℕ → ℕ → LeapFault
build zero zero = Empty
build zero (suc zero) = Odd
build zero (suc (suc zero)) = TooMany
build zero (suc (suc (suc k))) = OutOfMemory
build (suc n) zero = NotWhole n
build (suc n) (suc zero) = NotMidnight n
build (suc n) (suc (suc zero)) = NotRising n
build (suc n) (suc (suc (suc k))) = BadStep n

record IsBuilt (fault : LeapFault) : Type 0 where
  block : ℕ
  rule : ℕ
  below : rule < 4
  place : place_of fault ≡ 4 * block + rule
  is : build block rule ≡ fault

built : (fault : LeapFault) → IsBuilt fault
unfolding build
built Empty = record { block = 0; rule = 0; below = omega arith; place = refl; is = refl }
built Odd = record { block = 0; rule = 1; below = omega arith; place = refl; is = refl }
built TooMany = record { block = 0; rule = 2; below = omega arith; place = refl; is = refl }
built OutOfMemory = record { block = 0; rule = 3; below = omega arith; place = refl; is = refl }
built (NotWhole n) = record { block = suc n; rule = 0; below = omega arith; place = omega arith; is = refl }
built (NotMidnight n) = record { block = suc n; rule = 1; below = omega arith; place = omega arith; is = refl }
built (NotRising n) = record { block = suc n; rule = 2; below = omega arith; place = omega arith; is = refl }
built (BadStep n) = record { block = suc n; rule = 3; below = omega arith; place = omega arith; is = refl }

one_place : (f g : LeapFault) → place_of f ≡ place_of g → f ≡ g
one_place f g e =
    let b = built f in
    let c = built g in
    let at = b.place in
    let there = c.place in
    let low = b.below in
    let high = c.below in
    let block : b.block ≡ c.block = omega arith in
    let rule : b.rule ≡ c.rule = omega arith in
    sym b.is ∙ (λ i. build (block i) (rule i)) ∙ c.is

one_first : (numbers : List Dec) (f g : LeapFault) → IsFirstFault numbers f → IsFirstFault numbers g → f ≡ g
one_first numbers f g h k =
    elim (cases_lt (place_of f) (place_of g)) [
      | inl less ↦ absurd (k.first f less h.breaks)
      | inr more ↦ elim (cases_lt (place_of g) (place_of f)) [
        | inl less ↦ absurd (h.first g less k.breaks)
        | inr same ↦ one_place f g (omega arith)
      ]
    ]

-- what an answer that is a fault says
given : (numbers : List Dec) (fault : LeapFault) → Gives numbers (Err fault) → (fault ≡ OutOfMemory) ⊎ IsFirstFault numbers fault
given numbers OutOfMemory h = inl refl
given numbers Empty h = inr h
given numbers Odd h = inr h
given numbers TooMany h = inr h
given numbers (NotWhole n) h = inr h
given numbers (NotMidnight n) h = inr h
given numbers (NotRising n) h = inr h
given numbers (BadStep n) h = inr h

pub gives_first : (numbers : List Dec) (fault : LeapFault) → IsFirstFault numbers fault → Gives numbers (Err fault)
gives_first numbers OutOfMemory h = tt
gives_first numbers Empty h = h
gives_first numbers Odd h = h
gives_first numbers TooMany h = h
gives_first numbers (NotWhole n) h = h
gives_first numbers (NotMidnight n) h = h
gives_first numbers (NotRising n) h = h
gives_first numbers (BadStep n) h = h

agree_same : (a : Result (List LeapPair) LeapFault) → Agree a a
agree_same (Ok pairs) = refl
agree_same (Err OutOfMemory) = tt
agree_same (Err Empty) = refl
agree_same (Err Odd) = refl
agree_same (Err TooMany) = refl
agree_same (Err (NotWhole n)) = refl
agree_same (Err (NotMidnight n)) = refl
agree_same (Err (NotRising n)) = refl
agree_same (Err (BadStep n)) = refl

agree_out : (a : Result (List LeapPair) LeapFault) → Agree a (Err OutOfMemory)
agree_out (Ok pairs) = tt
agree_out (Err OutOfMemory) = tt
agree_out (Err Empty) = tt
agree_out (Err Odd) = tt
agree_out (Err TooMany) = tt
agree_out (Err (NotWhole n)) = tt
agree_out (Err (NotMidnight n)) = tt
agree_out (Err (NotRising n)) = tt
agree_out (Err (BadStep n)) = tt

agree_is : (a b : Result (List LeapPair) LeapFault) → a ≡ b → Agree a b
agree_is a b e = let P : Result (List LeapPair) LeapFault → Type 0 = λ r. Agree a r in subst P e (agree_same a)

pub one_answer : (numbers : List Dec) (a b : Result (List LeapPair) LeapFault) → Gives numbers a → Gives numbers b → Agree a b
one_answer numbers (Ok p) (Ok q) h k = ap (λ (l : List LeapPair). Ok l) (one_table numbers p q h k)
one_answer numbers (Ok p) (Err g) h k = elim (given numbers g k) [
  | inl out ↦ let P : LeapFault → Type 0 = λ f. Agree (Ok p) (Err f) in subst P (sym out) tt
  | inr is ↦ absurd (table_keeps numbers p g h is.breaks)
]
one_answer numbers (Err f) (Ok q) h k = elim (given numbers f h) [
  | inl out ↦ let P : LeapFault → Type 0 = λ g. Agree (Err g) (Ok q) in subst P (sym out) tt
  | inr is ↦ absurd (table_keeps numbers q f k is.breaks)
]
one_answer numbers (Err f) (Err g) h k = elim (given numbers f h) [
  | inl out ↦ let P : LeapFault → Type 0 = λ r. Agree (Err r) (Err g) in subst P (sym out) tt
  | inr is ↦ elim (given numbers g k) [
    | inl out ↦ let P : LeapFault → Type 0 = λ r. Agree (Err f) (Err r) in subst P (sym out) (agree_out (Err f))
    | inr other ↦ agree_is (Err f) (Err g) (ap (λ (r : LeapFault). Err r) (one_first numbers f g is other))
  ]
]

one_or_not : (n : ℕ) → (n ≡ 1) ⊎ (n ≢ 1)
one_or_not zero = inr (λ e. omega arith)
one_or_not (suc zero) = inl refl
one_or_not (suc (suc n)) = inr (λ e. omega arith)

-- each list of numbers has an answer
abbrev pub Answer : List Dec → Type 0
Answer numbers = (answer : Result (List LeapPair) LeapFault) × Gives numbers answer × (answer ≢ Err OutOfMemory)

first_answer : (numbers : List Dec) (fault : LeapFault) → IsFirstFault numbers fault → Answer numbers
first_answer numbers fault is = (
  Err fault,
  gives_first numbers fault is,
  λ e.
      let P : LeapFault → Type 0 = λ f. Breaks numbers f in
      let same : fault ≡ OutOfMemory = cc in
      subst P same is.breaks,
)

-- the next pair breaks a rule, or the pairs go on with it
next_answer : (numbers : List Dec) (pairs : List LeapPair) (count date : Dec) → IsNext numbers pairs count date
    → ((q : LeapPair) → AreSpelled numbers (pairs ++ q ∷ []) → Answer numbers) → Answer numbers
next_answer numbers pairs count date x on = elim (told_count count) [
  | inr none ↦ first_answer numbers (NotWhole (length pairs + 1)) (first_not_whole numbers pairs count date x none)
  | inl c ↦ elim (told_midnight date) [
    | inr none ↦ first_answer numbers (NotMidnight (length pairs + 1)) (first_not_midnight numbers pairs count date c.0 x c.1 none)
    | inl d ↦ behind (record { count = c.0; day = d.0 }) c.1 d.1
  ]
]
  where
    step : (p q : LeapPair) → IsLast pairs p → IsCount count q.count → IsMidnight date q.day → Answer numbers
    step p q l c d = by_lt_z p.day q.day
        (λ (later : p.day <ℤ q.day). elim (one_or_not (unsigned_abs (pos q.count -ℤ pos p.count))) [
          | inl one ↦ on q (one_more numbers pairs count date q x c d (λ r m.
              let P : LeapPair → Type 0 = λ s. IsStep s q in
              subst P (one_last pairs p r l m) (record { later = later; step = one })))
          | inr not_one ↦ first_answer numbers (BadStep (length pairs + 1)) (first_bad_step numbers pairs count date p q x l c d later not_one)
        ])
        (λ (falls : q.day ≤ℤ p.day). first_answer numbers (NotRising (length pairs + 1)) (first_not_rising numbers pairs count date p q x l c d falls))

    behind : (q : LeapPair) → IsCount count q.count → IsMidnight date q.day → Answer numbers
    behind q c d = elim (cases_lt 0 (length pairs)) [
      | inl some ↦
          let p = element pairs (length pairs - 1) (omega arith) in
          step p.0 q (record { before = length pairs - 1; last = omega arith; stands = p.1 }) c d
      | inr none ↦ on q (one_more numbers pairs count date q x c d (λ p l. absurd (no_last pairs p (omega arith) l)))
    ]

-- pairs after those that are spelled
answer_from : (left : ℕ) (numbers : List Dec) (pairs : List LeapPair) → HasLength (length numbers) → AreSpelled numbers pairs
    → length numbers ≡ 2 * (length pairs + left) → Answer numbers
answer_from zero numbers pairs size spelled all =
    (Ok pairs, all_spelled numbers pairs size spelled (omega arith), λ e. absurd cc)
answer_from (suc left) numbers pairs size spelled all =
    let count = element numbers (2 * length pairs) (omega arith) in
    let date = element numbers (2 * length pairs + 1) (omega arith) in
    next_answer numbers pairs count.0 date.0 (record { size = size; spelled = spelled; more = omega arith; count_at = count.1; date_at = date.1 })
    (λ q more. answer_from left numbers (pairs ++ q ∷ []) size more (omega (arith, length-append pairs (q ∷ []))))

-- the rules for all numbers together
first_empty : (numbers : List Dec) → numbers ≡ [] → IsFirstFault numbers Empty
first_empty numbers none = record { breaks = none; first = λ other h b. absurd (omega arith) }

first_odd : (numbers : List Dec) → length numbers % 2 ≡ 1 → IsFirstFault numbers Odd
first_odd numbers odd = record { breaks = odd; first = by }
  where
    by : (other : LeapFault) → place_of other < 1 → Breaks numbers other → ⊥
    by Empty h b = absurd (omega (arith, ap length b))
    by Odd h b = absurd (omega arith)
    by TooMany h b = absurd (omega arith)
    by OutOfMemory h b = b
    by (NotWhole n) h b = absurd (omega arith)
    by (NotMidnight n) h b = absurd (omega arith)
    by (NotRising n) h b = absurd (omega arith)
    by (BadStep n) h b = absurd (omega arith)

first_too_many : (numbers : List Dec) → length numbers % 2 ≡ 0 → 2000 < length numbers → IsFirstFault numbers TooMany
first_too_many numbers even many = record { breaks = many; first = by }
  where
    by : (other : LeapFault) → place_of other < 2 → Breaks numbers other → ⊥
    by Empty h b = absurd (omega (arith, ap length b))
    by Odd h b = absurd (omega arith)
    by TooMany h b = absurd (omega arith)
    by OutOfMemory h b = b
    by (NotWhole n) h b = absurd (omega arith)
    by (NotMidnight n) h b = absurd (omega arith)
    by (NotRising n) h b = absurd (omega arith)
    by (BadStep n) h b = absurd (omega arith)

none_spelled : (numbers : List Dec) → AreSpelled numbers []
none_spelled numbers = record {
  counts = λ k p at. absurd (none-some p at);
  days = λ k p at. absurd (none-some p at);
  rise = λ k p q at next. absurd (none-some p at);
}

pub each_has_answer : (numbers : List Dec) → Answer numbers
each_has_answer numbers = elim (cases_lt 0 (length numbers)) [
  | inr none ↦ first_answer numbers Empty (first_empty numbers (nil_from_length numbers (omega arith)))
  | inl some ↦ elim (cases_lt 0 (length numbers % 2)) [
    | inl odd ↦ first_answer numbers Odd (first_odd numbers (omega arith))
    | inr even ↦ elim (cases_lt 2000 (length numbers)) [
      | inl many ↦ first_answer numbers TooMany (first_too_many numbers (omega arith) many)
      | inr few ↦
          answer_from (length numbers / 2) numbers [] (record { some = omega arith; even = omega arith; few = omega arith })
          (none_spelled numbers) (omega arith)
    ]
  ]
]
