-- Numbers that spell counts and dates, and lists that grow by a pair.
use Rattle.std.proofs.Common.{◌≡◌, ℕ, zero, suc, ◌+◌, ◌*◌, ◌<◌, ◌⊎◌, inl, inr, ℤ, pos, ◌+ℤ◌, ◌≤ℤ◌, ◌<ℤ◌, List, [], ◌∷◌, ◌++◌, length, Some, refl, sym, ap, ◌∙◌, subst, arith, lit<}
use Rattle.std.specs.Prelude.{slice_get}
use Rattle.std.proofs.lemmas.Int.{ints, by_lt_z}
use Rattle.std.proofs.lemmas.Option.{none-some, same_Some}
use Rattle.st_dates.specs.AtDate.{moment}
use Rattle.st_dates.specs.Label.{formal}
use Rattle.st_dates.specs.Range.{IsInRange as IsTimeInRange, range_start, range_end}
use Rattle.st_dates.specs.declared.label.Label.{Label}
use Rattle.st_decimal.specs.Scaling.{IsUnits18}
use Rattle.st_decimal.specs.declared.number.Dec.{Dec}
use Rattle.st_fraction.specs.Fraction.{over}
use Rattle.st_fraction.proofs.Floors.{floor_found}
use Rattle.st_leaps.specs.Numbers.{IsCount, IsMidnight, HasCount, HasDay}
use Rattle.st_leaps.proofs.Decimals.{one-units, one-count, told-units, told-count}

-- a midnight is one day's
same_moment : (a b : ℤ) → moment a 0 ≡ moment b 0 → a ≡ b
same_moment a b e = omega (arith, ints)

pub one_count : (number : Dec) (a b : ℕ) → IsCount number a → IsCount number b → a ≡ b
one_count number a b h k = one-count number a b h.whole k.whole

pub one_midnight : (number : Dec) (a b : ℤ) → IsMidnight number a → IsMidnight number b → a ≡ b
one_midnight number a b h k = same_moment a b (one-units number (moment a 0) (moment b 0) h.units k.units)

-- what stands at a place is one number
same_number : (numbers : List Dec) (i j : ℕ) (x y : Dec) → i ≡ j → slice_get numbers i ≡ Some x → slice_get numbers j ≡ Some y → x ≡ y
same_number numbers i j x y e h k = same_Some x y (sym h ∙ ap (slice_get numbers) e ∙ k)

pub number_of_count : (numbers : List Dec) (earlier count : ℕ) (number : Dec) → slice_get numbers (2 * earlier) ≡ Some number → HasCount numbers (earlier + 1) count → IsCount number count
number_of_count numbers earlier count number at h =
    let nth = h.nth in
    let place : 2 * h.earlier ≡ 2 * earlier = omega arith in
    let P : Dec → Type 0 = λ d. IsCount d count in
    subst P (same_number numbers (2 * h.earlier) (2 * earlier) h.number number place h.stands at) h.is

pub number_of_day : (numbers : List Dec) (earlier : ℕ) (day : ℤ) (number : Dec) → slice_get numbers (2 * earlier + 1) ≡ Some number → HasDay numbers (earlier + 1) day → IsMidnight number day
number_of_day numbers earlier day number at h =
    let nth = h.nth in
    let place : 2 * h.earlier + 1 ≡ 2 * earlier + 1 = omega arith in
    let P : Dec → Type 0 = λ d. IsMidnight d day in
    subst P (same_number numbers (2 * h.earlier + 1) (2 * earlier + 1) h.number number place h.stands at) h.is

pub one_count_of : (numbers : List Dec) (n a b : ℕ) → HasCount numbers n a → HasCount numbers n b → a ≡ b
one_count_of numbers n a b h k =
    let P : ℕ → Type 0 = λ m. HasCount numbers m b in
    one_count h.number a b h.is (number_of_count numbers h.earlier b h.number h.stands (subst P h.nth k))

pub one_day_of : (numbers : List Dec) (n : ℕ) (a b : ℤ) → HasDay numbers n a → HasDay numbers n b → a ≡ b
one_day_of numbers n a b h k =
    let P : ℕ → Type 0 = λ m. HasDay numbers m b in
    one_midnight h.number a b h.is (number_of_day numbers h.earlier b h.number h.stands (subst P h.nth k))

-- a time whose label has no second yet is the midnight of its day
pub midnight_is : (number : Dec) (label : Label) (time : ℤ) → IsUnits18 number time → formal label ≡ time → label.of_day ≡ pos 0 → range_start ≤ℤ time → time ≤ℤ range_end → IsMidnight number label.day
midnight_is number label time units is none from to =
    let e : time ≡ moment label.day 0 = omega (arith, ints, is, none) in
    let P : ℤ → Type 0 = λ z. IsUnits18 number z in
    let Q : ℤ → Type 0 = λ z. IsTimeInRange z in
    record { units = subst P e units; in_range = subst Q e (from, to) }

-- whether a number is a count, and whether it is a midnight
pub told_count : (number : Dec) → ((count : ℕ) × IsCount number count) ⊎ ((count : ℕ) → IsCount number count → ⊥)
told_count number = elim (told-count number) [
  | inl h ↦ inl (h.0, record { whole = h.1; in_range = h.2 })
  | inr none ↦ inr (λ count is. none count is.whole is.in_range)
]

-- the units of a midnight in the range, or why they are none
told_moment : (u : ℤ) → ((day : ℤ) × (u ≡ moment day 0)) ⊎ ((day : ℤ) → u ≡ moment day 0 → ⊥)
told_moment u =
    let f = floor_found (over (u +ℤ pos 43_200_000_000_000_000_000_000) 86_400_000_000_000_000_000_000) (lit< tt) in
    let from = f.1.at_most.le in
    let to = f.1.below_next.lt in
    by_lt_z (moment f.0 0) u
    (λ (more : moment f.0 0 <ℤ u). inr (λ (day : ℤ) (e : u ≡ moment day 0). between u f.0 day more (omega (arith, ints)) e))
    (λ (less : u ≤ℤ moment f.0 0). inl (f.0, (omega (arith, ints))))
  where
    between : (u q day : ℤ) → moment q 0 <ℤ u → u <ℤ moment (q +ℤ pos 1) 0 → u ≡ moment day 0 → ⊥
    between u q day more less e = omega (arith, ints)

pub told_midnight : (number : Dec) → ((day : ℤ) × IsMidnight number day) ⊎ ((day : ℤ) → IsMidnight number day → ⊥)
told_midnight number = elim (told-units number) [ inl h ↦ units h.0 h.1 | inr none ↦ inr (λ day is. none (moment day 0) is.units) ]
  where
    ranged : (u day : ℤ) → IsUnits18 number u → u ≡ moment day 0 → ((d : ℤ) × IsMidnight number d) ⊎ ((d : ℤ) → IsMidnight number d → ⊥)
    ranged u day is e =
        let P : ℤ → Type 0 = λ z. IsUnits18 number z in
        by_lt_z (moment day 0) range_start
        (λ (early : moment day 0 <ℤ range_start). inr (λ (d : ℤ) (m : IsMidnight number d).
        let same = one-units number u (moment d 0) is m.units in
        let low = m.in_range.0 in
        omega (arith, ints)))
        (λ (from : range_start ≤ℤ moment day 0). by_lt_z range_end (moment day 0)
        (λ (late : range_end <ℤ moment day 0). inr (λ (d : ℤ) (m : IsMidnight number d).
        let same = one-units number u (moment d 0) is m.units in
        let high = m.in_range.1 in
        omega (arith, ints)))
        (λ (to : moment day 0 ≤ℤ range_end). inl (day, record { units = subst P e is; in_range = (from, to) })))

    units : (u : ℤ) → IsUnits18 number u → ((d : ℤ) × IsMidnight number d) ⊎ ((d : ℤ) → IsMidnight number d → ⊥)
    units u is = elim (told_moment u) [
      | inl h ↦ ranged u h.0 is h.1
      | inr none ↦ inr (λ day m. none day (one-units number u (moment day 0) is m.units))
    ]

-- what stands in a list that has grown by an element
pub grown : {X : Type 0} (xs : List X) (y z : X) (k : ℕ) → slice_get (xs ++ y ∷ []) k ≡ Some z → (slice_get xs k ≡ Some z) ⊎ ((k ≡ length xs) × (y ≡ z))
grown [] y z zero e = inr (refl, same_Some y z e)
grown [] y z (suc k) e = absurd (none-some z e)
grown (x ∷ xs) y z zero e = inl e
grown (x ∷ xs) y z (suc k) e = elim (grown xs y z k e) [ inl h ↦ inl h | inr h ↦ inr (ap suc h.0, h.1) ]

-- lists of one length with the same elements are one
pub same_lists : {X : Type 0} (xs ys : List X) → length xs ≡ length ys
    → ((k : ℕ) (x y : X) → slice_get xs k ≡ Some x → slice_get ys k ≡ Some y → x ≡ y) → xs ≡ ys
same_lists [] [] e h = refl
same_lists [] (y ∷ ys) e h = absurd (omega arith)
same_lists (x ∷ xs) [] e h = absurd (omega arith)
same_lists (x ∷ xs) (y ∷ ys) e h =
    let first = h 0 x y refl refl in
    let rest = same_lists xs ys (omega arith) (λ k a b at bt. h (suc k) a b at bt) in
    λ i. first i ∷ rest i

-- there is an element at each place within a list
pub element : {X : Type 0} (xs : List X) (k : ℕ) → k < length xs → (x : X) × (slice_get xs k ≡ Some x)
element [] k h = absurd (omega arith)
element (x ∷ xs) zero h = (x, refl)
element (x ∷ xs) (suc k) h = element xs k (omega arith)
