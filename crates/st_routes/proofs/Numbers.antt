-- The number of a tick has one answer, and so has each text of a clock.
use Rattle.std.proofs.Common.{◌≡◌, inl, inr, ℕ, ◌+◌, ◌-◌, ◌*◌, ◌^◌, ◌<◌, ◌≤◌, Bool, true, false, ◌&&◌, nat_le, min, List, length, take, get_or, IsTrue, Result, Ok, Err, if◌then◌else◌, refl, sym, ap, ◌∙◌, subst, arith}
use Rattle.std.proofs.lemmas.Bool.{cases_Bool}
use Rattle.std.proofs.lemmas.Bool.Decides.{nat_tests}
use Rattle.st_text.specs.Bytes.{are_digits, number_of}
use Rattle.st_text.proofs.Numbers.{number_of-take_more}
use Rattle.st_ticks.specs.Laws.{ReadingIsOne, ReadingIsFound}
use Rattle.st_ticks.specs.declared.fault.ClockTextFault.{ClockTextFault}
use Rattle.st_ticks.specs.declared.fault.ClockTextFault.TheVariants.{Form, TooManyFields, NoPartition, FieldBelowOffset, TooLarge, NotInPartition}
use Rattle.st_clock.specs.Clock.{Clock, total, IsClock}
use Rattle.st_routes.specs.Laws.{EachTextGivesTick, OneTick}
use Rattle.st_routes.specs.Source.{IsNumber, ReadsNumber, ReadsTick, TickGives}
use Rattle.st_routes.specs.declared.fault.TimeFault.{TimeFault}
use Rattle.st_routes.specs.declared.fault.TimeFault.TheVariants as faults
use Rattle.st_routes.specs.declared.ticks.TickForm.{TickForm}
use Rattle.st_routes.specs.declared.ticks.TickForm.TheVariants as tick_forms

-- one digit more
pub capped_more : (digits : List ℕ) (i n d : ℕ) → i < length digits → n ≡ min (number_of (take i digits)) 1_000_000_000_000_000_001
    → d ≡ get_or digits i 0 - 48 → min (10 * n + d) 1_000_000_000_000_000_001 ≡ min (number_of (take (i + 1) digits)) 1_000_000_000_000_000_001
capped_more digits i n d h e f = omega (arith, number_of-take_more digits i h, e, f)

passes : (m n : ℕ) → m ≤ n → nat_le m n ≡ true
passes m n h = grind (arith, nat_tests)

fails : (m n : ℕ) → n < m → nat_le m n ≡ false
fails m n h = grind (arith, nat_tests)

passed : (m n : ℕ) → nat_le m n ≡ true → m ≤ n
passed m n h = grind (arith, nat_tests)

failed : (m n : ℕ) → nat_le m n ≡ false → n < m
failed m n h = grind (arith, nat_tests)

-- the answer of a run of digits n, or of another text
abbrev pub among : ℕ → ℕ → Result ℕ ClockTextFault
among most n = if nat_le n (10 ^ 18) then (if nat_le n most then Ok n else Err NotInPartition) else Err TooLarge

abbrev pub chosen : Bool → ℕ → Result ℕ ClockTextFault → Result ℕ ClockTextFault
chosen digits count answer = if digits && nat_le 1 count then answer else Err Form

chosen_number : (digits : Bool) (count : ℕ) (answer : Result ℕ ClockTextFault) → digits ≡ true → 1 ≤ count → chosen digits count answer ≡ answer
chosen_number digits count answer d h = rw (d, passes 1 count h) refl

among_ticks : (most n : ℕ) → n ≤ 10 ^ 18 → n ≤ most → among most n ≡ Ok n
among_ticks most n h k = rw (passes n (10 ^ 18) h, passes n most k) refl

among_others : (most n : ℕ) → n ≤ 10 ^ 18 → most < n → among most n ≡ Err NotInPartition
among_others most n h k = rw (passes n (10 ^ 18) h, fails n most k) refl

among_large : (most n : ℕ) → 10 ^ 18 < n → among most n ≡ Err TooLarge
among_large most n h = rw (fails n (10 ^ 18) h) refl

chosen_none : (digits : Bool) (count : ℕ) (answer : Result ℕ ClockTextFault) → (IsTrue digits × (1 ≤ count) → ⊥) → chosen digits count answer ≡ Err Form
chosen_none true count answer never = elim (cases_Bool (nat_le 1 count)) [
  | inl e ↦ absurd (never (refl, passed 1 count e))
  | inr e ↦ rw e refl
]
chosen_none false count answer never = refl

-- what a text that is to be a number of a tick gives
abbrev pub answer_of : ℕ → List ℕ → Result ℕ ClockTextFault
answer_of most text = chosen (are_digits text) (length text) (among most (number_of text))

number_is : (most : ℕ) (text : List ℕ) (answer : Result ℕ ClockTextFault) → ReadsNumber most text answer → answer_of most text ≡ answer
number_is most text (Ok k) (is, small, within, e) =
    let n = number_of text in
    chosen_number (are_digits text) (length text) (among most n) is.0 is.1
    ∙ among_ticks most n small (subst (λ (x : ℕ). x ≤ most) e within) ∙ ap {B = Result ℕ ClockTextFault} (λ x. Ok x) (sym e)
number_is most text (Err Form) never = chosen_none (are_digits text) (length text) (among most (number_of text)) never
number_is most text (Err TooLarge) (is, large) =
    chosen_number (are_digits text) (length text) (among most (number_of text)) is.0 is.1 ∙ among_large most (number_of text) large
number_is most text (Err NotInPartition) (is, small, beyond) =
    chosen_number (are_digits text) (length text) (among most (number_of text)) is.0 is.1 ∙ among_others most (number_of text) small beyond
number_is most text (Err TooManyFields) g = absurd g
number_is most text (Err NoPartition) g = absurd g
number_is most text (Err FieldBelowOffset) g = absurd g

pub one_number : (most : ℕ) (text : List ℕ) (a b : Result ℕ ClockTextFault) → ReadsNumber most text a → ReadsNumber most text b → a ≡ b
one_number most text a b f g = sym (number_is most text a f) ∙ number_is most text b g

number_found : (most : ℕ) (text : List ℕ) → (answer : Result ℕ ClockTextFault) × ReadsNumber most text answer
number_found most text = elim (cases_Bool (are_digits text)) [
  | inl d ↦ elim (cases_Bool (nat_le 1 (length text))) [
    | inl h ↦ ranged (d, passed 1 (length text) h)
    | inr h ↦ (Err Form, λ is. short (length text) h is.1)
  ]
  | inr d ↦ (Err Form, λ is. no_digits (are_digits text) d is.0)
]
  where
    short : (n : ℕ) → nat_le 1 n ≡ false → 1 ≤ n → ⊥
    short n h k = let l = failed 1 n h in omega arith

    no_digits : (b : Bool) → b ≡ false → IsTrue b → ⊥
    no_digits b e h = omega (arith, ap {B = ℕ} (λ (x : Bool). if x then 1 else 0) (sym h ∙ e))

    ranged : IsNumber text → (answer : Result ℕ ClockTextFault) × ReadsNumber most text answer
    ranged is = elim (cases_Bool (nat_le (number_of text) (10 ^ 18))) [
      | inl s ↦ elim (cases_Bool (nat_le (number_of text) most)) [
        | inl w ↦ (Ok (number_of text), (is, passed (number_of text) (10 ^ 18) s, passed (number_of text) most w, refl))
        | inr w ↦ (Err NotInPartition, (is, passed (number_of text) (10 ^ 18) s, failed (number_of text) most w))
      ]
      | inr s ↦ (Err TooLarge, (is, failed (number_of text) (10 ^ 18) s))
    ]

-- a text of a clock, as the answer to a time
abbrev pub of_clock : Result ℕ ClockTextFault → Result ℕ TimeFault
of_clock (Ok k) = Ok k
of_clock (Err why) = Err (faults.BadClockText why)

record HasRead (clock : Clock) (form : TickForm) (text : List ℕ) (answer : Result ℕ TimeFault) : Type 0 where
  reading : Result ℕ ClockTextFault
  reads : ReadsTick clock form text reading
  follows : answer ≡ of_clock reading

read : (clock : Clock) (form : TickForm) (text : List ℕ) (answer : Result ℕ TimeFault) → TickGives clock form text answer → HasRead clock form text answer
read clock form text (Ok k) g = record { reading = Ok k; reads = g; follows = refl }
read clock form text (Err (faults.BadClockText why)) g = record { reading = Err why; reads = g; follows = refl }
read clock form text (Err other) g = absurd g

pub only_tick : (clock : Clock) (form : TickForm) (text : List ℕ) (found : Result ℕ ClockTextFault) → ((answer : Result ℕ ClockTextFault) → ReadsTick clock form text answer → found ≡ answer)
    → (answer : Result ℕ TimeFault) → TickGives clock form text answer → of_clock found ≡ answer
only_tick clock form text found only answer g = let h = read clock form text answer g in ap of_clock (only h.reading h.reads) ∙ sym h.follows

one_reading : ReadingIsOne → (clock : Clock) (form : TickForm) (text : List ℕ) (a b : Result ℕ ClockTextFault) → ReadsTick clock form text a → ReadsTick clock form text b → a ≡ b
one_reading one clock tick_forms.Clock text a b f g = one clock.face text a b f g
one_reading one clock tick_forms.Ticks text a b f g = one_number (total clock) text a b f g

pub one_tick : ReadingIsOne → OneTick
one_tick one clock form text a b f g =
    let h = read clock form text a f in
    h.follows ∙ only_tick clock form text h.reading (λ t. one_reading one clock form text h.reading t h.reads) b g

found_reading : ReadingIsFound → (clock : Clock) (form : TickForm) (text : List ℕ) → IsClock clock → (answer : Result ℕ ClockTextFault) × ReadsTick clock form text answer
found_reading found clock tick_forms.Clock text is = found clock.face text is.face
found_reading found clock tick_forms.Ticks text is = number_found (total clock) text

pub each_gives_tick : ReadingIsFound → EachTextGivesTick
each_gives_tick found clock form text is = let r = found_reading found clock form text is in go r.0 r.1
  where
    go : (reading : Result ℕ ClockTextFault) → ReadsTick clock form text reading → (answer : Result ℕ TimeFault) × TickGives clock form text answer
    go (Ok k) reads = (Ok k, reads)
    go (Err why) reads = (Err (faults.BadClockText why), reads)
