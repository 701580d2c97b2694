-- The place at which a text stops being a beginning of a number.
use Rattle.std.proofs.Common.{◌≡◌, ℕ, ◌+◌, ◌<◌, ◌≤◌, suc, Bool, true, false, List, [], ◌∷◌, ◌++◌, inl, inr, length, take, drop, Option, Some, None, refl, sym, ◌∙◌, ap, arith, append_assoc, subst}
use Rattle.std.proofs.lemmas.List.{take-take, take-append-drop}
use Rattle.std.proofs.lemmas.Bool.{cases_lt}
use Rattle.std.specs.Prelude.{if◌then◌else◌}
use Rattle.st_decimal.specs.declared.place.Place.{Place}
use Rattle.st_decimal.specs.declared.place.Place.TheVariants.{Start, Signed, Whole, Dot, Decimals, Marked, MarkedSigned, Raised}
use Rattle.st_decimal.specs.Number.{IsNumber, BeginsNumber, StopsAt}
use Rattle.st_decimal.specs.NumberMachine.{stop_of, on_digit, is_end_of}
use Rattle.st_decimal.proofs.Accepts.{accepts, accepts-none, after, digit_step, ends_at}
use Rattle.st_decimal.proofs.Accepted.{number_accepted}
use Rattle.st_decimal.proofs.Sound.{accepted_number}

not_both : {b : Bool} → b ≡ true → b ≡ false → ⊥
not_both p q = let e : true ≡ false = sym p ∙ q in cc

zero_byte_accepted : (q : Place) → ends_at (on_digit q) ≡ true → accepts (Some q) (48 ∷ []) ≡ true
zero_byte_accepted q h = digit_step q 48 [] refl ∙ h

-- bytes that make a number after each place
completion : (q : Place) → (rest : List ℕ) × (accepts (Some q) rest ≡ true)
completion Start = (48 ∷ [], zero_byte_accepted Start refl)
completion Signed = (48 ∷ [], zero_byte_accepted Signed refl)
completion Whole = ([], refl)
completion Dot = (48 ∷ [], zero_byte_accepted Dot refl)
completion Decimals = ([], refl)
completion Marked = (48 ∷ [], zero_byte_accepted Marked refl)
completion MarkedSigned = (48 ∷ [], zero_byte_accepted MarkedSigned refl)
completion Raised = ([], refl)

record Stops (q : Place) (t : List ℕ) (j : ℕ) : Type 0 where
  within : j ≤ length t
  rest : List ℕ
  before : accepts (Some q) (take j t ++ rest) ≡ true
  later : j < length t → (more : List ℕ) → accepts (Some q) (take (j + 1) t ++ more) ≡ false
  whole : j ≡ length t → accepts (Some q) t ≡ false

-- the first byte may not stand there
stops_here : (q : Place) (b : ℕ) (t : List ℕ) → after (Some q) b ≡ None → Stops q (b ∷ t) 0
stops_here q b t e = record {
  within = omega arith;
  rest = (completion q).0;
  before = (completion q).1;
  later = λ l more. ap (λ (o : Option Place). accepts o more) e ∙ accepts-none more;
  whole = λ l. absurd (omega arith);
}

stops_at_end : (q : Place) → is_end_of q ≡ false → Stops q [] 0
stops_at_end q e = record {
  within = omega arith;
  rest = (completion q).0;
  before = (completion q).1;
  later = λ l more. absurd (omega arith);
  whole = λ l. e;
}

taken : (q : Place) (b : ℕ) (t more : List ℕ) (j : ℕ) (r : Place) → after (Some q) b ≡ Some r → accepts (Some q) (take (suc j) (b ∷ t) ++ more) ≡ accepts (Some r) (take j t ++ more)
taken q b t more j r e = ap (λ (o : Option Place). accepts o (take j t ++ more)) e

stops_later : (q : Place) (b : ℕ) (t : List ℕ) (r : Place) (j : ℕ) → after (Some q) b ≡ Some r → Stops r t j → Stops q (b ∷ t) (suc j)
stops_later q b t r j e s = record {
  within = omega (arith, s.within);
  rest = s.rest;
  before = taken q b t s.rest j r e ∙ s.before;
  later = λ l more.
      ap (λ (k : ℕ). accepts (Some q) (take k (b ∷ t) ++ more)) (suc_more j)
      ∙ taken q b t more (j + 1) r e ∙ s.later (omega arith) more;
  whole = λ l. ap (λ (o : Option Place). accepts o t) e ∙ s.whole (omega arith);
}
  where
    suc_more : (i : ℕ) → suc i + 1 ≡ suc (i + 1)
    suc_more i = omega arith

found_by : (q : Place) (i b : ℕ) (t : List ℕ) (k : ℕ) (o : Option Place) → after (Some q) b ≡ o
    → (elim o as (λ _. Option ℕ) [ None ↦ Some i | Some r ↦ stop_of r (i + 1) t ]) ≡ Some k
    → ((r : Place) → stop_of r (i + 1) t ≡ Some k → (j : ℕ) × (k ≡ i + 1 + j) × Stops r t j)
    → (j : ℕ) × (k ≡ i + j) × Stops q (b ∷ t) j
found_by q i b t k None e h rest = let same : i ≡ k = cc in (0, omega arith, stops_here q b t e)
found_by q i b t k (Some r) e h rest = let (j, at, s) = rest r h in (suc j, omega arith, stops_later q b t r j e s)

-- the machine's place is where the text stops
stop_found : (q : Place) (i : ℕ) (t : List ℕ) (k : ℕ) → stop_of q i t ≡ Some k → (j : ℕ) × (k ≡ i + j) × Stops q t j
unfolding stop_of
stop_found q i [] k h = at_end (is_end_of q) refl h
  where
    at_end : (b : Bool) → is_end_of q ≡ b → (if b then None else Some i) ≡ Some k → (j : ℕ) × (k ≡ i + j) × Stops q [] j
    at_end true e g = absurd (cc)
    at_end false e g = let same : i ≡ k = cc in (0, omega arith, stops_at_end q e)
stop_found q i (b ∷ t) k h = found_by q i b t k (after (Some q) b) refl h (λ r g. stop_found r (i + 1) t k g)

none_by : (q : Place) (i b : ℕ) (t : List ℕ) (o : Option Place) → after (Some q) b ≡ o
    → (elim o as (λ _. Option ℕ) [ None ↦ Some i | Some r ↦ stop_of r (i + 1) t ]) ≡ None
    → ((r : Place) → stop_of r (i + 1) t ≡ None → accepts (Some r) t ≡ true) → accepts (Some q) (b ∷ t) ≡ true
none_by q i b t None e h rest = absurd (cc)
none_by q i b t (Some r) e h rest = ap (λ (o : Option Place). accepts o t) e ∙ rest r h

-- where it finds none, the text is a number
pub stop_none : (q : Place) (i : ℕ) (t : List ℕ) → stop_of q i t ≡ None → accepts (Some q) t ≡ true
unfolding stop_of
stop_none q i [] h = at_end (is_end_of q) refl h
  where
    at_end : (b : Bool) → is_end_of q ≡ b → (if b then None else Some i) ≡ None → is_end_of q ≡ true
    at_end true e g = e
    at_end false e g = absurd (cc)
stop_none q i (b ∷ t) h = none_by q i b t (after (Some q) b) refl h (λ r g. stop_none r (i + 1) t g)

accepted_by : (q : Place) (i b : ℕ) (t : List ℕ) (o : Option Place) → after (Some q) b ≡ o → accepts o t ≡ true
    → ((r : Place) → accepts (Some r) t ≡ true → stop_of r (i + 1) t ≡ None)
    → (elim o as (λ _. Option ℕ) [ None ↦ Some i | Some r ↦ stop_of r (i + 1) t ]) ≡ None
accepted_by q i b t None e h rest = absurd (not_both h (accepts-none t))
accepted_by q i b t (Some r) e h rest = rest r h

pub accepted_stop : (q : Place) (i : ℕ) (t : List ℕ) → accepts (Some q) t ≡ true → stop_of q i t ≡ None
unfolding stop_of
accepted_stop q i [] h = rw h refl
accepted_stop q i (b ∷ t) h = accepted_by q i b t (after (Some q) b) refl h (λ r g. accepted_stop r (i + 1) t g)

-- in the words of the subject
pub stops_at : (t : List ℕ) (k : ℕ) → stop_of Start 0 t ≡ Some k → StopsAt t k
stops_at t k h =
    let (j, at, s) = stop_found Start 0 t k h in
    let same : j ≡ k = omega (arith, at) in
    subst (λ (n : ℕ). StopsAt t n) same (record {
      within = s.within;
      before = (s.rest, accepted_number (take j t ++ s.rest) s.before);
      after = λ l (more, (p, parts, is)). not_both (ap (λ (xs : List ℕ). accepts (Some Start) xs) is ∙ number_accepted p parts) (s.later l more);
      whole = λ l (p, parts, is). not_both (ap (λ (xs : List ℕ). accepts (Some Start) xs) is ∙ number_accepted p parts) (s.whole l);
    })

pub number_stops_nowhere : (t : List ℕ) → IsNumber t → stop_of Start 0 t ≡ None
number_stops_nowhere t (p, parts, is) = accepted_stop Start 0 t (ap (λ (xs : List ℕ). accepts (Some Start) xs) is ∙ number_accepted p parts)

pub no_stop_number : (t : List ℕ) → stop_of Start 0 t ≡ None → IsNumber t
no_stop_number t h = accepted_number t (stop_none Start 0 t h)

-- a beginning of a beginning is one
begins_shorter : (t : List ℕ) (m k : ℕ) → m ≤ k → BeginsNumber (take k t) → BeginsNumber (take m t)
begins_shorter t m k l (rest, number) =
    let cut : take m t ++ (drop m (take k t) ++ rest) ≡ take k t ++ rest =
    sym (append_assoc (take m t) (drop m (take k t)) rest)
    ∙ ap (λ (xs : List ℕ). (xs ++ drop m (take k t)) ++ rest) (sym (take-take m k t l))
    ∙ ap (λ (xs : List ℕ). xs ++ rest) (take-append-drop m (take k t)) in
    (drop m (take k t) ++ rest, subst (λ (xs : List ℕ). IsNumber xs) (sym cut) number)

number_begins : (t : List ℕ) (m : ℕ) → IsNumber t → BeginsNumber (take m t)
number_begins t m number = (drop m t, subst (λ (xs : List ℕ). IsNumber xs) (sym (take-append-drop m t)) number)

pub number_stops_not : (t : List ℕ) (k : ℕ) → IsNumber t → StopsAt t k → ⊥
number_stops_not t k number s =
    elim (cases_lt k (length t)) [
      | inl l ↦ s.after l (number_begins t (k + 1) number)
      | inr g ↦ s.whole (omega (arith, s.within)) number
    ]

stops_before_not : (t : List ℕ) (k m : ℕ) → k < m → StopsAt t k → StopsAt t m → ⊥
stops_before_not t k m l s r = s.after (omega (arith, r.within)) (begins_shorter t (k + 1) m (omega arith) r.before)

-- a text stops at one place alone
pub one_stop : (t : List ℕ) (k m : ℕ) → StopsAt t k → StopsAt t m → k ≡ m
one_stop t k m s r =
    elim (cases_lt k m) [
      | inl l ↦ absurd (stops_before_not t k m l s r)
      | inr g ↦ elim (cases_lt m k) [ inl l ↦ absurd (stops_before_not t m k l r s) | inr h ↦ omega arith ]
    ]
