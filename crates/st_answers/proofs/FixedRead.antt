-- A number with fixed decimals is read as itself, where it lies in the range of times.
use Rattle.std.proofs.Common.{◌≡◌, ℕ, zero, suc, ◌+◌, ◌-◌, ◌*◌, ◌/◌, ◌%◌, ◌^◌, ◌<◌, ◌≤◌, ℤ, pos, negsuc, ◌*ℤ◌, ◌≤ℤ◌, ◌<ℤ◌, ◌==◌, true, false, inl, inr, List, [], ◌∷◌, ◌++◌, append_assoc, length, length-append, Option, Some, None, Result, Ok, Err, refl, sym, ap, ◌∙◌, subst, arith}
use Rattle.std.proofs.lemmas.Bool.Decides.{nat_tests}
use Rattle.std.proofs.lemmas.Grind.{common_steps}
use Rattle.std.proofs.lemmas.Int.{ints, by_lt_z}
use Rattle.std.proofs.lemmas.List.{length-replicate, length-map}
use Rattle.std.proofs.lemmas.Nat.{pow-add, div-add-mod'}
use Rattle.std.specs.List.{list_all}
use Rattle.std.specs.Prelude.{unsigned_abs}
use Rattle.st_text.specs.Bytes.{decimal_digits, number_of, padded}
use Rattle.st_text.specs.Lines.{skip_blanks, trimmed, without_end_blanks}
use Rattle.st_text.proofs.Logic.{and-left, and-right}
use Rattle.st_text.proofs.Spelled.{are_digits-padded, number_of-padded}
use Rattle.st_fraction.proofs.Ring.{cancel_z, le_cancel_z, ring}
use Rattle.st_decimal.specs.Fixed.{decimals, fixed, sign}
use Rattle.st_decimal.specs.Number.{pointed}
use Rattle.st_decimal.specs.Value.{is_minus, signed}
use Rattle.st_decimal.proofs.FixedDecimals.{places_behind, power_some}
use Rattle.st_dates.specs.Range.{IsInRange, range_end, range_start}
use Rattle.st_dates.specs.declared.system.System.TheVariants.{Tdb}
use Rattle.st_forms.specs.NumberForm.{AreDecimals, AreNumberParts, NumberText, decimal_part, number_units}
use Rattle.st_forms.specs.Reading.{IsSign, IsValueOf, ReadsTime, Spells, Written, plain, spelling}
use Rattle.st_forms.specs.WordMachine.{is_no_blank}
use Rattle.st_forms.specs.declared.fault.FormFault.{FormFault}
use Rattle.st_forms.specs.declared.fault.FormFault.TheVariants.{OutOfRange}
use Rattle.st_forms.specs.declared.form.Form.TheVariants.{Seconds}
use Rattle.st_forms.specs.declared.time.TimeText.{TimeText}
use Rattle.st_forms.specs.declared.time.TimeText.TheVariants.{Instant}
use Rattle.st_forms.proofs.AnswerLaws.{one_answer}
use Rattle.st_forms.proofs.Tails.{blankless_both, digits_blankless}
use Rattle.st_clock.specs.Return.{printed}
use Rattle.st_clock.specs.Time.{IsInRange as IsValueInRange}

-- a text without blanks has none at its ends
all-kept : (t : List ℕ) → list_all is_no_blank t ≡ true → without_end_blanks t ≡ t
all-kept [] h = refl
all-kept (b ∷ t) h = grind (arith, common_steps, all-kept t (and-right (is_no_blank b) (list_all is_no_blank t) h), and-left (is_no_blank b) (list_all is_no_blank t) h)

none-skipped : (t : List ℕ) → list_all is_no_blank t ≡ true → skip_blanks t ≡ t
none-skipped [] h = refl
none-skipped (b ∷ t) h = grind (arith, common_steps, and-left (is_no_blank b) (list_all is_no_blank t) h)

kept : (t : List ℕ) → list_all is_no_blank t ≡ true → trimmed t ≡ t
kept t h = ap without_end_blanks (none-skipped t h) ∙ all-kept t h

-- the parts of the text: its sign, the digits before the point and those after it
places-of : ℕ → ℕ → Option (List ℕ)
places-of zero m = None
places-of (suc p) m = Some (padded (suc p) m)

abbrev number-text : ℕ → ℕ → NumberText
number-text places a = record { whole = decimal_digits (a / 10 ^ places); decimals = places-of places (a % 10 ^ places) }

abbrev written : ℤ → ℕ → Written
written n places = plain (sign n) (number-text places (unsigned_abs n))

some-places : (p : ℕ) → (suc p == 0) ≡ false
some-places p = grind (arith, nat_tests)

decimals-some : (p m : ℕ) → decimals (suc p) m ≡ 46 ∷ padded (suc p) m
decimals-some p m = rw (some-places p) refl

-- what stands after the digits before the point
behind-is : (places m : ℕ) → pointed (places-of places m) ≡ decimals places m
unfolding places-of
behind-is zero m = refl
behind-is (suc p) m = sym (decimals-some p m)

whole-is : (n : ℤ) (places : ℕ) → fixed n places ≡ spelling (written n places)
whole-is n places =
    append_assoc (sign n) (decimal_digits (unsigned_abs n / 10 ^ places)) (decimals places (unsigned_abs n % 10 ^ places))
    ∙ ap (λ (t : List ℕ). sign n ++ (decimal_digits (unsigned_abs n / 10 ^ places) ++ t)) (sym (behind-is places (unsigned_abs n % 10 ^ places)))

sign-is : (n : ℤ) → IsSign (sign n)
sign-is (pos k) = inl refl
sign-is (negsuc k) = inr (inr refl)

some-digit : (n : ℕ) → 1 ≤ length (decimal_digits n)
some-digit n = simp (length-append, length-replicate, length-map) (omega arith)

decimals-are : (places a : ℕ) → places ≤ 9 → AreDecimals (places-of places (a % 10 ^ places))
unfolding places-of
decimals-are zero a few = tt
decimals-are (suc p) a few = record {
  digits = are_digits-padded (suc p) (a % 10 ^ suc p);
  at_least = let l = places_behind (suc p) a in omega (arith, l);
  at_most = let l = places_behind (suc p) a in omega (arith, l, few);
}

parts-are : (places a : ℕ) → places ≤ 9 → AreNumberParts (number-text places a)
parts-are places a few = record {
  digits = are_digits-padded 1 (a / 10 ^ places);
  some = some-digit (a / 10 ^ places);
  decimals = decimals-are places a few;
}

-- no byte of it is a blank
sign-blankless : (n : ℤ) → list_all is_no_blank (sign n) ≡ true
sign-blankless (pos k) = refl
sign-blankless (negsuc k) = refl

behind-blankless : (places m : ℕ) → list_all is_no_blank (decimals places m) ≡ true
behind-blankless zero m = refl
behind-blankless (suc p) m = ap (list_all is_no_blank) (decimals-some p m) ∙ digits_blankless (padded (suc p) m) (are_digits-padded (suc p) m)

blankless : (n : ℤ) (places : ℕ) → list_all is_no_blank (fixed n places) ≡ true
blankless n places =
    let front : List ℕ = decimal_digits (unsigned_abs n / 10 ^ places) in
    let back : List ℕ = decimals places (unsigned_abs n % 10 ^ places) in
    blankless_both (sign n ++ front) back
    (blankless_both (sign n) front (sign-blankless n) (digits_blankless front (are_digits-padded 1 (unsigned_abs n / 10 ^ places))))
    (behind-blankless places (unsigned_abs n % 10 ^ places))

-- the units of a number: as many as its last place has, times the number of these
abbrev pub last : ℕ → ℕ
last places = 10 ^ (18 - places)

power-split : (places : ℕ) → places ≤ 9 → 10 ^ places * last places ≡ 10 ^ 18
power-split places few =
    let e : places + (18 - places) ≡ 18 = omega (arith, few) in
    sym (pow-add 10 places (18 - places)) ∙ ap (λ (k : ℕ). 10 ^ k) e

part-is : (places a : ℕ) → decimal_part (places-of places (a % 10 ^ places)) ≡ a % 10 ^ places * last places
unfolding places-of
part-is zero a = omega arith
part-is (suc p) a =
    let m : ℕ = a % 10 ^ suc p in
    ap (λ (k : ℕ). number_of (padded (suc p) m) * 10 ^ (18 - k)) (places_behind (suc p) a)
    ∙ ap (λ (k : ℕ). k * last (suc p)) (number_of-padded (suc p) m)

together : (a b c q r whole : ℕ) → b * c ≡ whole → q * b + r ≡ a → q * whole + r * c ≡ a * c
together a b c q r whole e f = rw (sym e, sym f) (grind arith)

units-of : (places a : ℕ) → places ≤ 9 → number_units (number-text places a) ≡ a * last places
units-of places a few =
    ap (λ (k : ℕ). k * 10 ^ 18 + decimal_part (places-of places (a % 10 ^ places))) (number_of-padded 1 (a / 10 ^ places))
    ∙ ap (λ (k : ℕ). a / 10 ^ places * 10 ^ 18 + k) (part-is places a)
    ∙ together a (10 ^ places) (last places) (a / 10 ^ places) (a % 10 ^ places) (10 ^ 18) (power-split places few) (div-add-mod' a (10 ^ places))

abbrev pub instant : ℤ → ℕ → ℤ
instant n places = n *ℤ pos (last places)

signed-is : (n : ℤ) (c : ℕ) → signed (is_minus (sign n)) (unsigned_abs n * c) ≡ n *ℤ pos c
signed-is (pos k) c = refl
signed-is (negsuc k) c = refl

value-is : (n : ℤ) (places : ℕ) → places ≤ 9 → IsValueOf (written n places) (instant n places)
value-is n places few = sym (ap (λ (k : ℕ). signed (is_minus (sign n)) k) (units-of places (unsigned_abs n) few) ∙ signed-is n (last places))

spells : (n : ℤ) (places : ℕ) → places ≤ 9 → Spells Tdb Seconds (fixed n places) (written n places)
spells n places few = record {
  parts = (sign-is n, parts-are places (unsigned_abs n) few);
  whole = kept (fixed n places) (blankless n places) ∙ whole-is n places;
  taken = (λ e. cc, λ e. cc);
}

pub fixed-read : (n : ℤ) (places : ℕ) → places ≤ 9 → IsInRange (instant n places) → ReadsTime (fixed n places) Tdb Seconds (Ok (Instant (instant n places)))
fixed-read n places few range =
    let v = value-is n places few in
    (written n places, spells n places few, tt, (instant n places, v, range), v)

fixed-out : (n : ℤ) (places : ℕ) → places ≤ 9 → (IsInRange (instant n places) → ⊥) → ReadsTime (fixed n places) Tdb Seconds (Err OutOfRange)
fixed-out n places few out = (written n places, spells n places few, tt, (instant n places, value-is n places few, out))

-- what lies in the range as a fraction does so in units
pub in-range : (n : ℤ) (places : ℕ) → places ≤ 9 → IsValueInRange (printed places n) → IsInRange (instant n places)
in-range n places few h =
    let e = power-split places few in (
      low range_start n (10 ^ places) (last places) (10 ^ 18) (power_some places) e h.from.le,
      high range_end n (10 ^ places) (last places) (10 ^ 18) (power_some places) e h.to.le,
    )
  where
    turn : (x b c : ℤ) → x *ℤ (b *ℤ c) ≡ x *ℤ c *ℤ b
    turn x b c = simp ring

    low : (s n : ℤ) (b c whole : ℕ) → 0 < b → b * c ≡ whole → (s *ℤ pos b) ≤ℤ (n *ℤ pos whole) → s ≤ℤ (n *ℤ pos c)
    low s n b c whole some e h =
        le_cancel_z s (n *ℤ pos c) b some (subst (λ (x : ℤ). (s *ℤ pos b) ≤ℤ x) (ap (λ (k : ℕ). n *ℤ pos k) (sym e) ∙ turn n (pos b) (pos c)) h)

    high : (t n : ℤ) (b c whole : ℕ) → 0 < b → b * c ≡ whole → (n *ℤ pos whole) ≤ℤ (t *ℤ pos b) → (n *ℤ pos c) ≤ℤ t
    high t n b c whole some e h =
        le_cancel_z (n *ℤ pos c) t b some (subst (λ (x : ℤ). x ≤ℤ (t *ℤ pos b)) (ap (λ (k : ℕ). n *ℤ pos k) (sym e) ∙ turn n (pos b) (pos c)) h)

-- a text of the range is that of one number
decide : (z : ℤ) → {P : Type 0} → (IsInRange z → P) → ((IsInRange z → ⊥) → P) → P
decide z f g =
    by_lt_z z range_start (λ (l : z <ℤ range_start). g (λ r. absurd (omega (arith, ints, l, r.0))))
    (λ (a : range_start ≤ℤ z). by_lt_z range_end z (λ (l : range_end <ℤ z). g (λ r. absurd (omega (arith, ints, l, r.1)))) (λ (b : z ≤ℤ range_end). f (a, b)))

instants : (x y : ℤ) → ◌≡◌ {A = Result TimeText FormFault} (Ok (Instant x)) (Ok (Instant y)) → x ≡ y
instants x y e = cc

never : (x : ℤ) → ◌≡◌ {A = Result TimeText FormFault} (Err OutOfRange) (Ok (Instant x)) → ⊥
never x e = absurd cc

pub one-number : (n m : ℤ) (places : ℕ) → places ≤ 9 → IsInRange (instant m places) → fixed n places ≡ fixed m places → n ≡ m
one-number n m places few range e =
    let R : List ℕ → Type 0 = λ t. ReadsTime t Tdb Seconds (Ok (Instant (instant m places))) in
    let reads = subst R (sym e) (fixed-read m places few range) in
    decide (instant n places)
    (λ r. cancel_z n m (last places) (power_some (18 - places))
    (instants (instant n places) (instant m places) (one_answer (fixed n places) Tdb Seconds (Ok (Instant (instant n places))) (Ok (Instant (instant m places))) (fixed-read n places few r) reads)))
    (λ out. absurd (never (instant m places) (one_answer (fixed n places) Tdb Seconds (Err OutOfRange) (Ok (Instant (instant m places))) (fixed-out n places few out) reads)))

-- in units it is the printed number
pub same-value : (n : ℤ) (places : ℕ) → places ≤ 9 → n *ℤ pos (10 ^ 18) ≡ instant n places *ℤ pos (10 ^ places)
same-value n places few = ap (λ (k : ℕ). n *ℤ pos k) (sym (power-split places few)) ∙ go n (pos (10 ^ places)) (pos (last places))
  where
    go : (x b c : ℤ) → x *ℤ (b *ℤ c) ≡ x *ℤ c *ℤ b
    go x b c = simp ring
