-- What a program writes as a number or a date is a run that spells it.
use Rattle.std.proofs.Common.{◌≡◌, ℕ, zero, suc, ◌+◌, ◌/◌, ◌%◌, ◌^◌, ◌<◌, ◌≤◌, ℤ, pos, negsuc, ◌+ℤ◌, Bool, true, false, ◌&&◌, List, [], ◌∷◌, ◌++◌, length, length-append, refl, sym, ap, ◌∙◌, subst, arith}
use Rattle.std.specs.Prelude.{◌==◌, MatchBool, if◌then◌else◌, unsigned_abs}
use Rattle.std.specs.Char.{is_ascii_digit}
use Rattle.std.specs.List.{list_all}
use Rattle.std.proofs.lemmas.Bool.{and_from, and_parts, cond-false}
use Rattle.std.proofs.lemmas.Bool.Decides.{nat_tests}
use Rattle.std.proofs.lemmas.Grind.{common_steps}
use Rattle.std.proofs.lemmas.List.{length-replicate, length-map}
use Rattle.std.proofs.lemmas.List.Folds.{list_all-append}
use Rattle.std.proofs.Math.Nat.{div-le_self}
use Rattle.st_text.specs.Bytes.{are_digits, decimal_digits, padded}
use Rattle.st_text.proofs.Padded.{digits_at_most}
use Rattle.st_text.proofs.Spelled.{are_digits-padded}
use Rattle.st_decimal.specs.Fixed.{decimals, fixed, sign}
use Rattle.st_decimal.specs.Scaling.{IsTimesTen}
use Rattle.st_decimal.specs.ScalingMachine.{dec_of_units18}
use Rattle.st_decimal.specs.Value.{IsOfUnits18}
use Rattle.st_decimal.specs.declared.number.Dec.{Dec}
use Rattle.st_decimal.proofs.FixedDecimals.{places_behind}
use Rattle.st_decimal.proofs.FixedReads.{fixed-reads}
use Rattle.st_decimal.proofs.Stripped.{of_units_is}
use Rattle.st_dates.specs.AtDate.{moment}
use Rattle.st_dates.specs.Civil.{IsCivil}
use Rattle.st_dates.specs.Range.{IsInRange}
use Rattle.st_dates.specs.WrittenDate.{date_text}
use Rattle.st_dates.specs.declared.civil.Civil.{Civil}
use Rattle.st_dates.proofs.WrittenDates.{date-reads}
use Rattle.st_kernel_text.specs.Bytes.{is_run_byte}
use Rattle.st_kernel_text.specs.Values.{ReadsDate, ReadsNumber, ReadsRun, SpellsRun}
use Rattle.st_kernel_text.proofs.DataLines.{weaker}
use Rattle.st_kernel_text.proofs.Runs.{in_range}

-- a digit or a dash, a point
abbrev is_mark_free : ℕ → Bool
is_mark_free b = is_run_byte b && (if b == 64 then false else true)

digit_free : (b : ℕ) → is_ascii_digit b ≡ true → is_mark_free b ≡ true
unfolding is_run_byte
digit_free b h = grind (arith, nat_tests, common_steps)

digits_free : (text : List ℕ) → are_digits text ≡ true → list_all is_mark_free text ≡ true
digits_free text h = weaker is_ascii_digit is_mark_free digit_free text h

dash_free : is_mark_free 45 ≡ true
unfolding is_run_byte
dash_free = refl

point_free : is_mark_free 46 ≡ true
unfolding is_run_byte
point_free = refl

both_free : (a b : List ℕ) → list_all is_mark_free a ≡ true → list_all is_mark_free b ≡ true → list_all is_mark_free (a ++ b) ≡ true
both_free a b h k = list_all-append is_mark_free a b ∙ and_from _ _ h k

sign_free : (n : ℤ) → list_all is_mark_free (sign n) ≡ true
sign_free (pos k) = refl
sign_free (negsuc k) = and_from _ _ dash_free refl

some_places : (p : ℕ) → (suc p == 0) ≡ false
some_places p = grind (arith, nat_tests)

decimals_some : (p m : ℕ) → decimals (suc p) m ≡ 46 ∷ padded (suc p) m
decimals_some p m = cond-false _ _ _ (some_places p)

decimals_free : (places m : ℕ) → list_all is_mark_free (decimals places m) ≡ true
decimals_free zero m = refl
decimals_free (suc p) m =
    ap (list_all is_mark_free) (decimals_some p m) ∙ and_from _ _ point_free (digits_free (padded (suc p) m) (are_digits-padded (suc p) m))

fixed_free : (n : ℤ) (places : ℕ) → list_all is_mark_free (fixed n places) ≡ true
fixed_free n places =
    let front : List ℕ = decimal_digits (unsigned_abs n / 10 ^ places) in
    let back : List ℕ = decimals places (unsigned_abs n % 10 ^ places) in
    both_free (sign n ++ front) back
    (both_free (sign n) front (sign_free n) (digits_free front (are_digits-padded 1 (unsigned_abs n / 10 ^ places))))
    (decimals_free places (unsigned_abs n % 10 ^ places))

-- the text is short
sign_short : (n : ℤ) → length (sign n) ≤ 1
sign_short (pos k) = omega arith
sign_short (negsuc k) = omega arith

front_some : (n : ℕ) → 0 < length (decimal_digits n)
front_some n = simp (length-append, length-replicate, length-map) (omega arith)

front_short : (n : ℕ) → n < 2 ^ 128 → length (decimal_digits n) ≤ 40
front_short n h = let few = digits_at_most n h in simp (length-append, length-replicate, length-map) (omega (arith, few))

decimals_short : (places a : ℕ) → places ≤ 18 → length (decimals places (a % 10 ^ places)) ≤ 19
decimals_short zero a few = omega arith
decimals_short (suc p) a few =
    let text = ap length (decimals_some p (a % 10 ^ suc p)) in
    let count = places_behind (suc p) a in
    omega (arith, text, count, few)

length-fixed : (n : ℤ) (places : ℕ) → length (fixed n places)
    ≡ (length (sign n) + length (decimal_digits (unsigned_abs n / 10 ^ places))) + length (decimals places (unsigned_abs n % 10 ^ places))
length-fixed n places =
    length-append (sign n ++ decimal_digits (unsigned_abs n / 10 ^ places)) (decimals places (unsigned_abs n % 10 ^ places))
    ∙ ap (λ (k : ℕ). k + length (decimals places (unsigned_abs n % 10 ^ places))) (length-append (sign n) (decimal_digits (unsigned_abs n / 10 ^ places)))

fixed_short : (n : ℤ) (places : ℕ) → places ≤ 18 → unsigned_abs n < 10 ^ 30 → length (fixed n places) ≤ 1000
fixed_short n places few small =
    let less : unsigned_abs n / 10 ^ places ≤ unsigned_abs n = div-le_self (unsigned_abs n) (10 ^ places) in
    omega (
      arith,
      length-fixed n places,
      sign_short n,
      front_short (unsigned_abs n / 10 ^ places) (omega (arith, less, small)),
      decimals_short places (unsigned_abs n) few,
    )

fixed_some : (n : ℤ) (places : ℕ) → 0 < length (fixed n places)
fixed_some n places = omega (arith, length-fixed n places, front_some (unsigned_abs n / 10 ^ places))

-- a run without an `@` is a number
no_at : (b : ℕ) → (if b == 64 then false else true) ≡ true → (b == 64) ≡ false
no_at b h = grind (arith, nat_tests, common_steps)

run_bytes : (text : List ℕ) → list_all is_mark_free text ≡ true → list_all is_run_byte text ≡ true
run_bytes text h = weaker is_mark_free is_run_byte (λ b k. (and_parts (is_run_byte b) (if b == 64 then false else true) k).0) text h

number_run : (text : List ℕ) (d : Dec) → 0 < length text → list_all is_mark_free text ≡ true → ReadsNumber text d → ReadsRun text d
number_run [] d some free reads = absurd (omega (arith, some))
number_run (b ∷ text) d some free reads =
    let first = (and_parts (is_mark_free b) (list_all is_mark_free text) free).0 in
    let none = no_at b (and_parts (is_run_byte b) (if b == 64 then false else true) first).1 in
    subst (λ (c : Bool). MatchBool c (ReadsDate text d) (ReadsNumber (b ∷ text) d)) (sym none) reads

pub fixed-spells : (n : ℤ) (places : ℕ) → places ≤ 18 → unsigned_abs n < 10 ^ 30
    → (d : Dec) × (SpellsRun d (fixed n places) × IsTimesTen d.digits (d.tens +ℤ pos places) n)
fixed-spells n places few small =
    let read = fixed-reads n places small in (
      read.0,
      (
        record {
          bytes = run_bytes (fixed n places) (fixed_free n places);
          reads = number_run (fixed n places) read.0 (fixed_some n places) (fixed_free n places) (record { short = fixed_short n places few small; reads = read.1.0 });
        },
        read.1.1,
      ),
    )

-- a date after an `@`
at_run : is_run_byte 64 ≡ true
unfolding is_run_byte
at_run = refl

date_bytes : (c : Civil) → list_all is_run_byte (date_text c) ≡ true
date_bytes c =
    let year : List ℕ = padded 4 (unsigned_abs c.year) in
    let month : List ℕ = padded 2 c.month in
    let day : List ℕ = padded 2 c.day in
    let last = and_from _ _ dash_free (digits_free day (are_digits-padded 2 c.day)) in
    let more = and_from _ _ dash_free (both_free month (45 ∷ day) (digits_free month (are_digits-padded 2 c.month)) last) in
    run_bytes (date_text c) (both_free year (45 ∷ (month ++ (45 ∷ day))) (digits_free year (are_digits-padded 4 (unsigned_abs c.year))) more)

pub date-spells : (n : ℤ) (c : Civil) → IsCivil n c → unsigned_abs c.year < 10_000 → IsInRange (moment n 0)
    → (d : Dec) × (SpellsRun d (64 ∷ date_text c) × IsOfUnits18 (moment n 0) d)
date-spells n c is small within =
    let d : Dec = dec_of_units18 (moment n 0) in
    let units : IsOfUnits18 (moment n 0) d = of_units_is (moment n 0) (in_range (moment n 0) within) in (
      d,
      (
        record {
          bytes = and_from _ _ at_run (date_bytes c);
          reads = record { instant = moment n 0; reads = date-reads n c is small within; seconds = units };
        },
        units,
      ),
    )
