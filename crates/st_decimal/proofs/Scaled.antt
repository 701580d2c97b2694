-- The one decimal with a value whose digits are no multiple of ten.
use Rattle.std.proofs.Common.{◌≡◌, ◌≢◌, ℕ, ℤ, pos, ◌+ℤ◌, ◌-◌, ◌*◌, ◌%◌, ◌^◌, ◌<◌, zero, suc, inl, inr, Bool, true, false, List, length, refl, sym, ◌∙◌, ap, arith, subst}
use Rattle.std.proofs.lemmas.Bool.{cases_lt}
use Rattle.std.proofs.lemmas.Bool.Decides.{nat_tests}
use Rattle.std.proofs.lemmas.List.{nil_from_length}
use Rattle.std.proofs.Math.Nat.{pow-suc, mul_assoc}
use Rattle.std.specs.Prelude.{◌==◌}
use Rattle.st_text.specs.Bytes.{are_digits, number_of}
use Rattle.st_decimal.specs.declared.number.Dec.{Dec}
use Rattle.st_decimal.specs.Value.{IsScaled, significant, signed, skip_zeros, without_end_zeros}
use Rattle.st_decimal.specs.NumberMachine.{scaled_dec}
use Rattle.st_decimal.proofs.ZeroDigits.{number_of-significant, number_of-skip_zeros, end_nonzero, no_multiple, EndsNonzero}

scaled_zero : (minus : Bool) (n : ℕ) (tens : ℤ) (d : Dec) → n ≡ 0 → d.digits ≡ pos 0 → d.tens ≡ pos 0 → IsScaled minus n tens d
scaled_zero minus zero tens d none p q = (p, q)
scaled_zero minus (suc n) tens d none p q = absurd (omega arith)

scaled_some : (minus : Bool) (n : ℕ) (tens : ℤ) (d : Dec) (m k : ℕ) → 0 < n → n ≡ m * 10 ^ k → (m % 10 ≢ 0) → d.digits ≡ signed minus m → d.tens ≡ (tens +ℤ pos k)
    → IsScaled minus n tens d
scaled_some minus zero tens d m k some is no_ten p q = absurd (omega arith)
scaled_some minus (suc n) tens d m k some is no_ten p q = (m, k, is, no_ten, p, q)

dec_zero : (minus : Bool) (ds : List ℕ) (tens : ℤ) → significant ds ≡ 0 → scaled_dec minus ds tens ≡ record { digits = pos 0; tens = pos 0 }
unfolding scaled_dec
dec_zero minus ds tens h = let c : (significant ds == 0) ≡ true = grind (arith, nat_tests) in rw c refl

dec_some : (minus : Bool) (ds : List ℕ) (tens : ℤ) → 0 < significant ds
    → scaled_dec minus ds tens ≡ record {
      digits = signed minus (number_of (skip_zeros (without_end_zeros ds)));
      tens = tens +ℤ pos (length ds - length (without_end_zeros ds));
    }
unfolding scaled_dec
dec_some minus ds tens h = let c : (significant ds == 0) ≡ false = grind (arith, nat_tests) in rw c refl

no_digits : (ds : List ℕ) → significant ds ≡ 0 → number_of ds ≡ 0
no_digits ds h =
    let none = ap number_of (nil_from_length (skip_zeros (without_end_zeros ds)) h) in
    let product = ap (λ (n : ℕ). n * 10 ^ (length ds - length (without_end_zeros ds))) none in
    omega (arith, number_of-significant ds, product)

some_digits : (ds : List ℕ) → are_digits ds ≡ true → 0 < significant ds → EndsNonzero (without_end_zeros ds)
some_digits ds h some =
    elim (end_nonzero ds h) [
      | inl none ↦ absurd (omega (arith, some, ap (λ (xs : List ℕ). length (skip_zeros xs)) none))
      | inr e ↦ e
    ]

power_of_some : (m k n : ℕ) → n ≡ m * 10 ^ k → 0 < m → 0 < n
power_of_some m zero n is some = omega arith
power_of_some m (suc k) n is some =
    let p = power_of_some m k (m * 10 ^ k) refl some in
    omega (arith, is, p, ap (λ (x : ℕ). m * x) (pow-suc 10 k), mul_assoc m (10 ^ k) 10)

-- the machine's decimal has the value
pub scaled_dec_is : (minus : Bool) (ds : List ℕ) (tens : ℤ) → are_digits ds ≡ true → IsScaled minus (number_of ds) tens (scaled_dec minus ds tens)
scaled_dec_is minus ds tens h =
    elim (cases_lt 0 (significant ds)) [
      | inl some ↦
          let e = no_multiple (without_end_zeros ds) (some_digits ds h some) in
          let k : ℕ = length ds - length (without_end_zeros ds) in
          let m : ℕ = number_of (skip_zeros (without_end_zeros ds)) in
          let same : m ≡ number_of (without_end_zeros ds) = number_of-skip_zeros (without_end_zeros ds) in
          let is : number_of ds ≡ m * 10 ^ k = number_of-significant ds in
          subst (λ (d : Dec). IsScaled minus (number_of ds) tens d) (sym (dec_some minus ds tens some))
          (scaled_some minus (number_of ds) tens (record { digits = signed minus m; tens = tens +ℤ pos k }) m k
          (power_of_some m k (number_of ds) is (omega (arith, e.1, same))) is
          (λ z. e.0 (ap (λ (x : ℕ). x % 10) (sym same) ∙ z)) refl refl)
      | inr none ↦
          let zero_size : significant ds ≡ 0 = omega arith in
          subst (λ (d : Dec). IsScaled minus (number_of ds) tens d) (sym (dec_zero minus ds tens zero_size))
          (scaled_zero minus (number_of ds) tens (record { digits = pos 0; tens = pos 0 }) (no_digits ds zero_size) refl refl)
    ]

-- one number has one such pair
same_tens : (a b : ℕ) → a * 10 ≡ b * 10 → a ≡ b
same_tens a b h = omega arith

one_pair : (m k n l : ℕ) → m * 10 ^ k ≡ n * 10 ^ l → (m % 10 ≢ 0) → (n % 10 ≢ 0) → (m ≡ n) × (k ≡ l)
one_pair m zero n zero h p q = (omega arith, refl)
one_pair m zero n (suc l) h p q =
    absurd (p (omega (arith, h, ap (λ (x : ℕ). n * x) (pow-suc 10 l), mul_assoc n (10 ^ l) 10)))
one_pair m (suc k) n zero h p q =
    absurd (q (omega (arith, h, ap (λ (x : ℕ). m * x) (pow-suc 10 k), mul_assoc m (10 ^ k) 10)))
one_pair m (suc k) n (suc l) h p q =
    let less : m * 10 ^ k ≡ n * 10 ^ l = same_tens (m * 10 ^ k) (n * 10 ^ l)
    (omega (arith, h, ap (λ (x : ℕ). m * x) (pow-suc 10 k), ap (λ (x : ℕ). n * x) (pow-suc 10 l), mul_assoc m (10 ^ k) 10, mul_assoc n (10 ^ l) 10)) in
    let (same, count) = one_pair m k n l less p q in
    (same, ap suc count)

same_decs : (d e : Dec) → d.digits ≡ e.digits → d.tens ≡ e.tens → d ≡ e
same_decs d e p q = ap (λ (x : ℤ). record { digits = x; tens = d.tens }) p ∙ ap (λ (x : ℤ). record { digits = e.digits; tens = x }) q

pub one_scaled : (minus : Bool) (n : ℕ) (tens : ℤ) (d e : Dec) → IsScaled minus n tens d → IsScaled minus n tens e → d ≡ e
one_scaled minus zero tens d e (p, q) (r, s) = same_decs d e (p ∙ sym r) (q ∙ sym s)
one_scaled minus (suc n) tens d e (m, k, is, no_ten, p, q) (m', k', is', no_ten', p', q') =
    let (same, count) = one_pair m k m' k' (sym is ∙ is') no_ten no_ten' in
    same_decs d e
    (p ∙ ap (λ (x : ℕ). signed minus x) same ∙ sym p')
    (q ∙ ap (λ (x : ℕ). tens +ℤ pos x) count ∙ sym q')
