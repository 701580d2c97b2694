-- The decimal of a count of units is what is left of it without the zeros at its end.
use Rattle.std.proofs.Common.{inl, inr, ◌≡◌, ◌≢◌, ℕ, ◌+◌, ◌-◌, ◌*◌, ◌/◌, ◌%◌, ◌^◌, ◌<◌, zero, suc, true, false, Bool, refl, ap, sym, ◌∙◌, subst, arith}
use Rattle.std.specs.Prelude.{◌==◌, ℤ, pos, negsuc, neg_ℤ, ◌+ℤ◌, ◌*ℤ◌, unsigned_abs}
use Rattle.std.proofs.Math.IntN.{pos-*ℤ-pos, negsuc-*ℤ-pos}
use Rattle.std.proofs.Math.Nat.{pow-suc, mul_assoc}
use Rattle.std.proofs.lemmas.Bool.{cases_Bool, cond-true, cond-false, eqb-true, eqb-false}
use Rattle.std.proofs.lemmas.Int.{ints}
use Rattle.st_decimal.specs.declared.number.Dec.{Dec}
use Rattle.st_decimal.specs.Value.{IsScaled, IsOfUnits18, is_negative, signed}
use Rattle.st_decimal.specs.Scaling.{IsTimesTen}
use Rattle.st_decimal.specs.ScalingMachine.{strip_of, dec_of_units18}

pub strip_more : (z n : ℕ) → z < 38 → (n % 10 == 0) ≡ true → strip_of (38 - z) n z ≡ strip_of (38 - (z + 1)) (n / 10) (z + 1)
unfolding strip_of
strip_more z n h e =
    let next : 38 - z ≡ suc (38 - (z + 1)) = omega arith in
    ap (λ (f : ℕ). strip_of f n z) next ∙ (rw e refl)

pub strip_end : (f n z : ℕ) → (n % 10 == 0) ≡ false → strip_of f n z ≡ (n, z)
unfolding strip_of
strip_end zero n z e = refl
strip_end (suc f) n z e = rw e refl

pub strip_none : (z n : ℕ) → 38 - z ≡ 0 → strip_of (38 - z) n z ≡ (n, z)
unfolding strip_of
strip_none z n h = ap (λ (f : ℕ). strip_of f n z) h

record Strips (n done : ℕ) (r : ℕ × ℕ) : Type 0 where
  more : ℕ
  count : r.1 ≡ done + more
  value : n ≡ r.0 * 10 ^ more
  last : r.0 % 10 ≢ 0

strip_law : (f n done : ℕ) → 0 < n → n < 10 ^ f → Strips n done (strip_of f n done)
unfolding strip_of
strip_law zero n done s h = absurd (omega (arith, s, h))
strip_law (suc f) n done s h =
    let P : ℕ × ℕ → Type 0 = Strips n done in
    elim (cases_Bool (n % 10 == 0)) [
      | inl y ↦
          let tenth = eqb-true _ _ y in
          let rest = strip_law f (n / 10) (done + 1) (omega (arith, s, tenth)) (omega (arith, h, tenth, pow-suc 10 f)) in
          subst P (sym (cond-true _ _ _ y)) (record {
            more = suc rest.more;
            count = omega (arith, rest.count);
            value = omega (
              arith,
              rest.value,
              tenth,
              ap (λ (x : ℕ). (strip_of f (n / 10) (done + 1)).0 * x) (pow-suc 10 rest.more),
              mul_assoc (strip_of f (n / 10) (done + 1)).0 (10 ^ rest.more) 10,
            );
            last = rest.last;
          })
      | inr n0 ↦
          subst P (sym (cond-false _ _ _ n0)) (record {
            more = 0;
            count = omega arith;
            value = omega arith;
            last = eqb-false _ _ n0;
          })
    ]

scaled : (minus : Bool) (n : ℕ) → 0 < n → Strips n 0 (strip_of 38 n 0)
    → IsScaled minus n (negsuc 17) (record { digits = signed minus (strip_of 38 n 0).0; tens = negsuc 17 +ℤ pos (strip_of 38 n 0).1 })
scaled minus zero s h = absurd (omega (arith, s))
scaled minus (suc n) s h =
    ((strip_of 38 (suc n) 0).0, h.more, h.value, h.last, refl, ap (λ (k : ℕ). negsuc 17 +ℤ pos k) (omega (arith, h.count)))

zero_scaled : (minus : Bool) (n : ℕ) → n ≡ 0 → IsScaled minus n (negsuc 17) (record { digits = pos 0; tens = pos 0 })
zero_scaled minus zero h = (refl, refl)
zero_scaled minus (suc n) h = absurd (omega (arith, h))

pub of_units_is : (z : ℤ) → unsigned_abs z < 10 ^ 38 → IsOfUnits18 z (dec_of_units18 z)
unfolding dec_of_units18
of_units_is z r =
    let P : Dec → Type 0 = IsOfUnits18 z in
    elim (cases_Bool (unsigned_abs z == 0)) [
      | inl y ↦ subst P (sym (cond-true _ _ _ y)) (zero_scaled (is_negative z) (unsigned_abs z) (eqb-true _ _ y))
      | inr n ↦
          let some : 0 < unsigned_abs z = omega (arith, eqb-false _ _ n) in
          subst P (sym (cond-false _ _ _ n)) (scaled (is_negative z) (unsigned_abs z) some (strip_law 38 (unsigned_abs z) 0 some r))
    ]

-- such a decimal has that many units
tens_up : (k : ℕ) → ((negsuc 17 +ℤ pos k) +ℤ pos 18) ≡ pos k
tens_up k = omega (arith, ints)

times : (u digits tens : ℤ) (k : ℕ) → tens ≡ pos k → u ≡ (digits *ℤ pos (10 ^ k)) → IsTimesTen digits tens u
times u digits tens k e h = subst (λ (z : ℤ). IsTimesTen digits z u) (sym e) h

negative_times : (n m k : ℕ) (d : Dec) → suc n ≡ m * 10 ^ k → d.digits ≡ signed true m → negsuc n ≡ (d.digits *ℤ pos (10 ^ k))
negative_times n zero k d is p = absurd (omega (arith, is))
negative_times n (suc m) k d is p =
    ap (λ (x : ℕ). neg_ℤ (pos x)) is ∙ sym (negsuc-*ℤ-pos m (10 ^ k)) ∙ ap (λ (z : ℤ). z *ℤ pos (10 ^ k)) (sym p)

pub counted : (z : ℤ) (d : Dec) → IsOfUnits18 z d → IsTimesTen d.digits (d.tens +ℤ pos 18) z
counted (pos zero) d (p, q) =
    times (pos 0) d.digits (d.tens +ℤ pos 18) 18 (ap (λ (t : ℤ). t +ℤ pos 18) q)
    (sym (ap (λ (z : ℤ). z *ℤ pos (10 ^ 18)) p ∙ pos-*ℤ-pos 0 (10 ^ 18)))
counted (pos (suc n)) d (m, k, is, last, p, q) =
    times (pos (suc n)) d.digits (d.tens +ℤ pos 18) k (ap (λ (t : ℤ). t +ℤ pos 18) q ∙ tens_up k)
    (ap (λ (x : ℕ). pos x) is ∙ sym (pos-*ℤ-pos m (10 ^ k)) ∙ ap (λ (z : ℤ). z *ℤ pos (10 ^ k)) (sym p))
counted (negsuc n) d (m, k, is, last, p, q) =
    times (negsuc n) d.digits (d.tens +ℤ pos 18) k (ap (λ (t : ℤ). t +ℤ pos 18) q ∙ tens_up k) (negative_times n m k d is p)
