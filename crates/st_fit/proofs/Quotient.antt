-- Division that rounds down, for multiples of the divisor.
use Rattle.std.proofs.Common.{◌≡◌, ℕ, ◌≤◌, ◌<◌, ◌↔◌, ℤ, pos, negsuc, ◌+ℤ◌, ◌-ℤ◌, ◌*ℤ◌, neg_ℤ, ◌≤ℤ◌, ◌<ℤ◌, unsigned_abs, arith, mul-le-mul_right}
use Rattle.std.specs.Int.{int_div_euclid}
use Rattle.std.proofs.lemmas.Int.{ints}
use Rattle.st_fraction.proofs.Ring.{lin, add-mul_z, neg-mul_z, le-mul_z, lt_cancel_z}

-- q is the greatest whole number which, times n, is at most x
pub record IsQuotient (x q : ℤ) (n : ℕ) : Type 0 where
  pub at_most : (q *ℤ pos n) ≤ℤ x
  pub next : x <ℤ ((q +ℤ pos 1) *ℤ pos n)

pub quotient : (x : ℤ) (n : ℕ) → 0 < n → IsQuotient x (int_div_euclid x (pos n)) n
quotient (pos a) n h = record { at_most = omega (arith, ints); next = omega (arith, ints) }
quotient (negsuc a) n h = record {
  at_most = omega (arith, ints);
  next = let e = add-mul_z (int_div_euclid (negsuc a) (pos n)) (pos 1) (pos n) in omega (arith, ints);
}

pub quotient_is : (x q : ℤ) (n : ℕ) → 0 < n → IsQuotient x q n → (rate : ℤ) → (rate *ℤ pos n) ≤ℤ x ↔ rate ≤ℤ q
quotient_is x q n some h rate = (
  (λ k. let l = lt_cancel_z rate (q +ℤ pos 1) n (let m = h.next in omega (arith, lin)) in omega (arith, ints)),
  (λ k. let l = le-mul_z rate q n k in let m = h.at_most in omega (arith, lin)),
)

-- the least one which, times n, is at least x, by the greatest one at most -x
pub least_is : (x q : ℤ) (n : ℕ) → ((rate : ℤ) → (rate *ℤ pos n) ≤ℤ (pos 0 -ℤ x) ↔ rate ≤ℤ q)
    → (rate : ℤ) → x ≤ℤ (rate *ℤ pos n) ↔ (pos 0 -ℤ q) ≤ℤ rate
least_is x q n h rate =
    let e : neg_ℤ rate *ℤ pos n ≡ neg_ℤ (rate *ℤ pos n) = neg-mul_z rate (pos n) in
    let k = h (neg_ℤ rate) in (
      (λ l. let m = k.0 (omega (arith, lin)) in omega (arith, lin)),
      (λ l. let m = k.1 (omega (arith, lin)) in omega (arith, lin)),
    )

pub quotient_small : (x : ℤ) (n j : ℕ) → 0 < n → unsigned_abs x ≤ j → unsigned_abs (int_div_euclid x (pos n)) ≤ j
quotient_small x n j some h = small (int_div_euclid x (pos n)) x n j some h (quotient x n some)
  where
    small : (q x : ℤ) (n j : ℕ) → 0 < n → unsigned_abs x ≤ j → IsQuotient x q n → unsigned_abs q ≤ j
    small (pos q) x n j some h k = let l = mul-le-mul_right q some in let m = k.at_most in omega (arith, ints)
    small (negsuc q) x n j some h k =
        let e = add-mul_z (negsuc q) (pos 1) (pos n) in
        let l = mul-le-mul_right q some in
        let m = k.next in
        omega (arith, ints)
