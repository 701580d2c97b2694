-- Each fraction has one floor, which never falls as the fraction rises.
use Rattle.std.proofs.Common.{◌≡◌, ℕ, ◌*◌, ◌/◌, ◌≤◌, ◌<◌, ℤ, pos, negsuc, ◌+ℤ◌, ◌*ℤ◌, neg_ℤ, ◌≤ℤ◌, ◌<ℤ◌, refl, arith}
use Rattle.std.proofs.Math.Nat.{div-mul-le_self, lt-div-mul-add}
use Rattle.std.proofs.lemmas.Int.{ints}
use Rattle.st_fraction.specs.Fraction.{Fraction, ◌≤ᶠ◌, ◌≈ᶠ◌, whole}
use Rattle.st_fraction.specs.Floor.{IsFloor}
use Rattle.st_fraction.proofs.Ring.{lin, lt_cancel_z, neg-mul_z}
use Rattle.st_fraction.proofs.Order.{le_f_refl, le_f_trans, le_of_same, same_sym}
use Rattle.st_fraction.proofs.Linear.{whole_at}
use Rattle.st_fraction.proofs.Strict.{at_lt, le_lt_f}

-- a whole number that is at most x is at most the floor of x
pub floor_below : (x : Fraction) (n m : ℤ) → 0 < x.den → whole n ≤ᶠ x → IsFloor x m → n ≤ℤ m
floor_below x n m px h f = go n m x.den (at_lt x.den (whole n) (whole (m +ℤ pos 1)) _ _ px (whole_at n x.den) (whole_at (m +ℤ pos 1) x.den)
    (le_lt_f (whole n) x (whole (m +ℤ pos 1)) (omega arith) h f.below_next))
  where
    go : (n m : ℤ) (d : ℕ) → (n *ℤ pos d) <ℤ ((m +ℤ pos 1) *ℤ pos d) → n ≤ℤ m
    go n m d h = let l = lt_cancel_z n (m +ℤ pos 1) d h in omega (arith, ints)

pub floor_rises : (x y : Fraction) (n m : ℤ) → 0 < x.den → 0 < y.den → x ≤ᶠ y → IsFloor x n → IsFloor y m → n ≤ℤ m
floor_rises x y n m px py h f g = floor_below y n m py (le_f_trans (whole n) x y px f.at_most h) g

pub floor_is_one : (x : Fraction) (n m : ℤ) → 0 < x.den → IsFloor x n → IsFloor x m → n ≡ m
floor_is_one x n m px f g =
    let h = floor_below x n m px f.at_most g in
    let k = floor_below x m n px g.at_most f in
    omega (arith, lin)

-- equal fractions have one floor
pub floor_same : (x y : Fraction) (n : ℤ) → 0 < x.den → 0 < y.den → x ≈ᶠ y → IsFloor x n → IsFloor y n
floor_same x y n px py e f = record {
  at_most = le_f_trans (whole n) x y px f.at_most (le_of_same x y e);
  below_next = le_lt_f y x (whole (n +ℤ pos 1)) py (le_of_same y x (same_sym x y e)) f.below_next;
}

pub floor_of_whole : (n : ℤ) → IsFloor (whole n) n
floor_of_whole n = record { at_most = le_f_refl (whole n); below_next = record { lt = omega (arith, ints) } }

pub floor_found : (x : Fraction) → 0 < x.den → (n : ℤ) × IsFloor x n
floor_found x px = by x.num refl
  where
    low : (a q d : ℕ) → q * d ≤ a → (negsuc a *ℤ pos 1) <ℤ ((negsuc q +ℤ pos 1) *ℤ pos d)
    low a q d h =
        let e : negsuc q +ℤ pos 1 ≡ neg_ℤ (pos q) = omega (arith, ints) in
        rw (e, neg-mul_z (pos q) (pos d)) (omega (arith, ints))

    by : (a : ℤ) → x.num ≡ a → (n : ℤ) × IsFloor x n
    by (pos a) e =
        let l = div-mul-le_self a x.den in
        let u = lt-div-mul-add {a = a} px in
        (pos (a / x.den), record { at_most = record { le = rw e (omega (arith, ints)) }; below_next = record { lt = rw e (omega (arith, ints)) } })
    by (negsuc a) e =
        let l = div-mul-le_self a x.den in
        let u = lt-div-mul-add {a = a} px in
        (negsuc (a / x.den), record { at_most = record { le = rw e (omega (arith, ints)) }; below_next = record { lt = rw e (low a (a / x.den) x.den l) } })
