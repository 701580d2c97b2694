-- Cells as the code counts them.
use Rattle.std.proofs.Common.{◌≡◌, ℕ, ◌-◌, ◌*◌, ◌/◌, ◌^◌, ◌<◌, ◌≤◌, Bool, true, refl, sym, ap, ◌∙◌, subst, arith, lit<, ℤ, pos, negsuc, ◌+ℤ◌, ◌-ℤ◌, ◌*ℤ◌, ◌≤ℤ◌}
use Rattle.std.proofs.Math.Nat.{pow-le-pow_right, mul-le-mul}
use Rattle.std.proofs.lemmas.Int.{ints}
use Rattle.std.specs.Int.{w128, int_div_euclid}
use mir.Val.{to_z}
use Rattle.st_enclosure.proofs.Quotient.{splits}
use Rattle.st_fraction.specs.Fraction.{◌≈ᶠ◌, units, ◌+ᶠ◌}
use Rattle.st_fraction.specs.Floor.{IsFloor}
use Rattle.st_fraction.proofs.Order.{same_sym}
use Rattle.st_fraction.proofs.Ring.{ring, lin, numerals}
use Rattle.st_picture.specs.Cell.{IsTruncated, IsTruncatedCell, IsCell, IsUnit, half_unit, times_tens, julian_date}
use Rattle.st_picture.specs.declared.cell.Cell.{Cell}
use Rattle.st_picture.specs.declared.unit.LeastUnit.{LeastUnit}
use Rattle.st_picture.specs.declared.unit.LeastUnit.TheVariants as the
use Rattle.st_picture.proofs.Counts.{IsQuotient, count_of_units, julian_of_units}
use Rattle.st_picture.proofs.CellLaws.{tens_some, truncates_fraction}
use Rattle.st_picture.proofs.FloorLaws.{tens, half_is, half_added, moves}

pub tens_range : (k : ℕ) → k ≤ 18 → 10 ^ k ≤ 10 ^ 18
tens_range k h = pow-le-pow_right {n = 10} (omega arith) {i = k} {j = 18} h

-- the code's quotient is the greatest multiple
pub quotient_is : (n q : ℤ) (b : ℕ) → 0 < b → q ≡ int_div_euclid n (pos b) → IsQuotient n q b
quotient_is n q b some e =
    let s = splits n b some in
    let next = grow q (pos b) in
    let split = s.split in
    let same : int_div_euclid n (pos b) *ℤ pos b ≡ q *ℤ pos b = ap (λ (z : ℤ). z *ℤ pos b) (sym e) in
    let low = s.low in
    let high = s.high in
    record { from = omega (arith, lin); to = omega (arith, lin) }
  where
    grow : (b k : ℤ) → (b +ℤ pos 1) *ℤ k ≡ b *ℤ k +ℤ k
    grow b k = simp (numerals, ring) (omega (arith, lin))

pub counted : (p : ℕ) (n q : ℤ) → p ≤ 9 → q ≡ int_div_euclid n (pos (10 ^ (18 - p))) → IsFloor (times_tens (units n) p) q
counted p n q few e = count_of_units n q (10 ^ p) (10 ^ (18 - p)) (10 ^ 18) (tens p few) (lit< tt) (quotient_is n q (10 ^ (18 - p)) (tens_some (18 - p)) e)

pub dated_by : (p : ℕ) (n m q : ℤ) → p ≤ 9 → m ≡ n +ℤ pos (2_451_545 * (86_400 * 10 ^ 18)) → q ≡ int_div_euclid m (pos (86_400 * 10 ^ (18 - p)))
    → IsFloor (times_tens (julian_date (units n)) p) q
dated_by p n m q few e f =
    let b = 86_400 * 10 ^ (18 - p) in
    let some : 0 < b = let one = tens_some (18 - p) in omega arith in
    let P : ℤ → Type 0 = λ z. IsQuotient z q b in
    julian_of_units n q (pos 2_451_545) 86_400 (10 ^ p) (10 ^ (18 - p)) (10 ^ 18) (tens p few) (lit< tt) (subst P e (quotient_is m q b some f))

pub dated_in : (p : ℕ) (n m d q : ℤ) → p ≤ 9 → q ≡ int_div_euclid m d → m ≡ n +ℤ pos (2_451_545 * (86_400 * 10 ^ 18)) → d ≡ pos (86_400 * 10 ^ (18 - p))
    → IsFloor (times_tens (julian_date (units n)) p) q
dated_in p n m d q few e f g = dated_by p n m q few f (e ∙ ap (λ (z : ℤ). int_div_euclid m z) g)

-- a multiple of a step, not beyond some units of a day
pub record IsCut (x z : ℤ) : Type 0 where
  pub low : (x -ℤ pos (10 ^ 22)) ≤ℤ z
  pub high : z ≤ℤ x

pub cut_is : (x k q : ℤ) → pos 1 ≤ℤ k → k ≤ℤ pos (10 ^ 22) → q ≡ int_div_euclid x k → IsCut x (q *ℤ k)
cut_is x (negsuc n) q from to e = absurd (omega (arith, ints))
cut_is x (pos n) q from to e =
    let h = quotient_is x q n (omega (arith, ints)) e in
    let next = grow q (pos n) in
    let most = h.from in
    let least = h.to in
    record { low = omega (arith, lin); high = most }
  where
    grow : (b k : ℤ) → (b +ℤ pos 1) *ℤ k ≡ b *ℤ k +ℤ k
    grow b k = simp (numerals, ring) (omega (arith, lin))

pub cut_from : (x k q : ℤ) → pos 0 ≤ℤ x → pos 1 ≤ℤ k → q ≡ int_div_euclid x k → pos 0 ≤ℤ (q *ℤ k)
cut_from (negsuc m) k q from some e = absurd (omega (arith, ints))
cut_from (pos m) (negsuc n) q from some e = absurd (omega (arith, ints))
cut_from (pos m) (pos n) q from some e =
    let P : ℤ → Type 0 = λ z. pos 0 ≤ℤ (z *ℤ pos n) in
    subst P (sym e) (omega (arith, ints))

pub truncated_is : (x z : ℤ) (step : ℕ) → 0 < step → z ≡ int_div_euclid x (pos step) *ℤ pos step → IsTruncated step (units x) z
truncated_is x z step some e =
    let q = int_div_euclid x (pos step) in
    let h = quotient_is x q step some refl in
    let next = grow q (pos step) in
    let most = h.from in
    let least = h.to in
    record {
      times = q;
      multiple = e;
      from = record { le = omega (arith, ints) };
      to = record { lt = omega (arith, ints) };
    }
  where
    grow : (b k : ℤ) → (b +ℤ pos 1) *ℤ k ≡ b *ℤ k +ℤ k
    grow b k = simp (numerals, ring) (omega (arith, lin))

-- the cell of a value with half of a unit added
pub rounded : (unit : LeastUnit) (rounds : Bool) (count : ℤ → ℤ) (n h m : ℤ) (cell : Cell) → rounds ≡ true → half_unit unit ≈ᶠ units h → m ≡ n +ℤ h
    → IsTruncatedCell unit count (units m) cell → IsCell unit rounds count (units n) cell
rounded unit rounds count n h m cell is half sum t =
    let added = half_added unit n h half in
    let w = units n +ᶠ half_unit unit in
    let fw = truncates_fraction unit true (units n) (record { positive = lit< tt }) in
    let P : ℤ → Type 0 = λ z. IsTruncatedCell unit count (units z) cell in
    let moved = moves unit count (units (n +ℤ h)) w cell (record { positive = lit< tt }) fw (same_sym w (units (n +ℤ h)) added) (subst P sum t) in
    let Q : Bool → Type 0 = λ b. IsCell unit b count (units n) cell in
    subst Q (sym is) moved

-- halves
pub half_steps : (times k : ℕ) → times ≤ 86_400 → k ≤ 18 → times * (10 ^ k / 2) ≤ 86_400 * 500_000_000_000_000_000
half_steps times k few low =
    let most = tens_range k low in
    let half : 10 ^ k / 2 ≤ 500_000_000_000_000_000 = omega arith in
    mul-le-mul few half

pub half_most : (times k : ℕ) → k ≤ 18 → times * (10 ^ k / 2) ≤ times * 500_000_000_000_000_000
half_most times k low =
    let most = tens_range k low in
    let half : 10 ^ k / 2 ≤ 500_000_000_000_000_000 = omega arith in
    let same : times ≤ times = omega arith in
    mul-le-mul same half

pub small_pos : (n : ℕ) → n ≤ 86_400 * 500_000_000_000_000_000 → to_z w128 n ≡ pos n
small_pos n h = omega (arith, ints)

half_at : (unit whole_unit : LeastUnit) (z : ℤ) → IsUnit unit → unit ≡ whole_unit → (IsUnit whole_unit → half_unit whole_unit ≈ᶠ units z) → half_unit unit ≈ᶠ units z
half_at unit whole_unit z u is f =
    let P : LeastUnit → Type 0 = λ x. IsUnit x → half_unit x ≈ᶠ units z in
    subst P (sym is) f u

pub second_half : (unit : LeastUnit) (p : ℕ) (z : ℤ) → IsUnit unit → unit ≡ the.Second p → z ≡ pos (1 * (10 ^ (18 - p) / 2)) → half_unit unit ≈ᶠ units z
second_half unit p z u is e = half_at unit (the.Second p) z u is (λ v. subst (λ (x : ℤ). half_unit (the.Second p) ≈ᶠ units x) (sym e) (half_is p 1 _ v.few refl))

pub count_half : (unit : LeastUnit) (p : ℕ) (z : ℤ) → IsUnit unit → unit ≡ the.Count p → z ≡ pos (1 * (10 ^ (18 - p) / 2)) → half_unit unit ≈ᶠ units z
count_half unit p z u is e = half_at unit (the.Count p) z u is (λ v. subst (λ (x : ℤ). half_unit (the.Count p) ≈ᶠ units x) (sym e) (half_is p 1 _ v.few refl))

pub julian_half : (unit : LeastUnit) (p : ℕ) (z : ℤ) → IsUnit unit → unit ≡ the.Julian p → z ≡ pos (86_400 * (10 ^ (18 - p) / 2)) → half_unit unit ≈ᶠ units z
julian_half unit p z u is e = half_at unit (the.Julian p) z u is (λ v. subst (λ (x : ℤ). half_unit (the.Julian p) ≈ᶠ units x) (sym e) (half_is p 86_400 _ v.few refl))
