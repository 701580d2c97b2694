-- A product of two partial sums is a sum over a square of indices; its terms up to a total degree are the triangle in
-- it, and what lies outside of the triangle is bounded by the same of a majorant.
use Rattle.std.proofs.Common.{◌≡◌, ℕ, zero, suc, ◌+◌, ℤ, pos, ◌+ℤ◌, ◌-ℤ◌, ◌*ℤ◌, neg_ℤ, ◌≤ℤ◌, refl, sym, ap, ◌∙◌, arith}
use Rattle.std.proofs.lemmas.Int.{ints}
use Rattle.st_fraction.proofs.Ring.{lin, add-mul_z, mul-add_z}
use Rattle.st_fraction.proofs.Within.{Within}
use Rattle.st_fraction.proofs.Sums.{upto, upto-ext, upto-peel, upto-scale, upto-add, upto-neg, upto-rises}
use Rattle.st_series.proofs.Convolution.{conv}

-- the sum of h a b over a ≤ m and b ≤ n
abbrev pub square : (ℕ → ℕ → ℤ) → ℕ → ℕ → ℤ
square h m n = upto (λ a. upto (h a) n) m

-- the sum of h a b over a + b = d
abbrev pub across : (ℕ → ℕ → ℤ) → ℕ → ℤ
across h zero = h 0 0
across h (suc d) = h 0 (suc d) +ℤ across (λ a b. h (suc a) b) d

-- the sum of h a b over a + b ≤ n
abbrev pub triangle : (ℕ → ℕ → ℤ) → ℕ → ℤ
triangle h n = upto (across h) n

pub product_of_sums : (f g : ℕ → ℤ) (m n : ℕ) → upto f m *ℤ upto g n ≡ square (λ a b. f a *ℤ g b) m n
product_of_sums f g zero n = sym (upto-scale (f 0) g n)
product_of_sums f g (suc m) n =
    add-mul_z (upto f m) (f (suc m)) (upto g n) ∙ (λ i. product_of_sums f g m n i +ℤ sym (upto-scale (f (suc m)) g n) i)

pub square-ext : (h g : ℕ → ℕ → ℤ) → ((a b : ℕ) → h a b ≡ g a b) → (m n : ℕ) → square h m n ≡ square g m n
square-ext h g e m n = upto-ext (λ a. upto (h a) n) (λ a. upto (g a) n) m (λ a i. upto-ext (h a) (g a) n (λ b j. e a b))

pub square-add : (h g : ℕ → ℕ → ℤ) (m n : ℕ) → square (λ a b. h a b +ℤ g a b) m n ≡ square h m n +ℤ square g m n
square-add h g m n =
    upto-ext (λ a. upto (λ b. h a b +ℤ g a b) n) (λ a. upto (h a) n +ℤ upto (g a) n) m (λ a i. upto-add (h a) (g a) n)
    ∙ upto-add (λ a. upto (h a) n) (λ a. upto (g a) n) m

pub square-neg : (h : ℕ → ℕ → ℤ) (m n : ℕ) → square (λ a b. neg_ℤ (h a b)) m n ≡ neg_ℤ (square h m n)
square-neg h m n =
    upto-ext (λ a. upto (λ b. neg_ℤ (h a b)) n) (λ a. neg_ℤ (upto (h a) n)) m (λ a i. upto-neg (h a) n)
    ∙ upto-neg (λ a. upto (h a) n) m

pub across-ext : (h g : ℕ → ℕ → ℤ) → ((a b : ℕ) → h a b ≡ g a b) → (d : ℕ) → across h d ≡ across g d
across-ext h g e zero = e 0 0
across-ext h g e (suc d) =
    let ih = across-ext (λ a b. h (suc a) b) (λ a b. g (suc a) b) (λ a b. e (suc a) b) d in
    λ i. e 0 (suc d) i +ℤ ih i

-- the first row of a triangle, and the triangle above it
pub triangle-peel : (h : ℕ → ℕ → ℤ) (n : ℕ) → triangle h (suc n) ≡ upto (h 0) (suc n) +ℤ triangle (λ a b. h (suc a) b) n
triangle-peel h zero = omega (arith, lin)
triangle-peel h (suc n) = let ih = triangle-peel h n in omega (arith, lin)

row-gap : (f g : ℕ → ℤ) → ((b : ℕ) → Within (f b) (g b)) → (n j : ℕ) → Within (upto f (j + n) -ℤ upto f n) (upto g (j + n) -ℤ upto g n)
row-gap f g w n zero =
    let e : 0 + n ≡ n = omega arith in
    rw e (record { above = omega (arith, lin); below = omega (arith, lin) })
row-gap f g w n (suc j) =
    let e : suc j + n ≡ suc (j + n) = omega arith in
    let ih = row-gap f g w n j in
    let s = w (suc (j + n)) in
    rw e (record { above = omega (arith, lin); below = omega (arith, lin) })

pub square-gap : (h g : ℕ → ℕ → ℤ) → ((a b : ℕ) → Within (h a b) (g a b)) → (n j : ℕ)
    → Within (square h n (j + n) -ℤ triangle h n) (square g n (j + n) -ℤ triangle g n)
square-gap h g w zero j = row-gap (h 0) (g 0) (w 0) 0 j
square-gap h g w (suc n) j =
    let e : j + suc n ≡ suc j + n = omega arith in
    let row = row-gap (h 0) (g 0) (w 0) (suc n) j in
    let ih = rw (← e) at (square-gap (λ a b. h (suc a) b) (λ a b. g (suc a) b) (λ a b. w (suc a) b) n (suc j)) in
    let p1 = upto-peel (λ a. upto (h a) (j + suc n)) n in
    let p2 = upto-peel (λ a. upto (g a) (j + suc n)) n in
    let t1 = triangle-peel h n in
    let t2 = triangle-peel g n in
    record { above = omega (arith, lin); below = omega (arith, lin) }

pub across-nonneg : (g : ℕ → ℕ → ℤ) → ((a b : ℕ) → pos 0 ≤ℤ g a b) → (d : ℕ) → pos 0 ≤ℤ across g d
across-nonneg g h zero = h 0 0
across-nonneg g h (suc d) =
    let ih = across-nonneg (λ a b. g (suc a) b) (λ a b. h (suc a) b) d in
    let s = h 0 (suc d) in
    omega (arith, ints)

pub triangle-nonneg : (g : ℕ → ℕ → ℤ) → ((a b : ℕ) → pos 0 ≤ℤ g a b) → (n : ℕ) → pos 0 ≤ℤ triangle g n
triangle-nonneg g h zero = h 0 0
triangle-nonneg g h (suc n) =
    let ih = triangle-nonneg g h n in
    let s = across-nonneg g h (suc n) in
    omega (arith, ints)

-- A square is within the triangle of its two sides together.
pub square_le_triangle : (g : ℕ → ℕ → ℤ) → ((a b : ℕ) → pos 0 ≤ℤ g a b) → (m n : ℕ) → square g m n ≤ℤ triangle g (m + n)
square_le_triangle g h zero n =
    let e : 0 + n ≡ n = omega arith in
    rw e (row g h n)
  where
    row : (g : ℕ → ℕ → ℤ) → ((a b : ℕ) → pos 0 ≤ℤ g a b) → (n : ℕ) → upto (g 0) n ≤ℤ triangle g n
    row g h zero = omega (arith, lin)
    row g h (suc n) =
        let p = triangle-peel g n in
        let some = triangle-nonneg (λ a b. g (suc a) b) (λ a b. h (suc a) b) n in
        omega (arith, lin)
square_le_triangle g h (suc m) n =
    let e : suc m + n ≡ suc (m + n) = omega arith in
    let ih = square_le_triangle (λ a b. g (suc a) b) (λ a b. h (suc a) b) m n in
    let p = upto-peel (λ a. upto (g a) n) m in
    let t = triangle-peel g (m + n) in
    let e2 : suc m + n ≡ suc (m + n) = omega arith in
    let r = rw e2 at (upto-rises (g 0) (h 0) n (suc m)) in
    rw e (omega (arith, lin))

-- with a weight of the degree alone
pub across-weighted : (w f g : ℕ → ℤ) (d : ℕ) → across (λ a b. w (a + b) *ℤ (f a *ℤ g b)) d ≡ w d *ℤ conv f g d
across-weighted w f g zero = refl
across-weighted w f g (suc d) =
    let e : 0 + suc d ≡ suc d = omega arith in
    let step : (a b : ℕ) → w (suc a + b) *ℤ (f (suc a) *ℤ g b) ≡ w (suc (a + b)) *ℤ (f (suc a) *ℤ g b) =
    λ a b. let i : suc a + b ≡ suc (a + b) = omega arith in ap (λ n. w n *ℤ (f (suc a) *ℤ g b)) i in
    let ih = across-weighted (λ n. w (suc n)) (λ a. f (suc a)) g d in
    let rest = across-ext (λ a b. w (suc a + b) *ℤ (f (suc a) *ℤ g b)) (λ a b. w (suc (a + b)) *ℤ (f (suc a) *ℤ g b)) step d ∙ ih in
    rw e ((λ i. w (suc d) *ℤ (f 0 *ℤ g (suc d)) +ℤ rest i) ∙ sym (mul-add_z (w (suc d)) (f 0 *ℤ g (suc d)) (conv (λ a. f (suc a)) g d)))
