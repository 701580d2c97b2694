-- Finite sums: f 0 + f 1 + .. + f n.
use Rattle.std.proofs.Common.{◌≡◌, ℕ, zero, suc, ◌+◌, ◌≤◌, ℤ, pos, ◌+ℤ◌, ◌*ℤ◌, neg_ℤ, ◌≤ℤ◌, refl, arith}
use Rattle.std.proofs.lemmas.Int.{ints}
use Rattle.st_fraction.proofs.Ring.{lin, mul-add_z}
use Rattle.st_fraction.proofs.Within.{Within, within_add}

abbrev pub upto : (ℕ → ℤ) → ℕ → ℤ
upto f zero = f 0
upto f (suc n) = upto f n +ℤ f (suc n)

pub upto-ext : (f g : ℕ → ℤ) (n : ℕ) → ((i : ℕ) → i ≤ n → f i ≡ g i) → upto f n ≡ upto g n
upto-ext f g zero h = h 0 (omega arith)
upto-ext f g (suc n) h =
    let a = upto-ext f g n (λ i l. h i (omega arith)) in
    let b = h (suc n) (omega arith) in
    omega (arith, lin)

-- the first term apart
pub upto-peel : (f : ℕ → ℤ) (n : ℕ) → upto f (suc n) ≡ f 0 +ℤ upto (λ i. f (suc i)) n
upto-peel f zero = refl
upto-peel f (suc n) = let ih = upto-peel f n in omega (arith, lin)

pub upto-scale : (c : ℤ) (f : ℕ → ℤ) (n : ℕ) → upto (λ i. c *ℤ f i) n ≡ c *ℤ upto f n
upto-scale c f zero = refl
upto-scale c f (suc n) =
    let ih = upto-scale c f n in
    let e = mul-add_z c (upto f n) (f (suc n)) in
    omega (arith, lin)

pub upto-add : (f g : ℕ → ℤ) (n : ℕ) → upto (λ i. f i +ℤ g i) n ≡ upto f n +ℤ upto g n
upto-add f g zero = refl
upto-add f g (suc n) = let ih = upto-add f g n in omega (arith, lin)

pub upto-neg : (f : ℕ → ℤ) (n : ℕ) → upto (λ i. neg_ℤ (f i)) n ≡ neg_ℤ (upto f n)
upto-neg f zero = refl
upto-neg f (suc n) = let ih = upto-neg f n in omega (arith, lin)

-- more terms that are not negative
pub upto-rises : (f : ℕ → ℤ) → ((i : ℕ) → pos 0 ≤ℤ f i) → (n j : ℕ) → upto f n ≤ℤ upto f (j + n)
upto-rises f h n zero = let e : 0 + n ≡ n = omega arith in rw e (omega (arith, lin))
upto-rises f h n (suc j) =
    let e : suc j + n ≡ suc (j + n) = omega arith in
    let ih = upto-rises f h n j in
    let s = h (suc (j + n)) in
    rw e (omega (arith, ints))

pub upto-within : (f g : ℕ → ℤ) → ((i : ℕ) → Within (f i) (g i)) → (n : ℕ) → Within (upto f n) (upto g n)
upto-within f g h zero = h 0
upto-within f g h (suc n) = within_add (upto f n) (f (suc n)) (upto g n) (g (suc n)) (upto-within f g h n) (h (suc n))
