-- A decimal with a fixed count of places has that many decimals, and its digits spell the number.
use Rattle.std.proofs.Common.{◌≡◌, ℕ, ◌*◌, ◌/◌, ◌%◌, ◌^◌, ◌<◌, ◌++◌, length, ap, arith}
use Rattle.st_text.specs.Bytes.{decimal_digits, padded, number_of}
use Rattle.st_text.proofs.Numbers.{number_of-append}
use Rattle.st_text.proofs.Spelled.{number_of-padded, length-padded}
use Rattle.std.proofs.Math.Nat.{one-le-pow}

pub power_some : (k : ℕ) → 0 < 10 ^ k
power_some k = omega (arith, one-le-pow k 10 (omega arith))

-- after the point stand exactly as many digits as there are places
pub places_behind : (places n : ℕ) → length (padded places (n % 10 ^ places)) ≡ places
places_behind places n = length-padded places (n % 10 ^ places) (omega (arith, power_some places))

-- without the point, the digits spell the number that is written
pub digits_spell : (places n : ℕ) → number_of (decimal_digits (n / 10 ^ places) ++ padded places (n % 10 ^ places)) ≡ n
digits_spell places n =
    let whole : ℕ = n / 10 ^ places in
    let part : ℕ = n % 10 ^ places in
    let weight = ap (λ (k : ℕ). number_of (decimal_digits whole) * 10 ^ k) (places_behind places n) in
    let front = ap (λ (k : ℕ). k * 10 ^ places) (number_of-padded 1 whole) in
    omega (arith, number_of-append (decimal_digits whole) (padded places part), weight, front, number_of-padded places part, power_some places)
