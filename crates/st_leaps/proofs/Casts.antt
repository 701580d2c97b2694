-- Numbers that fit are kept by casts.
use Rattle.std.proofs.Common.{◌≡◌, ◌<◌, true, false, ℤ, pos, neg_ℤ, ◌≤ℤ◌, ◌<ℤ◌, int_lt, int_le, arith}
use Rattle.std.proofs.lemmas.Int.{ints, to_z-of_z}
use Rattle.std.specs.Int.{w32, w128}
use lib.Signed.{mag}
use mir.Val.{to_z, of_z, SFits}

pub small32 : (z : ℤ) → neg_ℤ (pos 100_000) ≤ℤ z → z ≤ℤ pos 100_000 → to_z w32 (of_z w32 z) ≡ z
small32 z from to = omega (arith, ints)

pub fits128 : (z : ℤ) → mag z < 170_141_183_460_469_231_731_687_303_715_884_105_728 → SFits w128 z
fits128 z h = record { sfits = h }

pub kept128 : (z : ℤ) → mag z < 170_141_183_460_469_231_731_687_303_715_884_105_728 → to_z w128 (of_z w128 z) ≡ z
kept128 z h = to_z-of_z w128 z (fits128 z h)

pub less : (a b x y : ℤ) → a ≡ x → b ≡ y → int_lt a b ≡ true → x <ℤ y
less a b x y e f h = omega (arith, ints)

pub not_less : (a b x y : ℤ) → a ≡ x → b ≡ y → int_lt a b ≡ false → y ≤ℤ x
not_less a b x y e f h = omega (arith, ints)

pub at_most : (a b x y : ℤ) → a ≡ x → b ≡ y → int_le a b ≡ true → x ≤ℤ y
at_most a b x y e f h = omega (arith, ints)

pub not_at_most : (a b x y : ℤ) → a ≡ x → b ≡ y → int_le a b ≡ false → y <ℤ x
not_at_most a b x y e f h = omega (arith, ints)
