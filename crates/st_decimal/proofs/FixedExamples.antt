-- Decimals with a fixed count of places, worked out by the definition.
use Rattle.std.proofs.Common.{◌≡◌, pos, negsuc, refl}
use Rattle.std.specs.Prelude.{codes}
use Rattle.st_decimal.specs.Fixed.{fixed}

whole_seconds : fixed (pos 32000000) 6 ≡ codes "32.000000"
whole_seconds = refl

minus_one : fixed (negsuc 0) 0 ≡ codes "-1"
minus_one = refl

minus_half : fixed (negsuc 499) 3 ≡ codes "-0.500"
minus_half = refl

nothing : fixed (pos 0) 0 ≡ codes "0"
nothing = refl

nothing_by_places : fixed (pos 0) 2 ≡ codes "0.00"
nothing_by_places = refl

small : fixed (pos 7) 3 ≡ codes "0.007"
small = refl

ends_in_zeros : fixed (pos 1200) 2 ≡ codes "12.00"
ends_in_zeros = refl
