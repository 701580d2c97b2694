-- The definitions on worked values.
use Rattle.std.proofs.Common.{◌≡◌, ◌*◌, ◌^◌, ◌<◌, ℤ, pos, negsuc, neg_ℤ, ◌+ℤ◌, ◌≤ℤ◌, List, [], ◌∷◌, Ok, Err, inl, inr, refl, arith, lit<}
use Rattle.std.proofs.lemmas.Int.{ints}
use Rattle.std.specs.Int.Signed.{le_z_yes}
use Rattle.st_fraction.specs.Fraction.{Fraction, IsFraction, over, whole, units}
use Rattle.st_decimal.specs.declared.number.Dec.{Dec}
use Rattle.st_sine.specs.declared.orbit.Orbit.{Orbit}
use Rattle.st_scales.specs.declared.deltet.Deltet.{Deltet}
use Rattle.st_scales.specs.declared.scale.Scale.TheVariants.{Tai, Tt, Tdb}
use Rattle.st_scales.specs.declared.fault.DeltetVar.TheVariants.{DeltaTa, M0, M1}
use Rattle.st_scales.specs.declared.fault.DeltetFault.TheVariants.{NotUnits, Range}
use Rattle.st_scales.specs.Route.{IsAtLeast, IsAtMost}
use Rattle.st_scales.specs.Constants.{IsUnits, GiveConstants}
use Rattle.st_scales.proofs.Numbers.{units_one, all_one, of_all_one}
use Rattle.st_scales.proofs.Routes.{route_exact}

abbrev dec : ℤ → ℤ → Dec
dec digits tens = record { digits = digits; tens = tens }

-- the constants of the usual leapseconds kernel, with any K
abbrev usual_orbit : Orbit
usual_orbit = record {
  eb = pos 16710000000000000;
  m0 = pos 6239996000000000000;
  m1 = pos 199096871000;
  eb_low = le_z_yes tt;
  eb_high = le_z_yes tt;
  m0_low = le_z_yes tt;
  m0_high = le_z_yes tt;
  m1_low = le_z_yes tt;
  m1_high = le_z_yes tt;
}

abbrev usual : Deltet
usual = record {
  delta_ta = pos 32184000000000000000;
  k = pos 1657000000000000;
  orbit = usual_orbit;
  delta_low = le_z_yes tt;
  delta_high = le_z_yes tt;
  k_low = le_z_yes tt;
  k_high = le_z_yes tt;
}

abbrev without_sine : Deltet
without_sine = record usual { k = pos 0; k_low = le_z_yes tt; k_high = le_z_yes tt }

-- 32.184, 1.657E-3, 1.671E-2, and 6.239996 and 1.99096871E-7
usual_given : GiveConstants (dec (pos 32184) (negsuc 2) ∷ []) (dec (pos 1657) (negsuc 5) ∷ []) (dec (pos 1671) (negsuc 4) ∷ []) (dec (pos 6239996) (negsuc 5) ∷ dec (pos 199096871) (negsuc 14) ∷ []) (Ok usual)
usual_given = record {
  is_delta_ta = (dec (pos 32184) (negsuc 2), refl, refl);
  is_k = (dec (pos 1657) (negsuc 5), refl, refl);
  is_eb = (dec (pos 1671) (negsuc 4), refl, refl);
  are_m = (dec (pos 6239996) (negsuc 5), dec (pos 199096871) (negsuc 14), refl, refl, refl);
}

-- 10^30 s are whole units, and out of range
great : (k eb m : List Dec) → GiveConstants (dec (pos 1) (pos 30) ∷ []) k eb m (Err (Range DeltaTa))
great k eb m =
    inr (
      refl,
      inr (
        all_one (λ d. (u : ℤ) × IsUnits d u) (dec (pos 1) (pos 30)) (pos (10 ^ 48), refl),
        inl (refl, λ all. let b = (of_all_one (λ d. (u : ℤ) → IsUnits d u → (neg_ℤ (pos (100 * 10 ^ 18)) ≤ℤ u) × (u ≤ℤ pos (100 * 10 ^ 18))) (dec (pos 1) (pos 30)) all (pos (10 ^ 48)) refl).1 in omega (arith, ints, b)),
      ),
    )

-- 32 s of TAI are 64.184 s of TT, and 64.184 s of TT 32 s of TAI
tai_to_tt : IsAtLeast usual Tai Tt (whole (pos 32)) (over (pos 64184) 1000) × IsAtMost usual Tai Tt (whole (pos 32)) (over (pos 64184) 1000)
tai_to_tt = (record { le = le_z_yes tt }, record { le = le_z_yes tt })

tt_to_tai : IsAtLeast usual Tt Tai (over (pos 64184) 1000) (whole (pos 32)) × IsAtMost usual Tt Tai (over (pos 64184) 1000) (whole (pos 32))
tt_to_tai = (record { le = le_z_yes tt }, record { le = le_z_yes tt })

-- where K is 0, 100 s of TT are 100 s of TDB
no_sine : IsAtLeast without_sine Tt Tdb (whole (pos 100)) (over (pos (100 * 10 ^ 18)) (10 ^ 18)) × IsAtMost without_sine Tt Tdb (whole (pos 100)) (over (pos (100 * 10 ^ 18)) (10 ^ 18))
no_sine = route_exact without_sine Tt Tdb (whole (pos 100)) (record { positive = lit< tt }) (inr refl)
