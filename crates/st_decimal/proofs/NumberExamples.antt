-- Texts of numbers, worked out by the definitions.
use Rattle.std.proofs.Common.{◌≡◌, pos, negsuc, Result, Ok, Err, refl, subst}
use Rattle.std.specs.Prelude.{codes}
use Rattle.st_text.specs.Scan as scan
use Rattle.st_decimal.specs.declared.number.Dec.{Dec}
use Rattle.st_decimal.specs.declared.number.DecFault.{DecFault}
use Rattle.st_decimal.specs.declared.number.DecFault.TheVariants.{BadByte, TooManyDigits, BadExponent}
use Rattle.st_decimal.specs.Value.{ReadsDec}
use Rattle.st_decimal.specs.NumberMachine.{dec_of, stop_of, kind_of, pieces_of, value_of, scaled_dec}
use Rattle.st_decimal.proofs.Answered.{meets}

fifteen : dec_of (codes "-150") ≡ Ok (record { digits = negsuc 14; tens = pos 1 })
unfolding dec_of stop_of kind_of pieces_of value_of scaled_dec scan.leading scan.behind
fifteen = refl

ephemeris : dec_of (codes "-8.83656E+08") ≡ Ok (record { digits = negsuc 883655; tens = pos 3 })
unfolding dec_of stop_of kind_of pieces_of value_of scaled_dec scan.leading scan.behind
ephemeris = refl

nothing : dec_of (codes "-0.0E9") ≡ Ok (record { digits = pos 0; tens = pos 0 })
unfolding dec_of stop_of kind_of pieces_of value_of scaled_dec scan.leading scan.behind
nothing = refl

lone_point : dec_of (codes "+.") ≡ Err (BadByte 2)
unfolding dec_of stop_of kind_of pieces_of value_of scaled_dec scan.leading scan.behind
lone_point = refl

high : dec_of (codes "1E401") ≡ Err BadExponent
unfolding dec_of stop_of kind_of pieces_of value_of scaled_dec scan.leading scan.behind
high = refl

long : dec_of (codes "1234567890123456789012345678901") ≡ Err TooManyDigits
unfolding dec_of stop_of kind_of pieces_of value_of scaled_dec scan.leading scan.behind
long = refl

-- and so in the words of the subject
reads_ephemeris : ReadsDec (codes "-8.83656E+08") (Ok (record { digits = negsuc 883655; tens = pos 3 }))
reads_ephemeris = subst (λ (r : Result Dec DecFault). ReadsDec (codes "-8.83656E+08") r) ephemeris (meets (codes "-8.83656E+08"))
