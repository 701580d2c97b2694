-- Worked values: the definitions on days around an inserted and a removed second, and on numbers.
use Rattle.std.proofs.Common.{◌≡◌, ℤ, pos, negsuc, List, [], ◌∷◌, refl, arith, lit<}
use Rattle.std.proofs.lemmas.Int.{ints}
use Rattle.st_decimal.specs.declared.number.Dec.{Dec}
use Rattle.st_fraction.specs.Fraction.{over, units}
use Rattle.st_leaps.specs.Faults.{Breaks}
use Rattle.st_leaps.specs.Label.{IsLabel, IsLabelOf, length_of}
use Rattle.st_leaps.specs.Numbers.{IsCount, IsMidnight}
use Rattle.st_leaps.specs.Table.{count_on}
use Rattle.st_leaps.specs.declared.fault.LeapFault.TheVariants.{BadStep}
use Rattle.st_leaps.specs.declared.pair.LeapPair.{LeapPair}

-- 36 s from 2015-07-01 on, 37 s from 2017-01-01 on, and 36 s again from 2030-01-01 on
abbrev table : List LeapPair
table = (record { count = 36; day = pos 5_660 }) ∷ (record { count = 37; day = pos 6_210 }) ∷ (record { count = 36; day = pos 10_958 }) ∷ []

record Days : Type 0 where
  before_first : count_on table (pos 5_659) ≡ pos 35
  first : count_on table (pos 5_660) ≡ pos 36
  last : count_on table (pos 20_000) ≡ pos 36
  inserted_at_first : length_of (count_on table) (pos 5_659) ≡ pos 86_401
  inserted : length_of (count_on table) (pos 6_209) ≡ pos 86_401
  removed : length_of (count_on table) (pos 10_957) ≡ pos 86_399
  plain : length_of (count_on table) (pos 6_210) ≡ pos 86_400

days : Days
unfolding count_on
days = record {
  before_first = refl;
  first = refl;
  last = refl;
  inserted_at_first = refl;
  inserted = refl;
  removed = refl;
  plain = refl;
}

-- 2016-12-31T23:59:60.5, a half that units tell as well
leap : IsLabelOf (count_on table) (over (pos 1_073_001_673) 2) (record { day = pos 6_209; second = over (pos 172_801) 2 })
unfolding count_on
leap = record {
  is_label = record { second_is = record { positive = lit< tt }; from = record { le = omega (arith, ints) }; to = record { lt = omega (arith, ints) } };
  value = record { same = refl };
}

-- a third of a second after 2029-12-31T23:59:58, before the second that is removed
third : IsLabelOf (count_on table) (over (pos 2_840_184_106) 3) (record { day = pos 10_957; second = over (pos 259_195) 3 })
unfolding count_on
third = record {
  is_label = record { second_is = record { positive = lit< tt }; from = record { le = omega (arith, ints) }; to = record { lt = omega (arith, ints) } };
  value = record { same = refl };
}

-- 2029-12-31T23:59:59 isn't there, and 2030-01-01 comes in its place
removed : IsLabel (count_on table) (record { day = pos 10_957; second = over (pos 86_399) 1 }) → ⊥
unfolding count_on
removed is = let to = is.to.lt in omega (arith, ints)

new_year : IsLabelOf (count_on table) (units (pos 946_728_036_000_000_000_000_000_000)) (record { day = pos 10_958; second = over (pos 0) 1 })
unfolding count_on
new_year = record {
  is_label = record { second_is = record { positive = lit< tt }; from = record { le = omega (arith, ints) }; to = record { lt = omega (arith, ints) } };
  value = record { same = refl };
}

-- 37, @2017-01-01, 39, @2030-01-01: the second pair's count leaps by two
abbrev number : ℤ → ℤ → Dec
number digits tens = record { digits = digits; tens = tens }

abbrev numbers : List Dec
numbers = number (pos 37) (pos 0) ∷ number (pos 5_365_008) (pos 2) ∷ number (pos 390) (negsuc 0) ∷ number (pos 946_728_000) (pos 0) ∷ []

new_year_2017 : IsMidnight (number (pos 5_365_008) (pos 2)) (pos 6_210)
new_year_2017 = record { units = record { value = refl; below = lit< tt }; in_range = (omega (arith, ints), omega (arith, ints)) }

count_of_39 : IsCount (number (pos 390) (negsuc 0)) 39
count_of_39 = record { whole = record { value = refl; fits = omega (arith, ints) }; in_range = omega arith }

leaps_by_two : Breaks numbers (BadStep 2)
leaps_by_two = record {
  before = 1;
  next = refl;
  count_before = 37;
  has_before = record {
    earlier = 0;
    nth = refl;
    number = number (pos 37) (pos 0);
    stands = refl;
    is = record { whole = record { value = refl; fits = omega (arith, ints) }; in_range = omega arith };
  };
  count = 39;
  has_count = record { earlier = 1; nth = refl; number = number (pos 390) (negsuc 0); stands = refl; is = count_of_39 };
  leaps = λ e. cc;
}
