-- The definitions on worked values: the clocks of SCLK kernels with one and with two records, from fields of 4294967296
-- and 256 counts, so that a second has 256 ticks.
use Rattle.std.proofs.Common.{◌≡◌, ℕ, zero, suc, ◌*◌, ◌^◌, ◌<◌, ℤ, pos, negsuc, [], ◌∷◌, Some, slice_get, refl, sym, subst, lit<, lit≤, arith, ◌<ℤ◌, false, inl}
use Rattle.std.specs.Int.Signed.{le_z_yes, lt_z_yes}
use Rattle.st_fraction.specs.Fraction.{◌<ᶠ◌, over, units}
use Rattle.st_fraction.proofs.Order.{not_both_f}
use Rattle.std.specs.List.{All}
use Rattle.st_scales.specs.declared.deltet.Deltet.{Deltet}
use Rattle.st_ticks.specs.Face.{Face, IsField, IsPartition}
use Rattle.st_clock.specs.Covered.{IsCovered}
use Rattle.st_clock.specs.Return.{IsPrinted}
use Rattle.st_ticks.specs.declared.field.Field.{Field}
use Rattle.st_ticks.specs.declared.field.Partition.{Partition}
use Rattle.st_scales.specs.declared.scale.Scale.TheVariants.{Tt, Tdb}
use Rattle.st_clock.specs.declared.coefficient.Coefficient.{Coefficient}
use Rattle.st_clock.specs.declared.ticks.Ticks.TheVariants.{Before, At, After}
use Rattle.st_clock.specs.Clock.{Clock, IsLast, StartsBy, BeginsBy, IsTimeOf, IsClock}
use Rattle.st_clock.specs.Tick.{TickOf}

abbrev second : ℕ
second = 10 ^ 18

abbrev field : ℕ → Field
field modulus = record { modulus = modulus; offset = 0 }

abbrev partition : ℕ → ℕ → Partition
partition start end = record { start = start; end = end }

abbrev coefficient : ℕ → ℤ → ℕ → Coefficient
coefficient ticks time rate = record { ticks = ticks; time = time; rate = rate }

abbrev usual_face : Face
usual_face = record { fields = field 4294967296 ∷ field 256 ∷ []; delimiter = 46; partitions = partition 0 1099511627775 ∷ [] }

-- one record: a second for each count of the first field
abbrev usual : Clock
usual = record { face = usual_face; scale = Tdb; records = coefficient 0 (pos 0) second ∷ [] }

-- the second record begins 10 s after the line of the first one has reached its tick
abbrev slowed : Clock
slowed = record { face = usual_face; scale = Tdb; records = coefficient 0 (pos 0) second ∷ coefficient 25600 (pos (110 * second)) second ∷ [] }

-- the second record begins 10 s before that
abbrev skipped : Clock
skipped = record { face = usual_face; scale = Tdb; records = coefficient 0 (pos 0) second ∷ coefficient 25600 (pos (90 * second)) second ∷ [] }

-- two partitions, with 6000 ticks together
abbrev short : Clock
short = record {
  face = record { fields = field 4294967296 ∷ field 256 ∷ []; delimiter = 46; partitions = partition 0 1000 ∷ partition 0 5000 ∷ [] };
  scale = Tdb;
  records = coefficient 0 (pos 0) second ∷ [];
}

-- four fields, of which the three last ones span 7280 ticks, and 60.666 s for each count of the first
abbrev four_fields : Clock
four_fields = record {
  face = record { fields = field 16777215 ∷ field 91 ∷ field 10 ∷ field 8 ∷ []; delimiter = 58; partitions = partition 0 122138125199 ∷ [] };
  scale = Tdb;
  records = coefficient 0 (pos 0) 60666000000000000000 ∷ [];
}

-- kept in TT, from 2017-01-01 on
abbrev terrestrial : Clock
terrestrial = record { face = usual_face; scale = Tt; records = coefficient 0 (pos 536500869184000000000000000) second ∷ [] }

-- which record of one, or of two, is the last with a property
of_one : (P : Coefficient → Type 0) (r : Coefficient) → P r → IsLast P (r ∷ []) 0 r
of_one P r p = record { here = refl; holds = p; none_later = later }
  where
    later : (j : ℕ) (s : Coefficient) → 0 < j → slice_get (r ∷ []) j ≡ Some s → P s → ⊥
    later zero s h g q = absurd (omega arith)
    later (suc j) s h g q = cc

first_of_two : (P : Coefficient → Type 0) (r s : Coefficient) → P r → (P s → ⊥) → IsLast P (r ∷ s ∷ []) 0 r
first_of_two P r s p never = record { here = refl; holds = p; none_later = later }
  where
    same : (t u : Coefficient) → Some t ≡ Some u → t ≡ u
    same t u e = cc

    later : (j : ℕ) (t : Coefficient) → 0 < j → slice_get (r ∷ s ∷ []) j ≡ Some t → P t → ⊥
    later zero t h g q = absurd (omega arith)
    later (suc zero) t h g q = never (subst P (sym (same s t g)) q)
    later (suc (suc j)) t h g q = cc

second_of_two : (P : Coefficient → Type 0) (r s : Coefficient) → P s → IsLast P (r ∷ s ∷ []) 1 s
second_of_two P r s p = record { here = refl; holds = p; none_later = later }
  where
    later : (j : ℕ) (t : Coefficient) → 1 < j → slice_get (r ∷ s ∷ []) j ≡ Some t → P t → ⊥
    later zero t h g q = absurd (omega arith)
    later (suc zero) t h g q = absurd (omega arith)
    later (suc (suc j)) t h g q = cc

-- tick 25728 is at 100.5 s
usual_time : IsTimeOf usual 25728 (over (pos 201) 2)
usual_time = record { place = 0; by = coefficient 0 (pos 0) second; last = of_one (StartsBy 25728) (coefficient 0 (pos 0) second) (lit≤ tt); value = record { same = refl } }

-- one count of the first field and one of the second, 7360 ticks, are 60.666 s and a 91st of that
four_fields_time : IsTimeOf four_fields 7360 (over (pos (60666 * 92)) 91000)
four_fields_time = record {
  place = 0;
  by = coefficient 0 (pos 0) 60666000000000000000;
  last = of_one (StartsBy 7360) (coefficient 0 (pos 0) 60666000000000000000) (lit≤ tt);
  value = record { same = refl };
}

-- a day and half a second later
terrestrial_time : IsTimeOf terrestrial 22118528 (over (pos 536587269684) 1000)
terrestrial_time = record {
  place = 0;
  by = coefficient 0 (pos 536500869184000000000000000) second;
  last = of_one (StartsBy 22118528) (coefficient 0 (pos 536500869184000000000000000) second) (lit≤ tt);
  value = record { same = refl };
}

-- a tick before the second record's, by the first line
skipped_time : IsTimeOf skipped 24000 (over (pos 375) 4)
skipped_time = record {
  place = 0;
  by = coefficient 0 (pos 0) second;
  last = first_of_two (StartsBy 24000) (coefficient 0 (pos 0) second) (coefficient 25600 (pos (90 * second)) second) (lit≤ tt) (λ h. absurd (omega (arith, h)));
  value = record { same = refl };
}

-- half a tick counts up, and less than half does not
half_up : TickOf usual (over (pos 1953125) (10 ^ 9)) (At 1)
half_up = (
  record {
    place = 0;
    by = coefficient 0 (pos 0) second;
    last = of_one (BeginsBy (over (pos 1953125) (10 ^ 9))) (coefficient 0 (pos 0) second) (record { le = le_z_yes tt });
    rounded = record { at_most = record { le = le_z_yes tt }; below_next = record { lt = lt_z_yes tt } };
  },
  lit≤ tt,
)

less_than_half : TickOf usual (over (pos 1953124) (10 ^ 9)) (At 0)
less_than_half = (
  record {
    place = 0;
    by = coefficient 0 (pos 0) second;
    last = of_one (BeginsBy (over (pos 1953124) (10 ^ 9))) (coefficient 0 (pos 0) second) (record { le = le_z_yes tt });
    rounded = record { at_most = record { le = le_z_yes tt }; below_next = record { lt = lt_z_yes tt } };
  },
  lit≤ tt,
)

-- where the first line has reached the second record's tick, it waits for its time
before_the_cap : TickOf slowed (over (pos 199) 2) (At 25472)
before_the_cap = (
  record {
    place = 0;
    by = coefficient 0 (pos 0) second;
    last = first_of_two (BeginsBy (over (pos 199) 2)) (coefficient 0 (pos 0) second) (coefficient 25600 (pos (110 * second)) second) (record { le = le_z_yes tt })
        (λ h. not_both_f (units (pos (110 * second))) (over (pos 199) 2) h (record { lt = lt_z_yes tt }));
    rounded = record { at_most = record { le = le_z_yes tt }; below_next = record { lt = lt_z_yes tt } };
  },
  lit≤ tt,
)

at_the_cap : TickOf slowed (over (pos 105) 1) (At 25600)
at_the_cap = (
  record {
    place = 0;
    by = coefficient 0 (pos 0) second;
    last = first_of_two (BeginsBy (over (pos 105) 1)) (coefficient 0 (pos 0) second) (coefficient 25600 (pos (110 * second)) second) (record { le = le_z_yes tt })
        (λ h. not_both_f (units (pos (110 * second))) (over (pos 105) 1) h (record { lt = lt_z_yes tt }));
    rounded = record { at_most = record { le = le_z_yes tt }; below_next = record { lt = lt_z_yes tt } };
  },
  lit≤ tt,
)

behind_the_cap : TickOf slowed (over (pos 111) 1) (At 25856)
behind_the_cap = (
  record {
    place = 1;
    by = coefficient 25600 (pos (110 * second)) second;
    last = second_of_two (BeginsBy (over (pos 111) 1)) (coefficient 0 (pos 0) second) (coefficient 25600 (pos (110 * second)) second) (record { le = le_z_yes tt });
    rounded = record { at_most = record { le = le_z_yes tt }; below_next = record { lt = lt_z_yes tt } };
  },
  lit≤ tt,
)

-- ticks are left out where the second record begins early
before_the_gap : TickOf skipped (over (pos 179) 2) (At 22912)
before_the_gap = (
  record {
    place = 0;
    by = coefficient 0 (pos 0) second;
    last = first_of_two (BeginsBy (over (pos 179) 2)) (coefficient 0 (pos 0) second) (coefficient 25600 (pos (90 * second)) second) (record { le = le_z_yes tt })
        (λ h. not_both_f (units (pos (90 * second))) (over (pos 179) 2) h (record { lt = lt_z_yes tt }));
    rounded = record { at_most = record { le = le_z_yes tt }; below_next = record { lt = lt_z_yes tt } };
  },
  lit≤ tt,
)

behind_the_gap : TickOf skipped (over (pos 90) 1) (At 25600)
behind_the_gap = (
  record {
    place = 1;
    by = coefficient 25600 (pos (90 * second)) second;
    last = second_of_two (BeginsBy (over (pos 90) 1)) (coefficient 0 (pos 0) second) (coefficient 25600 (pos (90 * second)) second) (record { le = le_z_yes tt });
    rounded = record { at_most = record { le = le_z_yes tt }; below_next = record { lt = lt_z_yes tt } };
  },
  lit≤ tt,
)

-- the last tick of all, what is after it, and what is before the first record
last_tick : TickOf short (over (pos 234375) 10000) (At 6000)
last_tick = (
  record {
    place = 0;
    by = coefficient 0 (pos 0) second;
    last = of_one (BeginsBy (over (pos 234375) 10000)) (coefficient 0 (pos 0) second) (record { le = le_z_yes tt });
    rounded = record { at_most = record { le = le_z_yes tt }; below_next = record { lt = lt_z_yes tt } };
  },
  lit≤ tt,
)

behind_all : TickOf short (over (pos 24) 1) After
behind_all = (
  pos 6144,
  (
    record {
      place = 0;
      by = coefficient 0 (pos 0) second;
      last = of_one (BeginsBy (over (pos 24) 1)) (coefficient 0 (pos 0) second) (record { le = le_z_yes tt });
      rounded = record { at_most = record { le = le_z_yes tt }; below_next = record { lt = lt_z_yes tt } };
    },
    lt_z_yes tt,
  ),
)

before_all : TickOf short (over (negsuc 0) 1) Before
before_all zero r g = subst (λ (s : Coefficient). over (negsuc 0) 1 <ᶠ units s.time) (same (coefficient 0 (pos 0) second) r g) (record { lt = lt_z_yes tt })
  where
    same : (t u : Coefficient) → Some t ≡ Some u → t ≡ u
    same t u e = cc
before_all (suc i) r g = absurd (none r g)
  where
    none : (r : Coefficient) → slice_get [] i ≡ Some r → ⊥
    none r e = cc

-- this clock is one, its tick 25728 is covered, and its time prints as 100.500000 with six places, whatever the constants:
-- so that the way back speaks of something
usual_is_clock : IsClock usual
usual_is_clock = record {
  face = record {
    some_fields = lit≤ tt;
    few_fields = lit≤ tt;
    fields = fields;
    tpm_small = lit≤ tt;
    delimiter = inl refl;
    some_partitions = lit≤ tt;
    few_partitions = lit≤ tt;
    partitions = partitions;
    total_small = lit≤ tt;
  };
  some = lit< tt;
  rates = λ i r g. rate i r g;
  rising = λ i j r s l g h. rises i j r s l h;
}
  where
    fields : All IsField usual_face.fields
    fields zero d l = record { some = lit≤ tt; modulus = lit≤ tt; offset = lit≤ tt }
    fields (suc zero) d l = record { some = lit≤ tt; modulus = lit≤ tt; offset = lit≤ tt }
    fields (suc (suc k)) d l = absurd (omega (arith, l))

    partitions : All IsPartition usual_face.partitions
    partitions zero d l = record { ordered = lit≤ tt; small = lit≤ tt }
    partitions (suc k) d l = absurd (omega (arith, l))

    same : (t u : Coefficient) → Some t ≡ Some u → t ≡ u
    same t u e = cc

    none : (k : ℕ) (r : Coefficient) → slice_get [] k ≡ Some r → ⊥
    none k r e = cc

    rate : (i : ℕ) (r : Coefficient) → slice_get usual.records i ≡ Some r → 0 < r.rate
    rate zero r g = subst (λ (s : Coefficient). 0 < s.rate) (same (coefficient 0 (pos 0) second) r g) (lit< tt)
    rate (suc i) r g = absurd (none i r g)

    rises : (i j : ℕ) (r s : Coefficient) → i < j → slice_get usual.records j ≡ Some s → (r.ticks < s.ticks) × (r.time <ℤ s.time)
    rises i zero r s l h = absurd (omega (arith, l))
    rises i (suc j) r s l h = absurd (none j s h)

usual_covered : IsCovered usual 25728 0 (coefficient 0 (pos 0) second)
usual_covered = record {
  inside = record {
    place = 0;
    partition = partition 0 1099511627775;
    of_tick = record { there = lit< tt; begun = lit≤ tt; last = λ later a b. absurd (omega (arith, a, b)) };
    here = refl;
    after_start = lit< tt;
    before_end = lit< tt;
  };
  last = of_one (StartsBy 25728) (coefficient 0 (pos 0) second) (lit≤ tt);
  after_start = lit≤ tt;
  before_next = λ s e. absurd (none s e);
}
  where
    none : (s : Coefficient) → slice_get [] 0 ≡ Some s → ⊥
    none s e = cc

usual_printed : (d : Deltet) → IsPrinted d usual 25728 6 false (pos 100500000)
usual_printed d = record {
  is_clock = usual_is_clock;
  place = 0;
  by = coefficient 0 (pos 0) second;
  covered = usual_covered;
  time = over (pos 201) 2;
  time_is = record { positive = lit< tt };
  is_time = usual_time;
  long = record { le = le_z_yes tt };
  prints = record {
    low = over (pos 201) 2;
    high = over (pos 201) 2;
    low_is = record { positive = lit< tt };
    high_is = record { positive = lit< tt };
    at_least = record { le = le_z_yes tt };
    at_most = record { le = le_z_yes tt };
    low_cell = record { at_most = record { le = le_z_yes tt }; below_next = record { lt = lt_z_yes tt } };
    high_cell = record { at_most = record { le = le_z_yes tt }; below_next = record { lt = lt_z_yes tt } };
  };
}
