-- What is known of found and refused tables.
use Rattle.std.proofs.Common.{◌≡◌, ℕ, Option, Some, None, Result, Ok, Err, IsOk, IsSome, IfSome, List, refl, sym, ap, ◌∙◌, subst}
use Rattle.std.proofs.lemmas.Bool.{false≢true}
use Rattle.std.specs.Prelude.{⊤}
use Rattle.st_clock.specs.Clock.{Clock}
use Rattle.st_decimal.specs.declared.number.Dec.{Dec}
use Rattle.st_leaps.specs.OfTable.{pairs_of}
use Rattle.st_leaps.specs.declared.table.LeapTable.{LeapTable}
use Rattle.st_scales.specs.declared.deltet.Deltet.{Deltet}
use Rattle.st_tables.specs.Kept.{Kept, Keep, HasLeapsOf, HasConstantsOf, HasClockOf, with_leaps, with_constants, with_clock}
use Rattle.st_tables.specs.Kernels.{Kernels, AreKnown, found_none, found_leaps, found_constants, found_clock, lasting, with_refusals, refused_leaps, refused_constants, refused_clock}
use Rattle.st_tables.specs.Tables.{LeapsGive, ConstantsGive, ClockGives, ClockMade}
use Rattle.st_tables.specs.TablesMachine.{clock_numbers}
use Rattle.st_tables.specs.Variables.{Loaded, leap_vars, constant_vars, clock_vars, all_numbers}
use Rattle.st_tables.specs.declared.fault.TableFault.{TableFault}
use Rattle.st_tables.specs.declared.fault.TableFault.TheVariants.{NoVariable, WrongKind, Leaps, Deltet as Constants, Clock as OfClock, OutOfMemory}
use Rattle.st_tables.proofs.AnswerLaws.{clock_found}

none-some : {A : Type 0} {x : A} → ◌≡◌ {A = Option A} None (Some x) → ⊥
none-some e = absurd cc

some-is : {A : Type 0} (a b : A) → ◌≡◌ {A = Option A} (Some a) (Some b) → a ≡ b
some-is a b e = cc

pub none_known : (loaded : Loaded) (kept : Kept) → AreKnown (found_none loaded kept)
none_known loaded kept = record {
  found = record {
    leaps = λ e. absurd (false≢true e);
    constants = λ e. absurd (false≢true e);
    clock = λ n e. absurd (none-some e);
  };
  refused = record {
    leaps = λ fault e. absurd (none-some e);
    constants = λ fault e. absurd (none-some e);
    clock = λ n fault e. absurd (none-some e);
  };
}

-- what is kept of the loaded kernels' numbers is as after keeping them
pub leaps_stay : (loaded : Loaded) (kept : Kept) → kept.leaps ≡ Some (all_numbers loaded leap_vars) → kept ≡ with_leaps loaded kept
leaps_stay loaded kept e = ap (λ (x : Option (List (List Dec))). record { leaps = x; constants = kept.constants; clock = kept.clock }) e

pub constants_stay : (loaded : Loaded) (kept : Kept) → kept.constants ≡ Some (all_numbers loaded constant_vars) → kept ≡ with_constants loaded kept
constants_stay loaded kept e = ap (λ (x : Option (List (List Dec))). record { leaps = kept.leaps; constants = x; clock = kept.clock }) e

pub clock_stays : (n : ℕ) (loaded : Loaded) (kept : Kept) → kept.clock ≡ Some (n, all_numbers loaded (clock_vars n)) → kept ≡ with_clock n loaded kept
clock_stays n loaded kept e = ap (λ (x : Option (ℕ × List (List Dec))). record { leaps = kept.leaps; constants = kept.constants; clock = x }) e

-- the clock that is lent is that of the loaded kernels
pub clock_lent : (k : Kernels) (table : Clock) → AreKnown k → IfSome k.kept.clock (λ kept. ClockMade (clock_numbers kept.1) (Ok table))
    → IsSome k.clock → IfSome k.clock (λ n. ClockGives n k.loaded (Ok table))
clock_lent k table are made some = by k.clock refl some
  where
    by : (o : Option ℕ) → k.clock ≡ o → IsSome o → IfSome o (λ n. ClockGives n k.loaded (Ok table))
    by None e h = absurd (false≢true h)
    by (Some n) e h =
        let has = (are.found.clock n e).0 in
        clock_found n k.loaded k.kept k.kept table (clock_stays n k.loaded k.kept has.1) has.0 made

-- once a table is kept that the loaded kernels give, and that wasn't refused, it is found
pub leaps_are_found : (k : Kernels) (table : LeapTable) → AreKnown k → k.refused.leaps ≡ None → LeapsGive k.loaded (Ok (pairs_of table))
    → AreKnown (found_leaps k)
leaps_are_found k table are none given = record {
  found = record { leaps = λ e. ((given.0, refl), (table, given)); constants = are.found.constants; clock = are.found.clock };
  refused = record {
    leaps = λ fault e. absurd (none-some (sym none ∙ e));
    constants = are.refused.constants;
    clock = are.refused.clock;
  };
}

pub constants_are_found : (k : Kernels) (table : Deltet) → AreKnown k → k.refused.constants ≡ None → ConstantsGive k.loaded (Ok table)
    → AreKnown (found_constants k)
constants_are_found k table are none given = record {
  found = record { leaps = are.found.leaps; constants = λ e. ((given.0, refl), (table, given)); clock = are.found.clock };
  refused = record {
    leaps = are.refused.leaps;
    constants = λ fault e. absurd (none-some (sym none ∙ e));
    clock = are.refused.clock;
  };
}

-- no refusal is kept of the clock
abbrev pub IsNotRefused : ℕ → Kernels → Type 0
IsNotRefused n k = (fault : TableFault) → k.refused.clock ≡ Some (n, fault) → ⊥

pub not_refused : {P : TableFault → Type 0} (r : Option TableFault) → r ≡ None → ((fault : TableFault) → P fault → r ≡ Some fault) → (fault : TableFault) → P fault → ⊥
not_refused r none tells fault p = none-some (sym none ∙ tells fault p)

-- a refusal that is kept is another clock's
pub other_clock : (n : ℕ) (kept : Option (ℕ × TableFault)) (r : Result ⊤ TableFault) → ((fault : TableFault) → kept ≡ Some (n, fault) → ⊥)
    → IfSome kept (λ k. k.0 ≡ n → r ≡ Err k.1)
other_clock n None r none = tt
other_clock n (Some k) r none = λ e. absurd (none k.1 (ap (λ (m : ℕ). Some (m, k.1)) e))

pub clock_is_found : (n : ℕ) (k : Kernels) (table : Clock) → AreKnown k → IsNotRefused n k → ClockGives n k.loaded (Ok table) → AreKnown (found_clock n k)
clock_is_found n k table are none given = record {
  found = record { leaps = are.found.leaps; constants = are.found.constants; clock = λ m e. of m (some-is n m e) };
  refused = record {
    leaps = are.refused.leaps;
    constants = are.refused.constants;
    clock = λ m fault e. (λ has. none fault (e ∙ ap (λ (x : ℕ). Some (x, fault)) (sym (same m has.1))), (are.refused.clock m fault e).1);
  };
}
  where
    of : (m : ℕ) → n ≡ m → HasClockOf m k.loaded (with_clock n k.loaded k.kept) × ((clock : Clock) × ClockGives m k.loaded (Ok clock))
    of m e = subst (λ (x : ℕ). HasClockOf x k.loaded (with_clock n k.loaded k.kept) × ((clock : Clock) × ClockGives x k.loaded (Ok clock))) e ((given.0, refl), (table, given))

    same : (m : ℕ) → ◌≡◌ {A = Option (ℕ × List (List Dec))} (Some (n, all_numbers k.loaded (clock_vars n))) (Some (m, all_numbers k.loaded (clock_vars m))) → n ≡ m
    same m e = ap (λ (p : ℕ × List (List Dec)). p.0) (some-is _ _ e)

-- a refusal that is kept after a fault: that of the fault, or the one before
lasting-is : {A : Type 0} (P : A → Type 0) (fault : TableFault) (x y : A) (before : Option A) → lasting fault x before ≡ Some y → P x
    → (before ≡ Some y → P y) → P y
lasting-is P (NoVariable v) x y before e p earlier = subst P (some-is x y e) p
lasting-is P (WrongKind v) x y before e p earlier = subst P (some-is x y e) p
lasting-is P (Leaps f) x y before e p earlier = subst P (some-is x y e) p
lasting-is P (Constants f) x y before e p earlier = subst P (some-is x y e) p
lasting-is P (OfClock f) x y before e p earlier = subst P (some-is x y e) p
lasting-is P OutOfMemory x y before e p earlier = earlier e

-- a refusal that is kept, whatever comes after it
lasting-stays : {A : Type 0} (fault : TableFault) (x : A) (before : Option A) → before ≡ Some x → before ≡ lasting fault x before
lasting-stays (NoVariable v) x before e = e
lasting-stays (WrongKind v) x before e = e
lasting-stays (Leaps f) x before e = e
lasting-stays (Constants f) x before e = e
lasting-stays (OfClock f) x before e = e
lasting-stays OutOfMemory x before e = refl

-- once the loaded kernels refuse a table, its refusal is known
pub leaps_are_refused : (k : Kernels) (fault : TableFault) → AreKnown k → (HasLeapsOf k.loaded k.kept → ⊥) → LeapsGive k.loaded (Err fault)
    → AreKnown (refused_leaps k fault)
leaps_are_refused k fault are unkept given = record {
  found = record { leaps = are.found.leaps; constants = are.found.constants; clock = are.found.clock };
  refused = record {
    leaps = λ y e. lasting-is (λ f. (HasLeapsOf k.loaded k.kept → ⊥) × LeapsGive k.loaded (Err f)) fault fault y k.refused.leaps e (unkept, given) (are.refused.leaps y);
    constants = are.refused.constants;
    clock = are.refused.clock;
  };
}

pub constants_are_refused : (k : Kernels) (fault : TableFault) → AreKnown k → (HasConstantsOf k.loaded k.kept → ⊥) → ConstantsGive k.loaded (Err fault)
    → AreKnown (refused_constants k fault)
constants_are_refused k fault are unkept given = record {
  found = record { leaps = are.found.leaps; constants = are.found.constants; clock = are.found.clock };
  refused = record {
    leaps = are.refused.leaps;
    constants = λ y e. lasting-is (λ f. (HasConstantsOf k.loaded k.kept → ⊥) × ConstantsGive k.loaded (Err f)) fault fault y k.refused.constants e (unkept, given) (are.refused.constants y);
    clock = are.refused.clock;
  };
}

pub clock_is_refused : (n : ℕ) (k : Kernels) (fault : TableFault) → AreKnown k → (HasClockOf n k.loaded k.kept → ⊥) → ClockGives n k.loaded (Err fault)
    → AreKnown (refused_clock n k fault)
clock_is_refused n k fault are unkept given = record {
  found = record { leaps = are.found.leaps; constants = are.found.constants; clock = are.found.clock };
  refused = record {
    leaps = are.refused.leaps;
    constants = are.refused.constants;
    clock = λ m y e. lasting-is (λ (p : ℕ × TableFault). (HasClockOf p.0 k.loaded k.kept → ⊥) × ClockGives p.0 k.loaded (Err p.1)) fault (n, fault) (m, y) k.refused.clock e (unkept, given) (are.refused.clock m y);
  };
}

-- a refusal that is known stays as it is
pub leaps_refused_still : (k : Kernels) (fault : TableFault) → k.refused.leaps ≡ Some fault → k ≡ refused_leaps k fault
leaps_refused_still k fault e =
    ap (λ (x : Option TableFault). with_refusals k (record { leaps = x; constants = k.refused.constants; clock = k.refused.clock })) (lasting-stays fault fault k.refused.leaps e)

pub constants_refused_still : (k : Kernels) (fault : TableFault) → k.refused.constants ≡ Some fault → k ≡ refused_constants k fault
constants_refused_still k fault e =
    ap (λ (x : Option TableFault). with_refusals k (record { leaps = k.refused.leaps; constants = x; clock = k.refused.clock })) (lasting-stays fault fault k.refused.constants e)

pub clock_refused_still : (n : ℕ) (k : Kernels) (fault : TableFault) → k.refused.clock ≡ Some (n, fault) → k ≡ refused_clock n k fault
clock_refused_still n k fault e =
    ap (λ (x : Option (ℕ × TableFault)). with_refusals k (record { leaps = k.refused.leaps; constants = k.refused.constants; clock = x })) (lasting-stays fault (n, fault) k.refused.clock e)

-- what is kept after a table was answered or refused
pub kept_ok : {A E : Type 0} (r : Result A E) (x : A) (before with after : Kept) → r ≡ Ok x → Keep r before with after → after ≡ with
kept_ok {A} {E} r x before with after is h = subst (λ (y : Result A E). Keep y before with after) is h

pub kept_err : {A E : Type 0} (r : Result A E) (x : E) (before with after : Kept) → r ≡ Err x → Keep r before with after → after ≡ before
kept_err {A} {E} r x before with after is h = subst (λ (y : Result A E). Keep y before with after) is h

pub unkept : {A E Has : Type 0} (r : Result A E) (x : E) → r ≡ Err x → (Has → IsOk r) → Has → ⊥
unkept {A} {E} {Has} r x is ok has = false≢true (subst (λ (y : Result A E). IsOk y) is (ok has))

-- finding a clock again changes nothing
pub clock_was : (k : Kernels) (n : ℕ) → AreKnown k → k.clock ≡ Some n → k ≡ found_clock n k
clock_was k n are e =
    let has = (are.found.clock n e).0 in
    ap (λ (x : Kept). record { loaded = k.loaded; kept = x; leaps = k.leaps; constants = k.constants; clock = k.clock; refused = k.refused }) (clock_stays n k.loaded k.kept has.1)
    ∙ ap (λ (x : Option ℕ). record { loaded = k.loaded; kept = with_clock n k.loaded k.kept; leaps = k.leaps; constants = k.constants; clock = x; refused = k.refused }) e
