-- The last record with a property: places in order, and that there is one.
use Rattle.std.proofs.Common.{◌≡◌, ℕ, zero, suc, ◌+◌, ◌<◌, ◌≤◌, ◌<ℤ◌, ◌⊎◌, inl, inr, List, [], ◌∷◌, Some, slice_get, refl, sym, subst, arith}
use Rattle.std.proofs.lemmas.Bool.{cases_lt}
use Rattle.std.proofs.lemmas.Option.{slice_get_within, slice_get-get_or}
use Rattle.std.proofs.Common.{get_or}
use Rattle.st_clock.specs.declared.coefficient.Coefficient.{Coefficient}
use Rattle.st_clock.specs.Clock.{IsLast, AreRising}

-- one place is before, at or after another
pub by_place : {P : Type 0} (i j : ℕ) → (i < j → P) → (i ≡ j → P) → (j < i → P) → P
by_place i j before at after =
    elim (cases_lt i j) [
      | inl l ↦ before l
      | inr n ↦ elim (cases_lt j i) [ inl l ↦ after l | inr m ↦ at (omega arith) ]
    ]

-- a place has one record
pub same_record : (records : List Coefficient) (i : ℕ) (r s : Coefficient) → slice_get records i ≡ Some r → slice_get records i ≡ Some s → r ≡ s
same_record records i r s h k = cc

pub last_in_order : (P Q : Coefficient → Type 0) (records : List Coefficient) (i j : ℕ) (r s : Coefficient)
    → IsLast P records i r → IsLast Q records j s → ((t : Coefficient) → P t → Q t) → i ≤ j
last_in_order P Q records i j r s a b more =
    by_place i j (λ l. omega arith) (λ e. omega arith) (λ l. absurd (b.none_later i r l a.here (more r a.holds)))

-- where a later record stands, so does a next one
pub next_there : (records : List Coefficient) (i j : ℕ) (s : Coefficient) → i < j → slice_get records j ≡ Some s
    → (t : Coefficient) × (slice_get records (i + 1) ≡ Some t)
next_there records i j s l h =
    let n = slice_get_within records j s h in
    (get_or records (i + 1) s, slice_get-get_or records (i + 1) s (omega arith))

-- no later record's tick is before an earlier one's
pub ticks_in_order : (records : List Coefficient) (i j : ℕ) (r s : Coefficient) → AreRising records → i ≤ j
    → slice_get records i ≡ Some r → slice_get records j ≡ Some s → r.ticks ≤ s.ticks
ticks_in_order records i j r s rising l h k =
    by_place i j (λ before. let u = rising i j r s before h k in omega (arith, u.0))
    (λ same. le_of_eq (same_record records j r s (subst (λ n. slice_get records n ≡ Some r) same h) k))
    (λ after. absurd (omega arith))
  where
    le_of_eq : {r s : Coefficient} → r ≡ s → r.ticks ≤ s.ticks
    le_of_eq {r} e = subst (λ (t : Coefficient). r.ticks ≤ t.ticks) e (omega arith)

-- nor its time
pub times_in_order : (records : List Coefficient) (i j : ℕ) (r s : Coefficient) → AreRising records → i < j
    → slice_get records i ≡ Some r → slice_get records j ≡ Some s → r.time <ℤ s.time
times_in_order records i j r s rising l h k = (rising i j r s l h k).1

-- the last record with P
abbrev pub LastWith : (Coefficient → Type 0) → List Coefficient → Type 0
LastWith P records = (i : ℕ) × ((r : Coefficient) × IsLast P records i r)

abbrev pub NoneHas : (Coefficient → Type 0) → List Coefficient → Type 0
NoneHas P records = (i : ℕ) (r : Coefficient) → slice_get records i ≡ Some r → P r → ⊥

further : (P : Coefficient → Type 0) (x : Coefficient) (xs : List Coefficient) (i : ℕ) (r : Coefficient) → IsLast P xs i r → IsLast P (x ∷ xs) (suc i) r
further P x xs i r l = record { here = l.here; holds = l.holds; none_later = later }
  where
    later : (j : ℕ) (s : Coefficient) → suc i < j → slice_get (x ∷ xs) j ≡ Some s → P s → ⊥
    later zero s h g p = absurd (omega arith)
    later (suc j) s h g p = l.none_later j s (omega arith) g p

alone : (P : Coefficient → Type 0) (x : Coefficient) (xs : List Coefficient) → P x → NoneHas P xs → IsLast P (x ∷ xs) 0 x
alone P x xs p none = record { here = refl; holds = p; none_later = later }
  where
    later : (j : ℕ) (s : Coefficient) → 0 < j → slice_get (x ∷ xs) j ≡ Some s → P s → ⊥
    later zero s h g p = absurd (omega arith)
    later (suc j) s h g p = none j s g p

neither : (P : Coefficient → Type 0) (x : Coefficient) (xs : List Coefficient) → (P x → ⊥) → NoneHas P xs → NoneHas P (x ∷ xs)
neither P x xs never none zero r g p = never (subst P (sym (same x r g)) p)
  where
    same : (x r : Coefficient) → Some x ≡ Some r → x ≡ r
    same x r e = cc
neither P x xs never none (suc i) r g p = none i r g p

pub last_found : (P : Coefficient → Type 0) → ((r : Coefficient) → P r ⊎ (P r → ⊥)) → (records : List Coefficient) → LastWith P records ⊎ NoneHas P records
last_found P decide [] = inr (λ i r g p. absurd (none-some r g))
  where
    none-some : (r : Coefficient) → slice_get [] 0 ≡ Some r → ⊥
    none-some r e = cc
last_found P decide (x ∷ xs) =
    elim (last_found P decide xs) [
      | inl l ↦ inl (suc l.0, (l.1.0, further P x xs l.0 l.1.0 l.1.1))
      | inr none ↦ elim (decide x) [ inl p ↦ inl (0, (x, alone P x xs p none)) | inr never ↦ inr (neither P x xs never none) ]
    ]
