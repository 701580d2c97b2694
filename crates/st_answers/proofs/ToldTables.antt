-- Any loaded kernels give the tables of a job whose lines can be answered, or refuse one.
use Rattle.std.proofs.Common.{◌≡◌, ◌≢◌, ℕ, Bool, true, false, ◌⊎◌, inl, inr, Option, None, Some, Result, Ok, Err, List, length, Global, refl, sym, ap, subst, arith}
use Rattle.std.specs.declared.vec.Vec.{Vec}
use denote.RawPtr.{null_ptr}
use Rattle.st_clock.specs.Clock.{Clock as TheClock}
use Rattle.st_leaps.specs.OfTable.{pairs_of}
use Rattle.st_leaps.specs.Table.{IsLeapTable}
use Rattle.st_leaps.specs.declared.pair.LeapPair.{LeapPair}
use Rattle.st_leaps.specs.declared.table.LeapTable.{LeapTable}
use Rattle.st_tables.specs.Tables.{LeapsGive, ConstantsGive, ClockGives}
use Rattle.st_tables.specs.Variables.{Loaded}
use Rattle.st_tables.specs.declared.fault.TableFault.{TableFault}
use Rattle.st_tables.specs.declared.fault.TableFault.TheVariants.{OutOfMemory}
use Rattle.st_tables.proofs.FoundLaws.{Found, leaps_found, constants_found, clock_found}
use Rattle.st_words.specs.declared.job.Job.{Job}
use Rattle.st_answers.specs.Asked.{GivesWhere, in_pairs}
use Rattle.st_answers.specs.Laws.{EachJobIsTold}
use Rattle.st_answers.specs.Sides.{has_utc, has_clock, needs_constants}

-- the pairs of a table are those of one
table-there : (pairs : List LeapPair) → IsLeapTable pairs → (table : LeapTable) × (pairs_of table ≡ pairs)
table-there pairs is =
    let few = is.few in
    let held : Vec LeapPair Global = record {
      ptr = null_ptr;
      len = length pairs;
      cap = length pairs;
      alloc = record { memory = record { seal = tt } };
      items = pairs;
      ok = (refl, omega arith);
      small = omega (arith, few);
    } in
    (record { pairs = held; is_table = is }, refl)

-- a table where it is asked for, and else none, or its refusal
abbrev ToldWhere : {T : Type 0} → Bool → (Result T TableFault → Type 0) → Type 0
ToldWhere {T} asked Gives =
    ((table : Option T) × GivesWhere asked Gives (Ok table)) ⊎ ((fault : TableFault) × (fault ≢ OutOfMemory) × GivesWhere asked Gives (Err fault))

told-where : {T : Type 0} (asked : Bool) (Gives : Result T TableFault → Type 0) → (asked ≡ true → Found Gives) → ToldWhere asked Gives
told-where false Gives found = inl (None, refl)
told-where {T} true Gives found = by (found refl).0 (found refl).1 (found refl).2
  where
    by : (answer : Result T TableFault) → Gives answer → (answer ≢ Err OutOfMemory) → ToldWhere true Gives
    by (Ok table) gives some = inl (Some table, gives)
    by (Err fault) gives some = inr (fault, (λ e. some (ap Err e)), gives)

leaps-told : (loaded : Loaded) → Found {A = LeapTable} (λ r. LeapsGive loaded (in_pairs r))
leaps-told loaded = let f = leaps_found loaded in by f.0 f.1 f.2
  where
    by : (answer : Result (List LeapPair) TableFault) → LeapsGive loaded answer → (answer ≢ Err OutOfMemory) → Found {A = LeapTable} (λ r. LeapsGive loaded (in_pairs r))
    by (Ok pairs) gives some =
        let t = table-there pairs gives.1.is_table in
        (Ok t.0, subst (λ (x : List LeapPair). LeapsGive loaded (Ok x)) (sym t.1) gives, λ e. absurd cc)
    by (Err fault) gives some = (Err fault, gives, λ e. some (ap Err (same fault OutOfMemory e)))
      where
        same : (a b : TableFault) → ◌≡◌ {A = Result LeapTable TableFault} (Err a) (Err b) → a ≡ b
        same a b e = cc

clock-told : (job : Job) (loaded : Loaded) (n : ℕ) → job.clock ≡ Some n → Found {A = TheClock} (λ r. (n : ℕ) × (job.clock ≡ Some n) × ClockGives n loaded r)
clock-told job loaded n has = let f = clock_found n loaded in (f.0, (n, has, f.1), f.2)

pub job-is-told : EachJobIsTold
job-is-told job loaded ready =
    elim (told-where (has_utc job) (λ r. LeapsGive loaded (in_pairs r)) (λ asked. leaps-told loaded)) [
      | inr f ↦ inr (f.0, (f.1, inl f.2))
      | inl l ↦ elim (told-where (needs_constants job) (ConstantsGive loaded) (λ asked. constants_found loaded)) [
        | inr f ↦ inr (f.0, (f.1, inr (inl (l.0, l.1, f.2))))
        | inl d ↦ elim (told-where (has_clock job) (λ r. (n : ℕ) × (job.clock ≡ Some n) × ClockGives n loaded r)
            (λ asked. let k = ready.known asked in clock-told job loaded k.0 k.1)) [
              | inr f ↦ inr (f.0, (f.1, inr (inr (l.0, d.0, l.1, d.1, f.2))))
              | inl k ↦ inl (record { leaps = l.0; constants = d.0; clock = k.0 }, record { leaps = l.1; constants = d.1; clock = k.1 })
            ]
      ]
    ]
