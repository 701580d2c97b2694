-- What the loaded kernels are seen as with the tables that they gave or refused. A table is found where it is known that the
-- kept one is that of the loaded kernels, and refused where it is known why they give none; loading and unloading forget both,
-- and keep the table.
use Rattle.std.specs.Prelude.{◌≡◌, ℕ, Bool, true, false, Option, Some, None, Result, Ok, Err, MatchResult, ⊤}
use Rattle.st_leaps.specs.OfTable.{pairs_of}
use Rattle.st_leaps.specs.declared.table.LeapTable.{LeapTable}
use Rattle.st_scales.specs.declared.deltet.Deltet.{Deltet}
use Rattle.st_clock.specs.Clock.{Clock}
use Rattle.st_tables.specs.Kept.{Kept, HasLeapsOf, HasConstantsOf, HasClockOf, with_leaps, with_constants, with_clock}
use Rattle.st_tables.specs.Tables.{LeapsGive, ConstantsGive, ClockGives}
use Rattle.st_tables.specs.Variables.{Loaded}
use Rattle.st_tables.specs.declared.fault.TableFault.{TableFault}
use Rattle.st_tables.specs.declared.fault.TableFault.TheVariants.{OutOfMemory}

-- the refusals that are kept; that of a clock with its id without the sign
pub record Refusals : Type 0 where
  pub leaps : Option TableFault
  pub constants : Option TableFault
  pub clock : Option (ℕ × TableFault)

-- the loaded list; the kept tables; which of these are found, a clock by its id without the sign; the kept refusals
pub record Kernels : Type 0 where
  pub loaded : Loaded
  pub kept : Kept
  pub leaps : Bool
  pub constants : Bool
  pub clock : Option ℕ
  pub refused : Refusals

abbrev pub no_refusals : Refusals
no_refusals = record { leaps = None; constants = None; clock = None }

-- the same kept tables, of which none is found, and no refusal
abbrev pub found_none : Loaded → Kept → Kernels
found_none loaded kept =
    record { loaded = loaded; kept = kept; leaps = false; constants = false; clock = None; refused = no_refusals }

-- the same kernels, with a table kept and found; a clock in the place of another one
abbrev pub found_leaps : Kernels → Kernels
found_leaps k = record {
  loaded = k.loaded;
  kept = with_leaps k.loaded k.kept;
  leaps = true;
  constants = k.constants;
  clock = k.clock;
  refused = k.refused;
}

abbrev pub found_constants : Kernels → Kernels
found_constants k = record {
  loaded = k.loaded;
  kept = with_constants k.loaded k.kept;
  leaps = k.leaps;
  constants = true;
  clock = k.clock;
  refused = k.refused;
}

abbrev pub found_clock : ℕ → Kernels → Kernels
found_clock n k = record {
  loaded = k.loaded;
  kept = with_clock n k.loaded k.kept;
  leaps = k.leaps;
  constants = k.constants;
  clock = Some n;
  refused = k.refused;
}

-- the refusal that is kept after a fault: want of memory is never kept
abbrev pub lasting : {A : Type 0} → TableFault → A → Option A → Option A
lasting OutOfMemory refusal before = before
lasting fault refusal before = Some refusal

-- the same kernels, with these refusals
abbrev pub with_refusals : Kernels → Refusals → Kernels
with_refusals k refused = record {
  loaded = k.loaded;
  kept = k.kept;
  leaps = k.leaps;
  constants = k.constants;
  clock = k.clock;
  refused = refused;
}

-- the same kernels, with the refusal of a table kept; that of a clock in the place of another one's
abbrev pub refused_leaps : Kernels → TableFault → Kernels
refused_leaps k fault = with_refusals k (record {
  leaps = lasting fault fault k.refused.leaps;
  constants = k.refused.constants;
  clock = k.refused.clock;
})

abbrev pub refused_constants : Kernels → TableFault → Kernels
refused_constants k fault = with_refusals k (record {
  leaps = k.refused.leaps;
  constants = lasting fault fault k.refused.constants;
  clock = k.refused.clock;
})

abbrev pub refused_clock : ℕ → Kernels → TableFault → Kernels
refused_clock n k fault = with_refusals k (record {
  leaps = k.refused.leaps;
  constants = k.refused.constants;
  clock = lasting fault (n, fault) k.refused.clock;
})

-- the loaded kernels give a table, or refuse it so
abbrev pub FindsLeaps : Loaded → Result ⊤ TableFault → Type 0
FindsLeaps loaded (Ok done) = (table : LeapTable) × LeapsGive loaded (Ok (pairs_of table))
FindsLeaps loaded (Err fault) = LeapsGive loaded (Err fault)

abbrev pub FindsConstants : Loaded → Result ⊤ TableFault → Type 0
FindsConstants loaded (Ok done) = (constants : Deltet) × ConstantsGive loaded (Ok constants)
FindsConstants loaded (Err fault) = ConstantsGive loaded (Err fault)

abbrev pub FindsClock : ℕ → Loaded → Result ⊤ TableFault → Type 0
FindsClock n loaded (Ok done) = (clock : Clock) × ClockGives n loaded (Ok clock)
FindsClock n loaded (Err fault) = ClockGives n loaded (Err fault)

-- what is found after an answer: the table too; after a refusal all is as before but for the refusal
abbrev pub Find : Result ⊤ TableFault → (TableFault → Kernels) → Kernels → Kernels → Type 0
Find answer refused found after = MatchResult answer (λ _. after ≡ found) (λ fault. after ≡ refused fault)

-- what is known of found tables
pub record AreFound (k : Kernels) : Type 0 where
  pub leaps : k.leaps ≡ true → HasLeapsOf k.loaded k.kept × ((table : LeapTable) × LeapsGive k.loaded (Ok (pairs_of table)))
  pub constants : k.constants ≡ true → HasConstantsOf k.loaded k.kept × ((constants : Deltet) × ConstantsGive k.loaded (Ok constants))
  pub clock : (n : ℕ) → k.clock ≡ Some n → HasClockOf n k.loaded k.kept × ((clock : Clock) × ClockGives n k.loaded (Ok clock))

-- what is known of refused tables
pub record AreRefused (k : Kernels) : Type 0 where
  pub leaps : (fault : TableFault) → k.refused.leaps ≡ Some fault → (HasLeapsOf k.loaded k.kept → ⊥) × LeapsGive k.loaded (Err fault)
  pub constants : (fault : TableFault) → k.refused.constants ≡ Some fault
      → (HasConstantsOf k.loaded k.kept → ⊥) × ConstantsGive k.loaded (Err fault)
  pub clock : (n : ℕ) (fault : TableFault) → k.refused.clock ≡ Some (n, fault)
      → (HasClockOf n k.loaded k.kept → ⊥) × ClockGives n k.loaded (Err fault)

pub record AreKnown (k : Kernels) : Type 0 where
  pub found : AreFound k
  pub refused : AreRefused k
