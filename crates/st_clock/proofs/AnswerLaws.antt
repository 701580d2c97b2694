-- Variables that keep all rules give a clock, and any give one or break a first rule.
use Rattle.std.proofs.Common.{◌≡◌, ◌≢◌, ℕ, zero, suc, ◌+◌, ◌*◌, ◌<◌, ◌≤◌, inl, inr, List, [], ◌∷◌, ◌++◌, length, get_or, Some, Result, Ok, Err, slice_get, refl, sym, subst, arith}
use Rattle.std.proofs.lemmas.List.{length_push}
use Rattle.std.proofs.lemmas.Option.{none-some, slice_get-get_or}
use Rattle.st_decimal.specs.declared.number.Dec.{Dec}
use Rattle.st_scales.specs.declared.scale.Scale.{Scale}
use Rattle.st_scales.specs.declared.scale.Scale.TheVariants.{Tdb}
use Rattle.st_ticks.specs.Face.{Face}
use Rattle.st_rules.specs.Rules.{AreKept}
use Rattle.st_ticks.specs.declared.fault.FaceFault.{FaceFault}
use Rattle.st_ticks.specs.declared.fault.FaceFault.TheVariants.{Bad, OutOfMemory}
use Rattle.st_ticks.specs.declared.variable.ClockFault.{ClockFault}
use Rattle.st_ticks.specs.declared.variable.ClockWhy.TheVariants.{Range, Count}
use Rattle.st_ticks.proofs.MakingLaws.{no_dec}
use Rattle.st_rules.proofs.Told.{kept_or_broken}
use Rattle.st_clock.specs.declared.coefficient.Coefficient.{Coefficient}
use Rattle.st_clock.specs.Clock.{Clock}
use Rattle.st_clock.specs.KeptSteps.{seen}
use Rattle.st_clock.specs.Parts.{IsScaleOf, IsRecordAt, AreRecords, KeepsSystem, KeepsCoefficients, Keeps, clock_rules, GivesClock}
use Rattle.st_clock.proofs.Gathers.{pushed, first_here, record_at_place}
use Rattle.st_clock.proofs.ToldParts.{told_rule}

-- a time system that keeps its rules is a scale
scale_there : (values : List Dec) → KeepsSystem values Range → (scale : Scale) × IsScaleOf values scale
scale_there [] h = (Tdb, refl)
scale_there (d ∷ more) h = h 0 d refl

-- each third of coefficients that keep their rules is a record
record_there : (values : List Dec) (i : ℕ) → KeepsCoefficients values Range → 3 * i + 2 < length values → (r : Coefficient) × IsRecordAt values i r
record_there values i h l =
    let tick = h.0 i (get_or values (3 * i) no_dec) (first_here values i no_dec (omega arith)) in
    let time = h.1.0 i (get_or values (3 * i + 1) no_dec) (slice_get-get_or values (3 * i + 1) no_dec (omega arith)) in
    let rate = h.1.1 i (get_or values (3 * i + 2) no_dec) (slice_get-get_or values (3 * i + 2) no_dec l) in
    let r : Coefficient = record { ticks = tick.0; time = time.0; rate = rate.0 } in
    (r, record_at_place values i no_dec no_dec no_dec r l tick.1 time.1 rate.1)

first_records : (values : List Dec) (n : ℕ) → KeepsCoefficients values Range → 3 * n ≤ length values
    → (records : List Coefficient) × (length records ≡ n) × ((i : ℕ) (r : Coefficient) → slice_get records i ≡ Some r → IsRecordAt values i r)
first_records values zero h l = ([], refl, λ i r g. absurd (none-some r g))
first_records values (suc n) h l =
    let before = first_records values n h (omega (arith, l)) in
    let next = record_there values n h (omega (arith, l)) in (
      before.0 ++ next.0 ∷ [],
      omega (arith, length_push before.0 next.0, before.1),
      pushed (IsRecordAt values) before.0 next.0 before.2 (subst (λ (i : ℕ). IsRecordAt values i next.0) (sym before.1) next.1),
    )

records_there : (values : List Dec) → KeepsCoefficients values Count → KeepsCoefficients values Range → (records : List Coefficient) × AreRecords values records
records_there values count range =
    let all = first_records values count.0 range (omega (arith, count.1.1)) in
    (all.0, record { as_many = omega (arith, count.1.1, all.1); each = all.2 })

pub clock_made : (face : Face) (dt ts cs : List Dec) → AreKept (Keeps dt ts cs) clock_rules → (c : Clock) × GivesClock face dt ts cs (Ok c)
clock_made face dt ts cs k =
    let scale = scale_there ts k.1.1.1.0 in
    let records = records_there cs k.1.1.1.1.0 k.1.1.1.1.1.1.1.0 in
    (seen face scale.0 records.0, (k, (refl, (scale.1, records.1))))

no_want : (c : Clock) → ◌≡◌ {A = Result Clock FaceFault} (Ok c) (Err OutOfMemory) → ⊥
no_want c e = cc

no_bad : (fault : ClockFault) → ◌≡◌ {A = Result Clock FaceFault} (Err (Bad fault)) (Err OutOfMemory) → ⊥
no_bad fault e = cc

pub each_has_answer : (face : Face) (dt ts cs : List Dec) → (answer : Result Clock FaceFault) × GivesClock face dt ts cs answer × (answer ≢ Err OutOfMemory)
each_has_answer face dt ts cs =
    elim (kept_or_broken (Keeps dt ts cs) (told_rule dt ts cs) clock_rules) [
      | inl k ↦ let c = clock_made face dt ts cs k in (Ok c.0, c.1, no_want c.0)
      | inr f ↦ (Err (Bad f.0), f.1, no_bad f.0)
    ]
