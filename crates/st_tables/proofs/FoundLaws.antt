-- Any loaded kernels give a table, or refuse it for a first cause.
use Rattle.std.proofs.Common.{◌≡◌, ◌≢◌, ℕ, inl, inr, refl, sym, subst, List, [], ◌∷◌, ◌++◌, Result, Ok, Err}
use Rattle.st_decimal.specs.declared.number.Dec.{Dec}
use Rattle.st_clock.specs.Clock.{Clock as TheClock}
use Rattle.st_clock.specs.Parts as parts
use Rattle.st_clock.specs.Parts.{GivesClock, system_rules, record_rules}
use Rattle.st_clock.proofs.AnswerLaws.{clock_made}
use Rattle.st_clock.proofs.ToldParts as clock
use Rattle.st_leaps.specs.Faults.{Gives}
use Rattle.st_leaps.specs.declared.fault.LeapFault.{LeapFault}
use Rattle.st_leaps.specs.declared.fault.LeapFault.TheVariants as leap
use Rattle.st_leaps.specs.declared.pair.LeapPair.{LeapPair}
use Rattle.st_leaps.proofs.AnswerLaws as leaps
use Rattle.st_pool.specs.Variable.{loaded_kind}
use Rattle.st_pool.specs.declared.kind.Kind.{Kind}
use Rattle.st_pool.specs.declared.kind.Kind.TheVariants.{Absent, Numbers, Texts, Mixed}
use Rattle.st_scales.specs.Constants.{GiveConstants}
use Rattle.st_scales.specs.declared.deltet.Deltet.{Deltet as Constants}
use Rattle.st_scales.specs.declared.fault.DeltetFault.{DeltetFault}
use Rattle.st_scales.proofs.AnswerLaws as constants
use Rattle.st_ticks.specs.Face.{Face}
use Rattle.st_rules.specs.Rules.{AreKept, IsFirstBroken}
use Rattle.st_ticks.specs.Variables as face
use Rattle.st_ticks.specs.Variables.{MakesFace, face_rules}
use Rattle.st_ticks.specs.declared.variable.ClockFault.{ClockFault}
use Rattle.st_ticks.specs.declared.variable.ClockVar.{ClockVar}
use Rattle.st_ticks.specs.declared.variable.ClockVar.TheVariants.{DataType, TimeSystem, Coefficients}
use Rattle.st_ticks.specs.declared.variable.Var.{Var}
use Rattle.st_ticks.specs.declared.variable.Var.TheVariants as var
use Rattle.st_ticks.proofs.FoundLaws.{face_made}
use Rattle.st_rules.proofs.Told.{IsTold, told_both, kept_or_broken}
use Rattle.st_ticks.proofs.ToldRules as ticks
use Rattle.st_tables.specs.Laws.{LeapsAreFound, ConstantsAreFound, ClockIsFound}
use Rattle.st_tables.specs.Names.{var_name}
use Rattle.st_tables.specs.Tables.{TableGives, LeapsGive, ConstantsGive, ClockMade, KeepsOfClock, clock_rules, face_numbers}
use Rattle.st_tables.specs.Variables.{Loaded, Keeps, rules_of_all, leap_vars, constant_vars, clock_vars, numbers_of}
use Rattle.st_tables.specs.declared.fault.TableFault.{TableFault}
use Rattle.st_tables.specs.declared.fault.TableFault.TheVariants.{NoVariable, WrongKind, Leaps, Deltet, Clock, OutOfMemory}
use Rattle.st_rules.proofs.First.{kept_both, kept_front, kept_back}
use Rattle.st_tables.proofs.TableLaws.{refused_is_given}
use Rattle.st_tables.proofs.ThreeLaws.{LeapsOf, ConstantsOf, ClockOf, of_clock}

-- whether a variable keeps its rules can be told
told_there : (kind : Kind) → IsTold (kind ≢ Absent)
told_there Absent = inr (λ h. h refl)
told_there Numbers = inl (λ e. absurd cc)
told_there Texts = inl (λ e. absurd cc)
told_there Mixed = inl (λ e. absurd cc)

told_kind : (kind : Kind) → IsTold ((kind ≢ Texts) × (kind ≢ Mixed))
told_kind Absent = inl (λ e. absurd cc, λ e. absurd cc)
told_kind Numbers = inl (λ e. absurd cc, λ e. absurd cc)
told_kind Texts = inr (λ h. h.0 refl)
told_kind Mixed = inr (λ h. h.1 refl)

told_rule : (loaded : Loaded) (rule : TableFault) → IsTold (Keeps loaded rule)
told_rule loaded (NoVariable v) = told_there (loaded_kind (var_name v) loaded)
told_rule loaded (WrongKind v) = told_kind (loaded_kind (var_name v) loaded)
told_rule loaded (Leaps f) = inl tt
told_rule loaded (Deltet f) = inl tt
told_rule loaded (Clock f) = inl tt
told_rule loaded OutOfMemory = inl tt

same_err : {A : Type 0} (a b : TableFault) → ◌≡◌ {A = Result A TableFault} (Err a) (Err b) → a ≡ b
same_err a b e = cc

-- an answer that isn't want of memory
abbrev pub Found : {A : Type 0} → (Result A TableFault → Type 0) → Type 0
Found {A} Gives = (answer : Result A TableFault) × Gives answer × (answer ≢ Err OutOfMemory)

module _ {A : Type 0} (loaded : Loaded) (vars : List Var) (Made : Result A TableFault → Type 0) where
  no_want : (fault : TableFault) → IsFirstBroken (Keeps loaded) (rules_of_all vars) fault → ◌≡◌ {A = Result A TableFault} (Err fault) (Err OutOfMemory) → ⊥
  no_want fault f e =
      let h = subst (λ (x : TableFault). IsFirstBroken (Keeps loaded) (rules_of_all vars) x) (same_err {A = A} fault OutOfMemory e) f in
      h.broken tt

  table_found : (AreKept (Keeps loaded) (rules_of_all vars) → Found (TableGives loaded vars Made)) → Found (TableGives loaded vars Made)
  table_found made =
      elim (kept_or_broken (Keeps loaded) (told_rule loaded) (rules_of_all vars)) [
        | inl k ↦ made k
        | inr f ↦ (Err f.0, refused_is_given loaded vars Made f.0 f.1, no_want f.0 f.1)
      ]

leaps_made : (loaded : Loaded) → AreKept (Keeps loaded) (rules_of_all leap_vars) → (answer : Result (List LeapPair) LeapFault)
    → Gives (numbers_of loaded var.DeltaAt) answer → (answer ≢ Err leap.OutOfMemory) → Found (LeapsGive loaded)
leaps_made loaded k (Ok pairs) g some = (Ok pairs, (k, g), λ e. absurd cc)
leaps_made loaded k (Err leap.OutOfMemory) g some = absurd (some refl)
leaps_made loaded k (Err leap.Empty) g some = (Err (Leaps leap.Empty), (k, g), λ e. absurd cc)
leaps_made loaded k (Err leap.Odd) g some = (Err (Leaps leap.Odd), (k, g), λ e. absurd cc)
leaps_made loaded k (Err leap.TooMany) g some = (Err (Leaps leap.TooMany), (k, g), λ e. absurd cc)
leaps_made loaded k (Err (leap.NotWhole n)) g some = (Err (Leaps (leap.NotWhole n)), (k, g), λ e. absurd cc)
leaps_made loaded k (Err (leap.NotMidnight n)) g some = (Err (Leaps (leap.NotMidnight n)), (k, g), λ e. absurd cc)
leaps_made loaded k (Err (leap.NotRising n)) g some = (Err (Leaps (leap.NotRising n)), (k, g), λ e. absurd cc)
leaps_made loaded k (Err (leap.BadStep n)) g some = (Err (Leaps (leap.BadStep n)), (k, g), λ e. absurd cc)

pub leaps_found : LeapsAreFound
leaps_found loaded =
    let a = leaps.each_has_answer (numbers_of loaded var.DeltaAt) in
    table_found loaded leap_vars (LeapsOf loaded) (λ k. leaps_made loaded k a.0 a.1 a.2)

constants_made : (loaded : Loaded) → AreKept (Keeps loaded) (rules_of_all constant_vars) → (answer : Result Constants DeltetFault)
    → GiveConstants (numbers_of loaded var.DeltaTa) (numbers_of loaded var.K) (numbers_of loaded var.Eb) (numbers_of loaded var.M) answer
    → Found (ConstantsGive loaded)
constants_made loaded k (Ok c) g = (Ok c, (k, g), λ e. absurd cc)
constants_made loaded k (Err f) g = (Err (Deltet f), (k, g), λ e. absurd cc)

pub constants_found : ConstantsAreFound
constants_found loaded =
    let a = constants.each_has_answer (numbers_of loaded var.DeltaTa) (numbers_of loaded var.K) (numbers_of loaded var.Eb) (numbers_of loaded var.M) in
    table_found loaded constant_vars (ConstantsOf loaded) (λ k. constants_made loaded k a.0 a.1)

-- clocks
abbrev Lists : Type 0
Lists = ClockVar → List Dec

abbrev OfFace : Lists → ClockFault → Type 0
OfFace n = face.Keeps (face_numbers n)

abbrev OfParts : Lists → ClockFault → Type 0
OfParts n = parts.Keeps (n DataType) (n TimeSystem) (n Coefficients)

told_of_clock : (n : Lists) (fault : ClockFault) → IsTold (KeepsOfClock n fault)
told_of_clock n fault =
    told_both (OfFace n fault) (OfParts n fault) (ticks.told_rule (face_numbers n) fault) (clock.told_rule (n DataType) (n TimeSystem) (n Coefficients) fault)

kept_as : {R : Type 0} (K L : R → Type 0) → ((rule : R) → K rule → L rule) → (rules : List R) → AreKept K rules → AreKept L rules
kept_as K L as' [] h = tt
kept_as K L as' (rule ∷ more) h = (as' rule h.0, kept_as K L as' more h.1)

clock_of_kept : (n : Lists) → AreKept (KeepsOfClock n) clock_rules → (c : TheClock) × ClockMade n (Ok c)
clock_of_kept n k =
    let rest = kept_back (KeepsOfClock n) system_rules (face_rules ++ record_rules) k in
    let of_face = kept_as (KeepsOfClock n) (OfFace n) (λ rule h. h.0) face_rules (kept_front (KeepsOfClock n) face_rules record_rules rest) in
    let system = kept_as (KeepsOfClock n) (OfParts n) (λ rule h. h.1) system_rules (kept_front (KeepsOfClock n) system_rules (face_rules ++ record_rules) k) in
    let records = kept_as (KeepsOfClock n) (OfParts n) (λ rule h. h.1) record_rules (kept_back (KeepsOfClock n) face_rules record_rules rest) in
    let f = face_made (face_numbers n) of_face in
    let c = clock_made f.0 (n DataType) (n TimeSystem) (n Coefficients) (kept_both (OfParts n) system_rules record_rules system records) in
    let same = sym c.1.1.0 in (
      c.0,
      subst (λ (x : Face). MakesFace (face_numbers n) (Ok x) × GivesClock x (n DataType) (n TimeSystem) (n Coefficients) (Ok c.0)) same ((of_face, f.1), c.1),
    )

clock_answer : (n : ℕ) (loaded : Loaded) → AreKept (Keeps loaded) (rules_of_all (clock_vars n)) → Found (TableGives loaded (clock_vars n) (ClockOf n loaded))
clock_answer n loaded k =
    elim (kept_or_broken (KeepsOfClock (of_clock n loaded)) (told_of_clock (of_clock n loaded)) clock_rules) [
      | inl h ↦ let c = clock_of_kept (of_clock n loaded) h in (Ok c.0, (k, c.1), λ e. absurd cc)
      | inr f ↦ (Err (Clock f.0), (k, f.1), λ e. absurd cc)
    ]

pub clock_found : ClockIsFound
clock_found n loaded = table_found loaded (clock_vars n) (ClockOf n loaded) (clock_answer n loaded)
