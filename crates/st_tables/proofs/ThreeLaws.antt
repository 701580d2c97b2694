-- The table of leap seconds, the constants and the clock that loaded kernels give.
use Rattle.std.proofs.Common.{◌≡◌, ◌≢◌, ℕ, List, Result, Ok, Err, sym, subst}
use Rattle.st_decimal.specs.declared.number.Dec.{Dec}
use Rattle.st_leaps.specs.declared.pair.LeapPair.{LeapPair}
use Rattle.st_scales.specs.declared.deltet.Deltet.{Deltet as Constants}
use Rattle.st_clock.specs.Clock.{Clock as TheClock}
use Rattle.std.specs.Result.{IsErrAnd, IfErr}
use Rattle.st_rules.specs.Rules.{AreKept}
use Rattle.st_tables.specs.declared.fault.TableFault.TheVariants.{OutOfMemory}
use Rattle.st_ticks.specs.declared.variable.ClockVar.{ClockVar}
use Rattle.st_ticks.specs.declared.variable.ClockVar.TheVariants.{DataType, TimeSystem, NFields, Moduli, Offsets, Delim, Start, End, Coefficients}
use Rattle.st_ticks.specs.declared.variable.Var.TheVariants as var
use Rattle.st_tables.specs.Laws.{AreAlike, LeapsAreOne, ConstantsAreOne, ClockIsOne, LeapsByTheirOwn, ConstantsByTheirOwn, ClockByItsOwn}
use Rattle.st_tables.specs.Tables.{ConstantsGive, LeapsMade, ConstantsMade, ClockMade}
use Rattle.st_tables.specs.Variables.{Loaded, leap_vars, constant_vars, clock_vars, numbers_of, rules_of_all, Keeps}
use Rattle.st_tables.specs.declared.fault.TableFault.{TableFault}
use Rattle.st_tables.proofs.ClockLaws.{clock_is_one}
use Rattle.st_tables.proofs.LeapLaws.{leaps_are_one, constants_are_one}
use Rattle.st_tables.proofs.TableLaws.{one_table, table_along, same_numbers, fault_is_given}

abbrev pub LeapsOf : Loaded → Result (List LeapPair) TableFault → Type 0
LeapsOf loaded = LeapsMade (numbers_of loaded var.DeltaAt)

abbrev pub ConstantsOf : Loaded → Result Constants TableFault → Type 0
ConstantsOf loaded = ConstantsMade (numbers_of loaded var.DeltaTa) (numbers_of loaded var.K) (numbers_of loaded var.Eb) (numbers_of loaded var.M)

abbrev pub of_clock : ℕ → Loaded → ClockVar → List Dec
of_clock n loaded v = numbers_of loaded (var.Clock v n)

abbrev pub ClockOf : ℕ → Loaded → Result TheClock TableFault → Type 0
ClockOf n loaded = ClockMade (of_clock n loaded)

pub leaps_one : LeapsAreOne
leaps_one loaded = one_table loaded leap_vars (LeapsOf loaded) (leaps_are_one (numbers_of loaded var.DeltaAt))

pub constants_one : ConstantsAreOne
constants_one loaded =
    one_table loaded constant_vars (ConstantsOf loaded)
    (constants_are_one (numbers_of loaded var.DeltaTa) (numbers_of loaded var.K) (numbers_of loaded var.Eb) (numbers_of loaded var.M))

pub clock_one : ClockIsOne
clock_one n loaded = one_table loaded (clock_vars n) (ClockOf n loaded) (clock_is_one (of_clock n loaded))

pub leaps_own : LeapsByTheirOwn
leaps_own one other answer same =
    table_along one other leap_vars (LeapsOf one) (LeapsOf other) answer same
    (subst (λ (x : List Dec). LeapsMade x answer) (same_numbers one other var.DeltaAt same.0))

pub constants_own : ConstantsByTheirOwn
constants_own one other answer same =
    let a = same_numbers one other var.DeltaTa same.0 in
    let b = same_numbers one other var.K same.1.0 in
    let c = same_numbers one other var.Eb same.1.1.0 in
    let d = same_numbers one other var.M same.1.1.1.0 in
    table_along one other constant_vars (ConstantsOf one) (ConstantsOf other) answer same
    (λ h.
    subst (λ (x : List Dec). ConstantsMade (numbers_of other var.DeltaTa) (numbers_of other var.K) (numbers_of other var.Eb) x answer) d
    (subst (λ (x : List Dec). ConstantsMade (numbers_of other var.DeltaTa) (numbers_of other var.K) x (numbers_of one var.M) answer) c
    (subst (λ (x : List Dec). ConstantsMade (numbers_of other var.DeltaTa) x (numbers_of one var.Eb) (numbers_of one var.M) answer) b
    (subst (λ (x : List Dec). ConstantsMade x (numbers_of one var.K) (numbers_of one var.Eb) (numbers_of one var.M) answer) a h))))

-- the numbers of all nine variables are the same
nine_same : (n : ℕ) (one other : Loaded) → AreAlike one other (clock_vars n) → of_clock n one ≡ of_clock n other
nine_same n one other same = λ i v. at v i
  where
    at : (v : ClockVar) → of_clock n one v ≡ of_clock n other v
    at DataType = same_numbers one other (var.Clock DataType n) same.0
    at TimeSystem = same_numbers one other (var.Clock TimeSystem n) same.1.0
    at NFields = same_numbers one other (var.Clock NFields n) same.1.1.0
    at Moduli = same_numbers one other (var.Clock Moduli n) same.1.1.1.0
    at Offsets = same_numbers one other (var.Clock Offsets n) same.1.1.1.1.0
    at Delim = same_numbers one other (var.Clock Delim n) same.1.1.1.1.1.0
    at Start = same_numbers one other (var.Clock Start n) same.1.1.1.1.1.1.0
    at End = same_numbers one other (var.Clock End n) same.1.1.1.1.1.1.1.0
    at Coefficients = same_numbers one other (var.Clock Coefficients n) same.1.1.1.1.1.1.1.1.0

pub clock_own : ClockByItsOwn
clock_own n one other answer same =
    table_along one other (clock_vars n) (ClockOf n one) (ClockOf n other) answer same
    (subst (λ (x : ClockVar → List Dec). ClockMade x answer) (nine_same n one other same))

-- what the exits of making a table answer
pub constants_fault : {B : Type 0} (loaded : Loaded) (r : Result B TableFault) (fault : TableFault) → IsErrAnd r (λ x. x ≡ fault)
    → AreKept (Keeps loaded) (rules_of_all constant_vars) → (fault ≢ OutOfMemory → ConstantsOf loaded (Err fault)) → IfErr r (λ f. ConstantsGive loaded (Err f))
constants_fault loaded (Ok x) fault h kept made = tt
constants_fault loaded (Err f) fault h kept made =
    subst (λ (y : TableFault). ConstantsGive loaded (Err y)) (sym h) (fault_is_given loaded constant_vars (ConstantsOf loaded) fault kept (λ v m. m) (λ v m. m) made)
