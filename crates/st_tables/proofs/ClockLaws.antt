-- The clock of nine variables, or their first fault: by the parts in which it is made, and that it is one.
use Rattle.std.proofs.Common.{◌≡◌, ◌≢◌, ℕ, inl, inr, List, [], ◌++◌, Result, Ok, Err, refl, sym, ◌∙◌, ap, subst}
use Rattle.st_decimal.specs.declared.number.Dec.{Dec}
use Rattle.st_scales.specs.declared.scale.Scale.{Scale}
use Rattle.st_clock.specs.Clock.{Clock}
use Rattle.st_clock.specs.Parts as parts
use Rattle.st_clock.specs.Parts.{GivesScale, GivesClock, system_rules, record_rules}
use Rattle.st_clock.proofs.ClockLaws.{clock_answer_is_one}
use Rattle.st_ticks.specs.Face.{Face}
use Rattle.st_rules.specs.Rules.{AreKept, IsFirstBroken}
use Rattle.st_ticks.specs.Variables as face
use Rattle.st_ticks.specs.Variables.{MakesFace, face_rules}
use Rattle.st_ticks.specs.declared.fault.FaceFault.{FaceFault}
use Rattle.st_ticks.specs.declared.fault.FaceFault.TheVariants.{Bad, OutOfMemory}
use Rattle.st_ticks.specs.declared.variable.ClockFault.{ClockFault}
use Rattle.st_ticks.specs.declared.variable.ClockVar.{ClockVar}
use Rattle.st_ticks.specs.declared.variable.ClockVar.TheVariants.{DataType, TimeSystem, NFields, Moduli, Offsets, Delim, Start, End, Coefficients}
use Rattle.st_rules.proofs.Alike.{Alike, first_along, kept_along}
use Rattle.st_rules.proofs.First.{one_first, none_broken, kept_both, first_in_front, first_after, first_of_rest}
use Rattle.st_ticks.proofs.OnlyLaws.{makes_one}
use Rattle.std.specs.Result.{IsErrAnd, IfErr}
use Rattle.st_ticks.specs.declared.variable.Var.TheVariants as ofvar
use Rattle.st_tables.specs.Variables.{Loaded, all_numbers, numbers_of, clock_vars}
use Rattle.st_tables.specs.ClockSteps.{ClockAnswers}
use Rattle.st_tables.specs.TablesMachine.{fault_of_face, clock_numbers, list_at}
use Rattle.st_tables.specs.Tables.{KeepsOfClock, clock_rules, face_numbers, ClockMade}
use Rattle.st_tables.specs.declared.fault.TableFault.{TableFault}
use Rattle.st_tables.specs.declared.fault.TableFault.TheVariants.{NoVariable, WrongKind, Leaps, Deltet, Clock as OfClock, OutOfMemory as NoMemory}

abbrev pub Numbers : Type 0
Numbers = ClockVar → List Dec

abbrev pub KeepsParts : Numbers → ClockFault → Type 0
KeepsParts n = parts.Keeps (n DataType) (n TimeSystem) (n Coefficients)

abbrev pub KeepsFace : Numbers → ClockFault → Type 0
KeepsFace n = face.Keeps (face_numbers n)

-- what is asked of the face's variables, or of the three others, alone
of_parts : {A : Type 0} → (A → Unit {0} × A) × (Unit {0} × A → A)
of_parts = (λ x. (tt, x), λ x. x.1)

of_face : {A : Type 0} → (A → A × Unit {0}) × (A × Unit {0} → A)
of_face = (λ x. (x, tt), λ x. x.0)

pub system_alike : (n : Numbers) → Alike (parts.Keeps (n DataType) (n TimeSystem) []) (KeepsOfClock n) system_rules
system_alike n = (of_parts, (of_parts, (of_parts, (of_parts, tt))))

record_alike : (n : Numbers) → Alike (KeepsParts n) (KeepsOfClock n) record_rules
record_alike n = (of_parts, (of_parts, (of_parts, (of_parts, (of_parts, tt)))))

pub face_alike : (n : Numbers) → Alike (KeepsFace n) (KeepsOfClock n) face_rules
face_alike n = (of_face, (of_face, (of_face, (of_face, (of_face, (of_face, (of_face, (of_face, (of_face, (of_face, (of_face, (of_face, (of_face, (of_face, (of_face, (of_face, (of_face, (of_face, (of_face, tt)))))))))))))))))))

pub system_kept : (n : Numbers) (scale : Scale) → GivesScale (n DataType) (n TimeSystem) (Ok scale) → AreKept (KeepsOfClock n) system_rules
system_kept n scale g = kept_along (parts.Keeps (n DataType) (n TimeSystem) []) (KeepsOfClock n) system_rules (system_alike n) g.0

pub face_kept : (n : Numbers) (f : Face) → MakesFace (face_numbers n) (Ok f) → AreKept (KeepsOfClock n) face_rules
face_kept n f m = kept_along (KeepsFace n) (KeepsOfClock n) face_rules (face_alike n) m.0

-- the first fault is one of the data type and the time system,
pub system_breaks : (n : Numbers) (fault : ClockFault) → GivesScale (n DataType) (n TimeSystem) (Err fault) → IsFirstBroken (KeepsOfClock n) clock_rules fault
system_breaks n fault g =
    first_in_front (KeepsOfClock n) system_rules (face_rules ++ record_rules) fault
    (first_along (parts.Keeps (n DataType) (n TimeSystem) []) (KeepsOfClock n) system_rules fault (system_alike n) g)

-- or of the face,
pub face_breaks : (n : Numbers) (scale : Scale) (fault : ClockFault) → GivesScale (n DataType) (n TimeSystem) (Ok scale)
    → MakesFace (face_numbers n) (Err (Bad fault)) → IsFirstBroken (KeepsOfClock n) clock_rules fault
face_breaks n scale fault g m =
    first_after (KeepsOfClock n) system_rules (face_rules ++ record_rules) fault (system_kept n scale g)
    (first_in_front (KeepsOfClock n) face_rules record_rules fault (first_along (KeepsFace n) (KeepsOfClock n) face_rules fault (face_alike n) m))

-- or of the coefficients
pub records_break : (n : Numbers) (scale : Scale) (f : Face) (fault : ClockFault) → GivesScale (n DataType) (n TimeSystem) (Ok scale)
    → MakesFace (face_numbers n) (Ok f) → GivesClock f (n DataType) (n TimeSystem) (n Coefficients) (Err (Bad fault))
    → IsFirstBroken (KeepsOfClock n) clock_rules fault
records_break n scale f fault g m h =
    let kept : AreKept (KeepsParts n) system_rules = (g.0.0, (g.0.1.0, (g.0.1.1.0, (g.0.1.1.1.0, tt)))) in
    let rest = first_of_rest (KeepsParts n) system_rules record_rules fault kept h in
    first_after (KeepsOfClock n) system_rules (face_rules ++ record_rules) fault (system_kept n scale g)
    (first_after (KeepsOfClock n) face_rules record_rules fault (face_kept n f m)
    (first_along (KeepsParts n) (KeepsOfClock n) record_rules fault (record_alike n) rest))

-- a clock keeps all rules
all_kept : (n : Numbers) (c : Clock) → ClockMade n (Ok c) → AreKept (KeepsOfClock n) clock_rules
all_kept n c h =
    let k = h.1.0 in
    let system : AreKept (parts.Keeps (n DataType) (n TimeSystem) []) system_rules = (k.0, (k.1.0, (k.1.1.0, (k.1.1.1.0, tt)))) in
    kept_both (KeepsOfClock n) system_rules (face_rules ++ record_rules)
    (kept_along (parts.Keeps (n DataType) (n TimeSystem) []) (KeepsOfClock n) system_rules (system_alike n) system)
    (kept_both (KeepsOfClock n) face_rules record_rules (face_kept n c.face h.0)
    (kept_along (KeepsParts n) (KeepsOfClock n) record_rules (record_alike n) k.1.1.1.1))

same_ok : {A E : Type 0} (a b : A) → ◌≡◌ {A = Result A E} (Ok a) (Ok b) → a ≡ b
same_ok a b e = cc

not_err : {A E : Type 0} (a : A) (e : E) → ◌≡◌ {A = Result A E} (Ok a) (Err e) → ⊥
not_err a e h = absurd cc

one_clock : (n : Numbers) (c d : Clock) → ClockMade n (Ok c) → ClockMade n (Ok d) → c ≡ d
one_clock n c d h k =
    elim (makes_one (face_numbers n) (Ok c.face) (Ok d.face) h.0 k.0) [
      | inl e ↦
          let same : c.face ≡ d.face = same_ok c.face d.face e in
          let there = subst (λ (f : Face). GivesClock f (n DataType) (n TimeSystem) (n Coefficients) (Ok c)) same h.1 in
          elim (clock_answer_is_one d.face (n DataType) (n TimeSystem) (n Coefficients) (Ok c) (Ok d) there k.1) [
            | inl f ↦ same_ok c d f
            | inr f ↦ elim f [ inl x ↦ absurd (not_err c OutOfMemory x) | inr x ↦ absurd (not_err d OutOfMemory x) ]
          ]
      | inr f ↦ elim f [ inl x ↦ absurd (not_err c.face OutOfMemory x) | inr x ↦ absurd (not_err d.face OutOfMemory x) ]
    ]

-- what is made of the numbers is one
pub clock_is_one : (n : Numbers) (a b : Result Clock TableFault) → ClockMade n a → ClockMade n b → a ≡ b
clock_is_one n (Ok c) (Ok d) h k = ap (λ (x : Clock). Ok x) (one_clock n c d h k)
clock_is_one n (Ok c) (Err (OfClock f)) h k = absurd (none_broken (KeepsOfClock n) clock_rules f (all_kept n c h) k)
clock_is_one n (Ok c) (Err (NoVariable v)) h k = absurd k
clock_is_one n (Ok c) (Err (WrongKind v)) h k = absurd k
clock_is_one n (Ok c) (Err (Leaps f)) h k = absurd k
clock_is_one n (Ok c) (Err (Deltet f)) h k = absurd k
clock_is_one n (Ok c) (Err NoMemory) h k = absurd k
clock_is_one n (Err (OfClock f)) (Ok d) h k = absurd (none_broken (KeepsOfClock n) clock_rules f (all_kept n d k) h)
clock_is_one n (Err (OfClock f)) (Err (OfClock g)) h k = ap (λ (x : ClockFault). Err (OfClock x)) (one_first (KeepsOfClock n) clock_rules f g h k)
clock_is_one n (Err (OfClock f)) (Err (NoVariable v)) h k = absurd k
clock_is_one n (Err (OfClock f)) (Err (WrongKind v)) h k = absurd k
clock_is_one n (Err (OfClock f)) (Err (Leaps g)) h k = absurd k
clock_is_one n (Err (OfClock f)) (Err (Deltet g)) h k = absurd k
clock_is_one n (Err (OfClock f)) (Err NoMemory) h k = absurd k
clock_is_one n (Err (NoVariable v)) b h k = absurd h
clock_is_one n (Err (WrongKind v)) b h k = absurd h
clock_is_one n (Err (Leaps f)) b h k = absurd h
clock_is_one n (Err (Deltet f)) b h k = absurd h
clock_is_one n (Err NoMemory) b h k = absurd h

-- what an exit answers
pub exits : (n : Numbers) (r : Result Clock TableFault) (fault : TableFault) → IsErrAnd r (λ x. x ≡ fault) → (fault ≢ NoMemory → ClockMade n (Err fault))
    → ClockAnswers n r
exits n (Ok c) fault h m = absurd h
exits n (Err x) fault h m = λ other. subst (λ (f : TableFault). ClockMade n (Err f)) (sym h) (m (λ e. other (h ∙ e)))

pub face_exit : (n : Numbers) (scale : Scale) (fault : FaceFault) → GivesScale (n DataType) (n TimeSystem) (Ok scale)
    → MakesFace (face_numbers n) (Err fault) → fault_of_face fault ≢ NoMemory → ClockMade n (Err (fault_of_face fault))
face_exit n scale (Bad f) g m other = face_breaks n scale f g m
face_exit n scale OutOfMemory g m other = absurd (other refl)

pub records_exit : (n : Numbers) (scale : Scale) (f : Face) (fault : FaceFault) → GivesScale (n DataType) (n TimeSystem) (Ok scale)
    → MakesFace (face_numbers n) (Ok f) → GivesClock f (n DataType) (n TimeSystem) (n Coefficients) (Err fault)
    → fault_of_face fault ≢ NoMemory → ClockMade n (Err (fault_of_face fault))
records_exit n scale f (Bad fault) g m h other = records_break n scale f fault g m h
records_exit n scale f OutOfMemory g m h other = absurd (other refl)

pub found : (n : Numbers) (f : Face) (c : Clock) → MakesFace (face_numbers n) (Ok f) → GivesClock f (n DataType) (n TimeSystem) (n Coefficients) (Ok c)
    → ClockMade n (Ok c)
found n f c m g =
    let same = sym g.1.0 in (
      subst (λ (x : Face). MakesFace (face_numbers n) (Ok x)) same m,
      subst (λ (x : Face). GivesClock x (n DataType) (n TimeSystem) (n Coefficients) (Ok c)) same g,
    )

-- the same numbers give the same
pub same_answers : (n m : Numbers) (r : Result Clock TableFault) → ((v : ClockVar) → n v ≡ m v) → ClockAnswers n r → ClockAnswers m r
same_answers n m r e = subst (λ (x : Numbers). ClockAnswers x r) (λ i v. e v i)

pub carried : {B : Type 0} (n m : Numbers) (r : Result B TableFault) (fault : TableFault) → ((v : ClockVar) → n v ≡ m v) → IsErrAnd r (λ x. x ≡ fault)
    → (fault ≢ NoMemory → ClockMade n (Err fault)) → IfErr r (λ f. f ≢ NoMemory → ClockMade m (Err f))
carried n m (Ok x) fault e h made = tt
carried n m (Err f) fault e h made = λ other.
    let same : n ≡ m = λ i v. e v i in
    subst (λ (x : Numbers). ClockMade x (Err f)) same
    (subst (λ (y : TableFault). ClockMade n (Err y)) (sym h) (made (λ g. other (h ∙ g))))

-- the numbers by their places are those of the variables
pub in_order : (loaded : Loaded) (n : ℕ) (numbers : List (List Dec)) → numbers ≡ all_numbers loaded (clock_vars n)
    → (v : ClockVar) → clock_numbers numbers v ≡ numbers_of loaded (ofvar.Clock v n)
in_order loaded n numbers e DataType = ap (λ (l : List (List Dec)). list_at l 0) e
in_order loaded n numbers e TimeSystem = ap (λ (l : List (List Dec)). list_at l 1) e
in_order loaded n numbers e NFields = ap (λ (l : List (List Dec)). list_at l 2) e
in_order loaded n numbers e Moduli = ap (λ (l : List (List Dec)). list_at l 3) e
in_order loaded n numbers e Offsets = ap (λ (l : List (List Dec)). list_at l 4) e
in_order loaded n numbers e Delim = ap (λ (l : List (List Dec)). list_at l 5) e
in_order loaded n numbers e Start = ap (λ (l : List (List Dec)). list_at l 6) e
in_order loaded n numbers e End = ap (λ (l : List (List Dec)). list_at l 7) e
in_order loaded n numbers e Coefficients = ap (λ (l : List (List Dec)). list_at l 8) e
