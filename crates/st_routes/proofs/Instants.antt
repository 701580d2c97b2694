-- A time text gives one instant or refusal.
use Rattle.std.proofs.Common.{◌≡◌, ◌⊎◌, inl, inr, ℕ, ℤ, pos, ◌+ℤ◌, ◌*ℤ◌, ◌≤ℤ◌, ◌<ℤ◌, List, Option, None, Some, Result, Ok, Err, MatchResult, IfOk, refl, sym, ap, ◌∙◌, subst, arith, lit<}
use Rattle.std.proofs.lemmas.Int.{ints, by_lt_z}
use Rattle.st_fraction.specs.Fraction.{units}
use Rattle.st_dates.specs.Label.{formal}
use Rattle.st_dates.specs.Range.{IsInRange, LiesInRange}
use Rattle.st_dates.specs.declared.label.Label.{Label}
use Rattle.st_dates.specs.declared.system.System.{System}
use Rattle.st_leaps.specs.Label.{AreCounts, IsLabel, IsLabelOf, in_units, length_of}
use Rattle.st_leaps.specs.Laws.{EachTableCounts, EvenDaysCount}
use Rattle.st_leaps.specs.declared.fault.NoSuchSecond.{NoSuchSecond}
use Rattle.st_leaps.specs.declared.table.LeapTable.{LeapTable}
use Rattle.st_forms.specs.Reading.{ReadsTime, calendar, julian, plain}
use Rattle.st_forms.specs.declared.form.Form.{Form}
use Rattle.st_forms.specs.declared.fault.FormFault.{FormFault}
use Rattle.st_forms.specs.declared.fault.FormFault.TheVariants as forms
use Rattle.st_forms.specs.declared.time.TimeText.{TimeText}
use Rattle.st_forms.specs.declared.time.TimeText.TheVariants.{Label as OfLabel, Instant, NoSecond}
use Rattle.st_forms.specs.Laws.{EachHasAnswer, OneAnswer}
use Rattle.st_picture.specs.Cell.{days_of, leaps_for}
use Rattle.st_routes.specs.FaultSteps.{of_form}
use Rattle.st_routes.specs.Laws.{EachTextGivesInstant, InstantIsSource, OneInstant}
use Rattle.st_routes.specs.Route.{IsNearby, IsSource}
use Rattle.st_routes.specs.Source.{IsInstant, HasNoSecond, InstantGives}
use Rattle.st_routes.specs.declared.fault.TimeFault.{TimeFault}
use Rattle.st_routes.specs.declared.fault.TimeFault.TheVariants as faults

-- the time of a label, in units
pub label_time : (count : ℤ → ℤ) (label : Label) (u : ℤ) → IsLabelOf count (units u) (in_units label)
    → u ≡ formal label +ℤ (count label.day *ℤ pos 1_000_000_000_000_000_000)
label_time count label u is =
    let value = is.value.same in
    omega (arith, ints, value)

pub source_of_label : (count : ℤ → ℤ) (label : Label) (u : ℤ) → AreCounts count → LiesInRange label → IsLabelOf count (units u) (in_units label) → IsSource u
source_of_label count label u counts (low, high) is =
    let e = label_time count label u is in
    let least = counts.from label.day in
    let most = counts.to label.day in
    (omega (arith, ints, e), omega (arith, ints, e))

-- what follows from a reading
abbrev pub Follows : System → Option LeapTable → Result TimeText FormFault → Result ℤ TimeFault → Type 0
Follows system leaps (Err fault) answer = answer ≡ Err (of_form fault)
Follows system leaps (Ok time) answer =
    ((u : ℤ) × IsInstant system leaps time u × (answer ≡ Ok u)) ⊎ (HasNoSecond system leaps time × (answer ≡ Err faults.NoSuchSecond))

pub record HasRead (system : System) (form : Form) (leaps : Option LeapTable) (text : List ℕ) (answer : Result ℤ TimeFault) : Type 0 where
  pub reading : Result TimeText FormFault
  pub reads : ReadsTime text system form reading
  pub follows : Follows system leaps reading answer

read : (system : System) (form : Form) (leaps : Option LeapTable) (text : List ℕ) (answer : Result ℤ TimeFault) → InstantGives system form leaps text answer → HasRead system form leaps text answer
read system form leaps text (Ok u) (time, reads, is) = record { reading = Ok time; reads = reads; follows = inl (u, is, refl) }
read system form leaps text (Err faults.NoSuchSecond) (time, reads, has) = record { reading = Ok time; reads = reads; follows = inr (has, refl) }
read system form leaps text (Err faults.BadTime) g = record { reading = Err forms.BadTime; reads = g; follows = refl }
read system form leaps text (Err faults.WrongSystem) g = record { reading = Err forms.WrongSystem; reads = g; follows = refl }
read system form leaps text (Err faults.NoSuchDay) g = record { reading = Err forms.NoSuchDay; reads = g; follows = refl }
read system form leaps text (Err faults.OutOfRange) g = record { reading = Err forms.OutOfRange; reads = g; follows = refl }
read system form leaps text (Err other) g = absurd g

-- a time has one instant, and none where it has no second
one_value : (system : System) (leaps : Option LeapTable) (time : TimeText) (u w : ℤ) → IsInstant system leaps time u → IsInstant system leaps time w → u ≡ w
one_value system leaps (OfLabel label) u w a b =
    label_time (days_of (leaps_for system leaps)) label u a ∙ sym (label_time (days_of (leaps_for system leaps)) label w b)
one_value system leaps (Instant z) u w a b = a ∙ sym b
one_value system leaps NoSecond u w a b = absurd a

never_both : (system : System) (leaps : Option LeapTable) (time : TimeText) (u : ℤ) → IsInstant system leaps time u → HasNoSecond system leaps time → ⊥
never_both system leaps (OfLabel label) u a b = b a.is_label
never_both system leaps (Instant z) u a b = b
never_both system leaps NoSecond u a b = a

one_follows : (system : System) (leaps : Option LeapTable) (reading : Result TimeText FormFault) (a b : Result ℤ TimeFault) → Follows system leaps reading a → Follows system leaps reading b → a ≡ b
one_follows system leaps (Err fault) a b f g = f ∙ sym g
one_follows system leaps (Ok time) a b (inl (u, is, e)) (inl (w, has, f)) =
    e ∙ ap {B = Result ℤ TimeFault} (λ z. Ok z) (one_value system leaps time u w is has) ∙ sym f
one_follows system leaps (Ok time) a b (inl (u, is, e)) (inr (none, f)) = absurd (never_both system leaps time u is none)
one_follows system leaps (Ok time) a b (inr (none, e)) (inl (w, has, f)) = absurd (never_both system leaps time w has none)
one_follows system leaps (Ok time) a b (inr (none, e)) (inr (other, f)) = e ∙ sym f

pub one_instant : OneAnswer → OneInstant
one_instant one system form leaps text a b f g =
    let h = read system form leaps text a f in
    let k = read system form leaps text b g in
    let e = one text system form h.reading k.reading h.reads k.reads in
    one_follows system leaps k.reading a b (subst (λ t. Follows system leaps t a) e h.follows) k.follows

-- the day has a label's second, or it hasn't
label_decides : (count : ℤ → ℤ) (label : Label) → ((u : ℤ) × IsLabelOf count (units u) (in_units label)) ⊎ (IsLabel count (in_units label) → ⊥)
label_decides count label =
    by_lt_z label.of_day (pos 0) (λ (l : label.of_day <ℤ pos 0). inr (λ is. let from = is.from.le in omega (arith, ints, l)))
    (λ (from : pos 0 ≤ℤ label.of_day). by_lt_z label.of_day (length_of count label.day *ℤ pos 1_000_000_000_000_000_000)
    (λ (to : label.of_day <ℤ (length_of count label.day *ℤ pos 1_000_000_000_000_000_000)). inl (
      formal label +ℤ (count label.day *ℤ pos 1_000_000_000_000_000_000),
      record {
        is_label = record { second_is = record { positive = lit< tt }; from = record { le = omega (arith, ints, from) }; to = record { lt = omega (arith, ints, to) } };
        value = record { same = omega (arith, ints) };
      },
    ))
    (λ (past : (length_of count label.day *ℤ pos 1_000_000_000_000_000_000) ≤ℤ label.of_day). inr (λ is. let to = is.to.lt in omega (arith, ints, past))))

given : (system : System) (form : Form) (leaps : Option LeapTable) (text : List ℕ) (time : TimeText) → ReadsTime text system form (Ok time)
    → (answer : Result ℤ TimeFault) × InstantGives system form leaps text answer
given system form leaps text (OfLabel label) reads = elim (label_decides (days_of (leaps_for system leaps)) label) [
  | inl has ↦ (Ok has.0, (OfLabel label, reads, has.1))
  | inr none ↦ (Err faults.NoSuchSecond, (OfLabel label, reads, none))
]
given system form leaps text (Instant z) reads = (Ok z, (Instant z, reads, refl))
given system form leaps text NoSecond reads = (Err faults.NoSuchSecond, (NoSecond, reads, tt))

pub each_gives : EachHasAnswer → EachTextGivesInstant
each_gives found system form leaps text = let r = found text system form in go r.0 r.1
  where
    go : (reading : Result TimeText FormFault) → ReadsTime text system form reading → (answer : Result ℤ TimeFault) × InstantGives system form leaps text answer
    go (Ok time) reads = given system form leaps text time reads
    go (Err forms.BadTime) reads = (Err faults.BadTime, reads)
    go (Err forms.WrongSystem) reads = (Err faults.WrongSystem, reads)
    go (Err forms.NoSuchDay) reads = (Err faults.NoSuchDay, reads)
    go (Err forms.OutOfRange) reads = (Err faults.OutOfRange, reads)

pub source_of_answer : (count : ℤ → ℤ) (label : Label) (answer : Result ℤ NoSuchSecond) → AreCounts count → LiesInRange label
    → MatchResult answer (λ u. IsLabelOf count (units u) (in_units label)) (λ _. IsLabel count (in_units label) → ⊥) → IfOk answer IsSource
source_of_answer count label (Ok u) counts range is = source_of_label count label u counts range is
source_of_answer count label (Err e) counts range is = tt

-- a text's label is the one whose formal count is in the range
abbrev HasRange : Result TimeText FormFault → Type 0
HasRange (Ok (OfLabel label)) = LiesInRange label
HasRange (Ok (Instant z)) = IsInRange z
HasRange (Ok NoSecond) = Unit {0}
HasRange (Err fault) = Unit {0}

range_of : OneAnswer → (text : List ℕ) (system : System) (form : Form) (time : TimeText) → ReadsTime text system form (Ok time) → HasRange (Ok time)
range_of one text system form (OfLabel label) (calendar date t scale, spells, names, (z, (other, is, e), inside), stands) =
    let w = calendar date t scale in
    let reads : ReadsTime text system form (Ok (OfLabel label)) = (w, spells, names, (z, (other, is, e), inside), stands) in
    let again : ReadsTime text system form (Ok (OfLabel other)) = (w, spells, names, (z, (other, is, e), inside), (is, stands.1)) in
    let same = one text system form (Ok (OfLabel other)) (Ok (OfLabel label)) again reads in
    subst HasRange same (subst IsInRange e inside)
range_of one text system form (OfLabel label) (julian mark gap days scale, spells, names, inside, stands) = absurd stands
range_of one text system form (OfLabel label) (plain sign seconds, spells, names, inside, stands) = absurd stands
range_of one text system form (Instant x) (calendar date t scale, spells, names, inside, stands) = absurd stands
range_of one text system form (Instant x) (julian mark gap days scale, spells, names, (z, is, inside), stands) = subst IsInRange (is ∙ sym stands) inside
range_of one text system form (Instant x) (plain sign seconds, spells, names, (z, is, inside), stands) = subst IsInRange (is ∙ sym stands) inside
range_of one text system form NoSecond reads = tt

counts : EachTableCounts → EvenDaysCount → (leaps : Option LeapTable) → AreCounts (days_of leaps)
counts tables even None = even
counts tables even (Some table) = tables table

source_of_time : EachTableCounts → EvenDaysCount → (system : System) (leaps : Option LeapTable) (time : TimeText) (u : ℤ) → HasRange (Ok time) → IsInstant system leaps time u → IsSource u
source_of_time tables even system leaps (OfLabel label) u range is =
    source_of_label (days_of (leaps_for system leaps)) label u (counts tables even (leaps_for system leaps)) range is
source_of_time tables even system leaps (Instant z) u (low, high) is = (omega (arith, ints, is), omega (arith, ints, is))
source_of_time tables even system leaps NoSecond u range is = absurd is

nearby : (u : ℤ) → IsSource u → IsNearby (units u)
nearby u (low, high) = record { from = record { le = omega (arith, ints) }; to = record { le = omega (arith, ints) } }

pub instant_is_source : OneAnswer → EachTableCounts → EvenDaysCount → InstantIsSource
instant_is_source one tables even system form leaps text u (time, reads, is) =
    let source = source_of_time tables even system leaps time u (range_of one text system form time reads) is in
    (source, nearby u source)
