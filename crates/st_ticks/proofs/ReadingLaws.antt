-- A text has one answer.
use Rattle.std.proofs.Common.{◌≡◌, ℕ, ◌+◌, ◌-◌, ◌<◌, refl, sym, ap, ◌∙◌, subst, arith, Option, Some, None, Result, Ok, Err, List}
use Rattle.std.specs.List.{slice_get}
use Rattle.st_ticks.specs.ClockText.{Parts, Spells}
use Rattle.st_ticks.specs.Face.{Face, earlier}
use Rattle.st_ticks.specs.Laws.{ReadingIsOne}
use Rattle.st_ticks.specs.Reading.{count, IsMeant, Keeps, text_rules, IsTickOf, ReadsClock}
use Rattle.st_rules.specs.Rules.{AreKept, IsFirstBroken}
use Rattle.st_ticks.specs.declared.fault.ClockTextFault.{ClockTextFault}
use Rattle.st_ticks.specs.declared.fault.ClockTextFault.TheVariants.{Form, TooManyFields, NoPartition, FieldBelowOffset, TooLarge, NotInPartition}
use Rattle.st_ticks.specs.declared.field.Partition.{Partition}
use Rattle.st_rules.proofs.First.{none_broken, one_first}
use Rattle.st_ticks.proofs.PartitionLaws.{same_element}
use Rattle.st_ticks.proofs.PartsLaws.{parts_are_one}

-- the answer by the parts of the text
abbrev pub Outcome : Face → Parts → Result ℕ ClockTextFault → Type 0
Outcome face p (Ok k) = AreKept (Keeps face p) text_rules × IsTickOf face p k
Outcome face p (Err fault) = IsFirstBroken (Keeps face p) text_rules fault

-- a text has parts, or it is refused for its form
pub data Answer (face : Face) (text : List ℕ) (answer : Result ℕ ClockTextFault) : Type 0 where
  no_parts : answer ≡ Err Form → ((p : Parts) → Spells p text → ⊥) → Answer face text answer
  by_parts : (p : Parts) → Spells p text → Outcome face p answer → Answer face text answer

pub answer_of : (face : Face) (text : List ℕ) (answer : Result ℕ ClockTextFault) → ReadsClock face text answer → Answer face text answer
answer_of face text (Ok k) h = by_parts h.parts h.spells (h.good, h.tick)
answer_of face text (Err Form) h = no_parts refl h
answer_of face text (Err TooManyFields) h = by_parts h.0 h.1 h.2
answer_of face text (Err NoPartition) h = by_parts h.0 h.1 h.2
answer_of face text (Err FieldBelowOffset) h = by_parts h.0 h.1 h.2
answer_of face text (Err TooLarge) h = by_parts h.0 h.1 h.2
answer_of face text (Err NotInPartition) h = by_parts h.0 h.1 h.2

pub reads_by : (face : Face) (text : List ℕ) (p : Parts) (answer : Result ℕ ClockTextFault) → Spells p text → Outcome face p answer → ReadsClock face text answer
reads_by face text p (Ok k) s h = record { parts = p; spells = s; good = h.0; tick = h.1 }
reads_by face text p (Err Form) s h = absurd (h.broken tt)
reads_by face text p (Err TooManyFields) s h = (p, s, h)
reads_by face text p (Err NoPartition) s h = (p, s, h)
reads_by face text p (Err FieldBelowOffset) s h = (p, s, h)
reads_by face text p (Err TooLarge) s h = (p, s, h)
reads_by face text p (Err NotInPartition) s h = (p, s, h)

place_is_one : (face : Face) (written : Option (List ℕ)) (n i j : ℕ) → IsMeant face written n i → IsMeant face written n j → i ≡ j
place_is_one face None n i j p q =
    let no_later : i < j → ⊥ = λ l. q.1 i l p.0 in
    let no_sooner : j < i → ⊥ = λ l. p.1 j l q.0 in
    omega (arith, no_later, no_sooner)
place_is_one face (Some digits) n i j p q = let e = p.0 in let f = q.0 in omega (arith, e, f)

ticks_agree : (face : Face) (n i j k m : ℕ) (p q : Partition) → i ≡ j → slice_get face.partitions i ≡ Some p → slice_get face.partitions j ≡ Some q
    → k ≡ earlier face i + (n - p.start) → m ≡ earlier face j + (n - q.start) → k ≡ m
ticks_agree face n i j k m p q e f g v w =
    let same : p ≡ q = same_element face.partitions j p q (subst (λ (x : ℕ). slice_get face.partitions x ≡ Some p) e f) g in
    v ∙ ap (λ (x : ℕ). earlier face x + (n - p.start)) e ∙ ap (λ (r : Partition). earlier face j + (n - r.start)) same ∙ sym w

tick_is_one : (face : Face) (p : Parts) (k m : ℕ) → IsTickOf face p k → IsTickOf face p m → k ≡ m
tick_is_one face p k m s t =
    ticks_agree face (count face p) s.place t.place k m s.partition t.partition
    (place_is_one face p.partition (count face p) s.place t.place s.meant t.meant) s.here t.here s.value t.value

outcome_is_one : (face : Face) (p : Parts) (a b : Result ℕ ClockTextFault) → Outcome face p a → Outcome face p b → a ≡ b
outcome_is_one face p (Ok k) (Ok m) s t = ap (λ (x : ℕ). Ok x) (tick_is_one face p k m s.1 t.1)
outcome_is_one face p (Ok k) (Err f) s t = absurd (none_broken (Keeps face p) text_rules f s.0 t)
outcome_is_one face p (Err f) (Ok m) s t = absurd (none_broken (Keeps face p) text_rules f t.0 s)
outcome_is_one face p (Err f) (Err g) s t = ap (λ (x : ClockTextFault). Err x) (one_first (Keeps face p) text_rules f g s t)

agree : (face : Face) (text : List ℕ) (a b : Result ℕ ClockTextFault) → Answer face text a → Answer face text b → a ≡ b
agree face text a b (no_parts e h) (no_parts f k) = e ∙ sym f
agree face text a b (no_parts e h) (by_parts p s o) = absurd (h p s)
agree face text a b (by_parts p s o) (no_parts f k) = absurd (k p s)
agree face text a b (by_parts p s o) (by_parts q t u) =
    outcome_is_one face p a b o (subst (λ (r : Parts). Outcome face r b) (sym (parts_are_one text p q s t)) u)

pub reading_is_one : ReadingIsOne
reading_is_one face text a b h k = agree face text a b (answer_of face text a h) (answer_of face text b k)
