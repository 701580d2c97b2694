-- Partitions of ticks: each tick has one.
use Rattle.std.proofs.Common.{◌≡◌, ℕ, ◌+◌, ◌-◌, ◌<◌, ◌≤◌, zero, suc, Option, None, List, [], ◌∷◌, length, take, get_or, Some, nat_lt, subst, inl, inr, arith, sum_by}
use Rattle.std.specs.List.{slice_get}
use Rattle.std.proofs.lemmas.Bool.{cases_Bool}
use Rattle.std.proofs.lemmas.Bool.Decides.{nat_tests}
use Rattle.std.proofs.lemmas.List.Sums.{sum_by-cons, sum_by_more_le}
use Rattle.std.proofs.lemmas.Option.{get_or_from_slice_get, slice_get_within}
use Rattle.st_ticks.specs.Face.{Face, ticks_in, total, earlier}
use Rattle.st_ticks.specs.Laws.{PartitionIsOne, PartitionIsFound, InsideIsWithin, TickIsWithin}
use Rattle.st_ticks.specs.Reading.{count, IsMeant, Contains}
use Rattle.st_ticks.specs.Tick.{IsPartitionOf, count_at}
use Rattle.st_ticks.specs.TickMachine.{place_in, place_of}
use Rattle.st_ticks.specs.declared.field.Partition.{Partition}

pub partition_is_one : PartitionIsOne
partition_is_one face k i j p q =
    let no_later : i < j → ⊥ = λ l. let less = p.last j l q.there in let more = q.begun in omega arith in
    let no_sooner : j < i → ⊥ = λ l. let less = q.last i l p.there in let more = p.begun in omega arith in
    omega (arith, no_later, no_sooner)

abbrev ticks_before : List Partition → ℕ → ℕ
ticks_before ps place = sum_by ticks_in (take place ps)

-- the same as IsPartitionOf, of partitions alone
record IsPlace (ps : List Partition) (k place : ℕ) : Type 0 where
  there : place < length ps
  begun : ticks_before ps place ≤ k
  last : (later : ℕ) → place < later → later < length ps → k < ticks_before ps later

ticks_more : (p : Partition) (ps : List Partition) (place : ℕ) → ticks_before (p ∷ ps) (suc place) ≡ ticks_in p + ticks_before ps place
ticks_more p ps place = sum_by-cons ticks_in p (take place ps)

begins_later : (p : Partition) (ps : List Partition) (k later : ℕ) → k < ticks_in p → 0 < later → k < ticks_before (p ∷ ps) later
begins_later p ps k zero l h = absurd (omega arith)
begins_later p ps k (suc later) l h = omega (arith, ticks_more p ps later)

later_place : (p : Partition) (ps : List Partition) (k place : ℕ) → ticks_in p ≤ k → IsPlace ps (k - ticks_in p) place
    → (later : ℕ) → suc place < later → later < suc (length ps) → k < ticks_before (p ∷ ps) later
later_place p ps k place l h zero a b = absurd (omega arith)
later_place p ps k place l h (suc later) a b =
    let less : k - ticks_in p < ticks_before ps later = h.last later (omega arith) (omega arith) in
    omega (arith, ticks_more p ps later)

place_after : (p : Partition) (ps : List Partition) (k place : ℕ) → ticks_in p ≤ k → IsPlace ps (k - ticks_in p) place → IsPlace (p ∷ ps) k (suc place)
place_after p ps k place l h =
    let inside : place < length ps = h.there in
    let some : ticks_before ps place ≤ k - ticks_in p = h.begun in
    record {
      there = omega arith;
      begun = omega (arith, ticks_more p ps place);
      last = later_place p ps k place l h;
    }

place_is : (ps : List Partition) (k : ℕ) → 0 < length ps → IsPlace ps k (place_in ps k)
place_is [] k h = absurd (omega arith)
place_is (p ∷ []) k h = record { there = omega arith; begun = omega arith; last = λ later a b. absurd (omega arith) }
place_is (p ∷ q ∷ more) k h =
    elim (cases_Bool (nat_lt k (ticks_in p))) [
      | inl e ↦
          let less : k < ticks_in p = grind (arith, nat_tests) in
          rw e (record { there = omega arith; begun = omega arith; last = λ later a b. begins_later p (q ∷ more) k later less a })
      | inr e ↦
          let at_least : ticks_in p ≤ k = grind (arith, nat_tests) in
          rw e (place_after p (q ∷ more) k (place_in (q ∷ more) (k - ticks_in p)) at_least (place_is (q ∷ more) (k - ticks_in p) (omega arith)))
    ]

pub place_of_is : (face : Face) (k : ℕ) → 0 < length face.partitions → IsPartitionOf face k (place_of face k)
place_of_is face k h = let p = place_is face.partitions k h in record { there = p.there; begun = p.begun; last = p.last }

pub partition_is_found : PartitionIsFound
partition_is_found face k h = (place_of face k, place_of_is face k h.some_partitions)

-- the ticks up to the end of a partition are ticks of the clock
pub within_total : (face : Face) (place : ℕ) (p : Partition) → slice_get face.partitions place ≡ Some p → earlier face place + ticks_in p ≤ total face
within_total face place p e =
    let inside : place < length face.partitions = slice_get_within face.partitions place p e in
    let same : get_or face.partitions place p ≡ p = get_or_from_slice_get face.partitions place p p e in
    let most : earlier face place + ticks_in (get_or face.partitions place p) ≤ total face = sum_by_more_le ticks_in face.partitions place p inside in
    rw same at most

pub same_element : {A : Type 0} (xs : List A) (i : ℕ) (x y : A) → slice_get xs i ≡ Some x → slice_get xs i ≡ Some y → x ≡ y
same_element xs i x y p q = cc

pub inside_is_within : InsideIsWithin
inside_is_within face k h inside =
    let most : earlier face inside.place + ticks_in inside.partition ≤ total face = within_total face inside.place inside.partition inside.here in
    let begun : earlier face inside.place ≤ k = inside.of_tick.begun in
    let to : count_at face inside.place inside.partition k < inside.partition.end = inside.before_end in
    omega arith

tick_within : (face : Face) (place n k : ℕ) (p q : Partition) → slice_get face.partitions place ≡ Some p → slice_get face.partitions place ≡ Some q
    → n ≤ p.end → k ≡ earlier face place + (n - q.start) → k ≤ total face
tick_within face place n k p q e f l v =
    let same : p ≡ q = same_element face.partitions place p q e f in
    let to : n ≤ q.end = subst (λ (r : Partition). n ≤ r.end) same l in
    let most : earlier face place + ticks_in q ≤ total face = within_total face place q f in
    omega arith

pub meant_contains : (face : Face) (written : Option (List ℕ)) (n place : ℕ) → IsMeant face written n place → Contains face place n
meant_contains face None n place h = h.0
meant_contains face (Some digits) n place h = h.1

pub tick_is_within : TickIsWithin
tick_is_within face text k h s =
    let t = s.tick in
    let has = meant_contains face s.parts.partition (count face s.parts) t.place t.meant in
    tick_within face t.place (count face s.parts) k has.partition t.partition has.here t.here has.to t.value
