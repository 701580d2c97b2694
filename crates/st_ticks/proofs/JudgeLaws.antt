-- The tests of the reader say what the rules of clock strings ask.
use Rattle.std.proofs.Common.{◌≡◌, ℕ, ◌+◌, ◌-◌, ◌*◌, ◌^◌, ◌<◌, ◌≤◌, Bool, true, false, ◌&&◌, nat_le, nat_lt, min, inl, inr, refl, sym, ap, ◌∙◌, subst, arith, Option, Some, None, Result, Err, List, [], ◌∷◌, length, map, get_or}
use Rattle.std.specs.List.{All, position, position_or_len}
use Rattle.std.proofs.lemmas.Bool.{cases_Bool}
use Rattle.std.proofs.lemmas.Bool.Decides.{nat_tests}
use Rattle.std.proofs.lemmas.List.Elements.{All-nil, All-cons, All-head, All-tail}
use Rattle.std.proofs.lemmas.List.Quantifiers.{position-Some}
use Rattle.std.proofs.lemmas.List.Sums.{fails_before_first}
use Rattle.std.proofs.lemmas.Option.{slice_get-get_or, slice_get_within, get_or_from_slice_get}
use Rattle.st_text.specs.Bytes.{number_of}
use Rattle.st_ticks.specs.ClockText.{Parts}
use Rattle.st_ticks.specs.Face.{Face, IsFace, IsField, earlier}
use Rattle.st_ticks.specs.Laws.{ReadingIsFound}
use Rattle.st_ticks.specs.Reading.{values, count_of, count, AreFromOffsets, Contains, IsMeant, IsNumbered, Keeps, IsTickOf, ReadsClock}
use Rattle.st_ticks.specs.ReadingMachine.{capped, capped_values, capped_partition, from_offsets, are_small, is_numbered, has_count, partition_at, meant_place, ticked, counted_of, judged, clock_of}
use Rattle.st_ticks.specs.TextMachine.{parts_of}
use Rattle.st_ticks.specs.declared.fault.ClockTextFault.{ClockTextFault}
use Rattle.st_ticks.specs.declared.fault.ClockTextFault.TheVariants.{TooManyFields, NoPartition, FieldBelowOffset, TooLarge, NotInPartition}
use Rattle.st_ticks.specs.declared.field.Field.{Field}
use Rattle.st_ticks.specs.declared.field.Partition.{Partition}
use Rattle.st_rules.proofs.First.{first_at}
use Rattle.st_text.proofs.Logic.{and-left, and-right}
use Rattle.st_ticks.proofs.FieldLaws.{field_here, fields_there}
use Rattle.st_ticks.proofs.PartsLaws.{parts_spelled, spelled_parts}
use Rattle.st_ticks.proofs.ReadingLaws.{Outcome, reads_by}

abbrev cap : ℕ
cap = 2_000_000_000_000_000_001

both : {a b : Bool} → a ≡ true → b ≡ true → (a && b) ≡ true
both p q = rw (p, q) refl

-- a test that fails, and what it would have to say
pub fails : {P : Type 0} (b : Bool) → (P → b ≡ true) → b ≡ false → P → ⊥
fails b sure failed p = absurd (let passed = sure p in cc)

capped_le : (o n : ℕ) → nat_le o (min n cap) ≡ true → o ≤ n
capped_le o n h = grind (arith, nat_tests)

le_capped : (o n : ℕ) → o ≤ 10 ^ 12 → o ≤ n → nat_le o (min n cap) ≡ true
le_capped o n k h =
    let less : o ≤ min n cap = omega arith in
    grind (arith, nat_tests)

pub from_offsets_yes : (fs : List Field) (ds : List (List ℕ)) → from_offsets fs (capped_values ds) ≡ true → AreFromOffsets fs (map number_of ds)
from_offsets_yes [] ds h = tt
from_offsets_yes (f ∷ fs) [] h = tt
from_offsets_yes (f ∷ fs) (d ∷ ds) h = (
  capped_le f.offset (number_of d) (and-left (nat_le f.offset (capped d)) (from_offsets fs (capped_values ds)) h),
  from_offsets_yes fs ds (and-right (nat_le f.offset (capped d)) (from_offsets fs (capped_values ds)) h),
)

pub from_offsets_sure : (fs : List Field) (ds : List (List ℕ)) → All IsField fs → AreFromOffsets fs (map number_of ds) → from_offsets fs (capped_values ds) ≡ true
from_offsets_sure [] ds a h = refl
from_offsets_sure (f ∷ fs) [] a h = refl
from_offsets_sure (f ∷ fs) (d ∷ ds) a h =
    both (le_capped f.offset (number_of d) (field_here f fs a).offset h.0) (from_offsets_sure fs ds (fields_there f fs a) h.1)

abbrev IsSmall : ℕ → Type 0
IsSmall v = v ≤ 2 * 10 ^ 18

small_capped : (n : ℕ) → nat_le (min n cap) 2_000_000_000_000_000_000 ≡ true → n ≤ 2 * 10 ^ 18
small_capped n h =
    let less : min n cap ≤ 2_000_000_000_000_000_000 = grind (arith, nat_tests) in
    omega arith

capped_small : (n : ℕ) → n ≤ 2 * 10 ^ 18 → nat_le (min n cap) 2_000_000_000_000_000_000 ≡ true
capped_small n h =
    let less : min n cap ≤ 2_000_000_000_000_000_000 = omega arith in
    grind (arith, nat_tests)

pub small_yes : (ds : List (List ℕ)) → are_small (capped_values ds) ≡ true → All IsSmall (map number_of ds)
small_yes [] h = All-nil IsSmall
small_yes (d ∷ ds) h =
    All-cons IsSmall (number_of d) (map number_of ds)
    (small_capped (number_of d) (and-left (nat_le (capped d) 2_000_000_000_000_000_000) (are_small (capped_values ds)) h))
    (small_yes ds (and-right (nat_le (capped d) 2_000_000_000_000_000_000) (are_small (capped_values ds)) h))

pub small_sure : (ds : List (List ℕ)) → All IsSmall (map number_of ds) → are_small (capped_values ds) ≡ true
small_sure [] h = refl
small_sure (d ∷ ds) h =
    both (capped_small (number_of d) (All-head IsSmall (number_of d) (map number_of ds) h)) (small_sure ds (All-tail IsSmall (number_of d) (map number_of ds) h))

same_cons : (a b : ℕ) (t u : List ℕ) → a ≡ b → t ≡ u → a ∷ t ≡ b ∷ u
same_cons a b t u e f = cc

not_capped : (n : ℕ) → n ≤ 2 * 10 ^ 18 → min n cap ≡ n
not_capped n h = omega arith

pub capped_same : (ds : List (List ℕ)) → All IsSmall (map number_of ds) → capped_values ds ≡ map number_of ds
capped_same [] h = refl
capped_same (d ∷ ds) h =
    same_cons (capped d) (number_of d) (capped_values ds) (map number_of ds) (not_capped (number_of d) (All-head IsSmall (number_of d) (map number_of ds) h))
    (capped_same ds (All-tail IsSmall (number_of d) (map number_of ds) h))

-- partitions
numbered_at : (n l : ℕ) → (nat_le 1 (min n cap) && nat_le (min n cap) l) ≡ true → l ≤ 9999 → (1 ≤ n) × (n ≤ l) × (min n cap ≡ n)
numbered_at n l h k =
    let low : 1 ≤ min n cap = grind (arith, nat_tests) in
    let high : min n cap ≤ l = grind (arith, nat_tests) in
    (omega arith, omega arith, omega arith)

numbered_test : (n l : ℕ) → 1 ≤ n → n ≤ l → l ≤ 9999 → (nat_le 1 (min n cap) && nat_le (min n cap) l) ≡ true
numbered_test n l h k m =
    let low : 1 ≤ min n cap = omega arith in
    let high : min n cap ≤ l = omega arith in
    grind (arith, nat_tests)

pub numbered_yes : (face : Face) (written : Option (List ℕ)) → length face.partitions ≤ 9999 → is_numbered face.partitions (capped_partition written) ≡ true → IsNumbered face written
numbered_yes face None l h = tt
numbered_yes face (Some d) l h = let n = numbered_at (number_of d) (length face.partitions) h l in (n.0, n.1)

pub numbered_sure : (face : Face) (written : Option (List ℕ)) → length face.partitions ≤ 9999 → IsNumbered face written → is_numbered face.partitions (capped_partition written) ≡ true
numbered_sure face None l h = refl
numbered_sure face (Some d) l h = numbered_test (number_of d) (length face.partitions) h.0 h.1 l

abbrev pub nothing : Partition
nothing = record { start = 0; end = 0 }

has_yes : (n : ℕ) (p : Partition) → has_count n p ≡ true → (p.start ≤ n) × (n ≤ p.end)
has_yes n p h = (grind (arith, nat_tests), grind (arith, nat_tests))

has_sure : (n : ℕ) (p : Partition) → p.start ≤ n → n ≤ p.end → has_count n p ≡ true
has_sure n p h k = grind (arith, nat_tests)

contains_at : (face : Face) (place n : ℕ) → place < length face.partitions → has_count n (partition_at face.partitions place) ≡ true → Contains face place n
contains_at face place n l h =
    let has = has_yes n (partition_at face.partitions place) h in
    record { partition = partition_at face.partitions place; here = slice_get-get_or face.partitions place nothing l; from = has.0; to = has.1 }

contains_sure : (face : Face) (place n : ℕ) → Contains face place n → has_count n (partition_at face.partitions place) ≡ true
contains_sure face place n c =
    let same : partition_at face.partitions place ≡ c.partition = get_or_from_slice_get face.partitions place c.partition nothing c.here in
    ap (has_count n) same ∙ has_sure n c.partition c.from c.to

contains_within : (face : Face) (place n : ℕ) → Contains face place n → place < length face.partitions
contains_within face place n c = slice_get_within face.partitions place c.partition c.here

contains_not : (face : Face) (place n : ℕ) → has_count n (partition_at face.partitions place) ≡ false → Contains face place n → ⊥
contains_not face place n h c = absurd (let yes = contains_sure face place n c in cc)

position_none : {X : Type 0} (p : X → Bool) (xs : List X) (i : ℕ) (d : X) → position p xs ≡ None → i < length xs → p (get_or xs i d) ≡ false
position_none p xs i d h l =
    elim (cases_Bool (nat_lt (position_or_len p xs) (length xs))) [
      | inl y ↦ absurd (let some : ◌≡◌ {A = Option ℕ} (Some (position_or_len p xs)) None = rw y at h in cc)
      | inr y ↦ fails_before_first p xs i d (before_end (position_or_len p xs) (length xs) i y l)
    ]
  where
    before_end : (a n k : ℕ) → nat_lt a n ≡ false → k < n → k < a
    before_end a n k e m = grind (arith, nat_tests)

-- the place that is meant
pub meant_yes : (face : Face) (written : Option (List ℕ)) (n place : ℕ) → length face.partitions ≤ 9999 → IsNumbered face written
    → meant_place face.partitions (capped_partition written) n ≡ Some place → IsMeant face written n place
meant_yes face None n place l k h =
    let at = position-Some (has_count n) face.partitions place nothing h in
    (contains_at face place n at.0 at.1, λ sooner s. contains_not face sooner n (at.2 sooner s))
meant_yes face (Some d) n place l k h =
    elim (cases_Bool (has_count n (partition_at face.partitions (capped d - 1)))) [
      | inl y ↦
          let same : Some (capped d - 1) ≡ Some place = rw y at h in
          let is : capped d - 1 ≡ place = cc in
          let whole : capped d ≡ number_of d = not_capped (number_of d) (omega (arith, k.1)) in
          let inside : place < length face.partitions = omega (arith, k.0, k.1) in (
            omega (arith, k.0),
            contains_at face place n inside (subst (λ (i : ℕ). has_count n (partition_at face.partitions i) ≡ true) is y),
          )
      | inr y ↦ absurd (let none : ◌≡◌ {A = Option ℕ} None (Some place) = rw y at h in cc)
    ]

pub meant_no : (face : Face) (written : Option (List ℕ)) (n : ℕ) → length face.partitions ≤ 9999 → IsNumbered face written
    → meant_place face.partitions (capped_partition written) n ≡ None → (place : ℕ) → IsMeant face written n place → ⊥
meant_no face None n l k h place m =
    contains_not face place n (position_none (has_count n) face.partitions place nothing h (contains_within face place n m.0)) m.0
meant_no face (Some d) n l k h place m =
    elim (cases_Bool (has_count n (partition_at face.partitions (capped d - 1)))) [
      | inl y ↦ absurd (let none : ◌≡◌ {A = Option ℕ} (Some (capped d - 1)) None = rw y at h in cc)
      | inr y ↦
          let whole : capped d ≡ number_of d = not_capped (number_of d) (omega (arith, k.1)) in
          let is : capped d - 1 ≡ place = omega (arith, m.0) in
          contains_not face place n (subst (λ (i : ℕ). has_count n (partition_at face.partitions i) ≡ false) is y) m.1
    ]

-- the tick of a place that is meant
pub ticked_yes : (face : Face) (p : Parts) (n place : ℕ) → n ≡ count face p → IsMeant face p.partition (count face p) place → place < length face.partitions
    → IsTickOf face p (earlier face place + (n - (partition_at face.partitions place).start))
ticked_yes face p n place e m l = record {
  place = place;
  partition = partition_at face.partitions place;
  meant = m;
  here = slice_get-get_or face.partitions place nothing l;
  value = ap (λ (c : ℕ). earlier face place + (c - (partition_at face.partitions place).start)) e;
}

-- from an answer to an equal one
answered : (face : Face) (p : Parts) (a b : Result ℕ ClockTextFault) → a ≡ b → Outcome face p b → Outcome face p a
answered face p a b e o = subst (λ (r : Result ℕ ClockTextFault). Outcome face p r) (sym e) o

too_many : (face : Face) (p : Parts) → length face.fields < length p.fields → Outcome face p (Err TooManyFields)
too_many face p l = first_at (Keeps face p) [] (NoPartition ∷ FieldBelowOffset ∷ TooLarge ∷ NotInPartition ∷ []) TooManyFields tt (λ k. absurd (omega (arith, k)))

abbrev FewFields : Face → Parts → Type 0
FewFields face p = length p.fields ≤ length face.fields

no_partition : (face : Face) (p : Parts) → FewFields face p → (IsNumbered face p.partition → ⊥) → Outcome face p (Err NoPartition)
no_partition face p l b = first_at (Keeps face p) (TooManyFields ∷ []) (FieldBelowOffset ∷ TooLarge ∷ NotInPartition ∷ []) NoPartition (l, tt) b

below_offset : (face : Face) (p : Parts) → FewFields face p → IsNumbered face p.partition → (AreFromOffsets face.fields (values p) → ⊥) → Outcome face p (Err FieldBelowOffset)
below_offset face p l n b = first_at (Keeps face p) (TooManyFields ∷ NoPartition ∷ []) (TooLarge ∷ NotInPartition ∷ []) FieldBelowOffset (l, (n, tt)) b

too_large : (face : Face) (p : Parts) → FewFields face p → IsNumbered face p.partition → AreFromOffsets face.fields (values p)
    → (Keeps face p TooLarge → ⊥) → Outcome face p (Err TooLarge)
too_large face p l n o b = first_at (Keeps face p) (TooManyFields ∷ NoPartition ∷ FieldBelowOffset ∷ []) (NotInPartition ∷ []) TooLarge (l, (n, (o, tt))) b

not_in_partition : (face : Face) (p : Parts) → FewFields face p → IsNumbered face p.partition → AreFromOffsets face.fields (values p) → Keeps face p TooLarge
    → (Keeps face p NotInPartition → ⊥) → Outcome face p (Err NotInPartition)
not_in_partition face p l n o s b = first_at (Keeps face p) (TooManyFields ∷ NoPartition ∷ FieldBelowOffset ∷ TooLarge ∷ []) [] NotInPartition (l, (n, (o, (s, tt)))) b

-- what is left once the values are small
judged_place : (face : Face) (p : Parts) (n : ℕ) (o : Option ℕ) → IsFace face → n ≡ count face p → FewFields face p → IsNumbered face p.partition
    → AreFromOffsets face.fields (values p) → Keeps face p TooLarge → meant_place face.partitions (capped_partition p.partition) n ≡ o → Outcome face p (ticked face n o)
judged_place face p n None h e l k f s m =
    not_in_partition face p l k f s
    (λ w. meant_no face p.partition n h.few_partitions k m w.0 (subst (λ (c : ℕ). IsMeant face p.partition c w.0) (sym e) w.1))
judged_place face p n (Some place) h e l k f s m =
    let meant : IsMeant face p.partition (count face p) place =
    subst (λ (c : ℕ). IsMeant face p.partition c place) e (meant_yes face p.partition n place h.few_partitions k m) in
    let inside = meant_inside face p.partition (count face p) place meant in
    ((l, (k, (f, (s, ((place, meant), tt))))), ticked_yes face p n place e meant inside)
  where
    meant_inside : (g : Face) (written : Option (List ℕ)) (c i : ℕ) → IsMeant g written c i → i < length g.partitions
    meant_inside g None c i w = contains_within g i c w.0
    meant_inside g (Some d) c i w = contains_within g i c w.1

large_test : (s : Bool) (n : ℕ) → (s && nat_le n 1_000_000_000_000_000_000) ≡ true → (s ≡ true) × (n ≤ 10 ^ 18)
large_test true n h = (refl, grind (arith, nat_tests))
large_test false n h = absurd (cc)

large_sure : (n : ℕ) → n ≤ 10 ^ 18 → nat_le n 1_000_000_000_000_000_000 ≡ true
large_sure n h = grind (arith, nat_tests)

small_sure_all : (face : Face) (p : Parts) → Keeps face p TooLarge → (are_small (capped_values p.fields) && nat_le (count_of face.fields (capped_values p.fields)) 1_000_000_000_000_000_000) ≡ true
small_sure_all face p k =
    let same : count_of face.fields (capped_values p.fields) ≡ count face p = ap (count_of face.fields) (capped_same p.fields k.0) in
    both (small_sure p.fields k.0) (ap (λ (n : ℕ). nat_le n 1_000_000_000_000_000_000) same ∙ large_sure (count face p) k.1)

counted_outcome : (face : Face) (p : Parts) → IsFace face → FewFields face p → IsNumbered face p.partition
    → Outcome face p (counted_of face (capped_partition p.partition) (capped_values p.fields))
unfolding counted_of
counted_outcome face p h l k =
    let vs : List ℕ = capped_values p.fields in
    elim (cases_Bool (from_offsets face.fields vs)) [
      | inr y ↦
          let equal : counted_of face (capped_partition p.partition) vs ≡ Err FieldBelowOffset = rw y refl in
          answered face p (counted_of face (capped_partition p.partition) vs) (Err FieldBelowOffset) equal
          (below_offset face p l k (fails (from_offsets face.fields vs) (from_offsets_sure face.fields p.fields h.fields) y))
      | inl y ↦
          let from = from_offsets_yes face.fields p.fields y in
          elim (cases_Bool (are_small vs && nat_le (count_of face.fields vs) 1_000_000_000_000_000_000)) [
            | inr z ↦
                let equal : counted_of face (capped_partition p.partition) vs ≡ Err TooLarge = rw (y, z) refl in
                answered face p (counted_of face (capped_partition p.partition) vs) (Err TooLarge) equal
                (too_large face p l k from (fails (are_small vs && nat_le (count_of face.fields vs) 1_000_000_000_000_000_000) (small_sure_all face p) z))
            | inl z ↦
                let test = large_test (are_small vs) (count_of face.fields vs) z in
                let small = small_yes p.fields test.0 in
                let same : count_of face.fields vs ≡ count face p = ap (count_of face.fields) (capped_same p.fields small) in
                let o : Option ℕ = meant_place face.partitions (capped_partition p.partition) (count_of face.fields vs) in
                let equal : counted_of face (capped_partition p.partition) vs ≡ ticked face (count_of face.fields vs) o = rw (y, z) refl in
                answered face p (counted_of face (capped_partition p.partition) vs) (ticked face (count_of face.fields vs) o) equal
                (judged_place face p (count_of face.fields vs) o h same l k from (small, subst (λ (n : ℕ). n ≤ 10 ^ 18) same test.1) refl)
          ]
    ]

few_fields : (m n : ℕ) → nat_lt m n ≡ false → n ≤ m
few_fields m n h = grind (arith, nat_tests)

many_fields : (m n : ℕ) → nat_lt m n ≡ true → m < n
many_fields m n h = grind (arith, nat_tests)

judged_outcome : (face : Face) (p : Parts) → IsFace face → Outcome face p (judged face (Some p))
unfolding judged
judged_outcome face p h =
    elim (cases_Bool (nat_lt (length face.fields) (length p.fields))) [
      | inl y ↦
          let equal : judged face (Some p) ≡ Err TooManyFields = rw y refl in
          answered face p (judged face (Some p)) (Err TooManyFields) equal (too_many face p (many_fields (length face.fields) (length p.fields) y))
      | inr y ↦
          let few : FewFields face p = few_fields (length face.fields) (length p.fields) y in
          elim (cases_Bool (is_numbered face.partitions (capped_partition p.partition))) [
            | inl z ↦
                let equal : judged face (Some p) ≡ counted_of face (capped_partition p.partition) (capped_values p.fields) = rw (y, z) refl in
                answered face p (judged face (Some p)) (counted_of face (capped_partition p.partition) (capped_values p.fields)) equal
                (counted_outcome face p h few (numbered_yes face p.partition h.few_partitions z))
            | inr z ↦
                let equal : judged face (Some p) ≡ Err NoPartition = rw (y, z) refl in
                answered face p (judged face (Some p)) (Err NoPartition) equal
                (no_partition face p few (fails (is_numbered face.partitions (capped_partition p.partition)) (numbered_sure face p.partition h.few_partitions) z))
          ]
    ]

no_form : (face : Face) (text : List ℕ) → parts_of text ≡ None → ReadsClock face text (judged face None)
unfolding judged
no_form face text none = λ p s. absurd (let some = spelled_parts text p s in cc)

meets_at : (face : Face) (text : List ℕ) (o : Option Parts) → IsFace face → parts_of text ≡ o → ReadsClock face text (judged face o)
meets_at face text (Some p) h e = reads_by face text p (judged face (Some p)) (parts_spelled text p e) (judged_outcome face p h)
meets_at face text None h e = no_form face text e

-- what the reader answers is what a text means, or why it is refused
pub meets : (face : Face) (text : List ℕ) → IsFace face → ReadsClock face text (clock_of face text)
meets face text h = meets_at face text (parts_of text) h refl

pub reading_is_found : ReadingIsFound
reading_is_found face text h = (clock_of face text, meets face text h)
