-- The calls of a face, over what it is seen as.
use Rattle.std.proofs.Common.{◌≡◌, ℕ, ◌+◌, ◌-◌, ◌^◌, ◌<◌, ◌≤◌, zero, suc, Bool, true, false, ◌&&◌, nat_le, nat_lt, inl, inr, refl, sym, ap, ◌∙◌, subst, arith, Option, Some, None, Err, List, [], ◌∷◌, ◌++◌, length, take, get_or, sum_by, append_assoc}
use Rattle.std.specs.List.{slice_get}
use Rattle.std.specs.List.Sorted.{IsNonDecreasingBy}
use Rattle.std.proofs.lemmas.Bool.{cases_lt}
use Rattle.std.proofs.lemmas.Bool.Decides.{nat_tests}
use Rattle.std.proofs.lemmas.List.Sums.{sum_by_more}
use Rattle.std.proofs.lemmas.List.{take_all}
use Rattle.std.proofs.lemmas.List.Elements.{All-get_or}
use Rattle.std.proofs.lemmas.Option.{slice_get-get_or, get_or_from_slice_get}
use Rattle.st_text.specs.Bytes.{decimal_digits}
use Rattle.st_ticks.specs.ClockText.{Parts}
use Rattle.st_ticks.specs.Face.{Face, IsFace, IsPartition, ticks_in, earlier, total}
use Rattle.st_ticks.specs.FaceSteps.{AreBegins}
use Rattle.st_ticks.specs.Laws.{CanonicalIsOne}
use Rattle.st_ticks.specs.Reading.{count_of}
use Rattle.st_ticks.specs.ReadingMachine.{capped_values, capped_partition, from_offsets, are_small, is_numbered, partition_at, meant_place, ticked, counted_of, judged, clock_of}
use Rattle.st_ticks.specs.SpellingMachine.{fields_text}
use Rattle.st_ticks.specs.TextMachine.{parts_of}
use Rattle.st_ticks.specs.Tick.{IsPartitionOf, IsCanonical, spelled, count_at}
use Rattle.st_ticks.specs.TickMachine.{place_of, partition_of, canonical}
use Rattle.st_ticks.specs.WrittenSteps.{HoldsParts}
use Rattle.st_ticks.specs.declared.clock_text.Written.{Written}
use Rattle.st_ticks.specs.declared.fault.ClockTextFault.TheVariants.{Form, TooManyFields, NoPartition, FieldBelowOffset, TooLarge}
use Rattle.st_ticks.specs.declared.field.Partition.{Partition}
use Rattle.st_ticks.proofs.PartitionLaws.{partition_is_one, place_of_is, same_element}
use Rattle.st_ticks.proofs.SpellingLaws.{fields_text-joined}

-- the tick of values
pub counted_below : (face : Face) (part : Option ℕ) (vs : List ℕ) → from_offsets face.fields vs ≡ false → counted_of face part vs ≡ Err FieldBelowOffset
unfolding counted_of
counted_below face part vs h = rw h refl

no_and : (a b : Bool) → a ≡ false → (a && b) ≡ false
no_and a b h = rw h refl

pub counted_large : (face : Face) (part : Option ℕ) (vs : List ℕ) → from_offsets face.fields vs ≡ true → are_small vs ≡ false → counted_of face part vs ≡ Err TooLarge
unfolding counted_of
counted_large face part vs h s =
    rw (h, no_and (are_small vs) (nat_le (count_of face.fields vs) 1_000_000_000_000_000_000) s) refl

large : (n : ℕ) → 10 ^ 18 < n → nat_le n 1_000_000_000_000_000_000 ≡ false
large n h = grind (arith, nat_tests)

small : (n : ℕ) → n ≤ 10 ^ 18 → nat_le n 1_000_000_000_000_000_000 ≡ true
small n h = grind (arith, nat_tests)

pub counted_over : (face : Face) (part : Option ℕ) (vs : List ℕ) → from_offsets face.fields vs ≡ true → are_small vs ≡ true → 10 ^ 18 < count_of face.fields vs
    → counted_of face part vs ≡ Err TooLarge
unfolding counted_of
counted_over face part vs h s l = rw (h, s, large (count_of face.fields vs) l) refl

pub counted_good : (face : Face) (part : Option ℕ) (vs : List ℕ) → from_offsets face.fields vs ≡ true → are_small vs ≡ true → count_of face.fields vs ≤ 10 ^ 18
    → counted_of face part vs ≡ ticked face (count_of face.fields vs) (meant_place face.partitions part (count_of face.fields vs))
unfolding counted_of
counted_good face part vs h s l = rw (h, s, small (count_of face.fields vs) l) refl

-- the parts of a text
pub judged_form : (face : Face) (text : List ℕ) → parts_of text ≡ None → clock_of face text ≡ Err Form
unfolding judged
judged_form face text h = rw h refl

more_fields : (m n : ℕ) → m < n → nat_lt m n ≡ true
more_fields m n h = grind (arith, nat_tests)

few_fields : (m n : ℕ) → n ≤ m → nat_lt m n ≡ false
few_fields m n h = grind (arith, nat_tests)

judged_many_at : (face : Face) (p : Parts) → length face.fields < length p.fields → judged face (Some p) ≡ Err TooManyFields
unfolding judged
judged_many_at face p h = let many = more_fields (length face.fields) (length p.fields) h in rw many refl

judged_unnumbered_at : (face : Face) (p : Parts) → length p.fields ≤ length face.fields → is_numbered face.partitions (capped_partition p.partition) ≡ false
    → judged face (Some p) ≡ Err NoPartition
unfolding judged
judged_unnumbered_at face p h n = let few = few_fields (length face.fields) (length p.fields) h in rw (few, n) refl

judged_good_at : (face : Face) (p : Parts) → length p.fields ≤ length face.fields → is_numbered face.partitions (capped_partition p.partition) ≡ true
    → judged face (Some p) ≡ counted_of face (capped_partition p.partition) (capped_values p.fields)
unfolding judged
judged_good_at face p h n = let few = few_fields (length face.fields) (length p.fields) h in rw (few, n) refl

pub judged_many : (face : Face) (text : List ℕ) (w : Written) → HoldsParts text w → length face.fields < w.values.count → clock_of face text ≡ Err TooManyFields
judged_many face text w h l =
    ap (judged face) h.parts_are ∙ judged_many_at face h.parts (omega (arith, h.values_are.count_is))

pub judged_unnumbered : (face : Face) (text : List ℕ) (w : Written) → HoldsParts text w → w.values.count ≤ length face.fields
    → is_numbered face.partitions w.partition ≡ false → clock_of face text ≡ Err NoPartition
judged_unnumbered face text w h l n =
    ap (judged face) h.parts_are
    ∙ judged_unnumbered_at face h.parts (omega (arith, h.values_are.count_is)) (ap (is_numbered face.partitions) (sym h.partition_is) ∙ n)

pub judged_good : (face : Face) (text : List ℕ) (w : Written) → HoldsParts text w → w.values.count ≤ length face.fields → length face.fields ≤ 10
    → is_numbered face.partitions w.partition ≡ true → clock_of face text ≡ counted_of face w.partition (take w.values.count w.values.numbers)
judged_good face text w h l few n =
    let values : take w.values.count w.values.numbers ≡ capped_values h.parts.fields = h.values_are.numbers_are (omega (arith, l, few)) in
    ap (judged face) h.parts_are
    ∙ judged_good_at face h.parts (omega (arith, h.values_are.count_is)) (ap (is_numbered face.partitions) (sym h.partition_is) ∙ n)
    ∙ ap (λ (o : Option ℕ). counted_of face o (capped_values h.parts.fields)) (sym h.partition_is)
    ∙ ap (λ (vs : List ℕ). counted_of face w.partition vs) (sym values)

-- the ticks of the earlier partitions rise with the place
earlier_more : (face : Face) (i : ℕ) (p : Partition) → i < length face.partitions → earlier face i ≤ earlier face (i + 1)
earlier_more face i p h = omega (arith, sum_by_more ticks_in face.partitions i p h)

abbrev pub nothing : Partition
nothing = record { start = 0; end = 0 }

earlier_rises : (face : Face) (i k : ℕ) → i + k ≤ length face.partitions → earlier face i ≤ earlier face (i + k)
earlier_rises face i zero h = let same : i + 0 ≡ i = omega arith in rw same (omega arith)
earlier_rises face i (suc k) h =
    let step : earlier face (i + k) ≤ earlier face (i + k + 1) = earlier_more face (i + k) nothing (omega arith) in
    let before : earlier face i ≤ earlier face (i + k) = earlier_rises face i k (omega arith) in
    let same : i + suc k ≡ i + k + 1 = omega arith in
    rw same (omega arith)

pub earlier_at_most : (face : Face) (i j : ℕ) → i ≤ j → j ≤ length face.partitions → earlier face i ≤ earlier face j
earlier_at_most face i j h l =
    let gap : i + (j - i) ≡ j = omega arith in
    rw gap at (earlier_rises face i (j - i) (omega arith))

-- begins rise, and tell the place of a tick
begin_at : (face : Face) (begins : List ℕ) (i d : ℕ) → AreBegins face begins → i < length begins → get_or begins i d ≡ earlier face i
begin_at face begins i d b h = same_default begins i d h ∙ b.sums i (omega (arith, b.as_many))
  where
    same_default : (xs : List ℕ) (k e : ℕ) → k < length xs → get_or xs k e ≡ get_or xs k 0
    same_default [] k e l = absurd (omega arith)
    same_default (x ∷ xs) zero e l = refl
    same_default (x ∷ xs) (suc k) e l = same_default xs k e (omega arith)

pub begins_rise : (face : Face) (begins : List ℕ) → AreBegins face begins → IsNonDecreasingBy (λ (begin : ℕ). begin) begins
begins_rise face begins b = λ i j d h l.
    omega (arith, begin_at face begins i d b (omega arith), begin_at face begins j d b l, earlier_at_most face i j h (omega (arith, b.as_many)))

pub place_found : (face : Face) (begins : List ℕ) (k n : ℕ) → AreBegins face begins → 0 < length face.partitions → n ≤ length begins
    → ((i : ℕ) → i < n → get_or begins i 0 ≤ k) → ((i : ℕ) → n ≤ i → i < length begins → k < get_or begins i 0) → n - 1 ≡ place_of face k
place_found face begins k n b some bound before after =
    let many : length begins ≡ length face.partitions = b.as_many in
    let first : get_or begins 0 0 ≡ 0 = begin_at face begins 0 0 b (omega arith) in
    let begun : 0 < n = elim (cases_lt 0 n) [
      | inl l ↦ l
      | inr l ↦ let above : k < get_or begins 0 0 = after 0 l (omega arith) in absurd (omega arith)
    ] in
    let here : get_or begins (n - 1) 0 ≤ k = before (n - 1) (omega arith) in
    let is : get_or begins (n - 1) 0 ≡ earlier face (n - 1) = begin_at face begins (n - 1) 0 b (omega arith) in
    let last : (later : ℕ) → n - 1 < later → later < length face.partitions → k < earlier face later = λ later l m.
    let above : k < get_or begins later 0 = after later (omega arith) (omega arith) in
    let same : get_or begins later 0 ≡ earlier face later = begin_at face begins later 0 b (omega arith) in
    omega arith
    in
    partition_is_one face k (n - 1) (place_of face k) (record { there = omega arith; begun = omega arith; last = last }) (place_of_is face k some)

-- the partition of a tick, and the count of the tick there
pub at_place : (face : Face) (k : ℕ) → 0 < length face.partitions → slice_get face.partitions (place_of face k) ≡ Some (partition_of face k)
at_place face k some = slice_get-get_or face.partitions (place_of face k) nothing (place_of_is face k some).there

pub canonical_is_one : CanonicalIsOne
canonical_is_one face k text h = (forth, back)
  where
    is_place : IsPartitionOf face k (place_of face k)
    is_place = place_of_is face k h.some_partitions

    same : (i j : ℕ) (p q : Partition) → i ≡ j → slice_get face.partitions i ≡ Some p → slice_get face.partitions j ≡ Some q
        → spelled face i (count_at face i p k) ≡ spelled face j (count_at face j q k)
    same i j p q e f g =
        let alike : p ≡ q = same_element face.partitions j p q (subst (λ (x : ℕ). slice_get face.partitions x ≡ Some p) e f) g in
        ap (λ (x : ℕ). spelled face x (count_at face x p k)) e ∙ ap (λ (r : Partition). spelled face j (count_at face j r k)) alike

    forth : IsCanonical face k text → text ≡ canonical face k
    forth c =
        c.whole ∙ same c.place (place_of face k) c.partition (partition_of face k)
        (partition_is_one face k c.place (place_of face k) c.of_tick is_place) c.here (at_place face k h.some_partitions)

    back : text ≡ canonical face k → IsCanonical face k text
    back e = record { place = place_of face k; partition = partition_of face k; of_tick = is_place; here = at_place face k h.some_partitions; whole = e }

-- a tick lies in its partition
past_end : (face : Face) (place : ℕ) → length face.partitions ≤ place → earlier face place ≡ total face
past_end face place h = ap (sum_by ticks_in) (take_all place face.partitions h)

pub tick_in_partition : (face : Face) (k place : ℕ) (p : Partition) → IsPartitionOf face k place → k ≤ total face → slice_get face.partitions place ≡ Some p
    → k ≤ earlier face place + ticks_in p
tick_in_partition face k place p h l e =
    let inside : place < length face.partitions = h.there in
    let is : get_or face.partitions place p ≡ p = get_or_from_slice_get face.partitions place p p e in
    let more : earlier face (place + 1) ≡ earlier face place + ticks_in (get_or face.partitions place p) = sum_by_more ticks_in face.partitions place p inside in
    let next : earlier face (place + 1) ≡ earlier face place + ticks_in p = rw is at more in
    elim (cases_lt (place + 1) (length face.partitions)) [
      | inl m ↦ let before : k < earlier face (place + 1) = h.last (place + 1) (omega arith) m in omega arith
      | inr m ↦ let end : earlier face (place + 1) ≡ total face = past_end face (place + 1) m in omega arith
    ]

-- what the count of a tick needs
pub record Placed (face : Face) (begins : List ℕ) (k place : ℕ) : Type 0 where
  pub here : place < length face.partitions
  pub many : place < length begins
  pub begin_is : get_or begins place 0 ≡ earlier face place
  pub begun : get_or begins place 0 ≤ k
  pub small : (partition_at face.partitions place).start + (k - get_or begins place 0) ≤ 10 ^ 18

pub placed : (face : Face) (begins : List ℕ) (k place : ℕ) → IsFace face → AreBegins face begins → place ≡ place_of face k → k ≤ total face → Placed face begins k place
placed face begins k place h b e l =
    let is = subst (λ (x : ℕ). IsPartitionOf face k x) (sym e) (place_of_is face k h.some_partitions) in
    let there : place < length face.partitions = is.there in
    let many : length begins ≡ length face.partitions = b.as_many in
    let begin : get_or begins place 0 ≡ earlier face place = begin_at face begins place 0 b (omega arith) in
    let begun : earlier face place ≤ k = is.begun in
    let p : Partition = partition_at face.partitions place in
    let at : slice_get face.partitions place ≡ Some p = slice_get-get_or face.partitions place nothing there in
    let within : k ≤ earlier face place + ticks_in p = tick_in_partition face k place p is l at in
    let good = All-get_or IsPartition face.partitions place nothing there h.partitions in
    let ordered : p.start ≤ p.end = good.ordered in
    let few : p.end ≤ 10 ^ 18 = good.small in
    record { here = there; many = omega arith; begin_is = begin; begun = omega arith; small = omega arith }

pub count_same : (face : Face) (begins : List ℕ) (k place : ℕ) → Placed face begins k place → place ≡ place_of face k
    → (partition_at face.partitions place).start + (k - get_or begins place 0) ≡ count_at face place (partition_of face k) k
count_same face begins k place p e =
    ap (λ (x : ℕ). (partition_at face.partitions place).start + (k - x)) p.begin_is
    ∙ ap (λ (x : ℕ). (partition_at face.partitions x).start + (k - earlier face place)) e

-- the text of a count
pub text_is : (face : Face) (place count : ℕ) (a b c d : List ℕ) (n : ℕ) → n ≡ suc place → a ≡ [] → b ≡ a ++ decimal_digits n → c ≡ b ++ 47 ∷ []
    → d ≡ c ++ fields_text face.delimiter face.fields count → d ≡ spelled face place count
text_is face place count a b c d n m e f g h =
    let number : b ≡ decimal_digits (suc place) = f ∙ ap (λ (x : List ℕ). x ++ decimal_digits n) e ∙ ap decimal_digits m in
    h ∙ ap (λ (x : List ℕ). x ++ fields_text face.delimiter face.fields count) (g ∙ ap (λ (x : List ℕ). x ++ 47 ∷ []) number)
    ∙ append_assoc (decimal_digits (suc place)) (47 ∷ []) (fields_text face.delimiter face.fields count)
    ∙ ap (λ (x : List ℕ). decimal_digits (suc place) ++ (47 ∷ x)) (fields_text-joined face.delimiter face.fields count)

-- what a face keeps, by what it is seen as
pub begins_of : (seen_as face : Face) (begins kept : List ℕ) → AreBegins seen_as begins → seen_as ≡ face → kept ≡ begins → AreBegins face kept
begins_of seen_as face begins kept b e f =
    subst (λ (g : Face). AreBegins g kept) e (subst (λ (xs : List ℕ). AreBegins seen_as xs) (sym f) b)
