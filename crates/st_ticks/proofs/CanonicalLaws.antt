-- The canonical spelling of a tick is read as that tick.
use Rattle.std.proofs.Common.{◌≡◌, ℕ, ◌+◌, ◌-◌, ◌*◌, ◌/◌, ◌%◌, ◌^◌, ◌<◌, ◌≤◌, suc, inl, inr, true, refl, sym, ap, ◌∙◌, subst, arith, Some, List, [], ◌∷◌, ◌++◌, length, map, append_assoc, length-append}
use Rattle.std.specs.List.{All, join_with_byte, slice_get}
use Rattle.std.proofs.Math.Nat.{mod-lt, mod-le, div-le_self}
use Rattle.std.specs.Int.Digits.{digits_of}
use Rattle.std.proofs.lemmas.List.{append-nil, length-replicate, length-map}
use Rattle.std.proofs.lemmas.List.Elements.{All-nil, All-cons, All-get_or}
use Rattle.std.proofs.lemmas.Option.{get_or_from_slice_get, slice_get_within}
use Rattle.st_text.specs.Bytes.{padded, decimal_digits, number_of}
use Rattle.st_text.proofs.Spelled.{number_of-padded, are_digits-padded}
use Rattle.st_ticks.specs.ClockText.{is_mark, IsRun, IsSeparator, Parts, SpellsFields, Spells}
use Rattle.st_ticks.specs.Face.{Face, IsFace, IsField, IsPartition, IsDelimiter, span, ticks_in, earlier, total}
use Rattle.st_ticks.specs.Laws.{CanonicalReads}
use Rattle.st_ticks.specs.Reading.{count_of, count, AreFromOffsets, IsMeant, Keeps, text_rules, SpellsTick}
use Rattle.st_rules.specs.Rules.{AreKept}
use Rattle.st_ticks.specs.Tick.{IsPartitionOf, count_at, fields_of, width, field_texts, spelled}
use Rattle.st_ticks.specs.TickMachine.{place_of, partition_of}
use Rattle.st_ticks.specs.declared.field.Field.{Field}
use Rattle.st_ticks.specs.declared.field.Partition.{Partition}
use Rattle.st_ticks.proofs.FaceLaws.{at_place, tick_in_partition}
use Rattle.st_ticks.proofs.FieldLaws.{field_here, fields_there, span_some, counted, from_offsets}
use Rattle.st_ticks.proofs.PartitionLaws.{place_of_is}
use Rattle.st_ticks.proofs.SpellingLaws.{length-decimal}

-- a delimiter separates fields
mark_separates : (b : ℕ) → is_mark b ≡ true → IsSeparator (b ∷ [])
mark_separates b h = inr ([], [], b, h, record { blanks_before = refl; blanks_after = refl; whole = refl })

separates : (b : ℕ) → IsDelimiter b → IsSeparator (b ∷ [])
separates b (inl e) = mark_separates b (rw e refl)
separates b (inr (inl e)) = mark_separates b (rw e refl)
separates b (inr (inr (inl e))) = mark_separates b (rw e refl)
separates b (inr (inr (inr (inl e)))) = mark_separates b (rw e refl)
separates b (inr (inr (inr (inr e)))) = inl (record { blanks = rw e refl; some = omega arith })

-- a printed field is digits
some_decimal : (n : ℕ) → 1 ≤ length (decimal_digits n)
some_decimal n = omega (arith, length-decimal n)

length-padded-least : (w n : ℕ) → w ≤ length (padded w n)
length-padded-least w n =
    let all : length (padded w n) ≡ (w - length (digits_of 10 n)) + length (digits_of 10 n) = simp (length-append, length-replicate, length-map) in
    omega (arith, all)

padded_some : (w n : ℕ) → 1 ≤ w → 0 < length (padded w n)
padded_some w n h = omega (arith, length-padded-least w n)

field_run : (f : Field) (v : ℕ) → IsRun (padded (width f) v)
field_run f v = record { digits = are_digits-padded (width f) v; some = padded_some (width f) v (some_decimal (f.offset + f.modulus - 1)) }

-- printed fields spell fields
fields_spelled : (d : ℕ) (fs : List Field) (n : ℕ) → IsDelimiter d → 1 ≤ length fs → SpellsFields (field_texts fs (fields_of fs n)) (join_with_byte d (field_texts fs (fields_of fs n)))
fields_spelled d [] n h l = absurd (omega arith)
fields_spelled d (f ∷ []) n h l = (field_run f (f.offset + n / 1), refl)
fields_spelled d (f ∷ g ∷ fs) n h l =
    let rest : ℕ = n % span (g ∷ fs) in (
      d ∷ [],
      join_with_byte d (field_texts (g ∷ fs) (fields_of (g ∷ fs) rest)),
      field_run f (f.offset + n / span (g ∷ fs)),
      separates d h,
      fields_spelled d (g ∷ fs) rest h (omega arith),
      refl,
    )

-- and their values are those of the count
values_printed : (fs : List Field) (n : ℕ) → map number_of (field_texts fs (fields_of fs n)) ≡ fields_of fs n
values_printed [] n = refl
values_printed (f ∷ fs) n =
    same_cons (number_of (padded (width f) (f.offset + n / span fs))) (f.offset + n / span fs) (map number_of (field_texts fs (fields_of fs (n % span fs)))) (fields_of fs (n % span fs))
    (number_of-padded (width f) (f.offset + n / span fs)) (values_printed fs (n % span fs))
  where
    same_cons : (a b : ℕ) (t u : List ℕ) → a ≡ b → t ≡ u → a ∷ t ≡ b ∷ u
    same_cons a b t u e g = cc

many_printed : (fs : List Field) (n : ℕ) → length (field_texts fs (fields_of fs n)) ≡ length fs
many_printed [] n = refl
many_printed (f ∷ fs) n = ap (λ (k : ℕ). suc k) (many_printed fs (n % span fs))

abbrev IsSmall : ℕ → Type 0
IsSmall v = v ≤ 2 * 10 ^ 18

-- no field of a count is too large
values_small : (fs : List Field) (n : ℕ) → All IsField fs → n ≤ 10 ^ 18 → All IsSmall (fields_of fs n)
values_small [] n h l = All-nil IsSmall
values_small (f ∷ fs) n h l =
    let part : n / span fs ≤ n = div-le_self n (span fs) in
    let offset : f.offset ≤ 10 ^ 12 = (field_here f fs h).offset in
    let rest : n % span fs < span fs = mod-lt n (span_some fs (fields_there f fs h)) in
    let small : n % span fs ≤ n = mod-le n (span fs) in
    All-cons IsSmall (f.offset + n / span fs) (fields_of fs (n % span fs)) (omega arith) (values_small fs (n % span fs) (fields_there f fs h) (omega arith))

-- the parts of a canonical spelling
parts_at : Face → ℕ → ℕ → Parts
parts_at face place n = record { partition = Some (decimal_digits (suc place)); fields = field_texts face.fields (fields_of face.fields n) }

spells_at : (face : Face) (place n : ℕ) → IsFace face → Spells (parts_at face place n) (spelled face place n)
unfolding parts_at
spells_at face place n h =
    let number : List ℕ = decimal_digits (suc place) in
    let fields : List ℕ = join_with_byte face.delimiter (field_texts face.fields (fields_of face.fields n)) in
    record {
      front = [];
      partition = number ++ (47 ∷ []);
      fields = fields;
      back = [];
      blanks_front = refl;
      blanks_back = refl;
      partition_is = (
        [],
        [],
        47 ∷ [],
        record { digits = are_digits-padded 1 (suc place); some = omega (arith, some_decimal (suc place)) },
        record { blanks_before = refl; blanks_after = refl; whole = refl },
        refl,
      );
      fields_are = fields_spelled face.delimiter face.fields n h.delimiter h.some_fields;
      whole = sym (append_assoc number (47 ∷ []) (fields ++ []) ∙ ap (λ (x : List ℕ). number ++ (47 ∷ x)) (append-nil fields));
    }

counts_at : (face : Face) (place n : ℕ) → IsFace face → count face (parts_at face place n) ≡ n
unfolding parts_at
counts_at face place n h = ap (count_of face.fields) (values_printed face.fields n) ∙ counted face.fields n h.some_fields h.fields

good_at : (face : Face) (place n : ℕ) (p : Partition) → IsFace face → slice_get face.partitions place ≡ Some p → p.start ≤ n → n ≤ p.end → n ≤ 10 ^ 18
    → place < length face.partitions → IsMeant face (Some (decimal_digits (suc place))) (count face (parts_at face place n)) place × AreKept (Keeps face (parts_at face place n)) text_rules
unfolding parts_at
good_at face place n p h e s t l i =
    let number : number_of (decimal_digits (suc place)) ≡ suc place = number_of-padded 1 (suc place) in
    let same : count face (parts_at face place n) ≡ n = counts_at face place n h in
    let meant : IsMeant face (Some (decimal_digits (suc place))) (count face (parts_at face place n)) place =
    (omega (arith, number), record { partition = p; here = e; from = omega (arith, same, s); to = omega (arith, same, t) }) in
    let printed = values_printed face.fields n in (
      meant,
      (
        omega (arith, many_printed face.fields n),
        (
          (omega (arith, number), omega (arith, number, i)),
          (
            subst (λ (vs : List ℕ). AreFromOffsets face.fields vs) (sym printed) (from_offsets face.fields n),
            (
              (subst (λ (vs : List ℕ). All IsSmall vs) (sym printed) (values_small face.fields n h.fields l), omega (arith, same, l)),
              ((place, meant), tt),
            ),
          ),
        ),
      ),
    )

tick_back : (e k s c : ℕ) → e ≤ k → c ≡ s + (k - e) → k ≡ e + (c - s)
tick_back e k s c h f = omega arith

read_back : (face : Face) (k place : ℕ) (p : Partition) → IsFace face → k ≤ total face → IsPartitionOf face k place → slice_get face.partitions place ≡ Some p
    → SpellsTick face (spelled face place (count_at face place p k)) k
unfolding parts_at
read_back face k place p h l is at =
    let n : ℕ = count_at face place p k in
    let begun : earlier face place ≤ k = is.begun in
    let within : k ≤ earlier face place + ticks_in p = tick_in_partition face k place p is l at in
    let good = All-at_get face.partitions place p h.partitions at in
    let ordered : p.start ≤ p.end = good.ordered in
    let small : p.end ≤ 10 ^ 18 = good.small in
    let to : n ≤ p.end = omega arith in
    let kept = good_at face place n p h at (omega arith) to (omega arith) is.there in
    let same : count face (parts_at face place n) ≡ n = counts_at face place n h in
    record {
      parts = parts_at face place n;
      spells = spells_at face place n h;
      good = kept.1;
      tick = record {
        place = place;
        partition = p;
        meant = kept.0;
        here = at;
        value = tick_back (earlier face place) k p.start (count face (parts_at face place n)) begun same;
      };
    }
  where
    All-at_get : (xs : List Partition) (i : ℕ) (x : Partition) → All IsPartition xs → slice_get xs i ≡ Some x → IsPartition x
    All-at_get xs i x a e =
        subst IsPartition (get_or_from_slice_get xs i x x e) (All-get_or IsPartition xs i x (slice_get_within xs i x e) a)

pub canonical_reads : CanonicalReads
canonical_reads face k h l = read_back face k (place_of face k) (partition_of face k) h l (place_of_is face k h.some_partitions) (at_place face k h.some_partitions)
