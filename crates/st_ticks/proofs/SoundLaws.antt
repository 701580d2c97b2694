-- A face that is made of numbers which keep all rules is one.
use Rattle.std.proofs.Common.{◌≡◌, ℕ, ◌^◌, ◌≤◌, ◌==◌, suc, inl, inr, refl, ap, arith, List, [], ◌∷◌, length, get_or}
use Rattle.std.specs.List.{All}
use Rattle.std.proofs.lemmas.Bool.{cases_Bool}
use Rattle.std.proofs.lemmas.List.Elements.{All-nil, All-cons, All-head, All-tail, All-get_or}
use Rattle.st_decimal.specs.declared.number.Dec.{Dec}
use Rattle.st_ticks.specs.Face.{Face, IsFace, IsField, IsPartition, IsDelimiter, span_of_rest, total}
use Rattle.st_rules.specs.Rules.{AreKept}
use Rattle.st_ticks.specs.Variables.{Numbers, HaveEnds, HaveModuli, HaveOffsets, IsFrom, IsNumber, Keeps, first_rules, delimiter_of}
use Rattle.st_ticks.specs.declared.field.Field.{Field}
use Rattle.st_ticks.specs.declared.field.Partition.{Partition}
use Rattle.st_ticks.proofs.MakingLaws.{no_dec, low_at}
use Rattle.st_ticks.proofs.RuleLaws.{rest_is_one}
use Rattle.st_ticks.proofs.WholeLaws.{same_number}

abbrev pub AreEarlyKept : Numbers → Type 0
AreEarlyKept n = AreKept (Keeps n) first_rules

fields_many : (ms : List Dec) (fs : List Field) → HaveModuli ms fs → length fs ≡ length ms
fields_many [] [] h = refl
fields_many [] (f ∷ fs) h = absurd h
fields_many (m ∷ ms) [] h = absurd h
fields_many (m ∷ ms) (f ∷ fs) h = ap (λ (k : ℕ). suc k) (fields_many ms fs h.3)

partitions_many : (ss es : List Dec) (ps : List Partition) → HaveEnds ss es ps → length ps ≡ length ss
partitions_many [] [] [] h = refl
partitions_many [] [] (p ∷ ps) h = absurd h
partitions_many [] (e ∷ es) ps h = absurd h
partitions_many (s ∷ ss) [] ps h = absurd h
partitions_many (s ∷ ss) (e ∷ es) [] h = absurd h
partitions_many (s ∷ ss) (e ∷ es) (p ∷ ps) h = ap (λ (k : ℕ). suc k) (partitions_many ss es ps h.3)

pub fields_good : (ms os : List Dec) (fs : List Field) → HaveModuli ms fs → HaveOffsets os fs → All (IsFrom 0 (10 ^ 12)) os → All IsField fs
fields_good ms os [] h k a = All-nil IsField
fields_good [] os (f ∷ fs) h k a = absurd h
fields_good (m ∷ ms) [] (f ∷ fs) h k a = absurd k
fields_good (m ∷ ms) (o ∷ os) (f ∷ fs) h k a =
    let at = All-head (IsFrom 0 (10 ^ 12)) o os a in
    let same : at.0 ≡ f.offset = same_number o at.0 f.offset at.1 k.0 in
    All-cons IsField f fs (record { some = h.1; modulus = h.2; offset = omega (arith, same, at.3) })
    (fields_good ms os fs h.3 k.1 (All-tail (IsFrom 0 (10 ^ 12)) o os a))

pub partitions_good : (ss es : List Dec) (ps : List Partition) → HaveEnds ss es ps → All IsPartition ps
partitions_good ss es [] h = All-nil IsPartition
partitions_good [] [] (p ∷ ps) h = absurd h
partitions_good [] (e ∷ es) (p ∷ ps) h = absurd h
partitions_good (s ∷ ss) [] (p ∷ ps) h = absurd h
partitions_good (s ∷ ss) (e ∷ es) (p ∷ ps) h = All-cons IsPartition p ps h.2 (partitions_good ss es ps h.3)

pub delimiter_good : (code : ℕ) → IsDelimiter (delimiter_of code)
delimiter_good code =
    elim (cases_Bool (code == 1)) [
      | inl a ↦ rw a (inl refl)
      | inr a ↦ elim (cases_Bool (code == 2)) [
        | inl b ↦ rw (a, b) (inr (inl refl))
        | inr b ↦ elim (cases_Bool (code == 3)) [
          | inl d ↦ rw (a, b, d) (inr (inr (inl refl)))
          | inr d ↦ elim (cases_Bool (code == 4)) [
            | inl e ↦ rw (a, b, d, e) (inr (inr (inr (inl refl))))
            | inr e ↦ rw (a, b, d, e) (inr (inr (inr (inr refl))))
          ]
        ]
      ]
    ]

-- what the rules say of the lists
pub record AreSized (n : Numbers) : Type 0 where
  pub one_count : length n.n_fields ≡ 1
  pub offsets_many : length n.offsets ≡ length n.moduli
  pub ends_many : length n.ends ≡ length n.starts
  pub one_delim : length n.delim ≡ 1
  pub some : 1 ≤ length n.moduli
  pub few : length n.moduli ≤ 10
  pub moduli : All (IsFrom 1 (10 ^ 18)) n.moduli
  pub offsets : All (IsFrom 0 (10 ^ 12)) n.offsets
  pub starts : All (IsFrom 0 (10 ^ 18)) n.starts
  pub delim : All (IsFrom 1 5) n.delim

pub are_sized : (n : Numbers) → AreEarlyKept n → AreSized n
are_sized n h =
    let one : length n.n_fields ≡ 1 = h.0 in
    let d : Dec = get_or n.n_fields 0 no_dec in
    let as_moduli : IsNumber (length n.moduli) d = All-get_or (IsNumber (length n.moduli)) n.n_fields 0 no_dec (omega arith) h.1.1.1.0 in
    let as_offsets : IsNumber (length n.offsets) d = All-get_or (IsNumber (length n.offsets)) n.n_fields 0 no_dec (omega arith) h.1.1.1.1.1.1.1.0 in
    let bounds = low_at 1 10 (length n.moduli) n.n_fields 0 h.1.1.0 (omega arith) as_moduli in
    record {
      one_count = one;
      offsets_many = same_number d (length n.offsets) (length n.moduli) as_offsets as_moduli;
      ends_many = h.1.1.1.1.1.1.1.1.1.1.1.1.1.1.1.0;
      one_delim = h.1.1.1.1.1.1.1.1.1.1.0;
      some = bounds.0;
      few = bounds.1;
      moduli = h.1.1.1.1.1.0;
      offsets = h.1.1.1.1.1.1.1.1.1.0;
      starts = h.1.1.1.1.1.1.1.1.1.1.1.1.1.1.0;
      delim = h.1.1.1.1.1.1.1.1.1.1.1.0;
    }

pub rest_small : (n : Numbers) (fs : List Field) → AreEarlyKept n → HaveModuli n.moduli fs → span_of_rest fs ≤ 10 ^ 12
rest_small n fs h k = let p = h.1.1.1.1.1.1.0 in omega (arith, rest_is_one n.moduli p.0 fs p.1 k, p.2)

pub is_face : (n : Numbers) (face : Face) → AreEarlyKept n → HaveModuli n.moduli face.fields → HaveOffsets n.offsets face.fields → HaveEnds n.starts n.ends face.partitions
    → IsDelimiter face.delimiter → total face ≤ 10 ^ 18 → IsFace face
is_face n face h m o e d t =
    let s = are_sized n h in
    let many : length face.fields ≡ length n.moduli = fields_many n.moduli face.fields m in
    let parts : length face.partitions ≡ length n.starts = partitions_many n.starts n.ends face.partitions e in
    let range = h.1.1.1.1.1.1.1.1.1.1.1.1.0 in
    record {
      some_fields = omega (arith, many, s.some);
      few_fields = omega (arith, many, s.few);
      fields = fields_good n.moduli n.offsets face.fields m o s.offsets;
      tpm_small = rest_small n face.fields h m;
      delimiter = d;
      some_partitions = omega (arith, parts, range.0);
      few_partitions = omega (arith, parts, range.1);
      partitions = partitions_good n.starts n.ends face.partitions e;
      total_small = t;
    }
