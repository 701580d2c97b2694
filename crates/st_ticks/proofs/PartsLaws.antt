-- The parts of a clock string: a text has one list of them, and the reader finds it.
use Rattle.std.proofs.Common.{◌≡◌, ℕ, ◌<◌, true, false, ◌==◌, inl, inr, refl, sym, ap, ◌∙◌, subst, arith, Option, Some, None, List, [], ◌∷◌, ◌++◌, length, append_assoc}
use Rattle.std.proofs.lemmas.Bool.{cases_Bool}
use Rattle.std.proofs.lemmas.Bool.Decides.{nat_tests}
use Rattle.std.proofs.lemmas.Option.{some_pair_parts}
use Rattle.std.specs.Char.{is_ascii_digit}
use Rattle.st_text.specs.Bytes.{are_blanks, are_digits}
use Rattle.st_text.specs.Lines.{skip_blanks}
use Rattle.st_text.specs.Scan.{leading_digits, past_digits}
use Rattle.st_text.proofs.Logic.{bound}
use Rattle.st_text.proofs.Runs.{Stops, joined, leading_passes, leading-at, behind-at}
use Rattle.st_ticks.specs.ClockText.{IsRun, Parts, SpellsFields, SpellsPartition, Spells}
use Rattle.st_ticks.specs.TextMachine.{past_slash, runs, partition_in, with_fields, parts_after, parts_of}
use Rattle.st_ticks.proofs.TextLaws.{skipped, Starts, skip-at, starts_no_blank, starts_more, run_starts, fields_start, Fielded, fielded, runs_at, slash_behind, no_partition_fields}

some_digits : (d : List ℕ) → (length d == 0) ≡ false → 0 < length d
some_digits d h = grind (arith, nat_tests)

no_digits : (n : ℕ) → 0 < n → (n == 0) ≡ false
no_digits n h = grind (arith, nat_tests)

-- what is after a slash
slash_parts : (t u : List ℕ) → past_slash t ≡ Some u → (after : List ℕ) × (are_blanks after ≡ true) × (t ≡ 47 ∷ (after ++ u))
unfolding past_slash
slash_parts [] u e = absurd (cc)
slash_parts (b ∷ t) u e =
    elim (cases_Bool (b == 47)) [
      | inl h ↦
          let same : Some (skip_blanks t) ≡ Some u = rw h at e in
          let is : skip_blanks t ≡ u = cc in
          let slash : b ≡ 47 = grind (arith, nat_tests) in
          let cut = skipped t in
          (cut.0, cut.1, ap (λ (c : ℕ). c ∷ t) slash ∙ ap (λ (v : List ℕ). 47 ∷ v) (cut.2 ∙ ap (λ (v : List ℕ). cut.0 ++ v) is))
      | inr h ↦ absurd (let none : None ≡ Some u = rw h at e in cc)
    ]

-- the partition that the text begins with, and the rest
record Partitioned (t d u : List ℕ) : Type 0 where
  text : List ℕ
  spells : SpellsPartition (Some d) text
  whole : t ≡ text ++ u

partitioned_at : (t d u : List ℕ) → 0 < length (leading_digits t) → past_slash (skip_blanks (past_digits t)) ≡ Some u → leading_digits t ≡ d → Partitioned t d u
partitioned_at t d u some e same =
    let cut = skipped (past_digits t) in
    let s = slash_parts (skip_blanks (past_digits t)) u e in
    record {
      text = d ++ (cut.0 ++ (47 ∷ s.0));
      spells = (
        cut.0,
        s.0,
        cut.0 ++ (47 ∷ s.0),
        record { digits = ap are_digits (sym same) ∙ leading_passes is_ascii_digit t; some = subst (λ (x : List ℕ). 0 < length x) same some },
        record { blanks_before = cut.1; blanks_after = s.1; whole = refl },
        refl,
      );
      whole =
          sym (joined is_ascii_digit t) ∙ ap (λ (x : List ℕ). x ++ past_digits t) same
          ∙ ap (λ (x : List ℕ). d ++ x) (cut.2 ∙ ap (λ (x : List ℕ). cut.0 ++ x) s.2)
          ∙ ap (λ (x : List ℕ). d ++ x) (sym (append_assoc cut.0 (47 ∷ s.0) u)) ∙ sym (append_assoc d (cut.0 ++ (47 ∷ s.0)) u);
    }

partitioned : (t d u : List ℕ) → partition_in t ≡ Some (d, u) → Partitioned t d u
unfolding partition_in
partitioned t d u e =
    elim (cases_Bool (length (leading_digits t) == 0)) [
      | inl z ↦ absurd (let none : ◌≡◌ {A = Option (List ℕ × List ℕ)} None (Some (d, u)) = rw z at e in cc)
      | inr z ↦
          let b = bound (past_slash (skip_blanks (past_digits t))) (λ rest. Some (leading_digits t, rest)) (d, u) (rw z at e) in
          let p = some_pair_parts (leading_digits t) d b.0 u b.2 in
          partitioned_at t d u (some_digits (leading_digits t) z) (b.1 ∙ ap (λ (x : List ℕ). Some x) p.1) p.0
    ]

partition_at : (d slash t u : List ℕ) → IsRun d → Stops is_ascii_digit slash → past_slash (skip_blanks slash) ≡ Some u → t ≡ d ++ slash → partition_in t ≡ Some (d, u)
unfolding partition_in
partition_at d slash t u h s e f =
    let cut : leading_digits t ≡ d = ap leading_digits f ∙ leading-at is_ascii_digit d slash h.digits s in
    let behind : past_digits t ≡ slash = ap past_digits f ∙ behind-at is_ascii_digit d slash h.digits s in
    let some : (length d == 0) ≡ false = no_digits (length d) h.some in
    rw (cut, some, behind, e) refl

-- the whole text
with_some : (partition : Option (List ℕ)) (o : Option (List (List ℕ))) (p : Parts) → with_fields partition o ≡ Some p
    → (fields : List (List ℕ)) × (o ≡ Some fields) × (p ≡ record { partition = partition; fields = fields })
with_some partition None p e = absurd (cc)
with_some partition (Some fields) p e = (fields, refl, cc)

spelled_alone : (text : List ℕ) (fields : List (List ℕ)) → Fielded fields (skip_blanks text) → Spells (record { partition = None; fields = fields }) text
spelled_alone text fields f =
    let cut = skipped text in
    record {
      front = cut.0;
      partition = [];
      fields = f.body;
      back = f.back;
      blanks_front = cut.1;
      blanks_back = f.blanks;
      partition_is = refl;
      fields_are = f.spells;
      whole = cut.2 ∙ ap (λ (x : List ℕ). cut.0 ++ x) f.whole;
    }

spelled_with : (text d u : List ℕ) (fields : List (List ℕ)) → Partitioned (skip_blanks text) d u → Fielded fields u
    → Spells (record { partition = Some d; fields = fields }) text
spelled_with text d u fields p f =
    let cut = skipped text in
    record {
      front = cut.0;
      partition = p.text;
      fields = f.body;
      back = f.back;
      blanks_front = cut.1;
      blanks_back = f.blanks;
      partition_is = p.spells;
      fields_are = f.spells;
      whole = cut.2 ∙ ap (λ (x : List ℕ). cut.0 ++ x) (p.whole ∙ ap (λ (x : List ℕ). p.text ++ x) f.whole);
    }

spelled_after : (text : List ℕ) (o : Option (List ℕ × List ℕ)) (p : Parts) → partition_in (skip_blanks text) ≡ o → parts_after (skip_blanks text) o ≡ Some p → Spells p text
spelled_after text None p e h =
    let w = with_some None (runs (skip_blanks text)) p h in
    subst (λ (q : Parts). Spells q text) (sym w.2) (spelled_alone text w.0 (fielded (skip_blanks text) w.0 w.1))
spelled_after text (Some (d, u)) p e h =
    let w = with_some (Some d) (runs u) p h in
    subst (λ (q : Parts). Spells q text) (sym w.2) (spelled_with text d u w.0 (partitioned (skip_blanks text) d u e) (fielded u w.0 w.1))

-- what is read is spelled
pub parts_spelled : (text : List ℕ) (p : Parts) → parts_of text ≡ Some p → Spells p text
unfolding parts_of
parts_spelled text p e = spelled_after text (partition_in (skip_blanks text)) p refl e

-- what is spelled is read
read_alone : (front body back text : List ℕ) (fields : List (List ℕ)) → are_blanks front ≡ true → are_blanks back ≡ true → SpellsFields fields body
    → text ≡ front ++ (body ++ back) → parts_of text ≡ Some (record { partition = None; fields = fields })
unfolding parts_of
read_alone front body back text fields f b h w =
    let starts : Starts (body ++ back) = starts_more body back (fields_start fields body h) in
    let skips : skip_blanks text ≡ body ++ back = ap skip_blanks w ∙ skip-at front (body ++ back) f (starts_no_blank (body ++ back) starts) in
    rw (skips, no_partition_fields fields body back h b, runs_at fields body back h b) refl

read_with : (front d slash body back text : List ℕ) (fields : List (List ℕ)) → are_blanks front ≡ true → are_blanks back ≡ true → IsRun d
    → Stops is_ascii_digit slash → past_slash (skip_blanks slash) ≡ Some (body ++ back) → SpellsFields fields body
    → text ≡ front ++ (d ++ slash) → parts_of text ≡ Some (record { partition = Some d; fields = fields })
unfolding parts_of
read_with front d slash body back text fields f b r s e h w =
    let starts : Starts (d ++ slash) = run_starts d slash r in
    let skips : skip_blanks text ≡ d ++ slash = ap skip_blanks w ∙ skip-at front (d ++ slash) f (starts_no_blank (d ++ slash) starts) in
    rw (skips, partition_at d slash (d ++ slash) (body ++ back) r s e refl, runs_at fields body back h b) refl

read_spelled : (partition : Option (List ℕ)) (fields : List (List ℕ)) (front written body back text : List ℕ) → are_blanks front ≡ true → are_blanks back ≡ true
    → SpellsPartition partition written → SpellsFields fields body → text ≡ front ++ (written ++ (body ++ back))
    → parts_of text ≡ Some (record { partition = partition; fields = fields })
read_spelled None fields front written body back text f b p h w =
    read_alone front body back text fields f b h (w ∙ ap (λ (x : List ℕ). front ++ (x ++ (body ++ back))) p)
read_spelled (Some d) fields front written body back text f b p h w =
    let s = p.4 in
    let starts : Starts (body ++ back) = starts_more body back (fields_start fields body h) in
    let behind = slash_behind p.0 p.1 (body ++ back) s.blanks_before s.blanks_after starts in
    let slash : p.2 ++ (body ++ back) ≡ p.0 ++ (47 ∷ (p.1 ++ (body ++ back))) =
    ap (λ (x : List ℕ). x ++ (body ++ back)) s.whole ∙ append_assoc p.0 (47 ∷ p.1) (body ++ back) in
    read_with front d (p.0 ++ (47 ∷ (p.1 ++ (body ++ back)))) body back text fields f b p.3 behind.0 behind.1 h
    (w ∙ ap (λ (x : List ℕ). front ++ (x ++ (body ++ back))) p.5 ∙ ap (λ (x : List ℕ). front ++ x) (append_assoc d p.2 (body ++ back))
    ∙ ap (λ (x : List ℕ). front ++ (d ++ x)) slash)

pub spelled_parts : (text : List ℕ) (p : Parts) → Spells p text → parts_of text ≡ Some p
spelled_parts text p s =
    read_spelled p.partition p.fields s.front s.partition s.fields s.back text s.blanks_front s.blanks_back s.partition_is s.fields_are s.whole

pub parts_are_one : (text : List ℕ) (p q : Parts) → Spells p text → Spells q text → p ≡ q
parts_are_one text p q s t = let a = spelled_parts text p s in let b = spelled_parts text q t in cc
