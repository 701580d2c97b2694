-- The reader of fields and of the partition meets what a clock string is: a text that is read is spelled so, and a text that
-- is spelled so is read.
use Rattle.std.proofs.Common.{◌≡◌, ℕ, zero, suc, ◌<◌, Bool, true, false, ◌&&◌, ◌==◌, inl, inr, refl, sym, ap, ◌∙◌, subst, arith, Option, Some, None, List, [], ◌∷◌, ◌++◌, length, append_assoc}
use Rattle.std.proofs.lemmas.Bool.{cases_Bool}
use Rattle.std.proofs.lemmas.Bool.Decides.{nat_tests}
use Rattle.std.proofs.lemmas.List.Folds.{list_all-append}
use Rattle.std.specs.Char.{is_ascii_digit}
use Rattle.st_text.specs.Bytes.{is_blank, are_blanks, are_digits}
use Rattle.st_text.specs.Lines.{skip_blanks}
use Rattle.st_text.specs.Scan.{leading_digits, past_digits}
use Rattle.st_text.proofs.Logic.{and-left, and-right}
use Rattle.st_text.proofs.Runs.{Stops, joined, leading_passes, leading-at, behind-at}
use Rattle.st_ticks.specs.ClockText.{is_mark, IsRun, IsGap, IsSeparator, SpellsFields}
use Rattle.st_ticks.specs.TextMachine.{past_mark, past_gap, past_slash, past_separator, Next, stop, last, more, next_of, onto, runs_from, runs_of, runs, partition_in}
use Rattle.st_ticks.proofs.RunLaws.{Past, by_mark, by_gap, separator_is, IsLast, IsMore, is_last, is_more, runs_last, runs_more}

-- bytes of one kind are of no other
pub blank_no_digit : (b : ℕ) → is_blank b ≡ true → is_ascii_digit b ≡ false
blank_no_digit b h = grind (arith, nat_tests)

pub mark_no_digit : (b : ℕ) → is_mark b ≡ true → is_ascii_digit b ≡ false
mark_no_digit b h = grind (arith, nat_tests)

pub mark_no_blank : (b : ℕ) → is_mark b ≡ true → is_blank b ≡ false
mark_no_blank b h = grind (arith, nat_tests)

pub digit_no_blank : (b : ℕ) → is_ascii_digit b ≡ true → is_blank b ≡ false
digit_no_blank b h = grind (arith, nat_tests)

pub digit_no_mark : (b : ℕ) → is_ascii_digit b ≡ true → is_mark b ≡ false
digit_no_mark b h = grind (arith, nat_tests)

pub digit_no_slash : (b : ℕ) → is_ascii_digit b ≡ true → (b == 47) ≡ false
digit_no_slash b h = grind (arith, nat_tests)

pub mark_no_slash : (b : ℕ) → is_mark b ≡ true → (b == 47) ≡ false
mark_no_slash b h = grind (arith, nat_tests)

-- blanks that a text begins with are skipped, and nothing else is
pub skipped : (t : List ℕ) → (front : List ℕ) × (are_blanks front ≡ true) × (t ≡ front ++ skip_blanks t)
skipped [] = ([], refl, refl)
skipped (b ∷ t) =
    elim (cases_Bool (is_blank b)) [
      | inl h ↦ let more = skipped t in (b ∷ more.0, rw h more.1, rw h (ap (λ (u : List ℕ). b ∷ u) more.2))
      | inr h ↦ ([], refl, rw h refl)
    ]

-- a text that has no byte or whose first byte is no blank
abbrev pub NoBlank : List ℕ → Type 0
NoBlank [] = Unit {0}
NoBlank (b ∷ t) = is_blank b ≡ false

skip-stop : (t : List ℕ) → NoBlank t → skip_blanks t ≡ t
skip-stop [] h = refl
skip-stop (b ∷ t) h = rw h refl

pub skip-at : (front t : List ℕ) → are_blanks front ≡ true → NoBlank t → skip_blanks (front ++ t) ≡ t
skip-at [] t h s = skip-stop t s
skip-at (b ∷ front) t h s = rw (and-left (is_blank b) (are_blanks front) h) (skip-at front t (and-right (is_blank b) (are_blanks front) h) s)

pub skip_all : (t : List ℕ) → are_blanks t ≡ true → skip_blanks t ≡ []
skip_all [] h = refl
skip_all (b ∷ t) h = rw (and-left (is_blank b) (are_blanks t) h) (skip_all t (and-right (is_blank b) (are_blanks t) h))

-- a text whose first byte is a digit
abbrev pub Starts : List ℕ → Type 0
Starts [] = ⊥
Starts (b ∷ t) = is_ascii_digit b ≡ true

pub starts_no_blank : (t : List ℕ) → Starts t → NoBlank t
starts_no_blank [] h = tt
starts_no_blank (b ∷ t) h = digit_no_blank b h

pub run_starts : (d t : List ℕ) → IsRun d → Starts (d ++ t)
run_starts [] t h = absurd (let some = h.some in omega arith)
run_starts (b ∷ d) t h = and-left (is_ascii_digit b) (are_digits d) h.digits

pub starts_more : (t u : List ℕ) → Starts t → Starts (t ++ u)
starts_more [] u h = absurd h
starts_more (b ∷ t) u h = h

starts_no_blanks : (t : List ℕ) → Starts t → are_blanks t ≡ false
starts_no_blanks [] h = absurd h
starts_no_blanks (b ∷ t) h = rw (digit_no_blank b h) refl

pub fields_start : (fields : List (List ℕ)) (t : List ℕ) → SpellsFields fields t → Starts t
fields_start [] t h = absurd h
fields_start (d ∷ []) t h = subst (λ (u : List ℕ). Starts u) (sym (h.1 ∙ nothing_more d)) (run_starts d [] h.0)
  where
    nothing_more : (e : List ℕ) → e ≡ e ++ []
    nothing_more [] = refl
    nothing_more (b ∷ e) = ap (λ (u : List ℕ). b ∷ u) (nothing_more e)
fields_start (d ∷ e ∷ others) t h = subst (λ (u : List ℕ). Starts u) (sym h.5) (run_starts d (h.0 ++ h.1) h.2)

-- what is after a mark
mark_parts : (t u : List ℕ) → past_mark t ≡ Some u → (mark : ℕ) × (after : List ℕ) × (is_mark mark ≡ true) × (are_blanks after ≡ true) × (t ≡ mark ∷ (after ++ u))
unfolding past_mark
mark_parts [] u e = absurd (cc)
mark_parts (b ∷ t) u e =
    elim (cases_Bool (is_mark b)) [
      | inl h ↦
          let same : Some (skip_blanks t) ≡ Some u = rw h at e in
          let is : skip_blanks t ≡ u = cc in
          let cut = skipped t in
          (b, cut.0, h, cut.1, ap (λ (v : List ℕ). b ∷ v) (cut.2 ∙ ap (λ (v : List ℕ). cut.0 ++ v) is))
      | inr h ↦ absurd (let none : None ≡ Some u = rw h at e in cc)
    ]

gap_parts : (t u : List ℕ) → past_gap t ≡ Some u → (gap : List ℕ) × IsGap gap × (t ≡ gap ++ u)
unfolding past_gap
gap_parts [] u e = absurd (cc)
gap_parts (b ∷ t) u e =
    elim (cases_Bool (is_blank b)) [
      | inl h ↦
          let same : Some (skip_blanks t) ≡ Some u = rw h at e in
          let is : skip_blanks t ≡ u = cc in
          let cut = skipped t in
          (b ∷ cut.0, record { blanks = rw h cut.1; some = omega arith }, ap (λ (v : List ℕ). b ∷ v) (cut.2 ∙ ap (λ (v : List ℕ). cut.0 ++ v) is))
      | inr h ↦ absurd (let none : None ≡ Some u = rw h at e in cc)
    ]

abbrev Separated : List ℕ → List ℕ → Type 0
Separated t u = (separator : List ℕ) × IsSeparator separator × (t ≡ separator ++ u)

past_parts : (t u : List ℕ) → Past t u → Separated t u
past_parts t u (by_mark e) =
    let cut = skipped t in
    let m = mark_parts (skip_blanks t) u e in (
      cut.0 ++ (m.0 ∷ m.1),
      inr (cut.0, m.1, m.0, m.2, record { blanks_before = cut.1; blanks_after = m.3; whole = refl }),
      cut.2 ∙ ap (λ (v : List ℕ). cut.0 ++ v) m.4 ∙ sym (append_assoc cut.0 (m.0 ∷ m.1) u),
    )
past_parts t u (by_gap n e) = let g = gap_parts t u e in (g.0, inl g.1, g.2)

pub separator_parts : (t u : List ℕ) → past_separator t ≡ Some u → Separated t u
separator_parts t u e = past_parts t u (separator_is t u e)

-- and back
mark_at : (mark : ℕ) (after u : List ℕ) → is_mark mark ≡ true → are_blanks after ≡ true → Starts u → past_mark (mark ∷ (after ++ u)) ≡ Some u
unfolding past_mark
mark_at mark after u h b s = rw h (ap (λ (v : List ℕ). Some v) (skip-at after u b (starts_no_blank u s)))

no_mark : (u : List ℕ) → Starts u → past_mark u ≡ None
unfolding past_mark
no_mark [] s = refl
no_mark (b ∷ u) s = rw (digit_no_mark b s) refl

gap_at : (gap u : List ℕ) → IsGap gap → Starts u → past_gap (gap ++ u) ≡ Some u
unfolding past_gap
gap_at [] u h s = absurd (let some = h.some in omega arith)
gap_at (b ∷ gap) u h s =
    rw (and-left (is_blank b) (are_blanks gap) h.blanks)
    (ap (λ (v : List ℕ). Some v) (skip-at gap u (and-right (is_blank b) (are_blanks gap) h.blanks) (starts_no_blank u s)))

-- a separator before a digit: it begins with no digit, it is no blanks to the end, and it is passed
record Passes (t u : List ℕ) : Type 0 where
  stops : Stops is_ascii_digit t
  ends_not : are_blanks t ≡ false
  passed : past_separator t ≡ Some u
  no_slash : past_slash (skip_blanks t) ≡ None

blanks_stop : (t u : List ℕ) → are_blanks t ≡ true → Stops is_ascii_digit u → Stops is_ascii_digit (t ++ u)
blanks_stop [] u h s = s
blanks_stop (b ∷ t) u h s = blank_no_digit b (and-left (is_blank b) (are_blanks t) h)

some_blanks_stop : (t u : List ℕ) → IsGap t → Stops is_ascii_digit (t ++ u)
some_blanks_stop [] u h = absurd (let some = h.some in omega arith)
some_blanks_stop (b ∷ t) u h = blank_no_digit b (and-left (is_blank b) (are_blanks t) h.blanks)

not_all : (t u : List ℕ) → are_blanks u ≡ false → are_blanks (t ++ u) ≡ false
not_all t u h = list_all-append is_blank t u ∙ rw h (no_and (are_blanks t))
  where
    no_and : (x : Bool) → (x && false) ≡ false
    no_and true = refl
    no_and false = refl

slash_none : (b : ℕ) (t : List ℕ) → (b == 47) ≡ false → past_slash (b ∷ t) ≡ None
unfolding past_slash
slash_none b t h = rw h refl

no_slash_at : (u : List ℕ) → Starts u → past_slash u ≡ None
no_slash_at [] s = absurd s
no_slash_at (b ∷ u) s = slash_none b u (digit_no_slash b s)

by_mark_at : (t u : List ℕ) (o : Option (List ℕ)) → o ≡ Some u
    → (elim o as (λ _. Option (List ℕ)) [ Some rest ↦ Some rest | None ↦ past_gap t ]) ≡ Some u
by_mark_at t u None e = absurd (cc)
by_mark_at t u (Some v) e = e

passed_by_mark : (t u : List ℕ) → past_mark (skip_blanks t) ≡ Some u → past_separator t ≡ Some u
unfolding past_separator
passed_by_mark t u e = by_mark_at t u (past_mark (skip_blanks t)) e

by_gap_at : (t u : List ℕ) (o : Option (List ℕ)) → o ≡ None → past_gap t ≡ Some u
    → (elim o as (λ _. Option (List ℕ)) [ Some rest ↦ Some rest | None ↦ past_gap t ]) ≡ Some u
by_gap_at t u None e g = g
by_gap_at t u (Some v) e g = absurd (cc)

passed_by_gap : (t u : List ℕ) → past_mark (skip_blanks t) ≡ None → past_gap t ≡ Some u → past_separator t ≡ Some u
unfolding past_separator
passed_by_gap t u e g = by_gap_at t u (past_mark (skip_blanks t)) e g

gap_passes : (gap u : List ℕ) → IsGap gap → Starts u → Passes (gap ++ u) u
gap_passes gap u h s =
    let skips : skip_blanks (gap ++ u) ≡ u = skip-at gap u h.blanks (starts_no_blank u s) in
    record {
      stops = some_blanks_stop gap u h;
      ends_not = not_all gap u (starts_no_blanks u s);
      passed = passed_by_gap (gap ++ u) u (ap past_mark skips ∙ no_mark u s) (gap_at gap u h s);
      no_slash = ap past_slash skips ∙ no_slash_at u s;
    }

mark_passes : (before after u : List ℕ) (mark : ℕ) → are_blanks before ≡ true → are_blanks after ≡ true → is_mark mark ≡ true → Starts u
    → Passes (before ++ (mark ∷ (after ++ u))) u
mark_passes before after u mark b a m s =
    let skips : skip_blanks (before ++ (mark ∷ (after ++ u))) ≡ mark ∷ (after ++ u) = skip-at before (mark ∷ (after ++ u)) b (mark_no_blank mark m) in
    record {
      stops = blanks_stop before (mark ∷ (after ++ u)) b (mark_no_digit mark m);
      ends_not = not_all before (mark ∷ (after ++ u)) (rw (mark_no_blank mark m) refl);
      passed = passed_by_mark (before ++ (mark ∷ (after ++ u))) u (ap past_mark skips ∙ mark_at mark after u m a s);
      no_slash = ap past_slash skips ∙ slash_none mark (after ++ u) (mark_no_slash mark m);
    }

separator_passes : (separator u : List ℕ) → IsSeparator separator → Starts u → Passes (separator ++ u) u
separator_passes separator u (inl gap) s = gap_passes separator u gap s
separator_passes separator u (inr (before, after, mark, m, h)) s =
    subst (λ (t : List ℕ). Passes t u) (sym (ap (λ (t : List ℕ). t ++ u) h.whole ∙ append_assoc before (mark ∷ after) u))
    (mark_passes before after u mark h.blanks_before h.blanks_after m s)

-- the last field, and a field before others
cut_run : (t d : List ℕ) → 0 < length d → d ≡ leading_digits t → IsRun d × (t ≡ d ++ past_digits t)
cut_run t d s e = (
  record { digits = ap are_digits e ∙ leading_passes is_ascii_digit t; some = s },
  sym (joined is_ascii_digit t) ∙ ap (λ (x : List ℕ). x ++ past_digits t) (sym e),
)

last_at : (d back : List ℕ) → IsRun d → are_blanks back ≡ true → IsLast (d ++ back) d
last_at d back h b = record {
  some = h.some;
  field = sym (leading-at is_ascii_digit d back h.digits (stops_at back b));
  blanks = ap are_blanks (behind-at is_ascii_digit d back h.digits (stops_at back b)) ∙ b;
}
  where
    stops_at : (t : List ℕ) → are_blanks t ≡ true → Stops is_ascii_digit t
    stops_at [] e = tt
    stops_at (c ∷ t) e = blank_no_digit c (and-left (is_blank c) (are_blanks t) e)

more_at : (d t u : List ℕ) → IsRun d → Passes t u → IsMore (d ++ t) d u
more_at d t u h p = record {
  some = h.some;
  field = sym (leading-at is_ascii_digit d t h.digits p.stops);
  no_blanks = ap are_blanks (behind-at is_ascii_digit d t h.digits p.stops) ∙ p.ends_not;
  rest = ap past_separator (behind-at is_ascii_digit d t h.digits p.stops) ∙ p.passed;
}

-- a text of fields and of blanks after them
pub record Fielded (fields : List (List ℕ)) (text : List ℕ) : Type 0 where
  pub body : List ℕ
  pub back : List ℕ
  pub spells : SpellsFields fields body
  pub blanks : are_blanks back ≡ true
  pub whole : text ≡ body ++ back

fielded_last : (t d : List ℕ) → IsLast t d → Fielded (d ∷ []) t
fielded_last t d h =
    let cut = cut_run t d h.some h.field in
    record { body = d; back = past_digits t; spells = (cut.0, refl); blanks = h.blanks; whole = cut.1 }

regrouped : (d s b k : List ℕ) → d ++ (s ++ (b ++ k)) ≡ (d ++ (s ++ b)) ++ k
regrouped d s b k = sym (append_assoc d (s ++ b) k ∙ ap (λ (x : List ℕ). d ++ x) (append_assoc s b k))

fielded_more : (t d u : List ℕ) (fields : List (List ℕ)) → IsMore t d u → Fielded fields u → Fielded (d ∷ fields) t
fielded_more t d u [] h f = absurd f.spells
fielded_more t d u (e ∷ others) h f =
    let cut = cut_run t d h.some h.field in
    let sep = separator_parts (past_digits t) u h.rest in
    record {
      body = d ++ (sep.0 ++ f.body);
      back = f.back;
      spells = (sep.0, f.body, cut.0, sep.1, f.spells, refl);
      blanks = f.blanks;
      whole = cut.1 ∙ ap (λ (x : List ℕ). d ++ x) (sep.2 ∙ ap (λ (x : List ℕ). sep.0 ++ x) f.whole) ∙ regrouped d sep.0 f.body f.back;
    }

onto_some : (d : List ℕ) (o : Option (List (List ℕ))) (fields : List (List ℕ)) → onto d o ≡ Some fields
    → (others : List (List ℕ)) × (o ≡ Some others) × (fields ≡ d ∷ others)
onto_some d None fields e = absurd (cc)
onto_some d (Some others) fields e = (others, refl, cc)

fielded_at : (n : ℕ) (t : List ℕ) (fields : List (List ℕ)) (x : Next) → ((u : List ℕ) (fs : List (List ℕ)) → runs_of n u ≡ Some fs → Fielded fs u)
    → next_of t ≡ x → runs_from (runs_of n) x ≡ Some fields → Fielded fields t
fielded_at n t fields stop go e h = absurd (cc)
fielded_at n t fields (last d) go e h =
    let same : fields ≡ d ∷ [] = cc in
    subst (λ (fs : List (List ℕ)). Fielded fs t) (sym same) (fielded_last t d (is_last t d e))
fielded_at n t fields (more d u) go e h =
    let some = onto_some d (runs_of n u) fields h in
    subst (λ (fs : List (List ℕ)). Fielded fs t) (sym some.2) (fielded_more t d u some.0 (is_more t d u e) (go u some.0 some.1))

fielded_of : (n : ℕ) (t : List ℕ) (fields : List (List ℕ)) → runs_of n t ≡ Some fields → Fielded fields t
unfolding runs_of
fielded_of zero t fields h = absurd (cc)
fielded_of (suc n) t fields h = fielded_at n t fields (next_of t) (λ u fs e. fielded_of n u fs e) refl h

pub fielded : (t : List ℕ) (fields : List (List ℕ)) → runs t ≡ Some fields → Fielded fields t
fielded t fields h = fielded_of (length t) t fields h

pub runs_at : (fields : List (List ℕ)) (body back : List ℕ) → SpellsFields fields body → are_blanks back ≡ true → runs (body ++ back) ≡ Some fields
runs_at [] body back h b = absurd h
runs_at (d ∷ []) body back h b = ap (λ (t : List ℕ). runs (t ++ back)) h.1 ∙ runs_last (d ++ back) d (last_at d back h.0 b)
runs_at (d ∷ e ∷ others) body back h b =
    let u : List ℕ = h.1 ++ back in
    let starts : Starts u = starts_more h.1 back (fields_start (e ∷ others) h.1 h.4) in
    let next : IsMore (d ++ (h.0 ++ u)) d u = more_at d (h.0 ++ u) u h.2 (separator_passes h.0 u h.3 starts) in
    ap (λ (t : List ℕ). runs (t ++ back)) h.5 ∙ ap runs (sym (regrouped d h.0 h.1 back)) ∙ runs_more (d ++ (h.0 ++ u)) d u next
    ∙ ap (onto d) (runs_at (e ∷ others) h.1 back h.4 b)

-- a slash with blanks around it, before a digit
slash_at : (after u : List ℕ) → are_blanks after ≡ true → Starts u → past_slash (47 ∷ (after ++ u)) ≡ Some u
unfolding past_slash
slash_at after u a s = ap (λ (v : List ℕ). Some v) (skip-at after u a (starts_no_blank u s))

pub slash_behind : (before after u : List ℕ) → are_blanks before ≡ true → are_blanks after ≡ true → Starts u
    → Stops is_ascii_digit (before ++ (47 ∷ (after ++ u))) × (past_slash (skip_blanks (before ++ (47 ∷ (after ++ u)))) ≡ Some u)
slash_behind before after u b a s = (
  blanks_stop before (47 ∷ (after ++ u)) b refl,
  ap past_slash (skip-at before (47 ∷ (after ++ u)) b refl) ∙ slash_at after u a s,
)

-- a text of fields begins with no partition
no_partition_at : (d t : List ℕ) → IsRun d → Stops is_ascii_digit t → past_slash (skip_blanks t) ≡ None → partition_in (d ++ t) ≡ None
unfolding partition_in
no_partition_at d t h s e =
    let cut : leading_digits (d ++ t) ≡ d = leading-at is_ascii_digit d t h.digits s in
    let behind : past_digits (d ++ t) ≡ t = behind-at is_ascii_digit d t h.digits s in
    elim (cases_Bool (length d == 0)) [ inl z ↦ rw (cut, z) refl | inr z ↦ rw (cut, z, behind, e) refl ]

slash_at_end : past_slash [] ≡ None
unfolding past_slash
slash_at_end = refl

pub no_partition_fields : (fields : List (List ℕ)) (body back : List ℕ) → SpellsFields fields body → are_blanks back ≡ true → partition_in (body ++ back) ≡ None
no_partition_fields [] body back h b = absurd h
no_partition_fields (d ∷ []) body back h b =
    ap (λ (t : List ℕ). partition_in (t ++ back)) h.1
    ∙ no_partition_at d back h.0 (end_stops back b) (ap past_slash (skip_all back b) ∙ slash_at_end)
  where
    end_stops : (t : List ℕ) → are_blanks t ≡ true → Stops is_ascii_digit t
    end_stops [] e = tt
    end_stops (c ∷ t) e = blank_no_digit c (and-left (is_blank c) (are_blanks t) e)
no_partition_fields (d ∷ e ∷ others) body back h b =
    let u : List ℕ = h.1 ++ back in
    let starts : Starts u = starts_more h.1 back (fields_start (e ∷ others) h.1 h.4) in
    let p = separator_passes h.0 u h.3 starts in
    ap (λ (t : List ℕ). partition_in (t ++ back)) h.5 ∙ ap partition_in (sym (regrouped d h.0 h.1 back))
    ∙ no_partition_at d (h.0 ++ u) h.2 p.stops p.no_slash
