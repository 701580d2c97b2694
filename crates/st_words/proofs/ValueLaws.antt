-- A value is read exactly where its words spell what an option means.
use Rattle.std.proofs.Common.{one-add, ◌≡◌, ℕ, zero, suc, ◌+◌, ◌-◌, ◌^◌, ◌≤◌, Bool, true, false, not, ◌||◌, ◌&&◌, eqb, nat_lt, cond, Option, Some, None, Result, Ok, Err, List, [], ◌∷◌, ◌++◌, length, take, drop, inl, inr, refl, sym, ap, ◌∙◌, subst, arith}
use Rattle.std.specs.Prelude.{nat_le, option_map}
use Rattle.std.specs.List.{prefix_len}
use Rattle.std.proofs.lemmas.Bool.{cases_Bool}
use Rattle.std.proofs.lemmas.Bool.Decides.{nat_tests}
use Rattle.std.proofs.lemmas.Option.{same_Some}
use Rattle.st_text.specs.Bytes.{are_digits, number_of}
use Rattle.st_words.specs.Cut.{HasValue}
use Rattle.st_words.specs.Values.{SpellsNumber, SpellsClock, IsName, joined, opt_of, Spells, HasCount, AtOption, Ends, ArePlain, IsValue, IsBadAt}
use Rattle.st_words.specs.WordsMachine.{◌>>=◌, is_plain, system_of, type_of, number_within, clock_of, is_name, meaning_of, bad_of, ok_or, single_of, value_of, at_least, counted, value_count}
use Rattle.st_words.specs.declared.choice.Choice.{Choice}
use Rattle.st_words.specs.declared.choice.Choice.TheVariants as choices
use Rattle.st_words.specs.declared.fault.WordFault.{WordFault}
use Rattle.st_words.specs.declared.fault.WordFault.TheVariants.{BadValue, BadNumber}
use Rattle.st_words.specs.declared.opt.Opt.{Opt}
use Rattle.st_words.specs.declared.opt.Opt.TheVariants.{Setup, From, FromType, To, ToType, Format, Time, Batch, Sample, Sc, Back}
use Rattle.st_words.proofs.NameLaws.{plain_test, plain_is, not_plain, system_found, system_is, type_found, type_is}

abbrev ok_value : {A : Type 0} → A → Result A WordFault → A
ok_value d (Ok x) = x
ok_value d (Err f) = d

pub same_Ok : {A : Type 0} (x y : A) → ◌≡◌ {A = Result A WordFault} (Ok x) (Ok y) → x ≡ y
same_Ok {A = A} x y e =
    let f : Result A WordFault → A = λ r. ok_value x r in
    ap f e

abbrev fault_value : {A : Type 0} → WordFault → Result A WordFault → WordFault
fault_value d (Ok x) = d
fault_value d (Err f) = f

pub same_Err : (A : Type 0) (x y : WordFault) → ◌≡◌ {A = Result A WordFault} (Err x) (Err y) → x ≡ y
same_Err A x y e =
    let f : Result A WordFault → WordFault = λ r. fault_value x r in
    ap f e

abbrev refusal : WordFault → Result Choice WordFault
refusal fault = Err fault

-- numbers
number_by : (low high v n : ℕ) (empty digits : Bool) → empty ≡ false → digits ≡ true → v ≡ n → low ≤ n → n ≤ high
    → cond (empty || not digits) None (cond (nat_le low v && nat_le v high) (Some v) None) ≡ Some n
number_by low high v n empty digits e d is from to = grind (arith, nat_tests)

pub number_found : (low high : ℕ) (text : List ℕ) (n : ℕ) → SpellsNumber low high text n → number_within low high text ≡ Some n
unfolding number_within
number_found low high text n s =
    let some = s.some in
    number_by low high (number_of text) n (eqb (length text) 0) (are_digits text) (grind (arith, nat_tests)) s.digits s.value s.at_least s.at_most

record Within (low high v n : ℕ) (empty digits : Bool) : Type 0 where
  some : empty ≡ false
  digits_are : digits ≡ true
  value : v ≡ n
  from : low ≤ n
  to : n ≤ high

number_by_is : (low high v n : ℕ) (empty digits : Bool)
    → cond (empty || not digits) None (cond (nat_le low v && nat_le v high) (Some v) None) ≡ Some n → Within low high v n empty digits
number_by_is low high v n true digits e = absurd cc
number_by_is low high v n false false e = absurd cc
number_by_is low high v n false true e = elim (cases_Bool (nat_le low v && nat_le v high)) [
  | inl h ↦
      let is = same_Some v n (rw h at e) in
      record { some = refl; digits_are = refl; value = is; from = grind (arith, nat_tests); to = grind (arith, nat_tests) }
  | inr f ↦ let bad = rw f at e in absurd cc
]

pub number_is : (low high : ℕ) (text : List ℕ) (n : ℕ) → number_within low high text ≡ Some n → SpellsNumber low high text n
unfolding number_within
number_is low high text n e =
    let w = number_by_is low high (number_of text) n (eqb (length text) 0) (are_digits text) e in
    let some = w.some in
    record { some = grind (arith, nat_tests); digits = w.digits_are; value = w.value; at_least = w.from; at_most = w.to }

pub clock_found : (text : List ℕ) (n : ℕ) → SpellsClock text n → clock_of text ≡ Some n
clock_found text n s = rw s.signed (number_found 1 999_999_999 s.digits n s.number)

clock_by : (b : ℕ) (digits : List ℕ) (n : ℕ) (t : Bool) → eqb b 45 ≡ t → cond t (number_within 1 999_999_999 digits) None ≡ Some n → SpellsClock (b ∷ digits) n
clock_by b digits n false t e = absurd cc
clock_by b digits n true t e =
    let is : b ≡ 45 = grind (arith, nat_tests) in
    record { digits = digits; signed = ap (λ (x : ℕ). x ∷ digits) is; number = number_is 1 999_999_999 digits n e }

pub clock_is : (text : List ℕ) (n : ℕ) → clock_of text ≡ Some n → SpellsClock text n
clock_is [] n e = absurd cc
clock_is (b ∷ digits) n e = clock_by b digits n (eqb b 45) refl e

name_test : (word : List ℕ) → IsName word → is_name word ≡ true
name_test word h = let some = h.some in let few = h.few in grind (arith, nat_tests)

name_is : (word : List ℕ) → is_name word ≡ true → IsName word
name_is word h = record { some = grind (arith, nat_tests); few = grind (arith, nat_tests) }

-- what is spelled is read
pub value_found : (place : ℕ) (choice : Choice) (values : List (List ℕ)) → Spells choice values → value_of (opt_of choice) place values ≡ Ok choice
value_found place (choices.Setup name) values s = rw s.0 (rw (name_test name s.1) refl)
value_found place (choices.From system) values s = rw s.1 (rw (system_found s.0 system s.2) refl)
value_found place (choices.FromType kind) values s = rw s.1 (rw (type_found s.0 kind s.2) refl)
value_found place (choices.To system) values s = rw s.1 (rw (system_found s.0 system s.2) refl)
value_found place (choices.ToType kind) values s = rw s.1 (rw (type_found s.0 kind s.2) refl)
value_found place (choices.Format text) values s = ap (λ (t : List ℕ). Ok (choices.Format t)) (sym s)
value_found place (choices.Time text) values s = ap (λ (t : List ℕ). Ok (choices.Time t)) (sym s)
value_found place choices.Batch values s = refl
value_found place (choices.Sample lines seed) values s =
    rw s.2 (rw (number_found 1 1_000_000 s.0 lines s.3) (rw (number_found 0 (2 ^ 64 - 1) s.1 seed s.4) refl))
value_found place (choices.Sc clock) values s = rw s.1 (rw (clock_found s.0 clock s.2) refl)
value_found place choices.Back values s = refl

-- what was read is spelled
abbrev IsRead : Opt → List (List ℕ) → Choice → Type 0
IsRead opt values choice = (opt_of choice ≡ opt) × Spells choice values

one_word : (values : List (List ℕ)) → length values ≡ 1 → (word : List ℕ) × (values ≡ word ∷ [])
one_word [] h = absurd (omega arith)
one_word (word ∷ []) h = (word, refl)
one_word (word ∷ other ∷ more) h = absurd (omega arith)

two_words : (values : List (List ℕ)) → length values ≡ 2 → (a b : List ℕ) × (values ≡ a ∷ b ∷ [])
two_words [] h = absurd (omega arith)
two_words (a ∷ []) h = absurd (omega arith)
two_words (a ∷ b ∷ []) h = (a, b, refl)
two_words (a ∷ b ∷ c ∷ more) h = absurd (omega arith)

no_words : (values : List (List ℕ)) → length values ≡ 0 → values ≡ []
no_words [] h = refl
no_words (word ∷ more) h = absurd (omega arith)

-- a value that is found by a search means what the search found
mapped : {A : Type 0} (P : Choice → Type 0) (f : A → Choice) (o : Option A) (fault : WordFault) (choice : Choice) → ((x : A) → o ≡ Some x → P (f x))
    → ok_or (option_map f o) fault ≡ Ok choice → P choice
mapped P f None fault choice found e = absurd cc
mapped P f (Some x) fault choice found e = subst P (same_Ok (f x) choice e) (found x refl)

named : (P : Choice → Type 0) (t : Bool) (x choice : Choice) (fault : WordFault) → (t ≡ true → P x) → ok_or (cond t (Some x) None) fault ≡ Ok choice → P choice
named P false x choice fault found e = absurd cc
named P true x choice fault found e = subst P (same_Ok x choice e) (found refl)

abbrev sample_by : Option ℕ → Option ℕ → WordFault → WordFault → Result Choice WordFault
sample_by a b f g = ok_or a f >>= λ n. ok_or b g >>= λ s. Ok (choices.Sample n s)

sampled : (P : Choice → Type 0) (a b : Option ℕ) (f g : WordFault) (choice : Choice)
    → ((n s : ℕ) → a ≡ Some n → b ≡ Some s → P (choices.Sample n s)) → sample_by a b f g ≡ Ok choice → P choice
sampled P None b f g choice found e = absurd cc
sampled P (Some n) None f g choice found e = absurd cc
sampled P (Some n) (Some s) f g choice found e = subst P (same_Ok (choices.Sample n s) choice e) (found n s refl refl)

pub value_is : (opt : Opt) (place : ℕ) (values : List (List ℕ)) (choice : Choice) → HasCount opt (length values) → value_of opt place values ≡ Ok choice
    → IsRead opt values choice
value_is Setup place values choice count e =
    let one = one_word values count in
    named (IsRead Setup values) (is_name one.0) (choices.Setup one.0) choice (BadValue (place + 1)) (λ h. (refl, (one.1, name_is one.0 h))) (rw one.1 at e)
value_is From place values choice count e =
    let one = one_word values count in
    mapped (IsRead From values) (λ s. choices.From s) (system_of one.0) (BadValue (place + 1)) choice (λ s h. (refl, (one.0, one.1, system_is one.0 s h))) (rw one.1 at e)
value_is FromType place values choice count e =
    let one = one_word values count in
    mapped (IsRead FromType values) (λ t. choices.FromType t) (type_of one.0) (BadValue (place + 1)) choice (λ t h. (refl, (one.0, one.1, type_is one.0 t h))) (rw one.1 at e)
value_is To place values choice count e =
    let one = one_word values count in
    mapped (IsRead To values) (λ s. choices.To s) (system_of one.0) (BadValue (place + 1)) choice (λ s h. (refl, (one.0, one.1, system_is one.0 s h))) (rw one.1 at e)
value_is ToType place values choice count e =
    let one = one_word values count in
    mapped (IsRead ToType values) (λ t. choices.ToType t) (type_of one.0) (BadValue (place + 1)) choice (λ t h. (refl, (one.0, one.1, type_is one.0 t h))) (rw one.1 at e)
value_is Format place values choice count e = subst (IsRead Format values) (same_Ok (choices.Format (joined values)) choice e) (refl, refl)
value_is Time place values choice count e = subst (IsRead Time values) (same_Ok (choices.Time (joined values)) choice e) (refl, refl)
value_is Batch place values choice count e = subst (IsRead Batch values) (same_Ok choices.Batch choice e) (refl, no_words values count)
value_is Sample place values choice count e =
    let two = two_words values count in
    sampled (IsRead Sample values) (number_within 1 1_000_000 two.0) (number_within 0 (2 ^ 64 - 1) two.1) (BadNumber (place + 1)) (BadNumber (place + 2)) choice
    (λ n s h k. (refl, (two.0, two.1, two.2, number_is 1 1_000_000 two.0 n h, number_is 0 (2 ^ 64 - 1) two.1 s k))) (rw two.2 at e)
value_is Sc place values choice count e =
    let one = one_word values count in
    mapped (IsRead Sc values) (λ n. choices.Sc n) (clock_of one.0) (BadNumber (place + 1)) choice (λ n h. (refl, (one.0, one.1, clock_is one.0 n h))) (rw one.1 at e)
value_is Back place values choice count e = subst (IsRead Back values) (same_Ok choices.Back choice e) (refl, no_words values count)

-- words that are not read spell nothing
pub spells_none : (opt : Opt) (place : ℕ) (values : List (List ℕ)) (fault : WordFault) → value_of opt place values ≡ Err fault
    → (choice : Choice) → opt_of choice ≡ opt → Spells choice values → ⊥
spells_none opt place values fault e choice is s =
    let P : Opt → Type 0 = λ o. value_of o place values ≡ Ok choice in
    let read = subst P is (value_found place choice values s) in
    let bad : Err fault ≡ Ok choice = sym e ∙ read in
    absurd cc

-- the place of the first bad word, where the value was not read
abbrev IsBad : Opt → ℕ → List (List ℕ) → WordFault → Type 0
IsBad opt place values fault = (k : ℕ) × IsBadAt opt values k × (fault ≡ bad_of opt (place + k))

mapped_bad : {A : Type 0} (f : A → Choice) (o : Option A) (bad fault : WordFault) → ok_or (option_map f o) bad ≡ Err fault → fault ≡ bad
mapped_bad f None bad fault e = sym (same_Err Choice bad fault e)
mapped_bad f (Some x) bad fault e = absurd cc

named_bad : (t : Bool) (x : Choice) (bad fault : WordFault) → ok_or (cond t (Some x) None) bad ≡ Err fault → fault ≡ bad
named_bad true x bad fault e = absurd cc
named_bad false x bad fault e = sym (same_Err Choice bad fault e)

sample_bad : (place : ℕ) (a b : List ℕ) (n s : Option ℕ) (fault : WordFault) → number_within 1 1_000_000 a ≡ n → number_within 0 (2 ^ 64 - 1) b ≡ s
    → sample_by n s (BadNumber (place + 1)) (BadNumber (place + 2)) ≡ Err fault → IsBad Sample place (a ∷ b ∷ []) fault
sample_bad place a b None s fault en es e =
    (1, inl ((λ n h. let bad = sym en ∙ number_found 1 1_000_000 a n h in absurd cc), refl), sym (same_Err Choice (BadNumber (place + 1)) fault e))
sample_bad place a b (Some n) None fault en es e = (
  2,
  inr (n, number_is 1 1_000_000 a n en, (λ m h. let bad = sym es ∙ number_found 0 (2 ^ 64 - 1) b m h in absurd cc), refl),
  sym (same_Err Choice (BadNumber (place + 2)) fault e),
)
sample_bad place a b (Some n) (Some s) fault en es e = absurd cc

single_bad : (opt : Opt) (place : ℕ) (word : List ℕ) (fault : WordFault) → single_of opt place word ≡ Err fault → fault ≡ bad_of opt (place + 1)
single_bad opt place word fault e = or_bad (meaning_of opt word) (bad_of opt (place + 1)) fault e
  where
    or_bad : (o : Option Choice) (bad f : WordFault) → ok_or o bad ≡ Err f → f ≡ bad
    or_bad None bad f h = sym (same_Err Choice bad f h)
    or_bad (Some x) bad f h = absurd cc

pub bad_is : (opt : Opt) (place : ℕ) (values : List (List ℕ)) (fault : WordFault) → HasCount opt (length values) → value_of opt place values ≡ Err fault
    → IsBad opt place values fault
bad_is Setup place values fault count e =
    let one = one_word values count in
    (1, (spells_none Setup place values fault e, refl), single_bad Setup place one.0 fault (rw one.1 at e))
bad_is From place values fault count e =
    let one = one_word values count in
    (1, (spells_none From place values fault e, refl), single_bad From place one.0 fault (rw one.1 at e))
bad_is FromType place values fault count e =
    let one = one_word values count in
    (1, (spells_none FromType place values fault e, refl), single_bad FromType place one.0 fault (rw one.1 at e))
bad_is To place values fault count e =
    let one = one_word values count in
    (1, (spells_none To place values fault e, refl), single_bad To place one.0 fault (rw one.1 at e))
bad_is ToType place values fault count e =
    let one = one_word values count in
    (1, (spells_none ToType place values fault e, refl), single_bad ToType place one.0 fault (rw one.1 at e))
bad_is Sc place values fault count e =
    let one = one_word values count in
    (1, (spells_none Sc place values fault e, refl), single_bad Sc place one.0 fault (rw one.1 at e))
bad_is Format place values fault count e = absurd cc
bad_is Time place values fault count e = absurd cc
bad_is Batch place values fault count e = absurd cc
bad_is Back place values fault count e = absurd cc
bad_is Sample place values fault count e =
    let two = two_words values count in
    let P : List (List ℕ) → Type 0 = λ v. IsBad Sample place v fault in
    subst P (sym two.2)
    (sample_bad place two.0 two.1 (number_within 1 1_000_000 two.0) (number_within 0 (2 ^ 64 - 1) two.1) fault refl refl (rw two.2 at e))

-- the value of a bad word is not read
refused_by : (opt : Opt) (place : ℕ) (values : List (List ℕ)) (k : ℕ) (r : Result Choice WordFault) → value_of opt place values ≡ r → HasCount opt (length values)
    → ((choice : Choice) → opt_of choice ≡ opt → Spells choice values → ⊥) → k ≡ 1
    → ((fault : WordFault) → value_of opt place values ≡ Err fault → fault ≡ bad_of opt (place + 1)) → value_of opt place values ≡ Err (bad_of opt (place + k))
refused_by opt place values k (Ok choice) e count none one bad =
    let read = value_is opt place values choice count e in
    absurd (none choice read.0 read.1)
refused_by opt place values k (Err fault) e count none one bad =
    e ∙ ap refusal (bad fault e ∙ ap (λ (j : ℕ). bad_of opt (place + j)) (sym one))

first_bad : (opt : Opt) (place : ℕ) (values : List (List ℕ)) → HasCount opt (length values) → ((k : ℕ) → IsBadAt opt values k → k ≡ 1)
    → (fault : WordFault) → value_of opt place values ≡ Err fault → fault ≡ bad_of opt (place + 1)
first_bad opt place values count one fault e =
    let bad = bad_is opt place values fault count e in
    bad.2 ∙ ap (λ (j : ℕ). bad_of opt (place + j)) (one bad.0 bad.1)

sample_refused : (place : ℕ) (a b : List ℕ) (k : ℕ) → IsBadAt Sample (a ∷ b ∷ []) k → value_of Sample place (a ∷ b ∷ []) ≡ Err (BadNumber (place + k))
sample_refused place a b k (inl h) = lines_refused (number_within 1 1_000_000 a) refl
  where
    lines_refused : (n : Option ℕ) → number_within 1 1_000_000 a ≡ n → value_of Sample place (a ∷ b ∷ []) ≡ Err (BadNumber (place + k))
    lines_refused None e = rw e (ap (λ (j : ℕ). refusal (BadNumber (place + j))) (sym h.1))
    lines_refused (Some n) e = absurd (h.0 n (number_is 1 1_000_000 a n e))
sample_refused place a b k (inr h) = rw (number_found 1 1_000_000 a h.0 h.1) (seed_refused (number_within 0 (2 ^ 64 - 1) b) refl)
  where
    seed_refused : (s : Option ℕ) → number_within 0 (2 ^ 64 - 1) b ≡ s
        → (ok_or (number_within 0 (2 ^ 64 - 1) b) (BadNumber (place + 2)) >>= λ m. Ok (choices.Sample h.0 m)) ≡ Err (BadNumber (place + k))
    seed_refused None e = rw e (ap (λ (j : ℕ). refusal (BadNumber (place + j))) (sym h.3))
    seed_refused (Some s) e = absurd (h.2 s (number_is 0 (2 ^ 64 - 1) b s e))

pub bad_found : (opt : Opt) (place : ℕ) (values : List (List ℕ)) (k : ℕ) → HasCount opt (length values) → IsBadAt opt values k
    → value_of opt place values ≡ Err (bad_of opt (place + k))
bad_found Setup place values k count b = refused_by Setup place values k _ refl count b.0 b.1 (first_bad Setup place values count (λ j h. h.1))
bad_found From place values k count b = refused_by From place values k _ refl count b.0 b.1 (first_bad From place values count (λ j h. h.1))
bad_found FromType place values k count b = refused_by FromType place values k _ refl count b.0 b.1 (first_bad FromType place values count (λ j h. h.1))
bad_found To place values k count b = refused_by To place values k _ refl count b.0 b.1 (first_bad To place values count (λ j h. h.1))
bad_found ToType place values k count b = refused_by ToType place values k _ refl count b.0 b.1 (first_bad ToType place values count (λ j h. h.1))
bad_found Format place values k count b = refused_by Format place values k _ refl count b.0 b.1 (first_bad Format place values count (λ j h. h.1))
bad_found Time place values k count b = refused_by Time place values k _ refl count b.0 b.1 (first_bad Time place values count (λ j h. h.1))
bad_found Batch place values k count b = refused_by Batch place values k _ refl count b.0 b.1 (first_bad Batch place values count (λ j h. h.1))
bad_found Sc place values k count b = refused_by Sc place values k _ refl count b.0 b.1 (first_bad Sc place values count (λ j h. h.1))
bad_found Back place values k count b = refused_by Back place values k _ refl count b.0 b.1 (first_bad Back place values count (λ j h. h.1))
bad_found Sample place values k count b =
    let two = two_words values count in
    let P : List (List ℕ) → Type 0 = λ v. value_of Sample place v ≡ Err (BadNumber (place + k)) in
    subst P (sym two.2) (sample_refused place two.0 two.1 k (rw two.2 at b))

-- how many words a value has
front_plain : (values rest : List (List ℕ)) → ArePlain values → prefix_len is_plain (values ++ rest) ≡ length values + prefix_len is_plain rest
front_plain [] rest p = omega arith
front_plain (word ∷ values) rest p =
    let step : prefix_len is_plain (word ∷ (values ++ rest)) ≡ 1 + prefix_len is_plain (values ++ rest) =
    ap (λ (b : Bool). cond b (1 + prefix_len is_plain (values ++ rest)) 0) (plain_test word p.0) in
    omega (arith, step, front_plain values rest p.1)

rest_none : (rest : List (List ℕ)) → AtOption rest → prefix_len is_plain rest ≡ 0
rest_none [] a = refl
rest_none (word ∷ more) a = elim (cases_Bool (is_plain word)) [
  | inl h ↦ absurd (plain_is word h a.0 a.1)
  | inr f ↦ rw f refl
]

least_found : (wanted plain n : ℕ) → wanted ≡ n → wanted ≤ plain → at_least wanted plain ≡ Some n
least_found wanted plain n e h = grind (arith, nat_tests)

all_found : (plain n : ℕ) → plain ≡ n → 1 ≤ n → cond (eqb plain 0) None (Some plain) ≡ Some n
all_found plain n e h = grind (arith, nat_tests)

pub count_found : (opt : Opt) (values rest : List (List ℕ)) → IsValue opt values rest → value_count opt (values ++ rest) ≡ Some (length values)
count_found opt values rest v =
    let front = front_plain values rest v.plain in
    by opt v.count v.ends front
  where
    by : (o : Opt) → HasCount o (length values) → Ends o rest → prefix_len is_plain (values ++ rest) ≡ length values + prefix_len is_plain rest
        → counted o (prefix_len is_plain (values ++ rest)) ≡ Some (length values)
    by Setup count ends e = least_found 1 _ _ (sym count) (omega arith)
    by From count ends e = least_found 1 _ _ (sym count) (omega arith)
    by FromType count ends e = least_found 1 _ _ (sym count) (omega arith)
    by To count ends e = least_found 1 _ _ (sym count) (omega arith)
    by ToType count ends e = least_found 1 _ _ (sym count) (omega arith)
    by Sc count ends e = least_found 1 _ _ (sym count) (omega arith)
    by Sample count ends e = least_found 2 _ _ (sym count) (omega arith)
    by Batch count ends e = ap (λ (n : ℕ). Some n) (sym count)
    by Back count ends e = ap (λ (n : ℕ). Some n) (sym count)
    by Format count ends e = all_found _ _ (omega (arith, e, rest_none rest ends)) count
    by Time count ends e = all_found _ _ (omega (arith, e, rest_none rest ends)) count

-- as many words as stand before the next option are plain
take_plain : (more : List (List ℕ)) (n : ℕ) → n ≤ prefix_len is_plain more → ArePlain (take n more) × (length (take n more) ≡ n)
take_plain more zero h = (tt, refl)
take_plain [] (suc n) h = absurd (omega arith)
take_plain (word ∷ more) (suc n) h = elim (cases_Bool (is_plain word)) [
  | inl t ↦
      let rest = take_plain more n (let k = rw t at h in omega arith) in
      ((plain_is word t, rest.0), ap (λ (k : ℕ). suc k) rest.1)
  | inr f ↦ absurd (let k = rw f at h in omega arith)
]

behind_plain : (more : List (List ℕ)) → AtOption (drop (prefix_len is_plain more) more)
behind_plain [] = tt
behind_plain (word ∷ more) =
    let P : ℕ → Type 0 = λ k. AtOption (drop k (word ∷ more)) in
    let length_by : Bool → ℕ = λ b. cond b (1 + prefix_len is_plain more) 0 in
    elim (cases_Bool (is_plain word)) [
      | inl t ↦ subst P (sym (ap length_by t ∙ one-add (prefix_len is_plain more))) (behind_plain more)
      | inr f ↦ subst P (sym (ap length_by f)) (not_plain word f)
    ]

least_is : (wanted plain n : ℕ) → at_least wanted plain ≡ Some n → (n ≡ wanted) × (n ≤ plain)
least_is wanted plain n e = elim (cases_Bool (nat_lt plain wanted)) [
  | inl t ↦ absurd (let bad = rw t at e in cc)
  | inr f ↦
      let is : wanted ≡ n = same_Some wanted n (rw f at e) in
      (sym is, grind (arith, nat_tests))
]

all_is : (plain n : ℕ) → cond (eqb plain 0) None (Some plain) ≡ Some n → (n ≡ plain) × (1 ≤ n)
all_is plain n e = elim (cases_Bool (eqb plain 0)) [
  | inl t ↦ absurd (let bad = rw t at e in cc)
  | inr f ↦
      let is : plain ≡ n = same_Some plain n (rw f at e) in
      (sym is, grind (arith, nat_tests))
]

-- the words of a value, by their count
record IsCounted (opt : Opt) (more : List (List ℕ)) (n : ℕ) : Type 0 where
  few : n ≤ prefix_len is_plain more
  count : HasCount opt n
  ends : Ends opt (drop n more)

drop_at : (more : List (List ℕ)) (n : ℕ) → n ≡ prefix_len is_plain more → AtOption (drop n more)
drop_at more n e =
    let P : ℕ → Type 0 = λ k. AtOption (drop k more) in
    subst P (sym e) (behind_plain more)

counted_is : (opt : Opt) (more : List (List ℕ)) (n : ℕ) → value_count opt more ≡ Some n → IsCounted opt more n
counted_is Setup more n e = let l = least_is 1 _ n e in record { few = l.1; count = l.0; ends = tt }
counted_is From more n e = let l = least_is 1 _ n e in record { few = l.1; count = l.0; ends = tt }
counted_is FromType more n e = let l = least_is 1 _ n e in record { few = l.1; count = l.0; ends = tt }
counted_is To more n e = let l = least_is 1 _ n e in record { few = l.1; count = l.0; ends = tt }
counted_is ToType more n e = let l = least_is 1 _ n e in record { few = l.1; count = l.0; ends = tt }
counted_is Sc more n e = let l = least_is 1 _ n e in record { few = l.1; count = l.0; ends = tt }
counted_is Sample more n e = let l = least_is 2 _ n e in record { few = l.1; count = l.0; ends = tt }
counted_is Batch more n e = let z : 0 ≡ n = same_Some 0 n e in record { few = omega arith; count = sym z; ends = tt }
counted_is Back more n e = let z : 0 ≡ n = same_Some 0 n e in record { few = omega arith; count = sym z; ends = tt }
counted_is Format more n e =
    let l = all_is (prefix_len is_plain more) n e in
    let same : n ≡ prefix_len is_plain more = l.0 in
    record { few = omega arith; count = l.1; ends = drop_at more n same }
counted_is Time more n e =
    let l = all_is (prefix_len is_plain more) n e in
    let same : n ≡ prefix_len is_plain more = l.0 in
    record { few = omega arith; count = l.1; ends = drop_at more n same }

pub count_is : (opt : Opt) (more : List (List ℕ)) (n : ℕ) → value_count opt more ≡ Some n → IsValue opt (take n more) (drop n more) × (length (take n more) ≡ n)
count_is opt more n e =
    let c = counted_is opt more n e in
    let front = take_plain more n c.few in
    let P : ℕ → Type 0 = λ k. HasCount opt k in
    (record { plain = front.0; count = subst P (sym front.1) c.count; ends = c.ends }, front.1)

pub count_none : (opt : Opt) (more : List (List ℕ)) → value_count opt more ≡ None → HasValue opt more → ⊥
count_none opt more e h =
    let P : List (List ℕ) → Type 0 = λ m. value_count opt m ≡ Some (length h.0) in
    let found : value_count opt more ≡ Some (length h.0) = subst P (sym h.2) (count_found opt h.0 h.1 h.3) in
    let bad = sym e ∙ found in
    absurd cc
