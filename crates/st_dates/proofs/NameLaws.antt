-- Looking a month's name up gives the month that it names, and no other.
use Rattle.std.proofs.Common.{◌≡◌, ℕ, zero, suc, ◌+◌, ◌-◌, ◌<◌, ◌≤◌, ◌⊎◌, true, false, inl, inr, refl, sym, ap, ◌∙◌, arith, List, [], ◌∷◌, length, take, drop, slice_index_or, Option, Some, None, IfSome, if◌then◌else◌, Bool, ◌&&◌, ◌||◌, nat_le, ◌++◌}
use Rattle.std.proofs.lemmas.Bool.{cases_Bool, or_cases}
use Rattle.std.proofs.lemmas.Slice.Eq.{bytes_eq-Decides}
use Rattle.std.proofs.lemmas.Bool.Decides.{nat_tests}
use Rattle.std.specs.Char.{is_ascii_digit, to_ascii_lowercase}
use Rattle.std.specs.List.{list_all}
use Rattle.std.specs.Str.{bytes_eq}
use Rattle.st_dates.specs.DayTextMachine.{is_no_dash}
use Rattle.st_dates.specs.Names.{NamesMonth, name_of_month, month_names, lowered, AreSameLetters}
use Rattle.st_dates.specs.NamesMachine.{is_name, month_from, month_named}
use Rattle.st_text.proofs.Logic.{and-left, and-right}
use Rattle.st_text.proofs.Runs.{Stops}

-- a fact about each month, from one proof for each
by_month : (P : ℕ → Type 0) → P 1 → P 2 → P 3 → P 4 → P 5 → P 6 → P 7 → P 8 → P 9 → P 10 → P 11 → P 12 → (m : ℕ) → 1 ≤ m → m ≤ 12 → P m
by_month P a b c d e f g h i j k l zero low high = absurd (omega arith)
by_month P a b c d e f g h i j k l (suc zero) low high = a
by_month P a b c d e f g h i j k l (suc (suc zero)) low high = b
by_month P a b c d e f g h i j k l (suc (suc (suc zero))) low high = c
by_month P a b c d e f g h i j k l (suc (suc (suc (suc zero)))) low high = d
by_month P a b c d e f g h i j k l (suc (suc (suc (suc (suc zero))))) low high = e
by_month P a b c d e f g h i j k l (suc (suc (suc (suc (suc (suc zero)))))) low high = f
by_month P a b c d e f g h i j k l (suc (suc (suc (suc (suc (suc (suc zero))))))) low high = g
by_month P a b c d e f g h i j k l (suc (suc (suc (suc (suc (suc (suc (suc zero)))))))) low high = h
by_month P a b c d e f g h i j k l (suc (suc (suc (suc (suc (suc (suc (suc (suc zero))))))))) low high = i
by_month P a b c d e f g h i j k l (suc (suc (suc (suc (suc (suc (suc (suc (suc (suc zero)))))))))) low high = j
by_month P a b c d e f g h i j k l (suc (suc (suc (suc (suc (suc (suc (suc (suc (suc (suc zero))))))))))) low high = k
by_month P a b c d e f g h i j k l (suc (suc (suc (suc (suc (suc (suc (suc (suc (suc (suc (suc zero)))))))))))) low high = l
by_month P a b c d e f g h i j k l (suc (suc (suc (suc (suc (suc (suc (suc (suc (suc (suc (suc (suc m))))))))))))) low high = absurd (omega arith)

-- the turn of month m
turn : (m : ℕ) (text : List ℕ) → 1 ≤ m → m ≤ 12 → month_from m text (drop (m - 1) month_names) ≡ (if is_name text (name_of_month m) then Some m else month_from (m + 1) text (drop (m + 1 - 1) month_names))
unfolding month_from
turn m text low high =
    let P : ℕ → Type 0 = λ m. month_from m text (drop (m - 1) month_names) ≡ (if is_name text (name_of_month m) then Some m else month_from (m + 1) text (drop (m + 1 - 1) month_names)) in
    by_month P refl refl refl refl refl refl refl refl refl refl refl refl m low high

step : (n : ℕ) (text full : List ℕ) (names : List (List ℕ)) → month_from n text (full ∷ names) ≡ (if is_name text full then Some n else month_from (suc n) text names)
unfolding month_from
step n text full names = refl

none_left : (n : ℕ) (text : List ℕ) → month_from n text [] ≡ None
unfolding month_from
none_left n text = refl

-- month m is in the list, which begins with month n, and the text is its name
pub record Found (n m : ℕ) (text : List ℕ) (names : List (List ℕ)) : Type 0 where
  pub low : n ≤ m
  pub high : m < n + length names
  pub here : is_name text (slice_index_or names (m - n) []) ≡ true

at_once : (n : ℕ) (text full : List ℕ) (names : List (List ℕ)) (m : ℕ) → n ≡ m → is_name text full ≡ true → Found n m text (full ∷ names)
at_once n text full names m e h =
    let none : m - n ≡ 0 = omega arith in
    record { low = omega arith; high = omega arith; here = rw none h }

later : (n : ℕ) (text full : List ℕ) (names : List (List ℕ)) (m : ℕ) → Found (suc n) m text names → Found n m text (full ∷ names)
later n text full names m h =
    let next : m - n ≡ suc (m - suc n) = omega arith in
    record { low = omega arith; high = omega arith; here = rw next h.here }

pub found : (n : ℕ) (text : List ℕ) (names : List (List ℕ)) (m : ℕ) → month_from n text names ≡ Some m → Found n m text names
found n text [] m e = absurd (let no = none_left n text in cc)
found n text (full ∷ names) m e =
    elim (cases_Bool (is_name text full)) [
      | inl t ↦ let s = rw t at (step n text full names) in let same : n ≡ m = cc in at_once n text full names m same t
      | inr f ↦ let s = rw f at (step n text full names) in later n text full names m (found (suc n) text names m (sym s ∙ e))
    ]

letters : (text full : List ℕ) → is_name (lowered text) full ≡ true → AreSameLetters text full ⊎ AreSameLetters text (take 3 full)
letters text full h =
    elim (or_cases (bytes_eq (lowered text) (lowered full)) (bytes_eq (lowered text) (lowered (take 3 full))) h) [
      | inl t ↦ inl ((bytes_eq-Decides (lowered text) (lowered full)).0 t)
      | inr t ↦ inr ((bytes_eq-Decides (lowered text) (lowered (take 3 full))).0 t)
    ]

names_it : (text : List ℕ) (m : ℕ) → Found 1 m (lowered text) month_names → NamesMonth text m
names_it text m h =
    let high : m < 13 = h.high in
    record { month_from = h.low; month_to = omega arith; letters = letters text (name_of_month m) h.here }

-- what is found is named
pub named : (o : Option ℕ) (text : List ℕ) → o ≡ month_named text → IfSome o (NamesMonth text)
named None text e = tt
named (Some m) text e = names_it text m (found 1 (lowered text) month_names m (sym e))

abbrev IsEither : List ℕ → List ℕ → Type 0
IsEither text full = (text ≡ lowered full) ⊎ (text ≡ lowered (take 3 full))

either : (text full : List ℕ) (r : Option ℕ) → month_from 1 (lowered full) month_names ≡ r → month_from 1 (lowered (take 3 full)) month_names ≡ r → IsEither text full → month_from 1 text month_names ≡ r
either text full r a b (inl e) = rw e a
either text full r a b (inr e) = rw e b

-- a text in lower case that is a month's name or its first three letters
only_of : (m : ℕ) (text : List ℕ) → 1 ≤ m → m ≤ 12 → IsEither text (name_of_month m) → month_from 1 text month_names ≡ Some m
unfolding month_from
only_of m text low high =
    let P : ℕ → Type 0 = λ m. IsEither text (name_of_month m) → month_from 1 text month_names ≡ Some m in
    let at : (m : ℕ) → month_from 1 (lowered (name_of_month m)) month_names ≡ Some m → month_from 1 (lowered (take 3 (name_of_month m))) month_names ≡ Some m → P m = λ m a b. either text (name_of_month m) (Some m) a b in
    by_month P (at 1 refl refl) (at 2 refl refl) (at 3 refl refl) (at 4 refl refl) (at 5 refl refl) (at 6 refl refl) (at 7 refl refl) (at 8 refl refl) (at 9 refl refl) (at 10 refl refl) (at 11 refl refl) (at 12 refl refl) m low high

-- what is named is found
pub only : (text : List ℕ) (m : ℕ) → NamesMonth text m → month_named text ≡ Some m
only text m h = only_of m (lowered text) h.month_from h.month_to h.letters

-- the loop over the months: the name is this month's
pub hit : (m : ℕ) (name full : List ℕ) (b : Bool) → 1 ≤ m → m ≤ 12 → month_from m (lowered name) (drop (m - 1) month_names) ≡ month_named name → full ≡ name_of_month m → b ≡ is_name (lowered name) full → b ≡ true → Some m ≡ month_named name
hit m name full b low high inv e is t =
    let here : is_name (lowered name) (name_of_month m) ≡ true = ap (λ (f : List ℕ). is_name (lowered name) f) (sym e) ∙ sym is ∙ t in
    sym (rw here at (turn m (lowered name) low high)) ∙ inv

-- or it's not
pub miss : (m : ℕ) (name full : List ℕ) (b : Bool) → 1 ≤ m → m ≤ 12 → month_from m (lowered name) (drop (m - 1) month_names) ≡ month_named name → full ≡ name_of_month m → b ≡ is_name (lowered name) full → b ≡ false → month_from (m + 1) (lowered name) (drop (m + 1 - 1) month_names) ≡ month_named name
miss m name full b low high inv e is t =
    let here : is_name (lowered name) (name_of_month m) ≡ false = ap (λ (f : List ℕ). is_name (lowered name) f) (sym e) ∙ sym is ∙ t in
    sym (rw here at (turn m (lowered name) low high)) ∙ inv

-- and none is left
pub last : (m : ℕ) (name : List ℕ) → m ≡ 13 → month_from m (lowered name) (drop (m - 1) month_names) ≡ month_named name → None ≡ month_named name
unfolding month_from
last m name e inv = rw e at inv

-- what is found is named
pub names : (text : List ℕ) (m : ℕ) → month_named text ≡ Some m → NamesMonth text m
names text m e = named (Some m) text (sym e)

-- a letter of the alphabet
abbrev pub is_letter : ℕ → Bool
is_letter b = (nat_le 65 b && nat_le b 90) || (nat_le 97 b && nat_le b 122)

lower_letter : (b : ℕ) → is_letter (to_ascii_lowercase b) ≡ is_letter b
lower_letter b = grind (arith, nat_tests)

pub lower_letters : (t : List ℕ) → list_all is_letter (lowered t) ≡ list_all is_letter t
lower_letters [] = refl
lower_letters (b ∷ t) = rw (lower_letter b, lower_letters t) refl

pub lower_length : (t : List ℕ) → length (lowered t) ≡ length t
lower_length [] = refl
lower_length (b ∷ t) = ap suc (lower_length t)

-- a text that is the same as letters is letters
pub same_letters : (text full : List ℕ) → AreSameLetters text full → list_all is_letter full ≡ true → list_all is_letter text ≡ true
same_letters text full e h =
    sym (lower_letters text) ∙ ap (λ (t : List ℕ). list_all is_letter t) e ∙ lower_letters full ∙ h

pub same_length : (text full : List ℕ) → AreSameLetters text full → length text ≡ length full
same_length text full e = sym (lower_length text) ∙ ap (λ (t : List ℕ). length t) e ∙ lower_length full

-- letters pass a test that each letter passes, and stop one that each fails
pub letters_pass : (p : ℕ → Bool) → ((b : ℕ) → is_letter b ≡ true → p b ≡ true) → (t : List ℕ) → list_all is_letter t ≡ true → list_all p t ≡ true
letters_pass p each [] h = refl
letters_pass p each (b ∷ t) h =
    rw (each b (and-left (is_letter b) (list_all is_letter t) h)) (letters_pass p each t (and-right (is_letter b) (list_all is_letter t) h))

pub letters_stop : (p : ℕ → Bool) → ((b : ℕ) → is_letter b ≡ true → p b ≡ false) → (t rest : List ℕ) → list_all is_letter t ≡ true → 1 ≤ length t → Stops p (t ++ rest)
letters_stop p each [] rest h some = absurd (let n : 1 ≤ 0 = some in omega arith)
letters_stop p each (b ∷ t) rest h some = each b (and-left (is_letter b) (list_all is_letter t) h)

-- a name or its first three letters are letters, at least one
unfoldable AreLetters : ℕ → Type 0
AreLetters m =
    (list_all is_letter (name_of_month m) ≡ true)
    × (list_all is_letter (take 3 (name_of_month m)) ≡ true)
    × (nat_le 1 (length (name_of_month m)) ≡ true)
    × (nat_le 1 (length (take 3 (name_of_month m))) ≡ true)

letters_in : (m : ℕ) → 1 ≤ m → m ≤ 12 → AreLetters m
unfolding AreLetters
letters_in = by_month AreLetters (refl, refl, refl, refl) (refl, refl, refl, refl) (refl, refl, refl, refl) (refl, refl, refl, refl) (refl, refl, refl, refl) (refl, refl, refl, refl) (refl, refl, refl, refl) (refl, refl, refl, refl) (refl, refl, refl, refl) (refl, refl, refl, refl) (refl, refl, refl, refl) (refl, refl, refl, refl)

pub name_letters : (text : List ℕ) (m : ℕ) → NamesMonth text m → list_all is_letter text ≡ true
unfolding AreLetters
name_letters text m h =
    let each = letters_in m h.month_from h.month_to in
    elim h.letters [
      | inl e ↦ same_letters text (name_of_month m) e each.0
      | inr e ↦ same_letters text (take 3 (name_of_month m)) e each.1
    ]

at_least_one : (a b : ℕ) → a ≡ b → nat_le 1 b ≡ true → 1 ≤ a
at_least_one a b e h = grind (arith, nat_tests)

pub name_some : (text : List ℕ) (m : ℕ) → NamesMonth text m → 1 ≤ length text
unfolding AreLetters
name_some text m h =
    let each = letters_in m h.month_from h.month_to in
    elim h.letters [
      | inl e ↦ at_least_one (length text) (length (name_of_month m)) (same_length text (name_of_month m) e) each.2
      | inr e ↦ at_least_one (length text) (length (take 3 (name_of_month m))) (same_length text (take 3 (name_of_month m)) e) each.3
    ]

letter_no_dash : (b : ℕ) → is_letter b ≡ true → is_no_dash b ≡ true
letter_no_dash b h = grind (arith, nat_tests)

letter_no_digit : (b : ℕ) → is_letter b ≡ true → is_ascii_digit b ≡ false
letter_no_digit b h = grind (arith, nat_tests)

-- a month's name has no dash in it
pub no_dash : (text : List ℕ) (m : ℕ) → NamesMonth text m → list_all is_no_dash text ≡ true
no_dash text m h = letters_pass is_no_dash letter_no_dash text (name_letters text m h)

-- and begins with no digit
pub no_digit : (text rest : List ℕ) (m : ℕ) → NamesMonth text m → Stops is_ascii_digit (text ++ rest)
no_digit text rest m h =
    letters_stop is_ascii_digit letter_no_digit text rest (name_letters text m h) (name_some text m h)
