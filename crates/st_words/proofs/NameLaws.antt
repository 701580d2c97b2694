-- The words of options, systems and types are found exactly where they are named.
use Rattle.std.proofs.Common.{◌≡◌, ◌⊎◌, ℕ, Bool, true, false, not, ◌||◌, cond, Option, Some, None, List, [], ◌∷◌, codes, inl, inr, refl, sym, ap, ◌∙◌, subst}
use Rattle.std.specs.Prelude.{is_some, find, if◌then◌else◌}
use Rattle.std.specs.Str.{bytes_eq, str_eq_ignore_ascii_case}
use Rattle.std.proofs.lemmas.Bool.{cases_Bool}
use Rattle.std.proofs.lemmas.Option.{same_Some}
use Rattle.std.proofs.lemmas.Slice.Eq.{bytes_eq-Decides}
use Rattle.st_dates.specs.Names.{lowered, AreSameLetters}
use Rattle.st_dates.specs.declared.system.System.{System}
use Rattle.st_dates.specs.declared.system.System.TheVariants.{Utc, Tai, Tt, Tdb, Sclk}
use Rattle.st_words.specs.OptionWords.{word_of, IsWordOf, IsPlain}
use Rattle.st_words.specs.Values.{NamesSystem, NamesType}
use Rattle.st_words.specs.WordsMachine.{all_options, option_of, is_plain, system_of, type_of}
use Rattle.st_words.specs.declared.opt.Opt.{Opt}
use Rattle.st_words.specs.declared.opt.Opt.TheVariants.{Setup, From, FromType, To, ToType, Format, Time, Batch, Sample, Sc, Back}
use Rattle.st_words.specs.declared.time_type.TimeType.{TimeType}
use Rattle.st_words.specs.declared.time_type.TimeType.TheVariants as types

passes : (text full : List ℕ) → str_eq_ignore_ascii_case text full ≡ true → AreSameLetters text full
passes text full h = (bytes_eq-Decides (lowered text) (lowered full)).0 h

-- what is found passes the test
find_passes : {X : Type 0} (p : X → Bool) (xs : List X) (x : X) → find p xs ≡ Some x → p x ≡ true
find_passes p [] x e = absurd cc
find_passes {X = X} p (y ∷ xs) x e = elim (cases_Bool (p y)) [
  | inl h ↦
      let P : X → Type 0 = λ z. p z ≡ true in
      subst P (same_Some y x (rw h at e)) h
  | inr f ↦ find_passes p xs x (rw f at e)
]

abbrev option_lower : List ℕ → Option Opt
option_lower low = find (λ opt. bytes_eq low (lowered (word_of opt))) all_options

by_option : (word : List ℕ) → option_of word ≡ option_lower (lowered word)
unfolding option_of
by_option word = refl

pub option_found : (word : List ℕ) (opt : Opt) → IsWordOf opt word → option_of word ≡ Some opt
option_found word Setup e = by_option word ∙ ap option_lower e
option_found word From e = by_option word ∙ ap option_lower e
option_found word FromType e = by_option word ∙ ap option_lower e
option_found word To e = by_option word ∙ ap option_lower e
option_found word ToType e = by_option word ∙ ap option_lower e
option_found word Format e = by_option word ∙ ap option_lower e
option_found word Time e = by_option word ∙ ap option_lower e
option_found word Batch e = by_option word ∙ ap option_lower e
option_found word Sample e = by_option word ∙ ap option_lower e
option_found word Sc e = by_option word ∙ ap option_lower e
option_found word Back e = by_option word ∙ ap option_lower e

pub option_is : (word : List ℕ) (opt : Opt) → option_of word ≡ Some opt → IsWordOf opt word
unfolding option_of
option_is word opt e = passes word (word_of opt) (find_passes (λ o. str_eq_ignore_ascii_case word (word_of o)) all_options opt e)

-- a word that names no option is plain
plain_by : (word : List ℕ) (found : Option Opt) → option_of word ≡ found → IsPlain word → not (is_some found) ≡ true
plain_by word None e p = refl
plain_by word (Some opt) e p = absurd (p opt (option_is word opt e))

pub plain_test : (word : List ℕ) → IsPlain word → is_plain word ≡ true
plain_test word p = plain_by word (option_of word) refl p

pub plain_is : (word : List ℕ) → is_plain word ≡ true → IsPlain word
plain_is word h opt e =
    let found = option_found word opt e in
    let bad : false ≡ true = sym (ap (λ (o : Option Opt). not (is_some o)) found) ∙ h in
    absurd cc

pub none_is : (word : List ℕ) → option_of word ≡ None → IsPlain word
none_is word e = plain_is word (ap (λ (o : Option Opt). not (is_some o)) e)

plain_by_none : (word : List ℕ) (found : Option Opt) → option_of word ≡ found → IsPlain word → found ≡ None
plain_by_none word None e p = refl
plain_by_none word (Some opt) e p = absurd (p opt (option_is word opt e))

pub plain_none : (word : List ℕ) → IsPlain word → option_of word ≡ None
plain_none word p = plain_by_none word (option_of word) refl p

option_by : (word : List ℕ) (found : Option Opt) → option_of word ≡ found → not (is_some found) ≡ false → (opt : Opt) × IsWordOf opt word
option_by word None e f = absurd cc
option_by word (Some opt) e f = (opt, option_is word opt e)

pub not_plain : (word : List ℕ) → is_plain word ≡ false → (opt : Opt) × IsWordOf opt word
not_plain word f = option_by word (option_of word) refl f

abbrev system_lower : List ℕ → Option System
system_lower low =
    if bytes_eq low (codes "utc") then Some Utc
    else (if bytes_eq low (codes "tai") then Some Tai
    else (if bytes_eq low (codes "tt") || bytes_eq low (codes "tdt") then Some Tt
    else (if bytes_eq low (codes "tdb") || bytes_eq low (codes "et") then Some Tdb
    else (if bytes_eq low (codes "sclk") then Some Sclk
    else None))))

by_system : (word : List ℕ) → system_of word ≡ system_lower (lowered word)
unfolding system_of
by_system word = refl

pub system_found : (word : List ℕ) (s : System) → NamesSystem word s → system_of word ≡ Some s
system_found word Utc e = by_system word ∙ ap system_lower e
system_found word Tai e = by_system word ∙ ap system_lower e
system_found word Tt (inl e) = by_system word ∙ ap system_lower e
system_found word Tt (inr e) = by_system word ∙ ap system_lower e
system_found word Tdb (inl e) = by_system word ∙ ap system_lower e
system_found word Tdb (inr e) = by_system word ∙ ap system_lower e
system_found word Sclk e = by_system word ∙ ap system_lower e

either_word : (word a b : List ℕ) → (str_eq_ignore_ascii_case word a || str_eq_ignore_ascii_case word b) ≡ true → AreSameLetters word a ⊎ AreSameLetters word b
either_word word a b h = elim (cases_Bool (str_eq_ignore_ascii_case word a)) [
  | inl x ↦ inl (passes word a x)
  | inr f ↦ inr (passes word b (rw f at h))
]

-- a chain of tests found the first that passed
chosen : {X : Type 0} (P : X → Type 0) (b : Bool) (x y : X) (rest : Option X) → (b ≡ true → P x) → (rest ≡ Some y → P y) → cond b (Some x) rest ≡ Some y → P y
chosen P true x y rest here later e = subst P (same_Some x y e) (here refl)
chosen P false x y rest here later e = later e

pub system_is : (word : List ℕ) (s : System) → system_of word ≡ Some s → NamesSystem word s
unfolding system_of
system_is word s e =
    let P : System → Type 0 = λ t. NamesSystem word t in
    chosen P _ Utc s _ (passes word (codes "UTC")) (λ e1.
    chosen P _ Tai s _ (passes word (codes "TAI")) (λ e2.
    chosen P _ Tt s _ (either_word word (codes "TT") (codes "TDT")) (λ e3.
    chosen P _ Tdb s _ (either_word word (codes "TDB") (codes "ET")) (λ e4.
    chosen P _ Sclk s None (passes word (codes "SCLK")) (λ e5. absurd cc) e4) e3) e2) e1) e

abbrev type_lower : List ℕ → Option TimeType
type_lower low =
    if bytes_eq low (codes "scet") then Some types.Scet
    else (if bytes_eq low (codes "seconds") then Some types.Seconds
    else (if bytes_eq low (codes "sclk") then Some types.Sclk
    else (if bytes_eq low (codes "ticks") then Some types.Ticks
    else None)))

by_type : (word : List ℕ) → type_of word ≡ type_lower (lowered word)
unfolding type_of
by_type word = refl

pub type_found : (word : List ℕ) (t : TimeType) → NamesType word t → type_of word ≡ Some t
type_found word types.Scet e = by_type word ∙ ap type_lower e
type_found word types.Seconds e = by_type word ∙ ap type_lower e
type_found word types.Sclk e = by_type word ∙ ap type_lower e
type_found word types.Ticks e = by_type word ∙ ap type_lower e

pub type_is : (word : List ℕ) (t : TimeType) → type_of word ≡ Some t → NamesType word t
unfolding type_of
type_is word t e =
    let P : TimeType → Type 0 = λ k. NamesType word k in
    chosen P _ types.Scet t _ (passes word (codes "SCET")) (λ e1.
    chosen P _ types.Seconds t _ (passes word (codes "SECONDS")) (λ e2.
    chosen P _ types.Sclk t _ (passes word (codes "SCLK")) (λ e3.
    chosen P _ types.Ticks t None (passes word (codes "TICKS")) (λ e4. absurd cc) e3) e2) e1) e
