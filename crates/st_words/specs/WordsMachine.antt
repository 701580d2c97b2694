-- How the code reads the words from the left.
use Rattle.std.specs.Prelude.{ℕ, zero, suc, ◌+◌, ◌-◌, ◌^◌, Bool, not, ◌&&◌, ◌||◌, ◌==◌, nat_le, nat_lt, if◌then◌else◌, is_some, List, [], ◌∷◌, length, take, find, option_map, Option, Some, None, Result, Ok, Err, codes}
use Rattle.std.specs.List.{prefix_len}
use Rattle.std.specs.Str.{str_eq_ignore_ascii_case}
use Rattle.st_text.specs.Ascii.{dash}
use Rattle.st_text.specs.Bytes.{are_digits, number_of}
use Rattle.st_dates.specs.declared.system.System.{System}
use Rattle.st_dates.specs.declared.system.System.TheVariants.{Utc, Tai, Tt, Tdb, Sclk}
use Rattle.st_words.specs.Cut.{has, with_choice}
use Rattle.st_words.specs.OptionWords.{word_of}
use Rattle.st_words.specs.Values.{joined}
use Rattle.st_words.specs.declared.choice.Choice.{Choice}
use Rattle.st_words.specs.declared.choice.Choice.TheVariants as choices
use Rattle.st_words.specs.declared.fault.WordFault.{WordFault}
use Rattle.st_words.specs.declared.fault.WordFault.TheVariants.{Unknown, Twice, NoValue, BadValue, BadNumber}
use Rattle.st_words.specs.declared.opt.Opt.{Opt}
use Rattle.st_words.specs.declared.opt.Opt.TheVariants.{Setup, From, FromType, To, ToType, Format, Time, Batch, Sample, Sc, Back}
use Rattle.st_words.specs.declared.options.Options.{Options}
use Rattle.st_words.specs.declared.time_type.TimeType.{TimeType}
use Rattle.st_words.specs.declared.time_type.TimeType.TheVariants as types

abbrev pub all_options : List Opt
all_options = Setup ∷ From ∷ FromType ∷ To ∷ ToType ∷ Format ∷ Time ∷ Batch ∷ Sample ∷ Sc ∷ Back ∷ []

unfoldable pub option_of : List ℕ → Option Opt
option_of word = find (λ opt. str_eq_ignore_ascii_case word (word_of opt)) all_options

abbrev pub is_option : List ℕ → Bool
is_option word = is_some (option_of word)

abbrev pub is_plain : List ℕ → Bool
is_plain word = not (is_option word)

unfoldable pub system_of : List ℕ → Option System
system_of word =
    if str_eq_ignore_ascii_case word (codes "UTC") then Some Utc
    else (if str_eq_ignore_ascii_case word (codes "TAI") then Some Tai
    else (if str_eq_ignore_ascii_case word (codes "TT") || str_eq_ignore_ascii_case word (codes "TDT") then Some Tt
    else (if str_eq_ignore_ascii_case word (codes "TDB") || str_eq_ignore_ascii_case word (codes "ET") then Some Tdb
    else (if str_eq_ignore_ascii_case word (codes "SCLK") then Some Sclk
    else None))))

unfoldable pub type_of : List ℕ → Option TimeType
type_of word =
    if str_eq_ignore_ascii_case word (codes "SCET") then Some types.Scet
    else (if str_eq_ignore_ascii_case word (codes "SECONDS") then Some types.Seconds
    else (if str_eq_ignore_ascii_case word (codes "SCLK") then Some types.Sclk
    else (if str_eq_ignore_ascii_case word (codes "TICKS") then Some types.Ticks
    else None)))

unfoldable pub number_within : ℕ → ℕ → List ℕ → Option ℕ
number_within low high text =
    if (length text == 0) || not (are_digits text) then None
    else (if nat_le low (number_of text) && nat_le (number_of text) high then Some (number_of text) else None)

-- the magnitude of a clock's id
abbrev pub clock_of : List ℕ → Option ℕ
clock_of [] = None
clock_of (b ∷ digits) = if b == dash then number_within 1 999_999_999 digits else None

abbrev pub is_name : List ℕ → Bool
is_name word = nat_le 1 (length word) && nat_le (length word) 255

-- what one word means as the value of an option
abbrev pub meaning_of : Opt → List ℕ → Option Choice
meaning_of Setup word = if is_name word then Some (choices.Setup word) else None
meaning_of From word = option_map (λ s. choices.From s) (system_of word)
meaning_of FromType word = option_map (λ t. choices.FromType t) (type_of word)
meaning_of To word = option_map (λ s. choices.To s) (system_of word)
meaning_of ToType word = option_map (λ t. choices.ToType t) (type_of word)
meaning_of Sc word = option_map (λ n. choices.Sc n) (clock_of word)
meaning_of opt word = None

-- the fault of a word that means nothing
abbrev pub bad_of : Opt → ℕ → WordFault
bad_of Sc place = BadNumber place
bad_of Sample place = BadNumber place
bad_of opt place = BadValue place

abbrev pub ok_or : {A : Type 0} → Option A → WordFault → Result A WordFault
ok_or (Some x) fault = Ok x
ok_or None fault = Err fault

abbrev pub single_of : Opt → ℕ → List ℕ → Result Choice WordFault
single_of opt place word = ok_or (meaning_of opt word) (bad_of opt (place + 1))

infixl 10 ◌>>=◌
-- one step and then the next, where the first has an answer
abbrev pub ◌>>=◌ : {A B : Type 0} → Result A WordFault → (A → Result B WordFault) → Result B WordFault
(Ok x) >>= f = f x
(Err fault) >>= f = Err fault

abbrev pub sample_of : ℕ → List ℕ → List ℕ → Result Choice WordFault
sample_of place lines seed =
    ok_or (number_within 1 1_000_000 lines) (BadNumber (place + 1)) >>= λ n.
    ok_or (number_within 0 (2 ^ 64 - 1) seed) (BadNumber (place + 2)) >>= λ s.
    Ok (choices.Sample n s)

-- the option at a place with the value that these words are
abbrev pub sample_in : ℕ → List (List ℕ) → Result Choice WordFault
sample_in place (lines ∷ seed ∷ []) = sample_of place lines seed
sample_in place values = Err (NoValue place)

abbrev pub single_in : Opt → ℕ → List (List ℕ) → Result Choice WordFault
single_in opt place (word ∷ []) = single_of opt place word
single_in opt place values = Err (NoValue place)

abbrev pub value_of : Opt → ℕ → List (List ℕ) → Result Choice WordFault
value_of Batch place values = Ok choices.Batch
value_of Back place values = Ok choices.Back
value_of Format place values = Ok (choices.Format (joined values))
value_of Time place values = Ok (choices.Time (joined values))
value_of Sample place values = sample_in place values
value_of opt place values = single_in opt place values

-- how many words the value of an option has that stands before these
abbrev pub at_least : ℕ → ℕ → Option ℕ
at_least wanted plain = if nat_lt plain wanted then None else Some wanted

abbrev pub counted : Opt → ℕ → Option ℕ
counted Batch plain = Some 0
counted Back plain = Some 0
counted Sample plain = at_least 2 plain
counted Format plain = if plain == 0 then None else Some plain
counted Time plain = if plain == 0 then None else Some plain
counted opt plain = at_least 1 plain

abbrev pub value_count : Opt → List (List ℕ) → Option ℕ
value_count opt more = counted opt (prefix_len is_plain more)

-- the option at a place, with the value after its word, and how many words that has
abbrev pub choice_of : Opt → ℕ → List (List ℕ) → Result (Choice × ℕ) WordFault
choice_of opt place more =
    ok_or (value_count opt more) (NoValue place) >>= λ n. value_of opt place (take n more) >>= λ choice. Ok (choice, n)

abbrev pub choice_by : Options → ℕ → Option Opt → List (List ℕ) → Result (Choice × ℕ) WordFault
choice_by o place None more = Err (Unknown place)
choice_by o place (Some opt) more = if has o opt then Err (Twice place) else choice_of opt place more

abbrev pub option_at : Options → ℕ → List ℕ → List (List ℕ) → Result (Choice × ℕ) WordFault
option_at o place word more = choice_by o place (option_of word) more

-- all words after the next few, of which the first stands at a place
abbrev pub read : Options → ℕ → ℕ → List (List ℕ) → Result Options WordFault
read o place skip [] = Ok o
read o place (suc skip) (word ∷ more) = read o (place + 1) skip more
read o place zero (word ∷ more) =
    option_at o place word more >>= λ found. read (with_choice o found.0) (place + 1) found.1 more
