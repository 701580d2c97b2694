-- The values of options: which words they are, and what they mean. Source: the CHRONOS User's Guide, for the names of systems
-- and types, and for words that follow an option up to the next; the ranges are this project's own.
use Rattle.std.specs.Prelude.{◌≡◌, ℕ, ◌≤◌, ◌^◌, ◌-◌, ◌⊎◌, List, [], ◌∷◌, length, codes, IsTrue, ⊤}
use Rattle.std.specs.List.{join_by}
use Rattle.st_text.specs.Ascii.{dash, space}
use Rattle.st_text.specs.Bytes.{are_digits, number_of}
use Rattle.st_dates.specs.Names.{AreSameLetters}
use Rattle.st_dates.specs.declared.system.System.{System}
use Rattle.st_dates.specs.declared.system.System.TheVariants.{Utc, Tai, Tt, Tdb, Sclk}
use Rattle.st_words.specs.OptionWords.{IsWordOf, IsPlain}
use Rattle.st_words.specs.declared.choice.Choice.{Choice}
use Rattle.st_words.specs.declared.choice.Choice.TheVariants as choices
use Rattle.st_words.specs.declared.opt.Opt.{Opt}
use Rattle.st_words.specs.declared.opt.Opt.TheVariants.{Setup, From, FromType, To, ToType, Format, Time, Batch, Sample, Sc, Back}
use Rattle.st_words.specs.declared.time_type.TimeType.{TimeType}
use Rattle.st_words.specs.declared.time_type.TimeType.TheVariants as types

-- the word names the system, in any letter case; TDT is another name of TT, and ET of TDB
abbrev pub NamesSystem : List ℕ → System → Type 0
NamesSystem word Utc = AreSameLetters word (codes "UTC")
NamesSystem word Tai = AreSameLetters word (codes "TAI")
NamesSystem word Tt = AreSameLetters word (codes "TT") ⊎ AreSameLetters word (codes "TDT")
NamesSystem word Tdb = AreSameLetters word (codes "TDB") ⊎ AreSameLetters word (codes "ET")
NamesSystem word Sclk = AreSameLetters word (codes "SCLK")

-- the word names the type, in any letter case
abbrev pub NamesType : List ℕ → TimeType → Type 0
NamesType word types.Scet = AreSameLetters word (codes "SCET")
NamesType word types.Seconds = AreSameLetters word (codes "SECONDS")
NamesType word types.Sclk = AreSameLetters word (codes "SCLK")
NamesType word types.Ticks = AreSameLetters word (codes "TICKS")

-- digits that spell the number, which lies within these bounds; zeros may stand before it
pub record SpellsNumber (low high : ℕ) (text : List ℕ) (n : ℕ) : Type 0 where
  pub some : 1 ≤ length text
  pub digits : IsTrue (are_digits text)
  pub value : number_of text ≡ n
  pub at_least : low ≤ n
  pub at_most : n ≤ high

-- a minus sign and digits: the id of a spacecraft, of which n is the magnitude
pub record SpellsClock (text : List ℕ) (n : ℕ) : Type 0 where
  pub digits : List ℕ
  pub signed : text ≡ dash ∷ digits
  pub number : SpellsNumber 1 999_999_999 digits n

-- how many lines a sample has, and the seed of its generator
abbrev pub SpellsLines : List ℕ → ℕ → Type 0
SpellsLines word lines = SpellsNumber 1 1_000_000 word lines

abbrev pub SpellsSeed : List ℕ → ℕ → Type 0
SpellsSeed word seed = SpellsNumber 0 (2 ^ 64 - 1) word seed

-- a setup file's name
pub record IsName (name : List ℕ) : Type 0 where
  pub some : 1 ≤ length name
  pub few : length name ≤ 255

-- the words in a row, with one blank between each two
abbrev pub joined : List (List ℕ) → List ℕ
joined words = join_by (λ word. word) (space ∷ []) words

-- the option that is chosen
abbrev pub opt_of : Choice → Opt
opt_of (choices.Setup name) = Setup
opt_of (choices.From system) = From
opt_of (choices.FromType kind) = FromType
opt_of (choices.To system) = To
opt_of (choices.ToType kind) = ToType
opt_of (choices.Format text) = Format
opt_of (choices.Time text) = Time
opt_of choices.Batch = Batch
opt_of (choices.Sample lines seed) = Sample
opt_of (choices.Sc clock) = Sc
opt_of choices.Back = Back

-- the words are the value of an option that is chosen
abbrev pub Spells : Choice → List (List ℕ) → Type 0
Spells (choices.Setup name) words = (words ≡ name ∷ []) × IsName name
Spells (choices.From system) words = (word : List ℕ) × (words ≡ word ∷ []) × NamesSystem word system
Spells (choices.FromType kind) words = (word : List ℕ) × (words ≡ word ∷ []) × NamesType word kind
Spells (choices.To system) words = (word : List ℕ) × (words ≡ word ∷ []) × NamesSystem word system
Spells (choices.ToType kind) words = (word : List ℕ) × (words ≡ word ∷ []) × NamesType word kind
Spells (choices.Format text) words = text ≡ joined words
Spells (choices.Time text) words = text ≡ joined words
Spells choices.Batch words = words ≡ []
Spells (choices.Sample lines seed) words = (n s : List ℕ) × (words ≡ n ∷ s ∷ []) × SpellsLines n lines × SpellsSeed s seed
Spells (choices.Sc clock) words = (word : List ℕ) × (words ≡ word ∷ []) × SpellsClock word clock
Spells choices.Back words = words ≡ []

-- an option's value has as many words
abbrev pub HasCount : Opt → ℕ → Type 0
HasCount Batch n = n ≡ 0
HasCount Back n = n ≡ 0
HasCount Sample n = n ≡ 2
HasCount Format n = 1 ≤ n
HasCount Time n = 1 ≤ n
HasCount opt n = n ≡ 1

-- the words end here, or the next names an option
abbrev pub AtOption : List (List ℕ) → Type 0
AtOption [] = ⊤
AtOption (word ∷ more) = (opt : Opt) × IsWordOf opt word

-- the values of `-format` and `-time` go on to the next option or to the end
abbrev pub Ends : Opt → List (List ℕ) → Type 0
Ends Format rest = AtOption rest
Ends Time rest = AtOption rest
Ends opt rest = ⊤

-- none of the words names an option
abbrev pub ArePlain : List (List ℕ) → Type 0
ArePlain [] = ⊤
ArePlain (word ∷ more) = IsPlain word × ArePlain more

-- the words that stand before a rest are a value of the option; no word of a value names an option
pub record IsValue (opt : Opt) (values rest : List (List ℕ)) : Type 0 where
  pub plain : ArePlain values
  pub count : HasCount opt (length values)
  pub ends : Ends opt rest

-- the word at place k of a value, from 1, is the first that means nothing for the option
abbrev pub IsBadAt : Opt → List (List ℕ) → ℕ → Type 0
IsBadAt Sample (lines ∷ seed ∷ []) k =
    (((n : ℕ) → SpellsLines lines n → ⊥) × (k ≡ 1))
    ⊎ ((n : ℕ) × SpellsLines lines n × ((s : ℕ) → SpellsSeed seed s → ⊥) × (k ≡ 2))
IsBadAt opt values k = ((choice : Choice) → opt_of choice ≡ opt → Spells choice values → ⊥) × (k ≡ 1)
