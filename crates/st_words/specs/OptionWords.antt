-- The words that name options. Source: the CHRONOS User's Guide, for `-setup`, `-from`, `-fromtype`, `-to`, `-totype`,
-- `-format`, `-time` and `-batch`; the others are this project's own.
use Rattle.std.specs.Prelude.{ℕ, List, codes}
use Rattle.st_dates.specs.Names.{AreSameLetters}
use Rattle.st_words.specs.declared.opt.Opt.{Opt}
use Rattle.st_words.specs.declared.opt.Opt.TheVariants.{Setup, From, FromType, To, ToType, Format, Time, Batch, Sample, Sc, Back}

-- the word of an option in lower case
abbrev pub word_of : Opt → List ℕ
word_of Setup = codes "-setup"
word_of From = codes "-from"
word_of FromType = codes "-fromtype"
word_of To = codes "-to"
word_of ToType = codes "-totype"
word_of Format = codes "-format"
word_of Time = codes "-time"
word_of Batch = codes "-batch"
word_of Sample = codes "-sample"
word_of Sc = codes "-sc"
word_of Back = codes "-back"

-- the word names the option, in any letter case
abbrev pub IsWordOf : Opt → List ℕ → Type 0
IsWordOf opt word = AreSameLetters word (word_of opt)

-- the word names no option
abbrev pub IsPlain : List ℕ → Type 0
IsPlain word = (opt : Opt) → IsWordOf opt word → ⊥
